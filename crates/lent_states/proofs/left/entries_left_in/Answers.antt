use Rattle.network.proofs.Packing.{sound_opened}
use Rattle.lent_states.proofs.left.entries_left_in.Goals as goal

pub held_in-requires : goal.held_in-requires
held_in-requires c = (sound_opened c.args.s.now c.requires).fitting
