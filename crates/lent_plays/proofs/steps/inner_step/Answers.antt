-- A sound state's table passes, so its hop table is made.
use Rattle.play_events.proofs.Carried.{passes_of}
use Rattle.lent_plays.proofs.steps.inner_step.Goals as goal

pub of-ways-requires : goal.of-ways-requires
of-ways-requires c = passes_of c.args.s c.requires
