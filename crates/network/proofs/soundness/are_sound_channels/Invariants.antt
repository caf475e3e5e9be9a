-- What is left to ask, asked from here, is the whole: the loop of proofs/Loops.antt in base.
use mathlib.Core.Bool.{false}
use Rattle.base.specs.Lists.{all_from}
use Rattle.base.proofs.Loops.{Left}
use Rattle.chassis.specs.Capacities.{most_channels}
use Rattle.network.specs.code.Testing.{sound_channel}
use Rattle.network.proofs.soundness.are_sound_channels.Given as goal

abbrev pub invariant-loop-n : goal.invariant-loop-n
invariant-loop-n l = Left false (sound_channel l.ways.table l.begins) l.channels most_channels l.n (all_from 0 (sound_channel l.ways.table l.begins) l.channels)
