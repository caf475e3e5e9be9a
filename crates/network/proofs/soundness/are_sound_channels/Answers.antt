-- Every channel is sound: the loop of proofs/Loops.antt in base.
use borrow.Author.Rules.{rules}
use Rattle.base.proofs.Walks.{owned}
use Rattle.base.proofs.Loops.{cells_left, stops, goes_on, ends}
use Rattle.base.proofs.Cases.{by_call}
use Rattle.chassis.specs.Capacities.{most_channels}
use Rattle.network.specs.Shapes.{no_channel}
use Rattle.network.specs.code.Testing.{sound_channel}
use Rattle.network.proofs.soundness.are_sound_channels.Goals as goal

pub loop-n-init : goal.loop-n-init
loop-n-init c = cells_left c.args.channels.now most_channels 0 (search owned) (sound_channel c.args.ways.now.table c.args.begins)

pub returns-then-not-is_sound_channel : goal.returns-then-not-is_sound_channel
returns-then-not-is_sound_channel c = stops no_channel c.loop-n.invariant (search rules) (by_call _ _ _ c.is_sound_channel.ensures c.if-not-is_sound_channel.true)

pub loop-n-preserved : goal.loop-n-preserved
loop-n-preserved c = goes_on no_channel c.loop-n.invariant (search rules) (by_call _ _ _ c.is_sound_channel.ensures c.if-not-is_sound_channel.false)

pub returns : goal.returns
returns c = ends c.loop-n.invariant (search rules)
