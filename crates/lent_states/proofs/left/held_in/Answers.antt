use Rattle.std.proofs.Common.{◌≡◌, arith, length}
use Rattle.base.proofs.Walks.{owned}
use Rattle.chassis.specs.Capacities.{most_channels}
use Rattle.lent_states.proofs.Held.{added_one, added_all}
use Rattle.lent_states.proofs.left.held_in.Goals as goal

pub overflow_cast-sum : goal.overflow_cast-sum
overflow_cast-sum c = omega (arith, c.requires c.loop-c.c-index)

pub overflow_add-sum : goal.overflow_add-sum
overflow_add-sum c = omega (arith, c.requires c.loop-c.c-index, c.loop-c.invariant.few)

pub loop-c-preserved : goal.loop-c-preserved
loop-c-preserved c =
    let few = c.requires c.loop-c.c-index in
    let one = added_one c.loop-c.invariant few in
    record { few = omega (arith, one.few, few); rest = omega (arith, one.rest, few) }

pub returns : goal.returns
returns c =
    let long : length c.args.channels.now ≡ most_channels = search owned in
    added_all c.loop-c.invariant (omega arith)
