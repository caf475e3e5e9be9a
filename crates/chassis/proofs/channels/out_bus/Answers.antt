-- A channel's out-bus: the agent's bus, or the far end of its bridge.
-- That the agent and the bridge are there follows from `table_passes`.
use mathlib.Core.Path.{◌≡◌}
use mathlib.Core.Bool.{true, false}
use native.Mathlib.Omega.{arith}
use borrow.Author.Tests.{ltb-true, ltb-false}
use Rattle.base.proofs.Cases.{cases}
use Rattle.chassis.specs.Channels.{is_master}
use Rattle.chassis.proofs.Numbering.{few, bridge_there}
use Rattle.chassis.proofs.channels.out_bus.Goals as goal

pub home-requires : goal.home-requires
home-requires c =
    let a = c.args in
    let m : is_master a.t a.n ≡ true = search cases in
    omega (arith, ltb-true a.n.0 a.t.agents m, few a.t c.requires.0)

pub bounds-t-n : goal.bounds-t-n
bounds-t-n c =
    let a = c.args in
    let m : is_master a.t a.n ≡ false = search cases in
    omega (arith, bridge_there a.t a.n c.requires.1 (ltb-false a.n.0 a.t.agents m), few a.t c.requires.0)
