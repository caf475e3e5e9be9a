-- A master channel is never crossed.
use mathlib.Core.Path.{sym}
use borrow.Author.Tests.{ltb-true}
use Rattle.base.proofs.Cases.{cases}
use Rattle.chassis.specs.Channels.{home}
use Rattle.chassis.specs.Routes.{way}
use Rattle.chassis.proofs.Numbering.{crossed_master}
use Rattle.find_routes.proofs.ways.Ways.is_crossed.Goals as goal

pub returns-else-not-is_master : goal.returns-else-not-is_master
returns-else-not-is_master c =
    let a = c.args in
    let T = a.self.now.table in
    rw c.if-not-is_master.false (sym (crossed_master T a.n (ltb-true a.n.0 T.agents (search cases)) (way T (home T a.m) (home T a.a))))
