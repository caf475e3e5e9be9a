-- A master channel is no opposite; any other channel opposes the way where its opposite is crossed.
-- `opposed_master` and `opposed_past` of chassis.
use mathlib.Core.Path.{sym}
use borrow.Author.Tests.{ltb-true, ltb-false}
use Rattle.base.proofs.Cases.{cases}
use Rattle.chassis.specs.Channels.{home}
use Rattle.chassis.specs.Routes.{way, opposes_the_way}
use Rattle.chassis.proofs.Numbering.{opposed_past, opposed_master}
use Rattle.find_routes.proofs.ways.Ways.opposes_the_way.Goals as goal

pub returns-else-not-is_master : goal.returns-else-not-is_master
unfolding opposes_the_way
returns-else-not-is_master c =
    let a = c.args in
    let T = a.self.now.table in
    rw c.if-not-is_master.false (sym (opposed_master T a.n (ltb-true a.n.0 T.agents (search cases)) (way T (home T a.m) (home T a.a))))

pub returns-then-not-is_master : goal.returns-then-not-is_master
unfolding opposes_the_way
returns-then-not-is_master c =
    let a = c.args in
    let T = a.self.now.table in
    rw (c.is_crossed.ensures, c.opposite.ensures)
    (sym (opposed_past T a.n (ltb-false a.n.0 T.agents (search cases)) (way T (home T a.m) (home T a.a))))
