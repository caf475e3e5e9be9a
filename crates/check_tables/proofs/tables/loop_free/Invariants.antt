-- No bridge joins two buses that those below it join.
-- None below bridge k does.
use mathlib.Core.Path.{◌≡◌}
use mathlib.Core.Bool.{true}
use Rattle.chassis.specs.Routes.{loop_free}
use Rattle.check_tables.proofs.tables.loop_free.Given as goal

abbrev pub invariant-loop-k : goal.invariant-loop-k
invariant-loop-k l = loop_free l.t l.k ≡ true
