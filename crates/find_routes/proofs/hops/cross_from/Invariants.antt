-- One row of the table, filled in place from the front. Before the loop it is known that bus a is on the near side; the row
-- is then what `crossed` says, by `on_near_side`.
use Rattle.find_routes.specs.Crossings.{at}
use Rattle.find_routes.proofs.Crossings.{Row, spread}
use Rattle.find_routes.proofs.hops.cross_from.Given as goal

abbrev pub invariant-loop-b : goal.invariant-loop-b
invariant-loop-b l = Row l.a l.initial.h (spread l.labels l.z l.v (at l.initial.h)) l.h l.b
