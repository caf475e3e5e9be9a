-- All rows of the table, one after the other: a row is made of itself, so those before do not matter to it.
use Rattle.find_routes.proofs.Crossings.{Rows}
use Rattle.find_routes.proofs.hops.cross.Given as goal

abbrev pub invariant-loop-a : goal.invariant-loop-a
invariant-loop-a l = Rows l.labels l.near l.far l.c l.initial.h l.h l.a
