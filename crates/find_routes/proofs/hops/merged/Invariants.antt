-- One label becomes another, in place: the places before x are made, those from x on are as they were.
use Rattle.find_routes.specs.Crossings.{relabelled}
use Rattle.find_routes.proofs.Filled.{Filled}
use Rattle.find_routes.proofs.hops.merged.Given as goal

abbrev pub invariant-loop-x : goal.invariant-loop-x
invariant-loop-x l = Filled 16 (relabelled l.initial.x-items l.p l.q) l.initial.x-items l.x-items l.x-index
