-- `next_hop` goes down the bridges, the last one first; before each turn the first place towards the goal is the one asked
-- for. Each turn is a law of proofs/Nearest.antt at what the labels said.
use Rattle.chassis.specs.Routes.{way_over, first_place}
use Rattle.find_routes.proofs.Nearest.{Toward}
use Rattle.find_routes.proofs.hops.next_hop.Given as goal

abbrev pub invariant-loop-left : goal.invariant-loop-left
invariant-loop-left l = Toward l.t l.a (first_place l.t (way_over l.t l.initial.k l.a l.initial.goal)) l.left l.goal
