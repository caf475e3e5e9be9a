-- The feet that were passed do not conflict with e.
use Rattle.play_ticks.proofs.Pairing.{Comparing}
use Rattle.lent_ticks.proofs.pairs.clash_from.Given as goal

abbrev pub invariant-loop-i : goal.invariant-loop-i
invariant-loop-i l = Comparing l.turns.all l.n l.e l.j l.i
