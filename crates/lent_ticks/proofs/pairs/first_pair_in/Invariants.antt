-- No record that was passed has a partner.
use Rattle.play_ticks.proofs.Pairing.{Seeking}
use Rattle.lent_ticks.proofs.pairs.first_pair_in.Given as goal

abbrev pub invariant-loop-i : goal.invariant-loop-i
invariant-loop-i l = Seeking l.turns.all l.n l.i
