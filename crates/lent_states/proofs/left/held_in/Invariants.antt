use Rattle.lent_states.proofs.Held.{Added}
use Rattle.lent_states.proofs.left.held_in.Given as goal

abbrev pub invariant-loop-c : goal.invariant-loop-c
invariant-loop-c l = Added l.channels l.sum l.c-index
