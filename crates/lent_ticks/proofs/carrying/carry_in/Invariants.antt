-- What is left to carry out, carried out from here, is the whole.
use Rattle.play_ticks.proofs.Carrying.{Carrying}
use Rattle.lent_ticks.proofs.carrying.carry_in.Given as goal

abbrev pub invariant-loop-i : goal.invariant-loop-i
invariant-loop-i l = Carrying l.turns.all l.n l.fn.s l.fn.answers l.s l.answers l.i
