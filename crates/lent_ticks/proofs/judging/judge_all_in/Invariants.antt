-- No record that was passed is refused alone, and its turn lies in its place.
use Rattle.network.specs.Nets.{view}
use Rattle.play_ticks.proofs.Judging.{Judging}
use Rattle.lent_ticks.proofs.judging.judge_all_in.Given as goal

abbrev pub invariant-loop-i : goal.invariant-loop-i
invariant-loop-i l = Judging (view l.s) l.r l.many l.fn.turns.all l.turns.all l.i
