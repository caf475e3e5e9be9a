-- What is left to play, played from here, is the whole.
use lib.ListN.{length}
use Prim.Native.Nat.{◌≤◌}
use Rattle.play_events.proofs.Playing.{Playing}
use Rattle.lent_plays.proofs.in_turn.play.Given as goal

abbrev pub invariant-loop-i : goal.invariant-loop-i
invariant-loop-i l =
    Playing l.r l.initial.refusals l.initial.values l.initial.state l.many l.refusals l.values l.state l.i × (l.many ≤ length l.initial.refusals) × (l.many ≤ length l.initial.values)
