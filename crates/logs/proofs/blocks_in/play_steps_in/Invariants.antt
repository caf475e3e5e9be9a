-- A turn plays one record: what is left to play, played from here on, is the whole (`Played`).
use Rattle.logs.proofs.Turning.{Played}
use Rattle.logs.proofs.blocks_in.play_steps_in.Given as goal

abbrev pub invariant-loop-i : goal.invariant-loop-i
invariant-loop-i l = Played l.place l.fn.s l.b l.fn.out l.at l.end l.i l.s l.out
