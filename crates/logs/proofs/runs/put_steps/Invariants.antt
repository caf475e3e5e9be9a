-- `put_steps` writes one line for each record.
-- The idea: what is left of the lines, written behind what is done, makes up all of them.
use Rattle.lines.proofs.Texts.{ToWrite}
use Rattle.logs.specs.code.Plays.{step_texts}
use Prim.Native.Nat.{◌≤◌, ◌+◌, ◌-◌, ◌*◌}
use Rattle.logs.proofs.runs.put_steps.Given as goal

abbrev pub invariant-loop-i : goal.invariant-loop-i
invariant-loop-i l =
    (l.end ≤ l.at + 40 * l.i) × ToWrite l.initial.out l.at (step_texts l.block l.r l.refusals l.values l.n 0) l.out l.end (step_texts l.block l.r l.refusals l.values (l.n - l.i) l.i)
