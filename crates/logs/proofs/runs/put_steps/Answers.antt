-- `put_steps` writes one line for each record.
-- The idea: what is left of the lines, written behind what is done, makes up all of them.
use Rattle.logs.proofs.Stepping.{texts_turn, texts_over}
use Rattle.lines.proofs.Texts.{to_write_on, to_write_none}
use native.Mathlib.Omega.{arith}
use Rattle.logs.proofs.runs.put_steps.Goals as goal

pub loop-i-preserved : goal.loop-i-preserved
loop-i-preserved c =
    let l = c.loop-i in
    let a = c.args in
    (omega arith, to_write_on (rw (texts_turn a.block a.r.now a.refusals.now a.values.now a.n l.i (omega arith)) at l.invariant.1) c.put_e-end.ensures.written)

pub returns-clause-written : goal.returns-clause-written
returns-clause-written c =
    let l = c.loop-i in
    let a = c.args in
    to_write_none (rw (texts_over a.block a.r.now a.refusals.now a.values.now a.n l.i (omega arith)) at l.invariant.1)
