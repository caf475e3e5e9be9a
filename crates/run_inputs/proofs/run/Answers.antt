-- `run` prints the log of its input into the buffer, and answers how long the log is.
-- The idea: what is left of the log, printed behind what is done, makes up all of it; and block 65,536 is refused.
use mathlib.Core.Path.{refl, sym, subst, ◌∙◌}
use native.Mathlib.Omega.{arith}
use borrow.Author.Rules.{rules}
use borrow.Author.Tests.{not-true, not-false}
use Rattle.events.proofs.SoundStays.{Right}
use Rattle.lines.proofs.Texts.{to_write_all, written_length}
use Rattle.logs.specs.Logs.{log}
use Rattle.run_inputs.proofs.Going.{next_right}
use Rattle.run_inputs.proofs.Turning.{left_all}
use Rattle.run_inputs.proofs.Runs.{runs_on, run_ends}
use Rattle.run_inputs.proofs.run.Goals as goal

pub loop-text-init : goal.loop-text-init
loop-text-init c =
    let a = c.args in (
      search rules,
      search rules,
      search rules,
      search rules,
      λ n. absurd (n refl),
      record { rest = rw (c.zero-state.ensures, left_all a.input.now) (to_write_all a.out.now 0 (log a.input.now)) },
    )

pub returns-then-not-r : goal.returns-then-not-r
returns-then-not-r c =
    let l = c.loop-text in
    let e = c.block_end-e in
    let p = c.play_next-r.ensures in
    let ends = sym p.going_value ∙ not-true _ c.if-not-r.true in
    let q = run_ends e.result l.invariant.5 e.ensures.input_value e.ensures.input_value_2 p.written (omega (arith, l.invariant.3)) c.put_part.ensures ends in
    record { value = q.0; out_after = q.1 }

pub loop-text-preserved : goal.loop-text-preserved
loop-text-preserved c =
    let l = c.loop-text in
    let e = c.block_end-e in
    let p = c.play_next-r.ensures in
    let going = not-false _ c.if-not-r.false in
    let early = p.place_bound going in
    let room = p.end_bound in
    let goes = sym p.going_value ∙ going in
    let put = c.put_part.ensures in
    let on = runs_on e.result l.invariant.5 e.ensures.input_value e.ensures.input_value_2 p.written (omega (arith, l.invariant.3)) put goes in (
      e.ensures.lower_bound.1,
      omega arith,
      omega (arith, l.invariant.2),
      written_length p.written ∙ l.invariant.3,
      λ n. subst Right (sym p.state_value) (next_right l.place l.state _ l.invariant.4 goes),
      rw p.state_value on,
    )
