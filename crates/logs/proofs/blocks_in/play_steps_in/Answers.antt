-- A turn plays one record, and what `play_in` leaves and answers is its step.
use mathlib.Core.Path.{ap, sym, ◌∙◌}
use native.Mathlib.Omega.{arith}
use Rattle.events.specs.Steps.{refusal_number, answer_value}
use Rattle.logs.proofs.Turning.{none_played, one_played, all_played}
use Rattle.logs.proofs.blocks_in.play_steps_in.Goals as goal

pub loop-i-init : goal.loop-i-init
loop-i-init c =
    let a = c.args in
    none_played a.place a.s.now a.b.now a.out.now a.at (record { shaped = c.shape_in.ensures; is_sound = c.requires.0 })

pub play_in-answer-requires : goal.play_in-answer-requires
play_in-answer-requires c =
    let p = c.loop-i.invariant in
    (p.right.is_sound, c.requires.1 ∙ sym p.table)

pub loop-i-preserved : goal.loop-i-preserved
loop-i-preserved c =
    let a = c.args in
    let p = c.loop-i.invariant in
    let q = c.play_in-answer.ensures in
    one_played a.place a.s.now a.b.now a.out.now a.at c.requires.2 c.requires.3 p (let t = c.loop-i-test in omega arith) c.read_in-x.ensures c.decoded_of.ensures q.0
    (c.refusal_number.ensures ∙ ap refusal_number q.1) (c.answer_value.ensures ∙ ap answer_value q.1) c.put_read-end.ensures

pub returns : goal.returns
returns c =
    let a = c.args in
    all_played a.place a.s.now a.b.now a.out.now a.at c.requires.2 c.requires.3 c.loop-i.invariant (let t = c.loop-i-test in omega arith)
