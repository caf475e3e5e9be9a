-- A turn plays the next record.
use mathlib.Core.Path.{refl, ap, sym, ◌∙◌}
use native.Mathlib.Omega.{arith}
use Rattle.network.proofs.OfType.{of_type}
use Rattle.events.specs.Steps.{refusal_number, answer_value}
use Rattle.events.proofs.SoundStays.{Right}
use Rattle.play_events.proofs.Carried.{passes_of}
use Rattle.play_events.proofs.Playing.{at_first, one_more, no_more}
use Rattle.lent_plays.proofs.in_turn.play.Goals as goal

pub of-ways-requires : goal.of-ways-requires
of-ways-requires c = passes_of c.args.s c.requires.0

pub loop-i-init : goal.loop-i-init
loop-i-init c =
    let came_in : Right c.args.s = record { shaped = of_type c.args.s _ c.well_formed.0; is_sound = c.requires.0 } in
    (at_first c.args.r.now c.args.refusals.now c.args.values.now c.args.s _ refl came_in, c.requires.1, c.requires.2)

pub play_in-answer-requires : goal.play_in-answer-requires
play_in-answer-requires c =
    let p = c.loop-i.invariant.0 in
    (p.right.is_sound, c.of-ways.ensures ∙ sym p.table)

pub loop-i-preserved : goal.loop-i-preserved
loop-i-preserved c =
    let l = c.loop-i in
    let a = c.args in
    let q = c.play_in-answer.ensures in (
      one_more a.r.now a.refusals.now a.values.now a.s _ _ _ l.state l.i l.invariant.0 (let t = c.loop-i-test in omega arith) l.invariant.1 l.invariant.2 _ _ _
          c.record_at.ensures q.0 (c.refusal_number.ensures ∙ ap refusal_number q.1) (c.answer_value.ensures ∙ ap answer_value q.1),
      l.invariant.1,
      l.invariant.2,
    )

pub returns : goal.returns
returns c =
    let l = c.loop-i in
    let a = c.args in
    let q = no_more a.r.now a.refusals.now a.values.now a.s _ _ _ l.state l.i l.invariant.0 (let t = c.loop-i-test in omega arith) in
    record { value = q.0; refusals_after = q.1; values_after = q.2 }
