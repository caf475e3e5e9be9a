-- 16 and 18 leave the state; then the record is refused, or settled.
use mathlib.Core.Path.{◌≡◌, sym, ◌∙◌}
use mathlib.Core.Bool.{true}
use borrow.Author.Rules.{rules}
use Rattle.std.specs.Prelude.{Err}
use Rattle.network.specs.Soundness.{sound}
use Rattle.events.specs.Records.{decoded}
use Rattle.events.proofs.SoundStays.{Right}
use Rattle.play_events.proofs.Carried.{passes_of}
use Rattle.lent_plays.specs.Judged.{judged_of}
use Rattle.lent_plays.proofs.Stepped.{unsound_step, unfit_step, as_record, refused_step, storing, settled_step}
use Rattle.lent_plays.proofs.stepping.step_in.Goals as goal

pub returns-then-not-is_sound_in : goal.returns-then-not-is_sound_in
returns-then-not-is_sound_in c = unsound_step c.args.s.now c.args.b.now (sym c.is_sound_in.ensures ∙ c.if-not-is_sound_in.true)

pub returns-then-b-ne8 : goal.returns-then-b-ne8
returns-then-b-ne8 c = unfit_step c.args.s.now c.args.b.now (sym c.is_sound_in.ensures ∙ c.if-not-is_sound_in.false) c.if-b-ne8.true

pub judged_in-requires-clause-finds : goal.judged_in-requires-clause-finds
judged_in-requires-clause-finds c = λ N a h i. ((passes_of c.args.s.now (sym c.is_sound_in.ensures ∙ c.if-not-is_sound_in.false), h, i), λ x e. e.3)

pub returns-in_err-j : goal.returns-in_err-j
returns-in_err-j c =
    let h : sound c.args.s.now ≡ true = sym c.is_sound_in.ensures ∙ c.if-not-is_sound_in.false in
    let e : c.from_residual.result ≡ Err c.in_err-j.field-0.0 = search rules in
    let j : judged_of _ (decoded c.args.b.now) ≡ Err c.in_err-j.field-0.0 = rw (← c.decode.ensures) (sym c.judged_in.ensures ∙ c.in_err-j.was) in
    let q = as_record c.args.s.now c.args.b.now h c.if-b-ne8.false (refused_step c.args.s.now (decoded c.args.b.now) j) in
    (q.0, e ∙ q.1)

pub settle_in-requires : goal.settle_in-requires
settle_in-requires c =
    let r : Right c.args.s.now = record { shaped = c.shape_in.ensures; is_sound = sym c.is_sound_in.ensures ∙ c.if-not-is_sound_in.false } in
    storing c.args.s.now r c.decode.result c.in_ok-j.j (sym c.judged_in.ensures ∙ c.in_ok-j.was)

pub returns : goal.returns
returns c =
    let r : Right c.args.s.now = record { shaped = c.shape_in.ensures; is_sound = sym c.is_sound_in.ensures ∙ c.if-not-is_sound_in.false } in
    let q = settled_step c.args.s.now r c.decode.result c.in_ok-j.j (sym c.judged_in.ensures ∙ c.in_ok-j.was) in
    let w = as_record c.args.s.now c.args.b.now r.is_sound c.if-b-ne8.false (rw (← c.decode.ensures) q) in
    (c.settle_in.ensures ∙ w.0, w.1)
