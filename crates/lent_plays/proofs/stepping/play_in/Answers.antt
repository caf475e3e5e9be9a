-- A record that is refused leaves the state; an accepted one is settled.
use mathlib.Core.Path.{◌≡◌, sym, ◌∙◌}
use borrow.Author.Rules.{rules}
use Rattle.std.specs.Prelude.{Err}
use Rattle.events.proofs.SoundStays.{Right}
use Rattle.lent_plays.proofs.Stepped.{refused_step, storing, settled_step}
use Rattle.lent_plays.proofs.stepping.play_in.Goals as goal

pub returns-in_err-j : goal.returns-in_err-j
returns-in_err-j c =
    let e : c.from_residual.result ≡ Err c.in_err-j.field-0.0 = search rules in
    let q = refused_step c.args.s.now c.args.d (sym c.judged_by.ensures ∙ c.in_err-j.was) in
    (q.0, e ∙ q.1)

pub settle_in-requires : goal.settle_in-requires
settle_in-requires c =
    let r : Right c.args.s.now = record { shaped = c.shape_in.ensures; is_sound = c.requires.0 } in
    storing c.args.s.now r c.args.d c.in_ok-j.j (sym c.judged_by.ensures ∙ c.in_ok-j.was)

pub returns : goal.returns
returns c =
    let r : Right c.args.s.now = record { shaped = c.shape_in.ensures; is_sound = c.requires.0 } in
    let q = settled_step c.args.s.now r c.args.d c.in_ok-j.j (sym c.judged_by.ensures ∙ c.in_ok-j.was) in
    (c.settle_in.ensures ∙ q.0, q.1)
