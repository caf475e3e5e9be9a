-- A record that is refused leaves no turn; else its foot is that of what was judged.
use mathlib.Core.Path.{◌≡◌, sym, ◌∙◌}
use borrow.Author.Rules.{rules}
use Rattle.std.specs.Prelude.{Err}
use Rattle.network.specs.Nets.{view}
use Rattle.events.proofs.SoundStays.{Right}
use Rattle.play_events.proofs.Carried.{passes_of}
use Rattle.lent_plays.proofs.Stepped.{foot_there}
use Rattle.lent_ticks.proofs.Told.{no_turn, its_turn}
use Rattle.lent_ticks.proofs.judging.turn_in.Goals as goal

pub returns-in_err-j : goal.returns-in_err-j
returns-in_err-j c =
    let e : c.from_residual.result ≡ Err c.in_err-j.field-0.0 = search rules in
    e ∙ sym (no_turn (view c.args.s.now) c.args.d (sym c.judged_by.ensures ∙ c.in_err-j.was))

pub foot_of-requires : goal.foot_of-requires
foot_of-requires c =
    let s = c.args.s.now in
    let r : Right s = record { shaped = c.shape_in.ensures; is_sound = c.requires.0 } in
    let q = foot_there s r c.args.d c.in_ok-j.j (sym c.judged_by.ensures ∙ c.in_ok-j.was) in
    rw c.table_in.ensures (passes_of s c.requires.0, q.0, q.1)

pub returns : goal.returns
unfolding view
returns c = rw (c.foot_of.ensures, c.table_in.ensures) (sym (its_turn (view c.args.s.now) c.args.d c.in_ok-j.j (sym c.judged_by.ensures ∙ c.in_ok-j.was)))
