-- A ground before all records refuses the tick; else it is played.
use mathlib.Core.Path.{◌≡◌, ap, sym, ◌∙◌}
use mathlib.Core.Bool.{Bool}
use lib.ListN.{length}
use Rattle.network.specs.Soundness.{sound}
use Rattle.ticks.specs.Ticks.{Ticked}
use Rattle.lent_ticks.specs.Firsts.{tick_first}
use Rattle.lent_ticks.proofs.Firsts.{refused_first, admitted}
use Rattle.lent_ticks.proofs.ticking.tick_in.Goals as goal
use Rattle.lent_ticks.proofs.ticking.tick_in.Goals.{After-tick_first}

asked : (c : After-tick_first) → tick_first (sound c.args.s.now) (length c.args.r.now) (length c.args.answers.now) ≡ c.tick_first.result
asked c = sym (c.tick_first.ensures ∙ ap (λ (y : Bool). tick_first y (length c.args.r.now) (length c.args.answers.now)) c.is_sound_in.ensures)

pub returns-in-Err : goal.returns-in-Err
returns-in-Err c =
    let held = refused_first c.args.s.now c.args.r.now c.args.answers.now (asked (goal.at.returns-in-Err c).After-tick_first ∙ c.in-Err.is) in
    (sym (ap (λ (t : Ticked). t.answer) held), sym (ap (λ (t : Ticked). t.state) held), sym (ap (λ (t : Ticked). t.answers) held))

pub play_tick_in-requires : goal.play_tick_in-requires
play_tick_in-requires c =
    let a = admitted c.args.s.now c.args.r.now c.args.answers.now (asked (goal.at.play_tick_in-requires c).After-tick_first ∙ c.in_default.is) in
    (a.is_sound, a.whole, a.few, a.places)
