-- The records are judged at once, and where all stand together their turns are carried out.
use borrow.Author.Rules.{rules}
use Rattle.std.specs.Prelude.{Ok, Err}
use Prim.Native.Nat.{ℕ, ◌/◌, ◌<◌, ◌≤◌}
use mathlib.Core.Path.{◌≡◌, ap, sym, subst, ◌∙◌}
use mathlib.Core.List.{◌++◌, map}
use native.Mathlib.Omega.{arith}
use lib.ListN.{length, get_or, take, drop}
use Rattle.chassis.specs.Capacities.{most_records}
use Rattle.network.specs.Nets.{view}
use Rattle.events.specs.Records.{records}
use Rattle.events.proofs.SoundStays.{Right}
use Rattle.ticks.specs.Ticks.{Ticked, known}
use Rattle.play_events.proofs.Carried.{table_of}
use Rattle.play_ticks.specs.Turns.{no_turn, turn, judged_answer, Placed, all_turned, turn_values}
use Rattle.play_ticks.proofs.TickPlayed.{answer_is, refused_stays, each_made, placed_all, state_is, answers_are}
use Rattle.lent_ticks.proofs.ticking.play_tick_in.Goals as goal
use Rattle.lent_ticks.proofs.ticking.play_tick_in.Goals.{After-table_in, After-many_in}

right : (c : After-table_in) → Right c.args.s.now
right c = record { shaped = c.shape_in.ensures; is_sound = c.requires.0 }

pub of-ways-requires : goal.of-ways-requires
of-ways-requires c = rw c.table_in.ensures (table_of c.args.s.now (right (goal.at.of-ways-requires c).After-table_in))

pub returns-in_err-judge_all_in : goal.returns-in_err-judge_all_in
returns-in_err-judge_all_in c =
    let s = c.args.s.now in
    let r = c.args.r.now in
    let out = c.args.answers.now in
    let e : c.from_residual.result ≡ Err c.in_err-judge_all_in.field-0.0 = search rules in
    let held = refused_stays s (right (goal.at.returns-in_err-judge_all_in c).After-table_in) r out c.requires.1 c.requires.2 c.requires.3
    c.in_err-judge_all_in.field-0.0 (sym c.judge_all_in.ensures.0 ∙ c.in_err-judge_all_in.was) in
    (e ∙ sym (ap (λ (t : Ticked). t.answer) held), sym (ap (λ (t : Ticked). t.state) held), sym (ap (λ (t : Ticked). t.answers) held))

together : (c : After-many_in) → judged_answer (view c.args.s.now) (records c.args.r.now) ≡ Ok tt
together c = sym c.judge_all_in.ensures.0 ∙ c.in_ok-judge_all_in.was

turns : (c : After-many_in) → (r : Right c.args.s.now) → take (length c.args.r.now / 8) c.judge_all_in.new.turns.all ≡ map (turn (view c.args.s.now)) (known (records c.args.r.now))
turns c r =
    ap (take (length c.args.r.now / 8)) c.judge_all_in.ensures.1
    ∙ each_made c.args.s.now r c.args.r.now c.args.answers.now c.requires.1 c.requires.2 c.requires.3 (together c) c.no_turns-turns.result.all

pub carry_in-requires : goal.carry_in-requires
carry_in-requires c =
    let here = goal.at.carry_in-requires c in
    let s = c.args.s.now in
    let r = c.args.r.now in
    let out = c.args.answers.now in
    let all = c.judge_all_in.new.turns.all in
    let ok = right here.After-table_in in
    let few = c.requires.2 in
    let placed = placed_all s ok r out c.requires.1 c.requires.2 c.requires.3 (together here.After-many_in) all (turns here.After-many_in ok) in
    subst (λ (m : ℕ). (m ≤ most_records) × (m ≤ length out) × ((i : ℕ) → i < m → Placed (get_or all i no_turn))) (sym c.many_in.ensures) (omega arith, c.requires.3, placed)

pub returns : goal.returns
returns c =
    let here = goal.at.returns c in
    let s = c.args.s.now in
    let r = c.args.r.now in
    let out = c.args.answers.now in
    let all = c.judge_all_in.new.turns.all in
    let ok = right here.After-table_in in
    let is = together here.After-many_in in
    let ts = turns here.After-many_in ok in
    let n = c.many_in.ensures in (
      sym (answer_is s ok r out c.requires.1 c.requires.2 c.requires.3 ∙ is),
      c.carry_in.ensures.0 ∙ ap (λ (m : ℕ). all_turned s (take m all)) n ∙ state_is s ok r out c.requires.1 c.requires.2 c.requires.3 is all ts,
      c.carry_in.ensures.1 ∙ ap (λ (m : ℕ). turn_values (take m all) ++ drop m out) n ∙ answers_are s ok r out c.requires.1 c.requires.2 c.requires.3 is all ts,
    )
