-- The lines of a tick block: what playing it with an answer list of any length leaves is what the definition prints.
-- Neither the answer nor the state depends on the places that are lent, if they are enough.
use Rattle.std.specs.Prelude.{Ok, Err}
use Rattle.std.specs.Result.{is_ok}
use Prim.Native.Nat.{ℕ, ◌/◌, ◌%◌, ◌≤◌}
use mathlib.Core.Path.{◌≡◌, refl, sym, ap, ◌∙◌}
use mathlib.Core.Bool.{true, false}
use mathlib.Core.List.{List, [], ◌++◌, map, append-nil}
use native.Mathlib.Omega.{arith}
use lib.ListN.{length, get_or, drop, replicate, length-replicate, length-map, drop_of_length-le}
use Rattle.base.proofs.Logic.{true_false}
use Rattle.chassis.specs.Capacities.{most_record_bytes, most_records}
use Rattle.network.specs.declared.State.{State}
use Rattle.network.specs.Nets.{view}
use Rattle.events.specs.Effects.{value}
use Rattle.events.specs.Records.{records}
use Rattle.events.proofs.SoundStays.{Right}
use Rattle.ticks.specs.Ticks.{known, Ticked, tick, tick_number, tick_record, tick_other, TickAnswer}
use Rattle.play_ticks.specs.Turns.{judged_answer}
use Rattle.play_ticks.proofs.TickPlayed.{by_answer, answer_is, refused_stays, ends_known, known_length, answers_known}
use Rattle.blocks.specs.Blocks.{record_count, record_bytes, block_records}
use Rattle.lines.specs.Lines.{Line, t, text, texts}
use Rattle.logs.specs.Logs.{value_lines, value_lines_if, tick_lines, tick_of}
use Rattle.logs.specs.code.Plays.{step_texts}
use Rattle.blocks.proofs.Accepted.{length_record_bytes}
use Rattle.logs.proofs.Stepping.{tick_texts}

-- a tick block's records are whole, few, and have their places
pub tick_fits : (b : List ℕ) → length b ≡ 512 → record_count b ≤ most_records
    → (length (record_bytes b) % 8 ≡ 0) × (length (record_bytes b) ≤ most_record_bytes) × (length (record_bytes b) / 8 ≤ length {A = ℕ} (replicate (record_count b) 0))
tick_fits b long few =
    let l = length_record_bytes b long few in
    let n = length-replicate {A = ℕ} (record_count b) 0 in
    (omega arith, omega arith, omega arith)

-- a refused tick prints no `e` line
no_lines : (a : TickAnswer) (ls : List Line) → is_ok a ≡ false → value_lines_if a ls ≡ []
no_lines (Ok u) ls h = absurd (true_false h)
no_lines (Err b) ls h = refl

accepted_so : (a : TickAnswer) → is_ok a ≡ true → a ≡ Ok tt
accepted_so (Ok u) h = refl
accepted_so (Err b) h = absurd (true_false (sym h))

module _ (place : ℕ) (s : State) (right : Right s) (b out : List ℕ) (long : length b ≡ 512) (few : record_count b ≤ most_records) (places : record_count b ≤ length out) where
  abbrev r : List ℕ
  r = record_bytes b

  abbrev lent : List ℕ
  lent = replicate (record_count b) 0

  room : length r / 8 ≤ length out
  room = let l = length_record_bytes b long few in omega arith

  whole : length r % 8 ≡ 0
  whole = (tick_fits b long few).0

  short : length r ≤ most_record_bytes
  short = (tick_fits b long few).1

  own_room : length r / 8 ≤ length lent
  own_room = (tick_fits b long few).2

  pub same_answer : (tick s r out).answer ≡ (tick_of s b).answer
  same_answer = answer_is s right r out whole short room ∙ sym (answer_is s right r lent whole short own_room)

  abbrev answer : TickAnswer
  answer = judged_answer (view s) (records r)

  pub same_state : (tick s r out).state ≡ (tick_of s b).state
  same_state =
      by_answer answer
      (λ k. ends_known s right r out whole short room k ∙ sym (ends_known s right r lent whole short own_room k))
      (λ e k. ap (λ (x : Ticked). x.state) (refused_stays s right r out whole short room e k) ∙ sym (ap (λ (x : Ticked). x.state) (refused_stays s right r lent whole short own_room e k)))

  eighths : length r / 8 ≡ record_count b
  eighths = let l = length_record_bytes b long few in omega arith

  -- where it is accepted, both lists begin with the values
  own_values : answer ≡ Ok tt → (tick_of s b).answers ≡ map (value (view s)) (known (records r))
  own_values k =
      let n = eighths in
      let none_left : drop (length r / 8) lent ≡ [] = drop_of_length-le lent {i = length r / 8} (omega (arith, length-replicate {A = ℕ} (record_count b) 0)) in
      answers_known s right r lent whole short own_room k
      ∙ ap (λ (x : List ℕ). map (value (view s)) (known (records r)) ++ x) none_left
      ∙ append-nil (map (value (view s)) (known (records r)))

  values_then : answer ≡ Ok tt → (tick s r out).answers ≡ (tick_of s b).answers ++ drop (record_count b) out
  values_then k =
      answers_known s right r out whole short room k
      ∙ ap (λ (i : ℕ). map (value (view s)) (known (records r)) ++ drop i out) eighths
      ∙ ap (λ (x : List ℕ). x ++ drop (record_count b) out) (sym (own_values k))

  own_length : answer ≡ Ok tt → length (tick_of s b).answers ≡ record_count b
  own_length k = ap length (own_values k) ∙ length-map (known (records r)) (value (view s)) ∙ known_length s right r out whole short room k ∙ eighths

  module _ (a : TickAnswer) (isa : a ≡ (tick s r out).answer) where
    abbrev first_line : List ℕ
    first_line = text (t place (tick_number a) (tick_record a) (tick_other a))

    judged_so : a ≡ answer
    judged_so = isa ∙ answer_is s right r out whole short room

    own_so : (tick_of s b).answer ≡ a
    own_so = sym (isa ∙ same_answer)

    pub refused_texts : is_ok a ≡ false → texts (tick_lines place (block_records b) (tick_of s b)) ≡ first_line
    unfolding tick_lines texts
    refused_texts h = rw own_so (rw (no_lines a (value_lines place 0 (block_records b) (tick_of s b).answers) h) (append-nil first_line))

    pub accepted_texts : is_ok a ≡ true → (fs vs : List ℕ) → ((j : ℕ) → get_or fs j 0 ≡ 0) → vs ≡ (tick s r out).answers
        → texts (tick_lines place (block_records b) (tick_of s b)) ≡ first_line ++ step_texts place r fs vs (record_count b) 0
    unfolding tick_lines texts
    accepted_texts h fs vs clean isv =
        let k = accepted_so a h in
        let j = sym judged_so ∙ k in
        rw (own_so, k)
        (ap (λ (l : List ℕ). text (t place 0 0 0) ++ l) (tick_texts place r fs vs clean b (tick_of s b).answers (drop (record_count b) out) refl (own_length j) (isv ∙ values_then j)))
