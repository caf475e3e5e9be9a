-- The tick on a sound state: refused, it answers what its judging found and everything stands as it stood; accepted, it is its turns carried out.
use Rattle.std.specs.Prelude.{Some, Result, Ok, Err}
use Prim.Native.Nat.{ℕ, zero, suc, ◌/◌, ◌%◌, ◌<◌, ◌≤◌}
use mathlib.Core.Path.{◌≡◌, refl, sym, ap, subst, ◌∙◌}
use mathlib.Core.Bool.{true}
use mathlib.Core.List.{List, [], ◌∷◌, ◌++◌, map}
use native.Mathlib.Omega.{arith}
use lib.ListN.{length, get_or, take, drop, length-map}
use lib.Seq.{get_or-take, take_at}
use Rattle.base.specs.declared.Refusal.{Refusal}
use Rattle.base.proofs.Grounds.{refused_not}
use Rattle.base.proofs.Logic.{there, some_same}
use Rattle.base.proofs.Orders.{All}
use Rattle.chassis.specs.Capacities.{most_record_bytes}
use Rattle.chassis.specs.Channels.{has_agent}
use Rattle.find_routes.proofs.Places.{agent_low}
use Rattle.network.specs.declared.State.{State}
use Rattle.network.specs.Nets.{Net, view, pack}
use Rattle.events.specs.declared.Event.{Event}
use Rattle.events.specs.Accounts.{account}
use Rattle.events.specs.Effects.{value}
use Rattle.events.specs.Grounds.{Accepted}
use Rattle.events.specs.Records.{records, Decoded}
use Rattle.events.proofs.SoundStays.{Right}
use Rattle.read_events.specs.declared.Frame.{Frame}
use Rattle.read_events.specs.Frames.{event_frame}
use Rattle.judge_events.specs.Plans.{plan, accepted_plan}
use Rattle.play_events.proofs.Carried.{table_of}
use Rattle.play_events.proofs.Playing.{how_many}
use Rattle.play_events.proofs.Told.{Says, frame_says}
use Rattle.play_events.proofs.Shown.{knows}
use Rattle.read_events.proofs.Onward.{chan_low}
use Rattle.play_events.proofs.There.{plan_there}
use Rattle.ticks.specs.declared.TickRefusal.{TickRefusal}
use Rattle.ticks.specs.Ticks.{known, end_of, first_refused, first_pair, Ticked, held, judged, tick, TickAnswer}
use Rattle.ticks.proofs.Searches.{known_all}
use Rattle.ticks.proofs.Judged.{never}
use Rattle.ticks.proofs.TickGrounds.{no_tick_ground}
use Rattle.ticks.proofs.TickAcceptsExactly.{Orderly, Ends, tick_accepts_exactly, tick_ends}
use Rattle.play_ticks.specs.declared.Turn.{Turn}
use Rattle.play_ticks.specs.Turns.{no_turn, turn, turns_made, laid_over, judged_answer, Placed, all_turned, turn_values}
use Rattle.play_ticks.proofs.Judging.{all_made}
use Rattle.play_ticks.proofs.CarriedTogether.{carried_together, values_together}

-- by what a tick answers
pub by_answer : {P : Type 0} (a : TickAnswer) → (a ≡ Ok tt → P) → ((b : TickRefusal) → a ≡ Err b → P) → P
by_answer (Ok u) f g = f refl
by_answer (Err b) f g = g b refl

-- ---- a turn points to places that are there

module _ (s : Net) (e : Event) (ok : Accepted s e) where
  own_plan : plan s e ≡ Ok (accepted_plan s e)
  unfolding plan
  own_plan = rw ok

  has_master : has_agent s.table (account e).name.master ≡ true
  has_master = by (event_frame s.table e) refl
    where
      by : (r : Result Frame Refusal) → event_frame s.table e ≡ r → has_agent s.table (account e).name.master ≡ true
      by (Ok f) h =
          let k = knows s.table (Some e) f h in
          subst (λ (x : Event). has_agent s.table (account x).name.master ≡ true) (sym (some_same e f.event k.is)) k.pointed.has_master
      by (Err n) h = absurd (refused_not n (accepted_plan s e) (sym (subst (Says s e) h (frame_says s e)) ∙ own_plan))

module _ (s : State) (right : Right s) where
  placed_turn : (e : Event) → Accepted (view s) e → Placed (turn (view s) e)
  unfolding turn view
  placed_turn e a =
      let ok = table_of s right in
      let q = plan_there (view s) ok e (own_plan (view s) e a) in
      let p = accepted_plan (view s) e in
      record {
        first = chan_low s.table ok p.first.at q.first;
        second = chan_low s.table ok p.second.at q.second;
        third = chan_low s.table ok p.third.at q.third;
        master = agent_low s.table ok (account e).name.master (has_master (view s) e a);
      }

  placed_at : (es : List Event) → All (Accepted (view s)) es → (i : ℕ) → i < length es → Placed (get_or (map (turn (view s)) es) i no_turn)
  placed_at [] a i h = absurd (omega arith)
  placed_at (e ∷ es) a zero h = placed_turn e a.0
  placed_at (e ∷ es) a (suc i) h = placed_at es a.1 i (omega arith)

-- ---- past 16, 18 and 17

module _ (s : State) (right : Right s) (b out : List ℕ) (whole : length b % 8 ≡ 0) (few : length b ≤ most_record_bytes) (places : length b / 8 ≤ length out) where
  abbrev ds : List Decoded
  ds = records b

  is_judged : tick s b out ≡ judged s out ds
  unfolding tick
  is_judged = rw ((no_tick_ground s b out).1 (record { is_sound = right.is_sound; whole = whole; few = few; places = places }), tick)

  pub answer_is : (tick s b out).answer ≡ judged_answer (view s) ds
  unfolding judged judged_answer
  answer_is =
      ap (λ (t : Ticked). t.answer) is_judged
      ∙ there (first_refused (view s) 0 ds)
      (λ n. there (first_pair (view s) 0 (known ds)) (λ m. rw (n, judged, m)) (λ a m. rw (n, judged, m)))
      (λ a n. rw (n, judged))

  pub refused_stays : (a : TickRefusal) → judged_answer (view s) ds ≡ Err a → tick s b out ≡ held s out a
  unfolding judged judged_answer
  refused_stays a h =
      is_judged
      ∙ there (first_refused (view s) 0 ds)
      (λ n. there (first_pair (view s) 0 (known ds))
      (λ m. absurd (never a (sym h ∙ rw (n, m))))
      (λ b m. rw (n, judged, m) (ap (held s out) (same b a (rw (n, m) at h)))))
      (λ b n. rw (n, judged) (ap (held s out) (same b a (rw n at h))))
    where
      same : (b a : TickRefusal) → ◌≡◌ {A = TickAnswer} (Err b) (Err a) → b ≡ a
      same b a k = ap (λ (x : TickAnswer). elim x [ Ok u ↦ b | Err c ↦ c ]) k

  module _ (ok : judged_answer (view s) ds ≡ Ok tt) where
    orderly : Orderly (view s) b
    orderly = (tick_accepts_exactly s right.shaped right.is_sound b out whole few places).0 (answer_is ∙ ok)

    ends : Ends s b out orderly.events
    ends = tick_ends s right.shaped right.is_sound b out whole few places orderly

    events_known : orderly.events ≡ known ds
    events_known = sym (ap known orderly.known ∙ known_all orderly.events)

    -- whatever the answer list, if it is long enough
    pub ends_known : (tick s b out).state ≡ pack (end_of (view s) (known ds))
    ends_known = ends.state ∙ ap (λ (es : List Event). pack (end_of (view s) es)) events_known

    pub known_length : length (known ds) ≡ length b / 8
    known_length = ap length (sym events_known) ∙ sym (sym (how_many b) ∙ ap length orderly.known ∙ length-map orderly.events Some)

    pub answers_known : (tick s b out).answers ≡ map (value (view s)) (known ds) ++ drop (length b / 8) out
    answers_known =
        let n : length orderly.events ≡ length b / 8 = ap length events_known ∙ known_length in
        ends.answers ∙ ap (λ (k : ℕ). map (value (view s)) orderly.events ++ drop k out) n ∙ ap (λ (es : List Event). map (value (view s)) es ++ drop (length b / 8) out) events_known

    -- each record left its turn, whatever its place held
    pub each_made : (before : List Turn) → take (length b / 8) (laid_over (turns_made (view s) ds) before) ≡ map (turn (view s)) (known ds)
    each_made before =
        let m : turns_made (view s) ds ≡ map (turn (view s)) (known ds) =
        ap (turns_made (view s)) orderly.known ∙ all_made (view s) orderly.events orderly.agreeing.alone ∙ ap (map (turn (view s))) events_known in
        let n : length (map (turn (view s)) (known ds)) ≡ length b / 8 = length-map (known ds) (turn (view s)) ∙ known_length in
        ap (λ (ts : List Turn). take (length b / 8) (laid_over ts before)) m
        ∙ take_at (map (turn (view s)) (known ds)) (drop (length (map (turn (view s)) (known ds))) before) (length b / 8) n

    module _ (all : List Turn) (turns : take (length b / 8) all ≡ map (turn (view s)) (known ds)) where
      pub placed_all : (i : ℕ) → i < length b / 8 → Placed (get_or all i no_turn)
      placed_all i h =
          let a : All (Accepted (view s)) (known ds) = subst (All (Accepted (view s))) events_known orderly.agreeing.alone in
          subst Placed (get_or-take (length b / 8) all i no_turn h)
          (subst (λ (l : List Turn). Placed (get_or l i no_turn)) (sym turns) (placed_at s right (known ds) a i (omega (arith, known_length))))

      pub state_is : all_turned s (take (length b / 8) all) ≡ (tick s b out).state
      state_is =
          ap (all_turned s) (turns ∙ ap (map (turn (view s))) (sym events_known))
          ∙ carried_together s right orderly.events orderly.agreeing
          ∙ sym ends.state

      pub answers_are : turn_values (take (length b / 8) all) ++ drop (length b / 8) out ≡ (tick s b out).answers
      answers_are = ap (λ (l : List ℕ). l ++ drop (length b / 8) out) (ap turn_values turns ∙ values_together (view s) (known ds)) ∙ sym answers_known

  -- accepted or not, what it leaves is sound
  pub tick_right : Right (tick s b out).state
  tick_right =
      by_answer (judged_answer (view s) ds)
      (λ h. (ends h).right)
      (λ a h. subst Right (sym (ap (λ (t : Ticked). t.state) (refused_stays a h))) right)
