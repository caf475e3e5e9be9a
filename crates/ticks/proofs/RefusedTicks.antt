-- A tick is refused exactly with what stands against it first: 16, 18 or 17, else its lowest record refused alone, else its lowest conflicting pair; then
-- the state and the lent answer list stay. Otherwise it is accepted. Of every function that meets the tick, whatever is handed in. By what its searches find.
use Prim.Native.Nat.{ℕ, ◌+◌}
use native.Mathlib.Omega.{arith}
use mathlib.Core.Path.{◌≡◌, refl, sym, ap, ◌∙◌}
use mathlib.Core.Bool.{true}
use mathlib.Core.List.{List, []}
use Rattle.std.specs.Prelude.{None, Some, Ok, Err}
use Rattle.base.specs.Lists.{parts}
use Rattle.base.specs.Grounds.{refusal}
use Rattle.base.specs.declared.Refusal.{Refusal}
use Rattle.base.proofs.Logic.{there}
use Rattle.chassis.specs.Numbers.{agent}
use Rattle.network.specs.declared.State.{State}
use Rattle.network.specs.Nets.{view}
use Rattle.network.specs.Soundness.{sound}
use Rattle.network.proofs.Packing.{sound_is_packed}
use Rattle.events.specs.declared.Event.TheVariants.{BeginRead}
use Rattle.events.specs.Records.{records}
use Rattle.ticks.specs.declared.TickRefusal.TheVariants.{Refused, Conflict}
use Rattle.ticks.specs.Ticks.{known, end_of, values_of, first_refused, first_pair, Ticked, held, ticked, tick_grounds, judged, tick, TickAnswer}
use Rattle.ticks.proofs.Searches.{known_all, refuses_none, LowestRefused, refused_is_found, pair_is_found}
use Rattle.ticks.proofs.TickGrounds.{no_tick_ground}
use Rattle.ticks.proofs.Verdicts.{Tick}
use Rattle.ticks.proofs.TrueCulprit.{Culprit, true_culprit, CulpritPair, true_conflict}
use Rattle.ticks.proofs.TickAcceptsExactly.{Acceptable, is_ticked, was_acceptable}
use Rattle.ticks.proofs.WrongTicks.{Lent, MeetsTick}

-- ---- the tick

-- an answer, with the state and the lent answer list as they stood
abbrev pub unchanged : State → List ℕ → TickAnswer → Ticked
unchanged s out a = record { answer = a; state = s; answers = out }

module _ (s : State) (b out : List ℕ) where
  pub refused_at_once : (n : Refusal) → refusal (tick_grounds s b out) ≡ Some n → tick s b out ≡ held s out (Refused n 0)
  unfolding tick
  refused_at_once n g = rw (g, tick)

  refused_by_one : (n : Refusal) (i : ℕ) → refusal (tick_grounds s b out) ≡ None → LowestRefused (view s) (records b) n i → tick s b out ≡ held s out (Refused n i)
  unfolding tick judged
  refused_by_one n i g r =
      let f = refused_is_found (view s) 0 (records b) n i r in
      rw (g, tick, f, judged) (ap (λ (k : ℕ). held s out (Refused n k)) (omega arith))

  refused_by_two : (i j : ℕ) → CulpritPair s b out i j → tick s b out ≡ held s out (Conflict i j)
  unfolding tick judged
  refused_by_two i j c =
      let es = c.events in
      let k = c.all_alone.known in
      let n = ap (λ ds. first_refused (view s) 0 ds) k ∙ refuses_none (view s) 0 es c.all_alone.alone in
      let p = ap (λ ds. first_pair (view s) 0 (known ds)) k ∙ ap (first_pair (view s) 0) (known_all es)
      ∙ pair_is_found (view s) (BeginRead (agent 0) (agent 0)) 0 es i j (c.pair (BeginRead (agent 0) (agent 0))) in
      rw (c.no_ground, tick, n, judged, p) (λ x. held s out (Conflict (zero_and i x) (zero_and j x)))
    where
      zero_and : (k : ℕ) → 0 + k ≡ k
      zero_and k = omega arith

  tick_held : ((tick s b out).answer ≡ Ok tt → ⊥) → tick s b out ≡ unchanged s out (tick s b out).answer
  unfolding tick judged
  tick_held refused =
      there (refusal (tick_grounds s b out))
      (λ g. there (first_refused (view s) 0 (records b))
      (λ r. there (first_pair (view s) 0 (known (records b)))
      (λ p. absurd (refused (rw (g, tick, r, judged, p))))
      (λ a p. rw (g, tick, r, judged, p)))
      (λ a r. rw (g, tick, r, judged)))
      (λ n g. rw (g, tick))

-- ---- any function that meets it

module _ (g : Tick) (meets : MeetsTick g) (s : State) (b out : List ℕ) (w : Lent s b out) where
  -- what it answers, the tick answers
  answered : {a : TickAnswer} → (g s b out).answer ≡ a → (tick s b out).answer ≡ a
  answered h = sym (ap (λ (t : Ticked). t.answer) (meets s b out w)) ∙ h

  -- the first of 16, 18 and 17 that holds gives the number
  pub a_ground_refuses_the_tick : (n : Refusal) → refusal (tick_grounds s b out) ≡ Some n → g s b out ≡ held s out (Refused n 0)
  a_ground_refuses_the_tick n h = meets s b out w ∙ refused_at_once s b out n h

  -- where none holds, the lowest record refused alone gives number and place
  pub the_lowest_record_refuses : (n : Refusal) (i : ℕ) → refusal (tick_grounds s b out) ≡ None → LowestRefused (view s) (records b) n i → g s b out ≡ held s out (Refused n i)
  the_lowest_record_refuses n i h r = meets s b out w ∙ refused_by_one s b out n i h r

  -- where no record is refused alone, the lowest conflicting pair gives both places
  pub the_lowest_pair_refuses : (i j : ℕ) → CulpritPair s b out i j → g s b out ≡ held s out (Conflict i j)
  the_lowest_pair_refuses i j c = meets s b out w ∙ refused_by_two s b out i j c

  -- where no two conflict, it is accepted and ends where its events lead, each value at its place
  pub otherwise_accepted : (a : Acceptable s b out) → g s b out ≡ ticked s out a.orderly.events
  otherwise_accepted a = meets s b out w ∙ is_ticked s b out a

  -- and back, from the answer alone: nothing else is answered so
  pub refused_only_so : (n : Refusal) (i : ℕ) → (g s b out).answer ≡ Err (Refused n i) → Culprit s b out n i
  refused_only_so n i h = true_culprit s b out n i (answered h)

  pub in_conflict_only_so : (i j : ℕ) → (g s b out).answer ≡ Err (Conflict i j) → CulpritPair s b out i j
  in_conflict_only_so i j h = true_conflict s b out i j (answered h)

  pub accepted_only_so : (g s b out).answer ≡ Ok tt → Acceptable s b out
  accepted_only_so h = was_acceptable s b out (answered h)

  -- what is not accepted leaves the state and the answer list
  pub a_refused_tick_changes_nothing : ((g s b out).answer ≡ Ok tt → ⊥) → ((g s b out).state ≡ s) × ((g s b out).answers ≡ out)
  a_refused_tick_changes_nothing refused =
      let q = meets s b out w in
      let h = q ∙ tick_held s b out (λ k. refused (ap (λ (t : Ticked). t.answer) q ∙ k)) in
      (ap (λ (t : Ticked). t.state) h, ap (λ (t : Ticked). t.answers) h)

-- ---- the empty tick

-- from every sound state it is accepted and changes nothing
pub an_empty_tick_changes_nothing : (g : Tick) → MeetsTick g → (s : State) (out : List ℕ) → Lent s [] out → sound s ≡ true → g s [] out ≡ unchanged s out (Ok tt)
unfolding records parts end_of values_of
an_empty_tick_changes_nothing g meets s out w h =
    let a : Acceptable s [] out = record {
      no_ground = (no_tick_ground s [] out).1 (record { is_sound = h; whole = omega arith; few = omega arith; places = omega arith });
      orderly = record { events = []; known = refl; agreeing = record { alone = tt; apart = tt } };
    } in
    otherwise_accepted g meets s [] out w a ∙ ap (λ (u : State). unchanged u out (Ok tt)) (sym (sound_is_packed s w.handed.shaped h))
