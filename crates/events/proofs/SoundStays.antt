-- Sound stays sound: an accepted event's next state is sound, so is every state reached, and so is the state of every step's outcome.
-- A sound state's view is good, good stays good, and what is good packs to a sound state; a refusal leaves the state.
use Prim.Native.Nat.{ℕ}
use mathlib.Core.Path.{◌≡◌, refl, subst⁻¹, ◌∙◌}
use mathlib.Core.Bool.{true}
use Rattle.std.specs.Prelude.{Option, None, Some}
use Rattle.base.specs.declared.Refusal.{Refusal}
use mathlib.Core.List.{List, [], ◌∷◌}
use borrow.Author.Tests.{eq-eqb}
use lib.ListN.{length}
use Rattle.base.proofs.Logic.{split}
use Rattle.base.specs.Grounds.{refusal}
use Rattle.network.specs.declared.State.{State}
use Rattle.network.specs.Nets.{Net, view, pack}
use Rattle.network.specs.Soundness.{sound}
use Rattle.network.specs.Shapes.{Shaped}
use Rattle.network.specs.Edits.{Edit, add, change, raise, edit, edits}
use Rattle.network.proofs.Good.{Good, Arrays, good_is_sound, sound_is_good, good_is_shaped, empty_is_good}
use Rattle.events.specs.declared.Event.{Event}
use Rattle.events.specs.declared.Outcome.{Outcome}
use Rattle.events.specs.Records.{decoded, Decoded}
use Rattle.events.specs.Grounds.{grounds, Accepted}
use Rattle.events.specs.Effects.{effects, after}
use Rattle.events.specs.Steps.{unless, inner_step, step_on, record_step, step_grounds, step}
use Rattle.events.specs.Reached.{Reached, at_first, and_then}
use Rattle.events.proofs.Kept.{rules_stay}

-- ---- reached

pub reached_is_good : (s : Net) → Reached s → Good s
reached_is_good _ (at_first T h) = empty_is_good T h
reached_is_good _ (and_then s e r ok) = rules_stay s (reached_is_good s r) e ok

pub reached_is_sound : (s : Net) → Reached s → sound (pack s) ≡ true
reached_is_sound s r = good_is_sound s (reached_is_good s r)

-- ---- the table stays

edit_table : (d : Edit) (s : Net) → (edit d s).table ≡ s.table
unfolding edit
edit_table (add N x) s = refl
edit_table (change N p f) s = refl
edit_table (raise a) s = refl

edits_table : (ds : List Edit) (s : Net) → (edits ds s).table ≡ s.table
unfolding edits
edits_table [] s = refl
edits_table (d ∷ ds) s = edits_table ds (edit d s) ∙ edit_table d s

pub table_stays : (s : Net) (e : Event) → (after s e).table ≡ s.table
unfolding after
table_stays s e = edits_table (effects s e) s

-- ---- one step

-- what is asked of a state that is handed in, and holds of the one that is handed back
pub record Right (s : State) : Type 0 where
  pub shaped : Shaped s
  pub is_sound : sound s ≡ true

module _ (s : State) (w : Shaped s) (h : sound s ≡ true) where
  good_after : (e : Event) → Accepted (view s) e → Good (after (view s) e)
  good_after e ok = rules_stay (view s) (sound_is_good s w h) e ok

  pub sound_stays_sound : (e : Event) → Accepted (view s) e → sound (pack (after (view s) e)) ≡ true
  sound_stays_sound e ok = good_is_sound (after (view s) e) (good_after e ok)

  arrays : Arrays (view s).table
  unfolding view
  arrays = record { limits = w.limits; pairs = w.pairs; homes = w.homes }

  pub shaped_stays_shaped : (e : Event) → Accepted (view s) e → Shaped (pack (after (view s) e))
  shaped_stays_shaped e ok = good_is_shaped (after (view s) e) (subst⁻¹ Arrays (table_stays (view s) e) arrays) (good_after e ok)

  right : Right s
  right = record { shaped = w; is_sound = h }

  -- a refusal leaves the state
  unless_right : (o : Option Refusal) (c : Outcome) → (o ≡ None → Right c.state) → Right (unless o s c).state
  unless_right None c r = r refl
  unless_right (Some n) c r = right

  pub inner_step_right : (e : Event) → Right (inner_step s e).state
  unfolding inner_step
  inner_step_right e =
      unless_right (refusal (grounds (view s) e)) _
      (λ ok. record { shaped = shaped_stays_shaped e ok; is_sound = sound_stays_sound e ok })

  pub record_step_right : (d : Decoded) → Right (record_step s d).state
  record_step_right None = right
  record_step_right (Some e) = inner_step_right e

  pub step_right : (b : List ℕ) → Right (step s b).state
  unfolding step
  step_right b = unless_right (refusal (step_grounds s b)) (record_step s (decoded b)) (λ _. record_step_right (decoded b))

  pub inner_step_sound : (e : Event) → sound (inner_step s e).state ≡ true
  inner_step_sound e = (inner_step_right e).is_sound

  pub record_step_sound : (d : Decoded) → sound (record_step s d).state ≡ true
  record_step_sound d = (record_step_right d).is_sound

-- on a sound state eight bytes are neither 16 nor 18: the step is the record's
pub step_is : (s : State) (b : List ℕ) → sound s ≡ true → length b ≡ 8 → step s b ≡ record_step s (decoded b)
unfolding step step_grounds
step_is s b h l = rw (h, eq-eqb (length b) 8 l)

-- in any state, eight bytes that are an event are that event's step
pub step_on_record : (s : State) (b : List ℕ) (e : Event) → length b ≡ 8 → decoded b ≡ Some e → step s b ≡ step_on s e
unfolding step step_on step_grounds
step_on_record s b e l d = split (sound s) (λ h. rw (h, eq-eqb (length b) 8 l, d)) (λ h. rw h)
