-- What an accepted step has found and done: the state is sound, no ground of the record's event holds, value and next state are that event's.
-- The step is taken apart from the outside in: a refusal is never an acceptance, so every `unless` on the way was passed.
use Prim.Native.Nat.{ℕ}
use mathlib.Core.Path.{◌≡◌, refl, sym, ap, ◌∙◌}
use mathlib.Core.Bool.{true}
use mathlib.Core.List.{List}
use Rattle.std.specs.Prelude.{Option, None, Some, Ok}
use Rattle.base.specs.declared.Refusal.TheVariants.{UnfitRecord}
use Rattle.base.specs.declared.Refusal.{Refusal}
use borrow.Author.Tests.{not-false}
use Rattle.base.specs.Grounds.{refusal}
use Rattle.base.proofs.Grounds.{clear}
use Rattle.network.specs.declared.State.{State}
use Rattle.network.specs.Nets.{view, pack}
use Rattle.network.specs.Soundness.{sound}
use Rattle.events.specs.declared.Event.{Event}
use Rattle.events.specs.declared.Outcome.{Outcome}
use Rattle.events.specs.Records.{decoded, Decoded}
use Rattle.events.specs.Grounds.{grounds, Accepted}
use Rattle.events.specs.Effects.{after, value}
use Rattle.events.specs.Steps.{answer_value, unless, inner_step, record_step, step_grounds, step}
use Rattle.events.proofs.WrongModels.{refused_accepted}

passed_by : (o : Option Refusal) (s : State) (c : Outcome) (v : ℕ) → (unless o s c).answer ≡ Ok v → o ≡ None
passed_by None s c v h = refl
passed_by (Some n) s c v h = absurd (refused_accepted n v h)

-- a record that is accepted is known
its_event : (s : State) (d : Decoded) (v : ℕ) → (record_step s d).answer ≡ Ok v → (e : Event) × (d ≡ Some e) × ((inner_step s e).answer ≡ Ok v)
its_event s None v h = absurd (refused_accepted UnfitRecord v h)
its_event s (Some e) v h = (e, refl, h)

pub record Taken (s : State) (b : List ℕ) (v : ℕ) : Type 0 where
  pub event : Event
  pub read : decoded b ≡ Some event
  pub is_sound : sound s ≡ true
  pub accepted : Accepted (view s) event
  pub valued : v ≡ value (view s) event
  pub next : (step s b).state ≡ pack (after (view s) event)

abbrev pub moved : State → Event → Outcome
moved s e = record { answer = Ok (value (view s) e); state = pack (after (view s) e) }

pub inner_is : (s : State) (e : Event) → Accepted (view s) e → inner_step s e ≡ moved s e
unfolding inner_step
inner_is s e ok = rw ok

inner_passed : (s : State) (e : Event) (v : ℕ) → (inner_step s e).answer ≡ Ok v → Accepted (view s) e
unfolding inner_step
inner_passed s e v h = passed_by (refusal (grounds (view s) e)) s (moved s e) v h

step_passed : (s : State) (b : List ℕ) (v : ℕ) → (step s b).answer ≡ Ok v → refusal (step_grounds s b) ≡ None
unfolding step
step_passed s b v h = passed_by (refusal (step_grounds s b)) s (record_step s (decoded b)) v h

was_sound : (s : State) (b : List ℕ) → refusal (step_grounds s b) ≡ None → sound s ≡ true
unfolding step_grounds
was_sound s b o = not-false (sound s) (clear (step_grounds s b) o).0

goes_on : (s : State) (b : List ℕ) → refusal (step_grounds s b) ≡ None → step s b ≡ record_step s (decoded b)
unfolding step
goes_on s b o = rw o

pub taken : (s : State) (b : List ℕ) (v : ℕ) → (step s b).answer ≡ Ok v → Taken s b v
taken s b v h =
    let o = step_passed s b v h in
    let g = goes_on s b o in
    let k = its_event s (decoded b) v (ap (λ (c : Outcome). c.answer) (sym g) ∙ h) in
    let ok = inner_passed s k.0 v k.2 in
    let e = inner_is s k.0 ok in
    let r : step s b ≡ moved s k.0 = g ∙ ap (record_step s) k.1 ∙ e in
    record {
      event = k.0;
      read = k.1;
      is_sound = was_sound s b o;
      accepted = ok;
      valued = ap answer_value (sym h ∙ ap (λ (c : Outcome). c.answer) r);
      next = ap (λ (c : Outcome). c.state) r;
    }
