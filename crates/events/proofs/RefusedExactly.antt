-- A step is refused exactly when a ground holds: the first of 16, 18, 1 and the kind's own gives the number, the value is 0, and the state stays.
-- Of every model that meets the step, whatever is handed in.
use Prim.Native.Nat.{ℕ}
use mathlib.Core.Path.{◌≡◌, refl, sym, ap, ◌∙◌}
use mathlib.Core.List.{List, ◌++◌}
use Rattle.std.specs.Prelude.{None, Some, Ok, Err}
use Rattle.base.specs.declared.Refusal.TheVariants.{UnfitRecord, NotSound, NotRecords}
use Rattle.base.specs.declared.Refusal.{Refusal}
use lib.ListN.{length}
use lib.Dec.{eqb}
use Rattle.base.specs.Grounds.{Ground, refusal}
use Rattle.base.proofs.Grounds.{told}
use Rattle.base.proofs.Logic.{split, there, none_some, some_same}
use Rattle.network.specs.declared.State.{State}
use Rattle.network.specs.Nets.{view}
use Rattle.network.specs.Soundness.{sound}
use Rattle.events.specs.declared.Outcome.{Outcome}
use Rattle.events.specs.Records.{decoded, Decoded}
use Rattle.events.specs.Effects.{value}
use Rattle.events.specs.Steps.{answer_value, inner_step, record_grounds, record_step, step_grounds, step}
use Rattle.events.proofs.WrongModels.{Model, Handed, MeetsStep, refused_accepted}

-- all that a step can be refused for, in order
abbrev pub all_grounds : State → List ℕ → List Ground
all_grounds s b = step_grounds s b ++ record_grounds (view s) (decoded b)

-- what stands after a refusal
abbrev pub refused_with : Refusal → State → Outcome
refused_with n s = record { answer = Err n; state = s }

-- ---- a record

record_refused : (s : State) (d : Decoded) (n : Refusal) → refusal (record_grounds (view s) d) ≡ Some n → record_step s d ≡ refused_with n s
unfolding record_grounds inner_step
record_refused s None n h = ap (λ (k : Refusal). refused_with k s) (some_same UnfitRecord n h)
record_refused s (Some e) n h = rw h

record_accepted : (s : State) (d : Decoded) → refusal (record_grounds (view s) d) ≡ None → (v : ℕ) × ((record_step s d).answer ≡ Ok v)
unfolding record_grounds inner_step
record_accepted s None h = absurd (none_some {a = UnfitRecord} h refl)
record_accepted s (Some e) h = (value (view s) e, rw h)

-- ---- the step: 16 and 18 in front

step_refused : (s : State) (b : List ℕ) (n : Refusal) → refusal (all_grounds s b) ≡ Some n → step s b ≡ refused_with n s
unfolding step step_grounds
step_refused s b n h =
    split (sound s)
    (λ k. split (eqb (length b) 8)
    (λ l. rw (k, l) (record_refused s (decoded b) n (rw (k, l) at h)))
    (λ l. let q : Some NotRecords ≡ Some n = (rw (k, l) at h) in rw (k, l) (ap (λ (m : Refusal). refused_with m s) (some_same NotRecords n q))))
    (λ k. let q : Some NotSound ≡ Some n = (rw k at h) in rw k (ap (λ (m : Refusal). refused_with m s) (some_same NotSound n q)))

step_accepted : (s : State) (b : List ℕ) → refusal (all_grounds s b) ≡ None → (v : ℕ) × ((step s b).answer ≡ Ok v)
unfolding step step_grounds
step_accepted s b h =
    split (sound s)
    (λ k. split (eqb (length b) 8)
    (λ l. rw (k, l) (record_accepted s (decoded b) (rw (k, l) at h)))
    (λ l. absurd (none_some {a = NotRecords} (rw (k, l) at h) refl)))
    (λ k. absurd (none_some {a = NotSound} (rw k at h) refl))

-- ---- any model

module _ (f : Model) (meets : MeetsStep f) (s : State) (b : List ℕ) (h : Handed s b) where
  -- where a ground holds, the first one's number, and the state as it stood
  pub a_ground_refuses : (n : Refusal) → refusal (all_grounds s b) ≡ Some n → f s b ≡ refused_with n s
  a_ground_refuses n g = meets s b h ∙ step_refused s b n g

  -- where none holds, accepted
  pub no_ground_accepts : refusal (all_grounds s b) ≡ None → (v : ℕ) × ((f s b).answer ≡ Ok v)
  no_ground_accepts g = let a = step_accepted s b g in (a.0, ap (λ (o : Outcome). o.answer) (meets s b h) ∙ a.1)

  -- so a refusal has its ground, the value 0, and leaves the state
  pub a_refusal_changes_nothing : (n : Refusal) → (f s b).answer ≡ Err n → (refusal (all_grounds s b) ≡ Some n) × (answer_value (f s b).answer ≡ 0) × ((f s b).state ≡ s)
  a_refusal_changes_nothing n r =
      there (refusal (all_grounds s b))
      (λ g. let a = no_ground_accepts g in absurd (refused_accepted n a.0 (sym r ∙ a.1)))
      (λ m g.
      let o = a_ground_refuses m g in
      let q : Some m ≡ Some n = ap told (sym (ap (λ (x : Outcome). x.answer) o) ∙ r) in
      (g ∙ q, ap answer_value r, ap (λ (x : Outcome). x.state) o))
