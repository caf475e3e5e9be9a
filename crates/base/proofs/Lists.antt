-- Laws of lists: what all pass, one of them passes; what is found passes; what is put behind others of another sort is not counted.
use Prim.Native.Nat.{ℕ, zero, suc, ◌<◌}
use mathlib.Core.Path.{◌≡◌, refl, ap, subst}
use Rattle.std.specs.Prelude.{Option, None, Some}
use mathlib.Core.Bool.{Bool, true, false}
use mathlib.Core.List.{List, [], ◌∷◌, ◌++◌}
use native.Mathlib.Omega.{arith}
use lib.ListN.{get_or, take}
use Rattle.base.specs.Lists.{all, find, count, is_some}
use Rattle.base.proofs.Logic.{split, and_true, both, none_some}

module _ {A : Type 0} where
  -- one of the first n, where a place that is not there passes too
  pub all_take : (p : A → Bool) (n : ℕ) (l : List A) (d : A) → all p (take n l) ≡ true → p d ≡ true → (i : ℕ) → i < n → p (get_or l i d) ≡ true
  unfolding all
  all_take p zero l d h z i k = absurd (omega arith)
  all_take p (suc n) [] d h z i k = z
  all_take p (suc n) (x ∷ l) d h z zero k = (and_true (p x) (all p (take n l)) h).0
  all_take p (suc n) (x ∷ l) d h z (suc i) k = all_take p n l d (and_true (p x) (all p (take n l)) h).1 z i (omega arith)

  pub found_passes : (p : A → Bool) (l : List A) {x : A} → find p l ≡ Some x → p x ≡ true
  unfolding find
  found_passes p [] {x} h = absurd (none_some {a = x} refl h)
  found_passes p (y ∷ l) {x} h =
      split (p y)
      (λ t. let e : y ≡ x = cc (rw t at h) in subst (λ (z : A). p z ≡ true) e t)
      (λ f. found_passes p l (rw f at h))

  -- one that does not pass counts for nothing, wherever it stands
  pub count_past : (p : A → Bool) (us : List A) (x : A) (vs : List A) → p x ≡ false → count p (us ++ (x ∷ vs)) ≡ count p (us ++ vs)
  unfolding count
  count_past p [] x vs h = rw h
  count_past p (u ∷ us) x vs h = split (p u) (λ t. rw t (ap suc (count_past p us x vs h))) (λ f. rw f (count_past p us x vs h))

  -- what is there, and what is not
  pub is_there : (o : Option A) → is_some o ≡ true → (x : A) × (o ≡ Some x)
  is_there None h = absurd (both false h refl)
  is_there (Some x) h = (x, refl)

  pub is_none : (o : Option A) → is_some o ≡ false → o ≡ None
  is_none None h = refl
  is_none (Some x) h = absurd (both true refl h)
