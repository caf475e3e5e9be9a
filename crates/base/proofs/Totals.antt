-- Sums over a list, and what several tests count together: at least all that pass one of them.
-- By going down the list: each element that passes one of the tests is counted once more.
use Prim.Native.Nat.{ℕ, suc, ◌+◌, ◌≤◌}
use native.Mathlib.Omega.{arith}
use mathlib.Core.Path.{◌≡◌, refl}
use mathlib.Core.Bool.{Bool, true, false}
use mathlib.Core.List.{List, [], ◌∷◌}
use lib.ListN.{length}
use Rattle.base.specs.Lists.{any, count}
use Rattle.base.proofs.Logic.{split, both}
use Rattle.base.proofs.Cells.{In, first, later}

-- f of each, together
abbrev pub total : {A : Type 0} → (A → ℕ) → List A → ℕ
total f [] = 0
total f (a ∷ l) = f a + total f l

pub total_more : {A : Type 0} (f g : A → ℕ) (l : List A) → ((a : A) → In a l → f a ≤ g a) → total f l ≤ total g l
total_more f g [] h = omega arith
total_more f g (a ∷ l) h = omega (arith, h a first, total_more f g l (λ b i. h b (later i)))

module _ {A B : Type 0} (test : B → A → Bool) where
  -- what the tests bs count in l
  abbrev counted : List A → List B → ℕ
  counted l bs = total (λ b. count (test b) l) bs

  one_more : (x : A) (l : List A) (bs : List B) → any (λ b. test b x) bs ≡ true → suc (counted l bs) ≤ counted (x ∷ l) bs
  unfolding any count
  one_more x l [] h = absurd (both false h refl)
  one_more x l (b ∷ bs) h =
      split (test b x)
      (λ t. rw t (omega (arith, total_more (λ c. count (test c) l) (λ c. count (test c) (x ∷ l)) bs (λ c _. split (test c x) (λ u. rw u (omega arith)) (λ u. rw u (omega arith))))))
      (λ f. rw f (omega (arith, one_more x l bs (rw f at h))))

  pub covered : (l : List A) (bs : List B) → ((x : A) → In x l → any (λ b. test b x) bs ≡ true) → length l ≤ counted l bs
  covered [] bs h = omega arith
  covered (x ∷ l) bs h = omega (arith, one_more x l bs (h x first), covered l bs (λ y i. h y (later i)))
