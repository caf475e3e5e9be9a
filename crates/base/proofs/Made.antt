-- A list is known by its places: map f over the numbers from 0 is the list that has f i at place i, and so is a list
-- that was filled from the front.
use Prim.Native.Nat.{ℕ, zero, suc, ◌+◌, ◌<◌, ◌≤◌}
use mathlib.Core.Path.{◌≡◌, refl, ap, sym, subst⁻¹, ◌∙◌}
use mathlib.Core.Logic.{⊎_elim}
use mathlib.Core.List.{List, map}
use native.Mathlib.Omega.{arith}
use lib.ListN.{length, get_or, set, replicate}
use lib.Seq.{ext_get_or, get_or-set_same, get_or-set_other}
use Rattle.base.specs.Lists.{from_to}
use Rattle.base.proofs.Logic.{equal?}

module _ {A : Type 0} (f : ℕ → A) where
  length_made : (i n : ℕ) → length (map f (from_to i n)) ≡ n
  unfolding from_to
  length_made i zero = refl
  length_made i (suc n) = ap suc (length_made (suc i) n)

  made_from : (i n j : ℕ) (d : A) → j < n → get_or (map f (from_to i n)) j d ≡ f (i + j)
  unfolding from_to
  made_from i zero j d h = absurd (omega arith)
  made_from i (suc n) zero d h = let e : i ≡ i + 0 = omega arith in ap f e
  made_from i (suc n) (suc j) d h =
      let e : suc i + j ≡ i + suc j = omega arith in
      made_from (suc i) n j d (omega arith) ∙ ap f e

  pub made_at : (n i : ℕ) (d : A) → i < n → get_or (map f (from_to 0 n)) i d ≡ f i
  made_at n i d h = let e : 0 + i ≡ i = omega arith in made_from 0 n i d h ∙ ap f e

  pub made : (n : ℕ) (d : A) (l : List A) → length l ≡ n → ((i : ℕ) → i < n → get_or l i d ≡ f i) → l ≡ map f (from_to 0 n)
  made n d l e h =
      ext_get_or d l (map f (from_to 0 n)) (e ∙ sym (length_made 0 n))
      (λ i k. let b : i < n = omega arith in h i b ∙ sym (made_at n i d b))

-- a list filled from the front
module _ {A : Type 0} (d : A) (l : List A) (i : ℕ) (v : A) where
  pub fill_on : (f : ℕ → A) → i < length l → v ≡ f i → ((j : ℕ) → j < i → get_or l j d ≡ f j) → (j : ℕ) → j < i + 1 → get_or (set l i v) j d ≡ f j
  fill_on f k e h j b =
      ⊎_elim
      (λ p. subst⁻¹ (λ (n : ℕ). get_or (set l i v) n d ≡ f n) p (get_or-set_same l i v d k ∙ e))
      (λ n. get_or-set_other l i j v d n ∙ h j (omega arith))
      (equal? j i)

  pub fill_behind : (z : A) → ((j : ℕ) → i ≤ j → get_or l j d ≡ z) → (j : ℕ) → i + 1 ≤ j → get_or (set l i v) j d ≡ z
  fill_behind z h j b = get_or-set_other l i j v d (λ p. omega arith) ∙ h j (omega arith)

pub replicate_at : {A : Type 0} (n i : ℕ) (z : A) → get_or (replicate n z) i z ≡ z
replicate_at zero i z = refl
replicate_at (suc n) zero z = refl
replicate_at (suc n) (suc i) z = replicate_at n i z
