-- Tables known by their places, and a loop that fills one in place, from the front.
use Prim.Native.Nat.{ℕ, zero, suc, ◌+◌, ◌*◌, ◌/◌, ◌%◌, ◌<◌, ◌≤◌}
use mathlib.Core.Path.{◌≡◌, refl, ap, ◌∙◌}
use mathlib.Core.List.{List, map}
use native.Mathlib.Omega.{arith}
use lib.ListN.{length, get_or, set, length-set}
use lib.Seq.{get_or-set_other}
use Rattle.base.specs.Lists.{from_to}
use Rattle.base.proofs.Made.{made, made_at, fill_on}
use Rattle.find_routes.specs.Crossings.{at, tabled, labelled}

-- ---- the places before i are made, those from i on are as they were

pub record Filled (n : ℕ) (f : ℕ → ℕ) (l₀ l : List ℕ) (i : ℕ) : Type 0 where
  pub size : length l ≡ n
  pub done : (j : ℕ) → j < i → get_or l j 0 ≡ f j
  pub rest : (j : ℕ) → i ≤ j → j < n → get_or l j 0 ≡ get_or l₀ j 0

module _ {n : ℕ} {f : ℕ → ℕ} {l₀ l : List ℕ} {i : ℕ} (w : Filled n f l₀ l i) (v : ℕ) where
  pub fill_next : i < n → v ≡ f i → Filled n f l₀ (set l i v) (i + 1)
  fill_next h e = record {
    size = simp length-set w.size;
    done = fill_on 0 l i v f (omega (arith, w.size)) e w.done;
    rest = λ j b k. get_or-set_other l i j v 0 (λ p. omega arith) ∙ w.rest j (omega arith) k;
  }

-- ---- lists made of the numbers from 0

module _ (f : ℕ → ℕ) where
  long : (i n : ℕ) → length (map f (from_to i n)) ≡ n
  unfolding from_to
  long i zero = refl
  long i (suc n) = ap suc (long (suc i) n)

  pub is_labelled : (l : List ℕ) → length l ≡ 16 → ((i : ℕ) → i < 16 → get_or l i 0 ≡ f i) → l ≡ labelled f
  unfolding labelled
  is_labelled l = made f 16 0 l

  pub filled_labels : {l₀ l : List ℕ} {i : ℕ} → 16 ≤ i → Filled 16 f l₀ l i → l ≡ labelled f
  filled_labels {l = l} b w = is_labelled l w.size (λ j h. w.done j (omega arith))

  pub labelled_size : length (labelled f) ≡ 16
  unfolding labelled
  labelled_size = long 0 16

  pub labelled_at : (i : ℕ) → i < 16 → get_or (labelled f) i 0 ≡ f i
  unfolding labelled
  labelled_at i = made_at f 16 i 0

module _ (f : ℕ → ℕ → ℕ) where
  abbrev place : ℕ → ℕ
  place i = f (i / 16) (i % 16)

  pub is_tabled : (l : List ℕ) → length l ≡ 256 → ((i : ℕ) → i < 256 → get_or l i 0 ≡ f (i / 16) (i % 16)) → l ≡ tabled f
  unfolding tabled
  is_tabled l = made place 256 0 l

  tabled_size : length (tabled f) ≡ 256
  unfolding tabled
  tabled_size = long place 0 256

  pub tabled_long : {l : List ℕ} → l ≡ tabled f → length l ≡ 256
  tabled_long e = ap length e ∙ tabled_size

  pub tabled_at : (i : ℕ) → i < 256 → get_or (tabled f) i 0 ≡ f (i / 16) (i % 16)
  unfolding tabled
  tabled_at i = made_at place 256 i 0

  -- the place of two buses
  pub of_two : (a b : ℕ) → b < 16 → f ((16 * a + b) / 16) ((16 * a + b) % 16) ≡ f a b
  of_two a b h =
      let i = 16 * a + b in
      let p : i / 16 ≡ a = omega arith in
      let q : i % 16 ≡ b = omega arith in
      ap (λ (n : ℕ). f n (i % 16)) p ∙ ap (f a) q

  pub at_tabled : (a b : ℕ) → a < 16 → b < 16 → at (tabled f) a b ≡ f a b
  at_tabled a b h k = tabled_at (16 * a + b) (omega arith) ∙ of_two a b k

pub at_place : (l : List ℕ) (i : ℕ) → at l (i / 16) (i % 16) ≡ get_or l i 0
at_place l i = let p : 16 * (i / 16) + i % 16 ≡ i = omega arith in ap (λ (j : ℕ). get_or l j 0) p
