-- A bridge crossed one way in the hop table: one row of it, and all rows.
use Prim.Native.Nat.{ℕ, ◌+◌, ◌*◌, ◌/◌, ◌%◌, ◌<◌, ◌≤◌}
use mathlib.Core.Path.{◌≡◌, refl, ap, sym, subst, ◌∙◌}
use mathlib.Core.Bool.{true, cond}
use mathlib.Core.List.{List}
use native.Mathlib.Omega.{arith}
use borrow.Author.Tests.{eq-eqb, ne_eqb, eqb-true, eqb-false, ltb-true, ltb-false}
use lib.ListN.{length, get_or, set}
use lib.Dec.{eqb, ltb}
use Rattle.base.proofs.Logic.{split}
use Rattle.chassis.specs.declared.Bus.{Bus}
use Rattle.chassis.specs.declared.Chan.{Chan}
use Rattle.find_routes.specs.Crossings.{at, tabled, in_row, crossed}
use Rattle.find_routes.proofs.Filled.{Filled, fill_next, is_tabled, tabled_long, tabled_at, of_two, at_place}

-- ---- one row is filled with g

module _ (a : ℕ) (l₀ : List ℕ) where
  other_row : (g : ℕ → ℕ → ℕ) (j : ℕ) → (j / 16 ≡ a → ⊥) → get_or l₀ j 0 ≡ in_row a g (at l₀) (j / 16) (j % 16)
  other_row g j n = rw (ne_eqb (j / 16) a n) (sym (at_place l₀ j))

  abbrev pub Row : (ℕ → ℕ → ℕ) → List ℕ → ℕ → Type 0
  Row g l b = Filled 256 (λ j. in_row a g (at l₀) (j / 16) (j % 16)) l₀ l (16 * a + b)

  pub row_next : (g : ℕ → ℕ → ℕ) (l : List ℕ) (b v : ℕ) → a < 16 → b < 16 → Row g l b → v ≡ g a b → Row g (set l (16 * a + b) v) (b + 1)
  row_next g l b v h k w e =
      let n : 16 * a + b + 1 ≡ 16 * a + (b + 1) = omega arith in
      let s : eqb a a ≡ true = eq-eqb a a refl in
      let here : v ≡ in_row a g (at l₀) a b = rw s e in
      subst (Filled 256 (λ j. in_row a g (at l₀) (j / 16) (j % 16)) l₀ (set l (16 * a + b) v)) n
      (fill_next w v (omega arith) (here ∙ sym (of_two (in_row a g (at l₀)) a b k)))

  same_row : (g g' : ℕ → ℕ → ℕ) → ((b : ℕ) → g a b ≡ g' a b) → (j : ℕ) → in_row a g (at l₀) (j / 16) (j % 16) ≡ in_row a g' (at l₀) (j / 16) (j % 16)
  same_row g g' e j =
      split (eqb (j / 16) a)
      (λ t.
      let p = eqb-true (j / 16) a t in
      rw t (ap (λ (n : ℕ). g n (j % 16)) p ∙ e (j % 16) ∙ ap (λ (n : ℕ). g' n (j % 16)) (sym p)))
      (λ f. rw f)

  -- the row is filled; what filled it may be told in another way
  pub row_ends : (g g' : ℕ → ℕ → ℕ) → ((b : ℕ) → g a b ≡ g' a b) → (l : List ℕ) (b : ℕ) → 16 ≤ b → Row g l b → l ≡ tabled (in_row a g' (at l₀))
  row_ends g g' e l b h w =
      is_tabled (in_row a g' (at l₀)) l w.size
      (λ j k.
      split (ltb j (16 * a + b))
      (λ t. w.done j (ltb-true j (16 * a + b) t))
      (λ f. let n = ltb-false j (16 * a + b) f in w.rest j n k ∙ other_row g j (λ p. omega arith))
      ∙ same_row g g' e j)

  -- the row stays as it is
  pub row_stays : (g : ℕ → ℕ → ℕ) → length l₀ ≡ 256 → ((b : ℕ) → at l₀ a b ≡ g a b) → l₀ ≡ tabled (in_row a g (at l₀))
  row_stays g s e =
      is_tabled (in_row a g (at l₀)) l₀ s
      (λ j _. split (eqb (j / 16) a) (λ t. rw t (sym (at_place l₀ j))) (λ f. other_row (at l₀) j (eqb-false (j / 16) a f)) ∙ same_row (at l₀) g e j)

-- ---- a bridge is crossed

-- v where the label is `far`
abbrev pub spread : List ℕ → ℕ → ℕ → (ℕ → ℕ → ℕ) → ℕ → ℕ → ℕ
spread labels far v f a b = cond (eqb (get_or labels b 0) far) v (f a b)

module _ (m : List ℕ) (near far : Bus) (c : Chan) where
  module _ (a : ℕ) (f : ℕ → ℕ → ℕ) where
    -- bus a is in the near end's component, or not
    pub on_near_side : (v b : ℕ) → get_or m a 0 ≡ get_or m near.0 0 → v ≡ cond (eqb a near.0) c.0 (f a near.0)
        → spread m (get_or m far.0 0) v f a b ≡ crossed m near far c f a b
    on_near_side v b s e = rw (eq-eqb (get_or m a 0) (get_or m near.0 0) s, e)

    pub off_near_side : (b : ℕ) → (get_or m a 0 ≡ get_or m near.0 0 → ⊥) → f a b ≡ crossed m near far c f a b
    off_near_side b n = rw (ne_eqb (get_or m a 0) (get_or m near.0 0) n)

  -- the rows before a are crossed
  abbrev pub Rows : List ℕ → List ℕ → ℕ → Type 0
  Rows l₀ l a = Filled 256 (λ j. crossed m near far c (at l₀) (j / 16) (j % 16)) l₀ l (16 * a)

  pub rows_end : (l₀ l : List ℕ) (a : ℕ) → 16 ≤ a → Rows l₀ l a → l ≡ tabled (crossed m near far c (at l₀))
  rows_end l₀ l a h w = is_tabled (crossed m near far c (at l₀)) l w.size (λ j b. w.done j (omega arith))

  module _ (l₀ l l' : List ℕ) (a : ℕ) (h : a < 16) (k : near.0 < 16) (w : Rows l₀ l a) (e : l' ≡ tabled (in_row a (crossed m near far c (at l)) (at l))) where
    -- what is crossed in a row is made of that row
    same : (b : ℕ) → b < 16 → crossed m near far c (at l) a b ≡ crossed m near far c (at l₀) a b
    same b i = rw (w.rest (16 * a + near.0) (omega arith) (omega arith), w.rest (16 * a + b) (omega arith) (omega arith))

    is : (j : ℕ) → j < 256 → get_or l' j 0 ≡ in_row a (crossed m near far c (at l)) (at l) (j / 16) (j % 16)
    is j b = ap (λ (x : List ℕ). get_or x j 0) e ∙ tabled_at (in_row a (crossed m near far c (at l)) (at l)) j b

    pub rows_next : Rows l₀ l' (a + 1)
    rows_next = record {
      size = tabled_long (in_row a (crossed m near far c (at l)) (at l)) e;
      done = λ j b.
          split (eqb (j / 16) a)
          (λ t.
          let p = eqb-true (j / 16) a t in
          is j (omega arith) ∙ rw t (ap (λ (n : ℕ). crossed m near far c (at l) n (j % 16)) p ∙ same (j % 16) (omega arith) ∙ ap (λ (n : ℕ). crossed m near far c (at l₀) n (j % 16)) (sym p)))
          (λ f. let n = eqb-false (j / 16) a f in is j (omega arith) ∙ rw f (at_place l j) ∙ w.done j (omega arith));
      rest = λ j b k. let f = ne_eqb (j / 16) a (λ p. omega arith) in is j k ∙ rw f (at_place l j) ∙ w.rest j (omega arith) k;
    }
