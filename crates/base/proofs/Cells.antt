-- Laws of members and cells of lists: tests over all cells are said of each cell and of each member, and carried through map, modify and alter.
-- A cell that is not there is read as a default that passes too, so that no law asks for a bound.
use Prim.Native.Nat.{ℕ, zero, suc, ◌<◌}
use mathlib.Core.Path.{◌≡◌, refl, sym, ap, ◌∙◌}
use mathlib.Core.Bool.{Bool, true, false, cond, ◌&&◌, ◌||◌}
use mathlib.Core.Logic.{◌⊎◌, inl, inr, ⊎_elim}
use Rattle.std.specs.Prelude.{None, Some}
use mathlib.Core.List.{List, [], ◌∷◌, ◌++◌, map}
use native.Mathlib.Omega.{arith}
use lib.ListN.{get_or, length, take}
use Rattle.base.specs.Lists.{find, alter, all, any, all_from, modify, is_some}
use Rattle.base.proofs.Logic.{split, and_true, true_and, and_four, both, none_some}

pub or_true : (a b : Bool) → a || b ≡ true → (a ≡ true) ⊎ (b ≡ true)
or_true true b h = inl refl
or_true false b h = inr h

pub true_or : (a b : Bool) → b ≡ true → a || b ≡ true
true_or true b h = refl
true_or false b h = h

-- ---- members

pub data In {A : Type 0} (a : A) : List A → Type 0 where
  first : {l : List A} → In a (a ∷ l)
  later : {b : A} {l : List A} → In a l → In a (b ∷ l)

module _ {A : Type 0} where
  pub in_none : {a : A} {P : Type 0} → In a [] → P
  in_none i = elim i [ ]

  pub none_in : (l : List A) → ((a : A) → In a l → ⊥) → l ≡ []
  none_in [] h = refl
  none_in (a ∷ l) h = absurd (h a first)

  pub in_cons : {a b : A} {l : List A} → In a (b ∷ l) → (a ≡ b) ⊎ In a l
  in_cons first = inl refl
  in_cons (later i) = inr i

  pub in_one : {a b : A} → In a (b ∷ []) → a ≡ b
  in_one first = refl
  in_one (later i) = in_none i

  pub in_append : (k l : List A) {a : A} → In a (k ++ l) → In a k ⊎ In a l
  in_append [] l i = inr i
  in_append (b ∷ k) l first = inl first
  in_append (b ∷ k) l (later i) = ⊎_elim (λ j. inl (later j)) (λ j. inr j) (in_append k l i)

  pub in_left : (k l : List A) {a : A} → In a k → In a (k ++ l)
  in_left [] l i = elim i [ ]
  in_left (b ∷ k) l first = first
  in_left (b ∷ k) l (later i) = later (in_left k l i)

  pub in_right : (k l : List A) {a : A} → In a l → In a (k ++ l)
  in_right [] l i = i
  in_right (b ∷ k) l i = later (in_right k l i)

  -- a test that one passes, and one that all pass
  pub any_in : (p : A → Bool) (l : List A) → any p l ≡ true → (a : A) × In a l × (p a ≡ true)
  unfolding any
  any_in p [] h = absurd (both false h refl)
  any_in p (b ∷ l) h =
      split (p b) (λ t. (b, first, t))
      (λ f. let r = any_in p l (rw f at h) in (r.0, later r.1, r.2))

  pub in_any : (p : A → Bool) (l : List A) {a : A} → In a l → p a ≡ true → any p l ≡ true
  unfolding any
  in_any p [] i h = in_none i
  in_any p (b ∷ l) first h = rw h
  in_any p (b ∷ l) (later i) h = split (p b) (λ t. rw t) (λ f. rw f (in_any p l i h))

  pub all_in : (p : A → Bool) (l : List A) {a : A} → all p l ≡ true → In a l → p a ≡ true
  unfolding all
  all_in p [] h i = in_none i
  all_in p (b ∷ l) h first = (and_true (p b) (all p l) h).0
  all_in p (b ∷ l) h (later i) = all_in p l (and_true (p b) (all p l) h).1 i

  pub in_all : (p : A → Bool) (l : List A) → ((a : A) → In a l → p a ≡ true) → all p l ≡ true
  unfolding all
  in_all p [] h = refl
  in_all p (b ∷ l) h = true_and (p b) (all p l) (h b first) (in_all p l (λ a i. h a (later i)))

  pub find_in : (p : A → Bool) (l : List A) {a : A} → find p l ≡ Some a → In a l
  unfolding find
  find_in p [] {a} h = absurd (none_some {a = a} refl h)
  find_in p (b ∷ l) {a} h = split (p b) (λ t. let e : b ≡ a = cc (rw t at h) in rw e first) (λ f. later (find_in p l (rw f at h)))

  pub in_found : (p : A → Bool) (l : List A) {a : A} → In a l → p a ≡ true → is_some (find p l) ≡ true
  unfolding find
  in_found p [] i h = elim i [ ]
  in_found p (b ∷ l) first h = rw h
  in_found p (b ∷ l) (later i) h = split (p b) (λ t. rw t) (λ f. rw f (in_found p l i h))

  pub none_found : (p : A → Bool) (l : List A) → ((a : A) → In a l → p a ≡ false) → find p l ≡ None
  unfolding find
  none_found p [] h = refl
  none_found p (b ∷ l) h = rw (h b first) (none_found p l (λ a i. h a (later i)))

  -- what an alteration leaves
  pub of_alter : (q : A → Bool) (f : A → List A) (l : List A) {a : A} → In a (alter q f l) → In a l ⊎ ((b : A) × In b l × (q b ≡ true) × In a (f b))
  unfolding alter
  of_alter q f [] i = inl i
  of_alter q f (b ∷ l) {a} i = go (q b) refl i (λ j. of_alter q f l j)
    where
      go : (t : Bool) → q b ≡ t → In a (cond t (f b ++ l) (b ∷ alter q f l))
          → (In a (alter q f l) → In a l ⊎ ((c : A) × In c l × (q c ≡ true) × In a (f c)))
          → In a (b ∷ l) ⊎ ((c : A) × In c (b ∷ l) × (q c ≡ true) × In a (f c))
      go true e j r = ⊎_elim (λ k. inr (b, first, e, k)) (λ k. inl (later k)) (in_append (f b) l j)
      go false e j r =
          ⊎_elim (λ k. inl (rw k first))
          (λ k. ⊎_elim (λ n. inl (later n)) (λ w. inr (w.0, later w.1, w.2, w.3)) (r k))
          (in_cons j)

  -- ---- cells

  from_suc : (p : ℕ → A → Bool) (i : ℕ) (l : List A) → all_from (suc i) p l ≡ all_from i (λ j. p (suc j)) l
  unfolding all_from
  from_suc p i [] = refl
  from_suc p i (x ∷ l) = rw (from_suc p (suc i) l)

  -- each cell, also one that is not there
  pub from_cell : (p : ℕ → A → Bool) (l : List A) (d : A) → all_from 0 p l ≡ true → ((j : ℕ) → p j d ≡ true) → (j : ℕ) → p j (get_or l j d) ≡ true
  unfolding all_from
  from_cell p [] d h z j = z j
  from_cell p (x ∷ l) d h z zero = (and_true (p 0 x) (all_from 1 p l) h).0
  from_cell p (x ∷ l) d h z (suc j) =
      from_cell (λ n. p (suc n)) l d (sym (from_suc p 0 l) ∙ (and_true (p 0 x) (all_from 1 p l) h).1) (λ n. z (suc n)) j

  pub cell_from : (p : ℕ → A → Bool) (l : List A) (d : A) → ((j : ℕ) → p j (get_or l j d) ≡ true) → all_from 0 p l ≡ true
  unfolding all_from
  cell_from p [] d h = refl
  cell_from p (x ∷ l) d h =
      true_and (p 0 x) (all_from 1 p l) (h 0) (from_suc p 0 l ∙ cell_from (λ n. p (suc n)) l d (λ j. h (suc j)))

  pub all_is_from : (p : A → Bool) (i : ℕ) (l : List A) → all p l ≡ all_from i (λ _ x. p x) l
  unfolding all all_from
  all_is_from p i [] = refl
  all_is_from p i (x ∷ l) = rw (all_is_from p (suc i) l)

  -- two tests of each cell are one
  pub both_from : (p q : ℕ → A → Bool) (i : ℕ) (l : List A) → (all_from i p l && all_from i q l) ≡ all_from i (λ j x. p j x && q j x) l
  unfolding all_from
  both_from p q i [] = refl
  both_from p q i (x ∷ l) = and_four (p i x) (q i x) (all_from (suc i) p l) (all_from (suc i) q l) ∙ ap (p i x && q i x &&◌) (both_from p q (suc i) l)

  pub all_cell : (p : A → Bool) (l : List A) (d : A) → all p l ≡ true → p d ≡ true → (j : ℕ) → p (get_or l j d) ≡ true
  all_cell p l d h z j = from_cell (λ _ x. p x) l d (sym (all_is_from p 0 l) ∙ h) (λ _. z) j

  pub cell_all : (p : A → Bool) (l : List A) (d : A) → ((j : ℕ) → p (get_or l j d) ≡ true) → all p l ≡ true
  cell_all p l d h = all_is_from p 0 l ∙ cell_from (λ _ x. p x) l d h

  -- a cell is a member, and one of the first n a member of those
  pub cell_in : (l : List A) (d : A) (i : ℕ) → i < length l → In (get_or l i d) l
  cell_in [] d i h = absurd (omega arith)
  cell_in (x ∷ l) d zero h = first
  cell_in (x ∷ l) d (suc i) h = later (cell_in l d i (omega arith))

  pub cell_in_take : (l : List A) (d : A) (n i : ℕ) → i < n → i < length l → In (get_or l i d) (take n l)
  cell_in_take l d zero i h k = absurd (omega arith)
  cell_in_take [] d (suc n) i h k = absurd (omega arith)
  cell_in_take (x ∷ l) d (suc n) zero h k = first
  cell_in_take (x ∷ l) d (suc n) (suc i) h k = later (cell_in_take l d n i (omega arith) (omega arith))

  pub in_take_cell : (l : List A) (d : A) (n : ℕ) {a : A} → In a (take n l) → (i : ℕ) × (i < n) × (a ≡ get_or l i d)
  in_take_cell l d zero i = in_none i
  in_take_cell [] d (suc n) i = in_none i
  in_take_cell (x ∷ l) d (suc n) first = (0, omega arith, refl)
  in_take_cell (x ∷ l) d (suc n) (later i) = let r = in_take_cell l d n i in (suc r.0, omega (arith, r.1), r.2)

  -- ---- one cell changed

  pub length_modify : (l : List A) (i : ℕ) (f : A → A) → length (modify l i f) ≡ length l
  unfolding modify
  length_modify [] i f = refl
  length_modify (x ∷ l) zero f = refl
  length_modify (x ∷ l) (suc i) f = ap suc (length_modify l i f)

  -- what f keeps in cell i is kept in every cell
  pub modify_every : (Q : ℕ → A → Type 0) (l : List A) (i : ℕ) (f : A → A) (d : A) → (Q i (get_or l i d) → Q i (f (get_or l i d))) → ((j : ℕ) → Q j (get_or l j d)) → (j : ℕ) → Q j (get_or (modify l i f) j d)
  unfolding modify
  modify_every Q [] i f d k h j = h j
  modify_every Q (x ∷ l) zero f d k h zero = k (h zero)
  modify_every Q (x ∷ l) zero f d k h (suc j) = h (suc j)
  modify_every Q (x ∷ l) (suc i) f d k h zero = h zero
  modify_every Q (x ∷ l) (suc i) f d k h (suc j) = modify_every (λ n. Q (suc n)) l i f d k (λ n. h (suc n)) j

  pub modify_here : (l : List A) (i : ℕ) (f : A → A) (d : A) → i < length l → get_or (modify l i f) i d ≡ f (get_or l i d)
  unfolding modify
  modify_here [] i f d h = absurd (omega arith)
  modify_here (x ∷ l) zero f d h = refl
  modify_here (x ∷ l) (suc i) f d h = modify_here l i f d (omega arith)

  -- a cell that is not there is no exception where f leaves the default
  pub modify_any : (l : List A) (i : ℕ) (f : A → A) (d : A) → f d ≡ d → get_or (modify l i f) i d ≡ f (get_or l i d)
  unfolding modify
  modify_any [] i f d h = sym h
  modify_any (x ∷ l) zero f d h = refl
  modify_any (x ∷ l) (suc i) f d h = modify_any l i f d h

  pub none_altered : (q : A → Bool) (f : A → List A) → alter q f [] ≡ []
  unfolding alter
  none_altered q f = refl

-- ---- mapped

module _ {A B : Type 0} (f : A → B) where
  pub map_append : (l m : List A) → map f (l ++ m) ≡ map f l ++ map f m
  map_append [] m = refl
  map_append (a ∷ l) m = ap (f a ∷◌) (map_append l m)

  pub in_map : {a : A} {l : List A} → In a l → In (f a) (map f l)
  in_map first = first
  in_map (later i) = later (in_map i)

  pub of_map : (l : List A) {b : B} → In b (map f l) → (a : A) × In a l × (b ≡ f a)
  of_map [] i = in_none i
  of_map (a ∷ l) first = (a, first, refl)
  of_map (a ∷ l) (later i) = let r = of_map l i in (r.0, later r.1, r.2)

  pub from_map : (p : ℕ → B → Bool) (i : ℕ) (l : List A) → all_from i p (map f l) ≡ all_from i (λ j a. p j (f a)) l
  unfolding all_from
  from_map p i [] = refl
  from_map p i (a ∷ l) = rw (from_map p (suc i) l)

  pub all_map : (p : B → Bool) (l : List A) → all p (map f l) ≡ all (λ a. p (f a)) l
  unfolding all
  all_map p [] = refl
  all_map p (a ∷ l) = rw (all_map p l)

  -- there and back
  pub map_back : (g : B → A) (l : List A) (d : A) → ((i : ℕ) → i < length l → g (f (get_or l i d)) ≡ get_or l i d) → map g (map f l) ≡ l
  map_back g [] d h = refl
  map_back g (a ∷ l) d h = rw (h 0 (omega arith), map_back g l d (λ i k. h (suc i) (omega arith)))

  pub cell_map : (l : List A) (i : ℕ) (d : A) (e : B) → i < length l → get_or (map f l) i e ≡ f (get_or l i d)
  cell_map [] i d e h = absurd (omega arith)
  cell_map (a ∷ l) zero d e h = refl
  cell_map (a ∷ l) (suc i) d e h = cell_map l i d e (omega arith)
