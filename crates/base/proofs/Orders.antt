-- A list in another order holds the same elements, each as often; what is said of each element, or of any two, is then said there too.
-- An order is made by turning neighbours about; where sameness is tested, equal counts say which neighbours to turn.
use Prim.Native.Nat.{ℕ, zero, suc, ◌<◌}
use mathlib.Core.Path.{◌≡◌, refl, sym, ap, subst, ◌∙◌}
use mathlib.Core.Bool.{Bool, true}
use mathlib.Core.List.{List, [], ◌∷◌, ◌++◌, map}
use native.Mathlib.Omega.{arith}
use lib.ListN.{length, get_or}
use Rattle.base.specs.Lists.{alter, count}
use Rattle.base.proofs.Logic.{split}

-- ---- each element, and any two

-- P of each element
abbrev pub All : {A : Type 0} → (A → Type 0) → List A → Type 0
All P [] = Unit {0}
All P (a ∷ l) = P a × All P l

-- R of any two: of each element and every later one
abbrev pub Pairwise : {A : Type 0} → (A → A → Type 0) → List A → Type 0
Pairwise R [] = Unit {0}
Pairwise R (a ∷ l) = All (R a) l × Pairwise R l

module _ {A : Type 0} where
  pub all_map : (P Q : A → Type 0) (l : List A) → ((a : A) → P a → Q a) → All P l → All Q l
  all_map P Q [] f h = tt
  all_map P Q (a ∷ l) f h = (f a h.0, all_map P Q l f h.1)

  pub all_both : (P Q S : A → Type 0) (l : List A) → ((a : A) → P a → Q a → S a) → All P l → All Q l → All S l
  all_both P Q S [] f h k = tt
  all_both P Q S (a ∷ l) f h k = (f a h.0 k.0, all_both P Q S l f h.1 k.1)

  pub all_append : (P : A → Type 0) (l m : List A) → All P l → All P m → All P (l ++ m)
  all_append P [] m h k = k
  all_append P (a ∷ l) m h k = (h.0, all_append P l m h.1 k)

  pub all_parts : (P : A → Type 0) (l m : List A) → All P (l ++ m) → All P l × All P m
  all_parts P [] m h = (tt, h)
  all_parts P (a ∷ l) m h = let r = all_parts P l m h.1 in ((h.0, r.0), r.1)

  -- by their places; d is read where there is none
  pub all_at : (P : A → Type 0) (d : A) (l : List A) → All P l → (i : ℕ) → i < length l → P (get_or l i d)
  all_at P d [] h i k = absurd (omega arith)
  all_at P d (a ∷ l) h zero k = h.0
  all_at P d (a ∷ l) h (suc i) k = all_at P d l h.1 i (omega arith)

  pub at_all : (P : A → Type 0) (d : A) (l : List A) → ((i : ℕ) → i < length l → P (get_or l i d)) → All P l
  at_all P d [] h = tt
  at_all P d (a ∷ l) h = (h zero (omega arith), at_all P d l (λ i k. h (suc i) (omega arith)))

-- ---- orders

pub data Order {A : Type 0} : List A → List A → Type 0 where
  done : Order [] []
  keep : {a : A} {l m : List A} → Order l m → Order (a ∷ l) (a ∷ m)
  turn : {a b : A} {l : List A} → Order (a ∷ b ∷ l) (b ∷ a ∷ l)
  then : {l m n : List A} → Order l m → Order m n → Order l n

-- two lists that are one begin with one, and go on alike
no_first : {A : Type 0} {a : A} {l : List A} → ◌≡◌ {A = List A} [] (a ∷ l) → ⊥
no_first e = let z : ◌≡◌ {A = ℕ} 0 1 = cc in omega arith

first_is : {A : Type 0} {a b : A} {l m : List A} → a ∷ l ≡ b ∷ m → a ≡ b
first_is e = cc

rest_is : {A : Type 0} {a b : A} {l m : List A} → a ∷ l ≡ b ∷ m → l ≡ m
rest_is e = cc

module _ {A : Type 0} where
  pub order_back : {l m : List A} → Order l m → Order m l
  order_back done = done
  order_back (keep o) = keep (order_back o)
  order_back turn = turn
  order_back (then o p) = then (order_back p) (order_back o)

  pub as_listed : (l : List A) → Order l l
  as_listed [] = done
  as_listed (a ∷ l) = keep (as_listed l)

  pub all_order : (P : A → Type 0) {l m : List A} → Order l m → All P l → All P m
  all_order P done h = h
  all_order P (keep o) h = (h.0, all_order P o h.1)
  all_order P turn h = (h.1.0, (h.0, h.1.1))
  all_order P (then o p) h = all_order P p (all_order P o h)

  pub pairwise_order : (R : A → A → Type 0) → ((a b : A) → R a b → R b a) → {l m : List A} → Order l m → Pairwise R l → Pairwise R m
  pairwise_order R s done h = h
  pairwise_order R s (keep {a = a} o) h = (all_order (R a) o h.0, pairwise_order R s o h.1)
  pairwise_order R s (turn {a = a} {b = b}) h = ((s a b h.0.0, h.1.0), (h.0.1, h.1.1))
  pairwise_order R s (then o p) h = pairwise_order R s p (pairwise_order R s o h)

  pub order_length : {l m : List A} → Order l m → length l ≡ length m
  order_length done = refl
  order_length (keep o) = ap suc (order_length o)
  order_length turn = refl
  order_length (then o p) = order_length o ∙ order_length p

  pub order_map : {B : Type 0} (f : A → B) {l m : List A} → Order l m → Order (map f l) (map f m)
  order_map f done = done
  order_map f (keep o) = keep (order_map f o)
  order_map f turn = turn
  order_map f (then o p) = then (order_map f o) (order_map f p)

  -- an order of what f makes is made of an order
  pub order_unmap : {B : Type 0} (f : A → B) {l m : List B} → Order l m → (k : List A) → l ≡ map f k → (n : List A) × (m ≡ map f n) × Order k n
  order_unmap f done [] e = ([], refl, done)
  order_unmap f done (a ∷ k) e = absurd (no_first e)
  order_unmap f (keep o) [] e = absurd (no_first (sym e))
  order_unmap f (keep o) (a ∷ k) e =
      let r = order_unmap f o k (rest_is e) in
      (a ∷ r.0, (λ i. first_is e i ∷ r.1 i), keep r.2)
  order_unmap f turn [] e = absurd (no_first (sym e))
  order_unmap f turn (a ∷ []) e = absurd (no_first (sym (rest_is e)))
  order_unmap f turn (a ∷ b ∷ k) e = (b ∷ a ∷ k, (λ i. first_is (rest_is e) i ∷ first_is e i ∷ rest_is (rest_is e) i), turn)
  order_unmap f (then o p) k e =
      let r = order_unmap f o k e in
      let q = order_unmap f p r.0 r.1 in
      (q.0, q.1, then r.2 q.2)

  -- an order holds each element as often
  pub count_order : (p : A → Bool) {l m : List A} → Order l m → count p l ≡ count p m
  unfolding count
  count_order p done = refl
  count_order p (keep {a = a} o) = split (p a) (λ t. rw t (ap suc (count_order p o))) (λ f. rw f (count_order p o))
  count_order p (turn {a = a} {b = b}) =
      split (p a) (λ t. split (p b) (λ u. simp (t, u)) (λ u. simp (t, u))) (λ t. split (p b) (λ u. simp (t, u)) (λ u. simp (t, u)))
  count_order p (then o q) = count_order p o ∙ count_order p q

  -- ---- and where each is held as often, it is an order

  module _ (same : A → A → Bool) (same-is : (a b : A) → same a b ≡ true → a ≡ b) (same_one : (a : A) → same a a ≡ true) where
    -- one that is there comes first
    to_front : (a : A) (l : List A) → 0 < count (same a) l → Order l (a ∷ alter (same a) (λ _. []) l)
    unfolding count alter
    to_front a [] h = absurd (omega arith)
    to_front a (b ∷ l) h =
        split (same a b)
        (λ t. rw t (subst (λ (c : A). Order (b ∷ l) (c ∷ l)) (sym (same-is a b t)) (as_listed (b ∷ l))))
        (λ f. rw f (then (keep (to_front a l (rw f at h))) turn))

    -- what counts alike behind one and the same counts alike
    behind : (p : A → Bool) (a : A) (l m : List A) → count p (a ∷ l) ≡ count p (a ∷ m) → count p l ≡ count p m
    unfolding count
    behind p a l m h = split (p a) (λ t. omega (arith, rw t at h)) (λ f. rw f at h)

    here : (a : A) (l : List A) → 0 < count (same a) (a ∷ l)
    unfolding count
    here a l = rw (same_one a) (omega arith)

    not_none : (a : A) (l : List A) → count (same a) [] ≡ count (same a) (a ∷ l) → ⊥
    unfolding count
    not_none a l e = omega (arith, here a l)

    pub counted_is_order : (l m : List A) → ((a : A) → count (same a) l ≡ count (same a) m) → Order l m
    counted_is_order [] [] h = done
    counted_is_order [] (b ∷ m) h = absurd (not_none b m (h b))
    counted_is_order (a ∷ l) m h =
        let o = to_front a m (omega (arith, h a, here a l)) in
        then (keep (counted_is_order l (alter (same a) (λ _. []) m) (λ b. behind (same b) a l (alter (same a) (λ _. []) m) (h b ∙ count_order (same b) o)))) (order_back o)

-- ---- two lists side by side

-- each with what stands at its place in the other list; what has no partner is left out
abbrev pub paired : {A B : Type 0} → List A → List B → List (A × B)
paired [] m = []
paired (a ∷ l) [] = []
paired (a ∷ l) (b ∷ m) = (a, b) ∷ paired l m

pub paired_map : {A B : Type 0} (f : A → B) (l : List A) (rest : List B) → paired l (map f l ++ rest) ≡ map (λ a. (a, f a)) l
paired_map f [] rest = refl
paired_map f (a ∷ l) rest = ap ((a, f a) ∷◌) (paired_map f l rest)
