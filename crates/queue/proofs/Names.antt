-- The entries of one transaction, of whatever kind, and of two: what is named is among them, and gives way to its own.
-- A test of the transaction is true of its own entries and false of all others; where a P of one stands before those of the other, ground 9 holds these back.
use Prim.Native.Nat.{ℕ}
use mathlib.Core.Path.{◌≡◌, refl, sym, ap}
use mathlib.Core.Bool.{Bool, true, false, ◌||◌}
use mathlib.Core.List.{List, [], ◌∷◌}
use borrow.Author.Tests.{eq-eqb}
use Rattle.base.specs.Lists.{find, only}
use Rattle.base.proofs.Logic.{split, both, and_true, or_false}
use Rattle.base.proofs.Cells.{true_or}
use Rattle.base.proofs.Sifted.{cons_nil, only_one, find_only}
use Rattle.queue.specs.declared.Transaction.{Transaction}
use Rattle.queue.specs.declared.Entry.{Entry}
use Rattle.queue.specs.Entries.{P, is_kind, same_transaction, is_of, is_named, marked, gone, marking}
use Rattle.queue.specs.Queues.{stands, behind_P}
use Rattle.queue.proofs.Plainly.{same_is_one, behind_P_past}

-- ---- one transaction

pub one_is_same : {t u : Transaction} → t ≡ u → same_transaction t u ≡ true
one_is_same {t} {u} e =
    rw (eq-eqb t.master.0 u.master.0 (ap (λ (t : Transaction). t.master.0) e), eq-eqb t.number u.number (ap (λ (t : Transaction). t.number) e))

module _ (t : Transaction) (x : Entry) where
  pub of_another : (x.transaction ≡ t → ⊥) → is_of t x ≡ false
  of_another n = split (is_of t x) (λ h. absurd (n (same_is_one x.transaction t h))) (λ h. h)

  pub named_of : (k : ℕ) → is_named k t x ≡ true → is_of t x ≡ true
  unfolding is_named
  named_of k h = (and_true (is_kind k x) (is_of t x) h).1

  pub is_named_so : (k : ℕ) → x.kind ≡ k → x.transaction ≡ t → is_named k t x ≡ true
  unfolding is_named
  is_named_so k e f = rw (eq-eqb x.kind k e, one_is_same f)

  -- what it gives way to is its own
  pub own_gone : is_of t x ≡ true → only (is_of t) (gone x) ≡ gone x
  unfolding only
  own_gone h = refl

  pub own_marking : is_of t x ≡ true → only (is_of t) (marking x) ≡ marking x
  unfolding marked
  own_marking h = only_one (is_of t) (marked x) h

-- ---- two transactions

module _ (t u : Transaction) where
  abbrev pub is_either : Entry → Bool
  is_either x = is_of t x || is_of u x

  pub of_neither : (x : Entry) → (x.transaction ≡ t → ⊥) → (x.transaction ≡ u → ⊥) → is_either x ≡ false
  of_neither x n m = rw (of_another t x n, of_another u x m)

  pub of_second : (x : Entry) → is_of u x ≡ true → is_either x ≡ true
  of_second x h = true_or (is_of t x) (is_of u x) h

  -- who is behind a P is there
  behind_is_there : (k : ℕ) (l : List Entry) → behind_P (is_named k u) l ≡ true → stands k u l ≡ true
  unfolding behind_P
  behind_is_there k l h = (and_true (stands k u l) _ h).0

  last_stands : (k : ℕ) (y : Entry) → is_named k u y ≡ true → (l : List Entry) → only is_either l ≡ y ∷ [] → stands k u l ≡ true
  unfolding find
  last_stands k y m l h =
      rw (← find_only is_either (is_named k u) (λ x n. of_second x (named_of u x k n)) l, h, m)

  -- the P of t stands before that of u: ground 9 for u
  pub held_back : (x y : Entry) → is_kind P x ≡ true → is_named P u x ≡ false → is_named P u y ≡ true → (l : List Entry) → only is_either l ≡ x ∷ y ∷ [] → behind_P (is_named P u) l ≡ true
  unfolding only
  held_back x y k n m [] h = absurd (cons_nil (sym h))
  held_back x y k n m (z ∷ l) h =
      split (is_either z)
      (λ o.
      let e : z ≡ x = cc (rw o at h) in
      let r : only is_either l ≡ y ∷ [] = cc (rw o at h) in
      rw (e, behind_P_past (is_named P u) x l n, k) (last_stands P y m l r))
      (λ o.
      let q = split (is_named P u z) (λ y. absurd (both (is_of u z) (named_of u z P y) (or_false (is_of t z) (is_of u z) o).1)) (λ q. q) in
      let b = held_back x y k n m l (rw o at h) in
      split (is_kind P z) (λ y. rw (behind_P_past (is_named P u) z l q, y) (behind_is_there P l b)) (λ f. rw (behind_P_past (is_named P u) z l q, f) b))
