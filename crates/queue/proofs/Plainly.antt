-- The definitions of a channel, said plainly: what a name is, what stands before an entry, what fills a channel.
use Prim.Native.Nat.{ℕ}
use native.Mathlib.Numerals.{one-add}
use mathlib.Core.Path.{◌≡◌, refl, sym, ◌∙◌}
use mathlib.Core.Bool.{Bool, true, false, cond, not}
use mathlib.Core.Bool as bool
use mathlib.Core.List.{List, [], ◌∷◌, ◌++◌}
use borrow.Author.Tests.{eqb-true}
use lib.Dec.{eqb}
use Rattle.std.specs.Prelude.{None}
use Rattle.std.specs.List.{count_by}
use Rattle.std.proofs.lemmas.List.Recursion.{is_count_by}
use Rattle.base.specs.Lists.{find, count, any, is_some}
use Rattle.base.proofs.Logic.{split, and_true, or_false}
use Rattle.base.proofs.Lists.{is_none}
use Rattle.chassis.specs.Numbers.{same_agent}
use Rattle.queue.specs.declared.Transaction.{Transaction}
use Rattle.queue.specs.declared.Entry.{Entry}
use Rattle.queue.specs.Entries.{P, C, is_kind, same_transaction, is_named}
use Rattle.queue.specs.Queues.{behind_P, first_C, filling}
use Rattle.queue.specs.code.Changes.{look_by}

-- a transaction is its master and its number: no other master's, whatever the target
pub transaction_path : {t u : Transaction} → t.master.0 ≡ u.master.0 → t.number ≡ u.number → t ≡ u
transaction_path p q = λ i. record { master = record { 0 = p i }; number = q i }

pub same_is_one : (t u : Transaction) → same_transaction t u ≡ true → t ≡ u
same_is_one t u h =
    let r = and_true (same_agent t.master u.master) (eqb t.number u.number) h in
    transaction_path (eqb-true t.master.0 u.master.0 r.0) (eqb-true t.number u.number r.1)

pub named_is_its_own : (k : ℕ) (t : Transaction) (x : Entry) → is_named k t x ≡ true → (x.kind ≡ k) × (x.transaction ≡ t)
unfolding is_named
named_is_its_own k t x h =
    let r = and_true (is_kind k x) (same_transaction x.transaction t) h in
    (eqb-true x.kind k r.0, same_is_one x.transaction t r.1)

named_kind : (k : ℕ) (t : Transaction) (x : Entry) → is_named k t x ≡ true → is_kind k x ≡ true
unfolding is_named
named_kind k t x h = (and_true (is_kind k x) (same_transaction x.transaction t) h).0

-- 'not there' is told in one way
pub not_there_is_none : (p : Entry → Bool) (l : List Entry) → is_some (find p l) ≡ false → look_by p l ≡ None
not_there_is_none p l h = rw (is_none (find p l) h)

-- from the oldest on: one that does not pass, a P, holds the one that does back where it comes later; any other is passed over
module _ (p : Entry → Bool) (x : Entry) (l : List Entry) where
  pub behind_P_past : p x ≡ false → behind_P p (x ∷ l) ≡ cond (is_kind P x) (is_some (find p l)) (behind_P p l)
  unfolding behind_P find
  behind_P_past h = split (is_kind P x) (λ y. rw (y, h) (bool.and-true (is_some (find p l)))) (λ n. rw (n, h))

  pub behind_P_here : p x ≡ true → behind_P p (x ∷ l) ≡ false
  unfolding behind_P find
  behind_P_here h = split (is_kind P x) (λ y. simp (y, h)) (λ n. simp (n, h))

comes_later : (p : Entry → Bool) (us : List Entry) (x : Entry) (vs : List Entry) → p x ≡ true → is_some (find p (us ++ (x ∷ vs))) ≡ true
unfolding find
comes_later p [] x vs h = rw h
comes_later p (u ∷ us) x vs h = split (p u) (λ y. rw y) (λ y. rw y (comes_later p us x vs h))

-- x is the oldest that passes: an older P stands before it exactly where one of those before it is a P
pub behind_P_is : (p : Entry → Bool) (us : List Entry) (x : Entry) (vs : List Entry) → any p us ≡ false → p x ≡ true
    → behind_P p (us ++ (x ∷ vs)) ≡ any (is_kind P) us
unfolding any
behind_P_is p [] x vs n h = behind_P_here p x vs h
behind_P_is p (u ∷ us) x vs n h =
    let r = or_false (p u) (any p us) n in
    let past = behind_P_past p u (us ++ (x ∷ vs)) r.0 in
    split (is_kind P u) (λ y. past ∙ rw y (comes_later p us x vs h)) (λ y. past ∙ rw y (behind_P_is p us x vs r.1 h))

-- and a C is the oldest C exactly where none of those before it is one
pub first_C_is : (t : Transaction) (us : List Entry) (x : Entry) (vs : List Entry) → any (is_named C t) us ≡ false → is_named C t x ≡ true
    → first_C t (us ++ (x ∷ vs)) ≡ not (any (is_kind C) us)
unfolding first_C find any
first_C_is t [] x vs n h = rw (named_kind C t x h, h)
first_C_is t (u ∷ us) x vs n h =
    let r = or_false (is_named C t u) (any (is_named C t) us) n in
    split (is_kind C u) (λ y. rw (y, r.0)) (λ y. rw y (first_C_is t us x vs r.1 h))

-- how many there are of a kind, as the code counts them
pub counted : (p : Entry → Bool) (l : List Entry) {n : ℕ} → n ≡ count_by p l → n ≡ filling p l
unfolding count
counted p l e = e ∙ sym (is_count_by (filling p) p refl (λ x xs. rw one-add) l)
