-- A place that is found: it lies in the list, to alter the first that passes is to alter what stands there, and to look for it
-- is to see what stands there and whether a P stands before it.
-- By going down the list: those before the place do not pass, and what stands there does.
use Prim.Native.Nat.{ℕ, zero, suc, ◌<◌}
use native.Mathlib.Omega.{arith}
use mathlib.Core.Path.{◌≡◌, refl, ap, ◌∙◌}
use mathlib.Core.Bool.{Bool, true, false}
use mathlib.Core.List.{List, [], ◌∷◌, ◌++◌}
use borrow.Author.Tests.{ltb-false}
use lib.Dec.{ltb}
use lib.ListN.{length, get_or, take, drop, length-take}
use Rattle.std.specs.Prelude.{None, Some, position}
use Rattle.std.specs.List.{position_or_len}
use Rattle.std.proofs.lemmas.List.Quantifiers.{position-Some}
use Rattle.std.proofs.lemmas.List.Sums.{fails_before_first}
use Rattle.base.specs.Lists.{alter, find, any}
use Rattle.base.proofs.Logic.{split, none_some}
use Rattle.queue.specs.declared.Transaction.{Transaction}
use Rattle.queue.specs.declared.Entry.{Entry}
use Rattle.queue.specs.declared.Channel.{Channel}
use Rattle.queue.specs.Entries.{P, is_kind, is_named, matches, zero_entry}
use Rattle.queue.specs.Queues.{behind_P}
use Rattle.queue.specs.Packing.{live, channel_places}
use Rattle.queue.specs.code.Changes.{look_by, look_of}
use Rattle.queue.specs.code.Methods.{place_of, place_of_matching}
use Rattle.queue.proofs.Plainly.{behind_P_here, behind_P_past}

abbrev nth : List Entry → ℕ → Entry
nth l i = get_or l i zero_entry

module _ (p : Entry → Bool) where
  -- none of the first n passes, and the first that passes stands at place i
  abbrev None_before : List Entry → ℕ → Type 0
  None_before l n = (k : ℕ) → k < n → p (nth l k) ≡ false

  abbrev pub First : List Entry → ℕ → Type 0
  First l i = (i < length l) × (p (nth l i) ≡ true) × None_before l i

  pub first_at : (l : List Entry) {i : ℕ} → position p l ≡ Some i → First l i
  first_at l {i} e = position-Some p l i zero_entry e

  pub none_at : (l : List Entry) → position p l ≡ None → None_before l (length l)
  none_at l e k h =
      split (ltb (position_or_len p l) (length l))
      (λ t. absurd (none_some {a = position_or_len p l} e (rw t)))
      (λ f. let b = ltb-false _ _ f in fails_before_first p l k zero_entry (omega arith))

  onward : (x : Entry) (l : List Entry) (n : ℕ) → None_before (x ∷ l) (suc n) → None_before l n
  onward x l n h k b = h (suc k) (omega arith)

  -- ---- what is altered

  pub placed : (f : Entry → List Entry) (l : List Entry) (i : ℕ) → First l i → alter p f l ≡ take i l ++ (f (nth l i) ++ drop (suc i) l)
  unfolding alter
  placed f [] i h = absurd (omega arith)
  placed f (x ∷ l) zero h = rw h.1
  placed f (x ∷ l) (suc i) h = rw (h.2 0 (omega arith)) (ap (x ∷◌) (placed f l i (omega arith, h.1, onward x l i h.2)))

  pub not_placed : (f : Entry → List Entry) (l : List Entry) → None_before l (length l) → alter p f l ≡ l
  unfolding alter
  not_placed f [] h = refl
  not_placed f (x ∷ l) h = rw (h 0 (omega arith)) (ap (x ∷◌) (not_placed f l (onward x l (length l) h)))

  -- ---- what is seen

  finds : (l : List Entry) (i : ℕ) → First l i → find p l ≡ Some (nth l i)
  unfolding find
  finds [] i h = absurd (omega arith)
  finds (x ∷ l) zero h = rw h.1
  finds (x ∷ l) (suc i) h = rw (h.2 0 (omega arith)) (finds l i (omega arith, h.1, onward x l i h.2))

  older_P : (l : List Entry) (i : ℕ) → First l i → behind_P p l ≡ any (is_kind P) (take i l)
  unfolding any
  older_P [] i h = absurd (omega arith)
  older_P (x ∷ l) zero h = behind_P_here p x l h.1
  older_P (x ∷ l) (suc i) h =
      let past = behind_P_past p x l (h.2 0 (omega arith)) in
      let rest : First l i = (omega arith, h.1, onward x l i h.2) in
      split (is_kind P x) (λ y. past ∙ rw (y, finds l i rest)) (λ n. past ∙ rw n (older_P l i rest))

  pub seen : (l : List Entry) (i : ℕ) → First l i → look_by p l ≡ Some (record { behind = any (is_kind P) (take i l); entry = nth l i })
  seen l i h = rw (finds l i h, older_P l i h)

  none_found : (l : List Entry) → None_before l (length l) → find p l ≡ None
  unfolding find
  none_found [] h = refl
  none_found (x ∷ l) h = rw (h 0 (omega arith)) (none_found l (onward x l (length l) h))

  pub not_seen : (l : List Entry) → None_before l (length l) → look_by p l ≡ None
  not_seen l h = rw (none_found l h)

-- the same of a place that `found` told
module _ (k : ℕ) (t : Transaction) (c : Channel) where
  pub found_inside : {i : ℕ} → place_of k t c ≡ Some i → i < length (live c)
  unfolding place_of
  found_inside h = (first_at (is_named k t) (live c) h).0

  pub older_are : {i : ℕ} (l : List Entry) → l ≡ live c → place_of k t c ≡ Some i → i ≡ length (take i l)
  older_are l e h = let b = found_inside h in rw (e, length-take) (omega arith)

  pub look_there : {i : ℕ} → place_of k t c ≡ Some i → look_of k t (live c) ≡ Some (record { behind = any (is_kind P) (take i (live c)); entry = get_or (live c) i zero_entry })
  unfolding place_of look_of
  look_there {i} h = seen (is_named k t) (live c) i (first_at (is_named k t) (live c) h)

  pub look_nowhere : place_of k t c ≡ None → look_of k t (live c) ≡ None
  unfolding place_of look_of
  look_nowhere h = not_seen (is_named k t) (live c) (none_at (is_named k t) (live c) h)

-- and in a channel with its places it is one of them
pub live_bound : (c : Channel) {i : ℕ} → length c.entries ≡ channel_places → i < length (live c) → i < channel_places
live_bound c long h = let b = simp length-take at h in omega (arith, b)

pub found_bound : (k : ℕ) (t : Transaction) (c : Channel) {i : ℕ} → length c.entries ≡ channel_places → place_of k t c ≡ Some i → i < channel_places
found_bound k t c long h = live_bound c long (found_inside k t c h)

pub matching_bound : (k : ℕ) (r : Entry) (c : Channel) {i : ℕ} → length c.entries ≡ channel_places → place_of_matching k r c ≡ Some i → i < channel_places
unfolding place_of_matching
matching_bound k r c long h = live_bound c long (first_at (matches k r) (live c) h).0
