-- A list filled up to n places with z, under a removal that fills the last place, under an addition, and tested for z behind its end.
-- The list and its filling are one list by ++, and what happens before the seam does not touch what stands behind it.
use Prim.Native.Nat.{ℕ, zero, suc, ◌+◌, ◌-◌, ◌<◌, ◌≤◌}
use native.Mathlib.Numerals.{add-one}
use native.Mathlib.Omega.{arith}
use mathlib.Core.Path.{◌≡◌, refl, ap, ◌∙◌}
use mathlib.Core.Bool.{Bool, true}
use mathlib.Core.List.{List, [], ◌∷◌, ◌++◌, append_assoc}
use lib.ListN.{length, get_or, take, drop, set, replicate, length-append, length-take, length-drop, length-set, replicate-append-replicate, drop_of_length-le}
use lib.Seq.{drop-cons, take-suc-set, drop-set-lt, set_split, take-append-le, drop-append-le, set-append_seam, set-append_left}
use Rattle.base.specs.Lists.{all}
use Rattle.base.proofs.Logic.{and_true}

module _ {A : Type 0} where
  abbrev pub pad : A → ℕ → List A → List A
  pad z n l = l ++ replicate (n - length l) z

  -- the element at i leaves, those behind it move up, and z comes in at the end
  abbrev pub close_gap : A → ℕ → List A → List A
  close_gap z i l = take i l ++ (drop (suc i) l ++ (z ∷ []))

  abbrev pub without : ℕ → List A → List A
  without i l = take i l ++ drop (suc i) l

  -- in a loop that moves them up the gap goes one place on, and at the last place it is filled
  pub gap_on : (z d : A) (l : List A) (i : ℕ) → i + 1 < length l → close_gap z (i + 1) (set l i (get_or l (i + 1) d)) ≡ close_gap z i l
  gap_on z d l i h =
      let a : i < length l = omega arith in
      let b : suc i < length l = omega arith in
      let e : i < suc (suc i) = omega arith in
      rw (add-one, take-suc-set, drop-set-lt, append_assoc, drop-cons l (suc i) d)

  pub gap_end : (z : A) (l : List A) (i : ℕ) → i + 1 ≡ length l → set l i z ≡ close_gap z i l
  gap_end z l i h =
      let a : i < length l = omega arith in
      let b : length l ≤ suc i = omega arith in
      rw (set_split, drop_of_length-le)

  pub length_without : (l : List A) (i : ℕ) → i < length l → length (without i l) ≡ length l - 1
  length_without l i h = simp (length-append, length-take, length-drop) (omega arith)

  pub gap_pad : (z : A) (n : ℕ) (l : List A) (i : ℕ) → i < length l → length l ≤ n → close_gap z i (pad z n l) ≡ pad z n (without i l)
  gap_pad z n l i h k =
      let a : i ≤ length l = omega arith in
      let b : suc i ≤ length l = omega arith in
      let e : n - length (without i l) ≡ (n - length l) + 1 = rw length_without (omega arith) in
      rw (take-append-le, drop-append-le, e, ← replicate-append-replicate) (simp append_assoc)

  pub add_pad : (z : A) (n : ℕ) (l : List A) (x : A) → length l < n → set (pad z n l) (length l) x ≡ pad z n (l ++ (x ∷ []))
  add_pad z n l x h =
      let s : n - length l ≡ suc (n - (length l + 1)) = omega arith in
      rw (s, set-append_seam, length-append, append_assoc)

  pub set_pad : (z : A) (n : ℕ) (l : List A) (i : ℕ) (x : A) → i < length l → set (pad z n l) i x ≡ pad z n (set l i x)
  set_pad z n l i x h = rw (set-append_left, length-set)

  -- what is all z is a filling, and a filling is all z
  pub all_filled : (p : A → Bool) (z : A) → ((x : A) → p x ≡ true → x ≡ z) → (l : List A) → all p l ≡ true → l ≡ replicate (length l) z
  unfolding all
  all_filled p z only [] h = refl
  all_filled p z only (x ∷ l) h =
      let r = and_true (p x) (all p l) h in
      ap (◌∷ l) (only x r.0) ∙ ap (z ∷◌) (all_filled p z only l r.1)

  pub filled_all : (p : A → Bool) (z : A) → p z ≡ true → (n : ℕ) → all p (replicate n z) ≡ true
  unfolding all
  filled_all p z h zero = refl
  filled_all p z h (suc n) = rw h (filled_all p z h n)
