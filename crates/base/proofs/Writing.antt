-- Writing: a list filled place by place, two runs of stores one behind the other, and the parts of a list, each by its place.
-- The idea: what is done so far and what is left to do make up the whole, at every turn; and a part is a drop and a take.
use Prim.Native.Nat.{ℕ, zero, suc, ◌+◌, ◌*◌, ◌<◌, ◌≤◌}
use mathlib.Core.Path.{◌≡◌, refl, ap, ◌∙◌}
use mathlib.Core.List.{List, [], ◌∷◌, ◌++◌, append-nil}
use native.Mathlib.Numerals.{add-one}
use native.Mathlib.Omega.{arith}
use lib.ListN.{length, get_or, take, drop, set}
use lib.Seq.{take_all, take-suc-set, append_snoc, drop-drop, sets}
use Rattle.base.specs.Lists.{parts}

module _ {A : Type 0} where
  -- the first i places are filled: one more
  pub filled_on : (r : List A) (i : ℕ) (v : A) (rest : List A) → i < length r → take (i + 1) (set r i v) ++ rest ≡ take i r ++ (v ∷ rest)
  filled_on r i v rest h = rw (add-one, take-suc-set, append_snoc)

  -- and all of them
  pub filled : (r : List A) (i : ℕ) {rest : List A} → length r ≤ i → rest ≡ [] → take i r ++ rest ≡ r
  filled r i h e = rw (e, append-nil, take_all)

  -- two runs of stores, the second behind the first, are one
  pub sets_on : (o : List A) (at : ℕ) (xs ys : List A) → sets (sets o at xs) (at + length xs) ys ≡ sets o at (xs ++ ys)
  sets_on o at [] ys = let e : at + 0 ≡ at = omega arith in rw e
  sets_on o at (x ∷ xs) ys =
      let e : at + suc (length xs) ≡ suc at + length xs = omega arith in
      rw e (sets_on (set o at x) (suc at) xs ys)

  pub length_parts : (k n : ℕ) (l : List A) → length (parts k n l) ≡ k
  unfolding parts
  length_parts zero n l = refl
  length_parts (suc k) n l = ap suc (length_parts k n (drop n l))

  -- part i of parts of n each
  pub part_at : (k n : ℕ) (l : List A) (i : ℕ) → i < k → get_or (parts k n l) i [] ≡ take n (drop (n * i) l)
  unfolding parts
  part_at zero n l i h = absurd (omega arith)
  part_at (suc k) n l zero h = let e : n * 0 ≡ 0 = omega arith in rw e
  part_at (suc k) n l (suc i) h =
      let e : n + n * i ≡ n * suc i = omega arith in
      part_at k n (drop n l) i (omega arith) ∙ rw (drop-drop, e)
