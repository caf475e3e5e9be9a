-- A loop that walks over a list, or over its first n elements: one turn of it and its end; and the length of an array of structs.
-- What is left to walk over is drop i l, or drop i (take n l). A turn takes its first element off, and any fold of it computes by one step.
use Prim.Native.Nat.{ℕ, ◌+◌, ◌≤◌, ◌<◌}
use native.Mathlib.Omega.{arith}
use native.Mathlib.Numerals.{add-one}
use mathlib.Core.Path.{◌≡◌, sym, subst, ◌∙◌}
use mathlib.Core.List.{List, [], ◌∷◌, map}
use borrow.Author.Rules.{rules}
use lib.ListN.{length, get_or, take, drop, length-map, length-take, drop_of_length-le}
use lib.Seq.{drop-cons, get_or-take}

module _ {A : Type 0} where
  pub rest_on : (l : List A) (i : ℕ) (d : A) → i < length l → drop i l ≡ get_or l i d ∷ drop (i + 1) l
  rest_on l i d h = rw (add-one, drop-cons l i d)

  pub walk_on : (l : List A) (n i : ℕ) (d : A) → i < n → i < length l → drop i (take n l) ≡ get_or l i d ∷ drop (i + 1) (take n l)
  walk_on l n i d h k =
      let a : i < length (take n l) = simp length-take (omega arith) in
      rw (rest_on (take n l) i d, get_or-take)

  pub walk_over : (l : List A) (n i : ℕ) → length (take n l) ≤ i → drop i (take n l) ≡ []
  walk_over l n i h = rw drop_of_length-le

-- what owning an array of structs tells of its list: its length is known of the mapped list
pub length_mapped : (X Y : Type 0) (f : X → Y) (l : List X) (n : ℕ) → length (map f l) ≡ n → length l ≡ n
length_mapped X Y f l n p = sym (length-map l f) ∙ p

pub fits_mapped : (X Y : Type 0) (f : X → Y) (l : List X) (k n : ℕ) → length (map f l) ≡ n → k ≤ n → k ≤ length l
fits_mapped X Y f l k n p q = subst (λ (m : ℕ). k ≤ m) (sym (length_mapped X Y f l n p)) q

-- what `search` is handed where a need asks the length of an array of structs
pub ruleset owned = (rules, length_mapped, fits_mapped)
