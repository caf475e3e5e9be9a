-- Lists of any element type: the first that passes a test, its removal or change, all that pass, counts, one cell changed, equal parts.
use Rattle.std.specs.Prelude.{ℕ, zero, suc, List, [], ◌∷◌, ◌++◌, Bool, true, false, cond, ◌&&◌, take, drop, Option, None, Some}
use Rattle.std.specs.List as library

module _ {A : Type 0} where
  -- the first that passes p
  unfoldable pub find : (A → Bool) → List A → Option A
  find = library.find

  -- the first that passes p gives way to what f makes of it
  unfoldable pub alter : (A → Bool) → (A → List A) → List A → List A
  alter p f [] = []
  alter p f (x ∷ xs) = cond (p x) (f x ++ xs) (x ∷ alter p f xs)

  -- those that pass p, in their order
  unfoldable pub only : (A → Bool) → List A → List A
  only = library.filter

  -- how many pass p
  unfoldable pub count : (A → Bool) → List A → ℕ
  count p [] = zero
  count p (x ∷ xs) = cond (p x) (suc (count p xs)) (count p xs)

  unfoldable pub all : (A → Bool) → List A → Bool
  all = library.list_all

  unfoldable pub any : (A → Bool) → List A → Bool
  any = library.list_any

  -- all pass p, which is also told the place; places count from i
  unfoldable pub all_from : ℕ → (ℕ → A → Bool) → List A → Bool
  all_from i p [] = true
  all_from i p (x ∷ xs) = p i x && all_from (suc i) p xs

  -- cell i changed by f; no change where there is no cell i
  unfoldable pub modify : List A → ℕ → (A → A) → List A
  modify [] i f = []
  modify (x ∷ xs) zero f = f x ∷ xs
  modify (x ∷ xs) (suc i) f = x ∷ modify xs i f

  -- k parts of n each, from the front
  unfoldable pub parts : ℕ → ℕ → List A → List (List A)
  parts zero n l = []
  parts (suc k) n l = take n l ∷ parts k n (drop n l)

  abbrev pub is_some : Option A → Bool
  is_some None = false
  is_some (Some x) = true

  -- there is one, and it passes p
  abbrev pub passes : (A → Bool) → Option A → Bool
  passes p None = false
  passes p (Some x) = p x

  -- what is there, or d
  abbrev pub or_else : A → Option A → A
  or_else d None = d
  or_else d (Some x) = x

-- i, i + 1, .., n in all
unfoldable pub from_to : ℕ → ℕ → List ℕ
from_to i zero = []
from_to i (suc n) = i ∷ from_to (suc i) n
