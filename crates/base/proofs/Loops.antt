-- Loops over the places i to n of a list, or the numbers i to n: one turn, and the end.
-- What is left to do, done from here, is the whole; one turn takes one place off the front.
use Prim.Native.Nat.{ℕ, zero, suc, ◌+◌, ◌-◌, ◌<◌, ◌≤◌}
use mathlib.Core.Path.{◌≡◌, refl, ap, sym, ◌∙◌}
use mathlib.Core.Bool.{Bool, true, false, not, ◌&&◌, ◌||◌}
use mathlib.Core.List.{List, [], ◌∷◌}
use native.Mathlib.Numerals.{add-one}
use native.Mathlib.Omega.{arith}
use lib.ListN.{length, get_or, take, drop, length-take, drop_of_length-le}
use lib.Seq.{slice, slice-cons, take_all}
use Rattle.base.specs.Lists.{all, all_from, any, from_to}

module _ {A : Type 0} where
  pub slice_over : (i n : ℕ) (l : List A) → n ≤ i → slice i n l ≡ []
  slice_over i n l h =
      let k : length (take n l) ≤ i = simp length-take (omega arith) in
      rw drop_of_length-le

  -- up to the end
  pub slice_rest : (i n : ℕ) (l : List A) → length l ≤ n → slice i n l ≡ drop i l
  slice_rest i n l h = rw take_all

  pub all_over : (p : A → Bool) (i n : ℕ) (l : List A) → n ≤ i → all p (slice i n l) ≡ true
  unfolding all
  all_over p i n l h = rw slice_over

-- a loop that answers at the first place whose test says s, and past the end answers the other way: `all` stops at false, `any` at
-- true. The test is told the place too.
abbrev joined : Bool → Bool → Bool → Bool
joined true b r = b || r
joined false b r = b && r

module _ {A : Type 0} where
  unfoldable pub asked : Bool → (ℕ → A → Bool) → ℕ → List A → Bool
  asked s q i [] = not s
  asked s q i (x ∷ l) = joined s (q i x) (asked s q (suc i) l)

  -- before place i of n: there are n places, and what is left, asked from here, is the whole
  pub record Left (s : Bool) (q : ℕ → A → Bool) (l : List A) (n i : ℕ) (whole : Bool) : Type 0 where
    pub long : n ≤ length l
    pub rest : asked s q i (slice i n l) ≡ whole

  -- what computes like it is it
  asked_is : (s : Bool) (q : ℕ → A → Bool) (g : ℕ → List A → Bool) → ((i : ℕ) → not s ≡ g i [])
      → ((i : ℕ) (x : A) (l : List A) → joined s (q i x) (g (suc i) l) ≡ g i (x ∷ l)) → (i : ℕ) (l : List A) → asked s q i l ≡ g i l
  unfolding asked
  asked_is s q g e t i [] = e i
  asked_is s q g e t i (x ∷ l) = ap (joined s (q i x)) (asked_is s q g e t (suc i) l) ∙ t i x l

  asked_all : (p : A → Bool) (i : ℕ) (l : List A) → asked false (λ _. p) i l ≡ all p l
  unfolding all
  asked_all p = asked_is false (λ _. p) (λ _. all p) (λ _. refl) (λ _ _ _. refl)

  asked_any : (p : A → Bool) (i : ℕ) (l : List A) → asked true (λ _. p) i l ≡ any p l
  unfolding any
  asked_any p = asked_is true (λ _. p) (λ _. any p) (λ _. refl) (λ _ _ _. refl)

  asked_from : (q : ℕ → A → Bool) (i : ℕ) (l : List A) → asked false q i l ≡ all_from i q l
  unfolding all_from
  asked_from q = asked_is false q (λ i. all_from i q) (λ _. refl) (λ _ _ _. refl)

  -- the loop begins
  pub all_left : (p : A → Bool) (l : List A) (n i : ℕ) → n ≤ length l → Left false (λ _. p) l n i (all p (slice i n l))
  all_left p l n i h = record { long = h; rest = asked_all p i (slice i n l) }

  pub any_left : (p : A → Bool) (l : List A) (n i : ℕ) → n ≤ length l → Left true (λ _. p) l n i (any p (slice i n l))
  any_left p l n i h = record { long = h; rest = asked_any p i (slice i n l) }

  -- and goes to the list's end
  module _ (l : List A) (n i : ℕ) (e : length l ≡ n) where
    pub all_left_over : (p : A → Bool) → Left false (λ _. p) l n i (all p (drop i l))
    all_left_over p = record { long = omega arith; rest = rw (slice_rest i n l (omega arith)) (asked_all p i (drop i l)) }

    pub cells_left : (q : ℕ → A → Bool) → Left false q l n i (all_from i q (drop i l))
    cells_left q = record { long = omega arith; rest = rw (slice_rest i n l (omega arith)) (asked_from q i (drop i l)) }

  -- it answers, goes one place on, or ends
  module _ {s : Bool} {q : ℕ → A → Bool} {l : List A} {n i : ℕ} {w : Bool} (d : A) (r : Left s q l n i w) (h : i < n) where
    turn : {b : Bool} → q i (get_or l i d) ≡ b → joined s b (asked s q (i + 1) (slice (i + 1) n l)) ≡ w
    unfolding asked
    turn e = rw add-one (rw (slice-cons i n l d h r.long, e) at r.rest)

    pub stops : q i (get_or l i d) ≡ s → s ≡ w
    stops e = at_once s _ (turn e)
      where
        at_once : (t x : Bool) → joined t t x ≡ w → t ≡ w
        at_once true x k = k
        at_once false x k = k

    pub goes_on : q i (get_or l i d) ≡ not s → Left s q l n (i + 1) w
    goes_on e = record { long = r.long; rest = later s _ (turn e) }
      where
        later : (t x : Bool) → joined t (not t) x ≡ w → x ≡ w
        later true x k = k
        later false x k = k

  pub ends : {s : Bool} {q : ℕ → A → Bool} {l : List A} {n i : ℕ} {w : Bool} → Left s q l n i w → n ≤ i → not s ≡ w
  unfolding asked
  ends {s} {q} {l} {n} {i} r h = rw (slice_over i n l h) at r.rest

  -- the same of `all`, with no whole
  module _ (p : A → Bool) (d : A) (l : List A) (n i : ℕ) (h : i < n) (k : n ≤ length l) where
    pub all_stop : p (get_or l i d) ≡ false → false ≡ all p (slice i n l)
    all_stop e = stops d (all_left p l n i k) h e

    pub all_on : p (get_or l i d) ≡ true → all p (slice (i + 1) n l) ≡ all p (slice i n l)
    all_on e = sym (asked_all p (i + 1) (slice (i + 1) n l)) ∙ (goes_on d (all_left p l n i k) h e).rest

-- the numbers i to n
module _ (p : ℕ → Bool) (n i : ℕ) where
  pub all_from_over : n ≤ i → all p (from_to i (n - i)) ≡ true
  unfolding all from_to
  all_from_over h = let s : n - i ≡ 0 = omega arith in rw s

  module _ (h : i < n) where
    one_on : from_to i (n - i) ≡ i ∷ from_to (i + 1) (n - (i + 1))
    unfolding from_to
    one_on = let s : n - i ≡ suc (n - (i + 1)) = omega arith in rw (s, add-one)

    pub all_from_stop : p i ≡ false → false ≡ all p (from_to i (n - i))
    unfolding all
    all_from_stop e = rw (one_on, e)

    pub all_from_on : p i ≡ true → all p (from_to (i + 1) (n - (i + 1))) ≡ all p (from_to i (n - i))
    unfolding all
    all_from_on e = rw (one_on, e)

pub all_same : (p q : ℕ → Bool) (i n : ℕ) → ((j : ℕ) → j < i + n → p j ≡ q j) → all p (from_to i n) ≡ all q (from_to i n)
unfolding all from_to
all_same p q i zero h = refl
all_same p q i (suc n) h = rw (h i (omega arith), all_same p q (suc i) n (λ j b. h j (omega arith)))
