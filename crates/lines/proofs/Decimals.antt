-- A number in decimal: one digit, or the digits of a tenth and the last digit; and how many bytes a line's numbers take at most.
-- The idea: the definition counts its digits down from a number that is more than enough; any that is enough gives the same.
use Prim.Native.Nat.{ℕ, zero, suc, ◌+◌, ◌/◌, ◌%◌, ◌^◌, ◌<◌, ◌≤◌}
use mathlib.Core.Path.{◌≡◌, ap, ◌∙◌}
use mathlib.Core.List.{List, [], ◌∷◌, ◌++◌}
use native.Mathlib.Nat.{pow-suc}
use native.Mathlib.Omega.{arith}
use lib.ListN.{length, length-append}
use lib.Dec.{ltb}
use borrow.Author.Tests.{lt-ltb, le-ltb, ltb-true, ltb-false}
use Rattle.base.proofs.Logic.{split}
use Rattle.lines.specs.Lines.{digits, decimal, numbers}

-- a number has no more digits than itself and one
own_bound : (n : ℕ) → n < 10 ^ suc n
own_bound zero = omega arith
own_bound (suc n) = omega (arith, own_bound n, pow-suc 10 (suc n))

tenth_bound : (k n : ℕ) → n < 10 ^ suc (suc k) → n / 10 < 10 ^ suc k
tenth_bound k n h = omega (arith, pow-suc 10 (suc k))

digits_one : (k n : ℕ) → n < 10 → digits (suc k) n ≡ (48 + n) ∷ []
unfolding digits
digits_one k n h = rw (lt-ltb n 10 h, digits)

digits_more : (k n : ℕ) → 10 ≤ n → digits (suc k) n ≡ digits k (n / 10) ++ ((48 + n % 10) ∷ [])
unfolding digits
digits_more k n h = rw (le-ltb n 10 h, digits)

-- so any number of digits that is enough gives the same ones
pub digits_same : (k m n : ℕ) → n < 10 ^ suc k → n < 10 ^ suc m → digits (suc k) n ≡ digits (suc m) n
digits_same zero m n g h = rw (digits_one zero n g, digits_one m n g)
digits_same (suc k) zero n g h = rw (digits_one (suc k) n h, digits_one zero n h)
digits_same (suc k) (suc m) n g h =
    split (ltb n 10)
    (λ t. let s = ltb-true n 10 t in rw (digits_one (suc k) n s, digits_one (suc m) n s))
    (λ f. let s = ltb-false n 10 f in
    rw (digits_more (suc k) n s, digits_more (suc m) n s, digits_same k m (n / 10) (tenth_bound k n g) (tenth_bound m n h)))

pub decimal_one : (n : ℕ) → n < 10 → decimal n ≡ (48 + n) ∷ []
decimal_one n h = digits_one n n h

pub decimal_more : (n : ℕ) → 10 ≤ n → decimal n ≡ decimal (n / 10) ++ ((48 + n % 10) ∷ [])
decimal_more zero h = absurd (omega arith)
decimal_more (suc n) h =
    digits_more (suc n) (suc n) h
    ∙ rw (digits_same n (suc n / 10) (suc n / 10) (omega (arith, own_bound n)) (own_bound (suc n / 10)))

pub decimal_longer : (n : ℕ) → 10 ≤ n → length (decimal n) ≡ length (decimal (n / 10)) + 1
decimal_longer n h = ap length (decimal_more n h) ∙ length-append (decimal (n / 10)) ((48 + n % 10) ∷ [])

digits_few : (k n : ℕ) → length (digits k n) ≤ k
unfolding digits
digits_few zero n = omega arith
digits_few (suc k) n =
    split (ltb n 10)
    (λ t. rw (digits_one k n (ltb-true n 10 t)) (omega arith))
    (λ f. rw (digits_more k n (ltb-false n 10 f), length-append) (omega (arith, digits_few k (n / 10))))

pub decimal_short : (k n : ℕ) → n < 10 ^ suc k → length (decimal n) ≤ suc k
decimal_short k n h = rw (digits_same n k n (own_bound n) h) (digits_few (suc k) n)

-- each number has at most as many digits as the second list says
abbrev pub Fit : List ℕ → List ℕ → Type 0
Fit [] ks = Unit {0}
Fit (n ∷ ns) [] = ⊥
Fit (n ∷ ns) (zero ∷ ks) = ⊥
Fit (n ∷ ns) (suc k ∷ ks) = (n < 10 ^ suc k) × Fit ns ks

-- a space and those digits, for each
abbrev pub room : List ℕ → ℕ
room [] = 0
room (k ∷ ks) = suc k + room ks

pub numbers_short : (ns ks : List ℕ) → Fit ns ks → length (numbers ns) ≤ room ks
unfolding numbers
numbers_short [] ks h = omega arith
numbers_short (n ∷ ns) [] h = absurd h
numbers_short (n ∷ ns) (zero ∷ ks) h = absurd h
numbers_short (n ∷ ns) (suc k ∷ ks) h =
    rw length-append (omega (arith, decimal_short k n h.0, numbers_short ns ks h.1))
