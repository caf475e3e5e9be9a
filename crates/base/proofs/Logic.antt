-- Tests taken apart: a case split that keeps its equation, and what a true or false test says of its parts.
use Prim.Native.Nat.{ℕ, ◌<◌, ◌≤◌}
use mathlib.Core.Path.{◌≡◌, refl, ap, sym, ◌∙◌}
use mathlib.Core.Bool.{Bool, true, false, ◌&&◌, ◌||◌}
use mathlib.Core.Logic.{◌⊎◌, inl, inr}
use Rattle.std.specs.Prelude.{Option, None, Some}
use Rattle.base.specs.Lists.{or_else}
use native.Mathlib.Omega.{arith}
use borrow.Author.Tests.{eqb-true, eqb-false, ltb-true, ltb-false}
use lib.Dec.{eqb, ltb}

-- by a test, with what it said
pub split {ℓ} : {P : Type ℓ} (b : Bool) → (b ≡ true → P) → (b ≡ false → P) → P
split true t f = t refl
split false t f = f refl

-- by what is there
pub there {ℓ} : {A : Type 0} {P : Type ℓ} (o : Option A) → (o ≡ None → P) → ((a : A) → o ≡ Some a → P) → P
there None n s = n refl
there (Some a) n s = s a refl

pub true_false : true ≡ false → ⊥
true_false e = let z : ◌≡◌ {A = ℕ} 0 1 = cc in omega arith

pub both : (b : Bool) → b ≡ true → b ≡ false → ⊥
both b y n = true_false (sym y ∙ n)

pub equal? : (m n : ℕ) → (m ≡ n) ⊎ (m ≡ n → ⊥)
equal? m n = split (eqb m n) (λ e. inl (eqb-true m n e)) (λ e. inr (eqb-false m n e))

pub less_or_same : (m n : ℕ) → m ≤ n → (m < n) ⊎ (m ≡ n)
less_or_same m n h = split (ltb m n) (λ t. inl (ltb-true m n t)) (λ f. let l = ltb-false m n f in inr (omega arith))

pub and_true : (a b : Bool) → a && b ≡ true → (a ≡ true) × (b ≡ true)
and_true true b h = (refl, h)
and_true false b h = absurd (true_false (sym h))

pub true_and : (a b : Bool) → a ≡ true → b ≡ true → a && b ≡ true
true_and a b h k = rw (h, k)

pub and_assoc : (a b c : Bool) → (a && b) && c ≡ a && (b && c)
and_assoc true b c = refl
and_assoc false b c = refl

pub and_swap : (a b c : Bool) → a && (b && c) ≡ b && (a && c)
and_swap true true c = refl
and_swap true false c = refl
and_swap false true c = refl
and_swap false false c = refl

pub and_end : (a : Bool) → a ≡ a && true
and_end true = refl
and_end false = refl

pub and_four : (a b c d : Bool) → (a && c) && (b && d) ≡ (a && b) && (c && d)
and_four a b c d = simp and_assoc (ap (a &&◌) (and_swap c b d))

pub or_false : (a b : Bool) → a || b ≡ false → (a ≡ false) × (b ≡ false)
or_false true b h = absurd (true_false h)
or_false false b h = (refl, h)

-- what is there, told by its equation
pub some_same : {A : Type 0} (a b : A) → Some a ≡ Some b → a ≡ b
some_same a b h = ap (or_else a) h

pub none_some : {A : Type 0} {a : A} {o : Option A} → o ≡ None → o ≡ Some a → ⊥
none_some p q = let z : ◌≡◌ {A = ℕ} 0 1 = cc in omega arith

-- two results that a statement `r ≡ definition` allows are one
pub one_result : {A : Type 0} {definition : A} (r q : A) → r ≡ definition → q ≡ definition → r ≡ q
one_result r q h k = h ∙ sym k
