-- A choice by a test, from the fact that the code's branch gives: chains of early returns against nested `cond`.
use mathlib.Core.Path.{◌≡◌, sym, ◌∙◌}
use mathlib.Core.Bool.{Bool, true, false, cond, not, ◌&&◌}
use borrow.Author.Rules.{rules}
use borrow.Author.Tests.{lt-ltb, le-ltb, le-leb, lt-leb, eq-eqb, ne_eqb, not-true, not-false}
use Rattle.base.proofs.Logic.{true_and}

pub cond_yes : {B : Type 0} (t : Bool) {x : B} (a b : B) → t ≡ true → x ≡ a → x ≡ cond t a b
cond_yes t a b e p = rw (e, p)

pub cond_no : {B : Type 0} (t : Bool) {x : B} (a b : B) → t ≡ false → x ≡ b → x ≡ cond t a b
cond_no t a b e p = rw (e, p)

-- the same for `&&`, test by test
pub and_yes : (a b : Bool) {x : Bool} → a ≡ true → x ≡ b → x ≡ a && b
and_yes a b e p = rw (e, p)

pub and_no : (a b : Bool) {x : Bool} → a ≡ false → x ≡ false → x ≡ a && b
and_no a b e p = rw (e, p)

pub first_false : (a b : Bool) → a ≡ false → a && b ≡ false
first_false a b e = rw e

pub second_false : (a b : Bool) → a ≡ true → b ≡ false → a && b ≡ false
second_false a b e p = rw (e, p)

-- what a call's result was found to be, the test that it answers is
pub by_call : (r t b : Bool) → r ≡ t → r ≡ b → t ≡ b
by_call r t b e p = sym e ∙ p

pub by_call_not : (r t : Bool) → r ≡ t → not r ≡ false → t ≡ true
by_call_not r t e p = sym e ∙ not-false r p

pub by_call_so : (r t : Bool) → r ≡ t → not r ≡ true → t ≡ false
by_call_so r t e p = sym e ∙ not-true r p

pub ruleset cases = (rules, cond_yes, cond_no, and_yes, and_no, true_and, first_false, second_false, by_call, by_call_not, by_call_so, lt-ltb, le-ltb, le-leb, lt-leb, eq-eqb, ne_eqb, not-true, not-false)
