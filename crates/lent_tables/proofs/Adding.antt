-- Records added one by one, over any type of record: to a table, and to n places with a count.
-- A list one record longer is what one more record makes of the list; so the code's loop, and the whole list, follow by turns.
use Prim.Native.Nat.{ℕ, ◌+◌, ◌-◌, ◌<◌, ◌≤◌}
use mathlib.Core.Path.{◌≡◌, ap, sym, ◌∙◌}
use mathlib.Core.Bool.{true, false, cond}
use mathlib.Core.List.{List, [], ◌∷◌, ◌++◌, append-nil, append_assoc}
use native.Mathlib.Omega.{arith}
use borrow.Author.Tests.{ltb-true, ltb-false, lt-ltb, le-ltb}
use lib.Dec.{ltb}
use lib.ListN.{length, take, replicate, length-append}
use lib.Seq.{take_all, take-append-le}
use Rattle.std.specs.Prelude.{fold, min}
use Rattle.base.proofs.Logic.{split}
use Rattle.base.proofs.Padded.{add_pad}
use Rattle.lent_tables.specs.code.Made.{count_on, place_on}

-- by cases on a comparison, with the test's value
pub by_test {ℓ} : {P : Type ℓ} (a b : ℕ) → (a < b → ltb a b ≡ true → P) → (b ≤ a → ltb a b ≡ false → P) → P
by_test a b p q = split (ltb a b) (λ e. p (ltb-true a b e) e) (λ e. q (ltb-false a b e) e)

-- what one more record keeps, all of them keep
pub added_all : {A B : Type 0} (f : B → A → B) (G : List A → B) → ((l : List A) (x : A) → f (G l) x ≡ G (l ++ (x ∷ []))) → (k l : List A) → fold f (G k) l ≡ G (k ++ l)
added_all f G on k [] = ap G (sym (append-nil k))
added_all f G on k (x ∷ l) = ap (λ T. fold f T l) (on k x) ∙ added_all f G on (k ++ (x ∷ [])) l ∙ ap G (append_assoc k (x ∷ []) l)

-- n places and their count: a list in them, as far as it fits
module _ {A : Type 0} (z : A) (n : ℕ) where
  abbrev pub counted : List A → ℕ
  counted l = cond (ltb n (length l)) (n + 1) (length l)

  abbrev pub placed : List A → List A
  placed l = take n l ++ replicate (n - length l) z

  pub counted_over : (l : List A) → n < length l → counted l ≡ n + 1
  counted_over l h = rw (lt-ltb n (length l) h)

  module _ (l : List A) (h : length l ≤ n) where
    pub counted_fits : counted l ≡ length l
    counted_fits = rw (le-ltb n (length l) h)

    pub placed_fits : placed l ≡ l ++ replicate (n - length l) z
    placed_fits = rw take_all

  module _ (l : List A) (x : A) where
    abbrev k : List A
    k = l ++ (x ∷ [])

    one_longer : length k ≡ length l + 1
    one_longer = length-append l (x ∷ [])

    pub counted_on : count_on n (counted l) ≡ counted k
    counted_on =
        by_test (length l) n
        (λ h t. let a : length k ≤ n = omega (arith, one_longer) in
        rw (counted_fits l (omega arith), counted_fits k a, t, one_longer))
        (λ h t. let a : n < length k = omega (arith, one_longer) in
        rw (counted_over k a) (by_test n (length l)
        (λ h' t'. let e : ltb (n + 1) n ≡ false = le-ltb (n + 1) n (omega arith) in rw (t', e))
        (λ h' t'. rw (t', t))))

    pub placed_on : place_on n (counted l) (placed l) x ≡ placed k
    placed_on =
        by_test (length l) n
        (λ h t. let a : length k ≤ n = omega (arith, one_longer) in
        rw (counted_fits l (omega arith), placed_fits l (omega arith), placed_fits k a, t) (add_pad z n l x h))
        (λ h t.
        let a : n - length l ≡ 0 = omega arith in
        let b : n - length k ≡ 0 = omega (arith, one_longer) in
        let c : ltb (counted l) n ≡ false = le-ltb (counted l) n (by_test n (length l) (λ h' t'. rw t' (omega arith)) (λ h' t'. rw t' h)) in
        rw (c, a, b, take-append-le))

-- no more than a list has
pub take_most : {A : Type 0} (c n : ℕ) (l : List A) → length l ≤ c → take (min n c) l ≡ take n l
take_most c n l k = by_test c n
    (λ h t. let e : min n c ≡ c = omega arith in rw e (take_all c l k ∙ sym (take_all n l (omega arith))))
    (λ h t. let e : min n c ≡ n = omega arith in rw e)
