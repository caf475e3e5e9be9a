-- `all_zero` asks `are_zero` of the part's pieces, in order, up to the first that fails.
-- The idea: where each piece so far passed, the test of what is left is the test of the whole.
use Prim.Native.Nat.{ℕ, ◌+◌, ◌-◌}
use mathlib.Core.Path.{◌≡◌, refl, ap, sym, subst, ◌∙◌}
use mathlib.Core.Bool.{Bool, true, false, ◌&&◌}
use mathlib.Core.List.{List, [], ◌∷◌, ◌++◌}
use native.Mathlib.Omega.{arith}
use lib.Dec.{eqb}
use lib.ListN.{take, drop, length}
use denote.Ref.{Bor}
use denote.Param.Members.{Mut}
use borrow.Author.Rules.{rules}
use borrow.Author.Tests.{tests}
use Rattle.std.specs.Prelude.{Option, None, Some}
use Rattle.std.specs.Fn.{Called}
use Rattle.std.specs.Iterator.{Yields, ChecksAll}
use Rattle.std.specs.List.{FoldsTo, list_all}
use Rattle.std.specs.Option.{MatchOption}
use Rattle.std.specs.Slice.Iter.{chunks_rest, chunks_steps}
use Rattle.std.proofs.lemmas.List.{drop-take, nil_from_length}
use Rattle.std.proofs.lemmas.List.Folds.{list_all-append}
use Rattle.base.specs.Lists.{all}
use Rattle.base.proofs.Loops.{all_over}
use Rattle.blocks.specs.Blocks.{all_zero}
use Rattle.blocks.proofs.checks.all_zero.Goals as goal

-- an iterator that gives what is left in pieces, and a closure that tests a whole piece
module _ {S F : Type 0} (steps : S → Option (Bor (List ℕ)) → S → Type 0) (rest : S → List ℕ) (g : Mut F (Bor (List ℕ) × Unit {0}) Bool) (test : ℕ → Bool) (f : F)
    (over : (s t : S) → steps s None t → length (rest s) ≡ 0) (piece : (s : S) (x : Bor (List ℕ)) (t : S) → steps s (Some x) t → rest s ≡ x.now ++ rest t)
    (told : (x : Bor (List ℕ)) (b : Bool) (q : F) → Called g f (x, tt) b q → (q ≡ f) × (b ≡ list_all test x.now)) where
  one : (s : S) (x : Bor (List ℕ)) (t : S) (b : Bool) → steps s (Some x) t → b ≡ list_all test x.now → list_all test (rest s) ≡ (b && list_all test (rest t))
  one s x t b m e = ap (list_all test) (piece s x t m) ∙ list_all-append test x.now (rest t) ∙ ap (λ b. b && list_all test (rest t)) (sym e)

  passed : (xs : List (Bor (List ℕ))) (s t : S) (p j : F) → p ≡ f → Yields steps s xs t → FoldsTo (λ p x q. Called g p (x, tt) true q) p xs j → (j ≡ f) × (list_all test (rest t) ≡ list_all test (rest s))
  passed [] s t p j e y c = (sym c ∙ e, ap (λ k. list_all test (rest k)) (sym y))
  passed (x ∷ xs) s t p j e y c =
      let k = told x true c.0 (subst (λ w. Called g w (x, tt) true c.0) e c.1) in
      let r = passed xs y.0 t c.0 j k.0 y.2 c.2 in
      (r.0, r.1 ∙ sym (one s x y.0 true y.1 k.1))

  ended : (o : Option (Bor (List ℕ))) (r : Bool) (t u : S) (j : F) → j ≡ f → steps t o u → MatchOption o (r ≡ true) (λ x. (r ≡ false) × ((h : F) × Called g j (x, tt) false h)) → r ≡ list_all test (rest t)
  ended None r t u j e s m = m ∙ sym (ap (list_all test) (nil_from_length (rest t) (over t u s)))
  ended (Some x) r t u j e s m =
      let k = told x false m.1.0 (subst (λ w. Called g w (x, tt) false m.1.0) e m.1.1) in
      m.0 ∙ sym (one t x u false s k.1)

  all_of_pieces : (s u : S) (r : Bool) → ChecksAll steps g s f r u → r ≡ list_all test (rest s)
  all_of_pieces s u r d =
      let k = passed d.0 s d.3.0 f d.2 refl d.3.1 d.4 in
      ended d.1 r d.3.0 u d.2 k.0 d.3.2 d.5 ∙ k.1

pub returns-then-to-from : goal.returns-then-to-from
unfolding all_zero
returns-then-to-from c = let a = c.args in search (rules, tests) ∙ sym (all_over (λ x. eqb x 0) a.from a.to a.b.now c.if-to-from.true)

pub returns-else-to-from : goal.returns-else-to-from
unfolding all_zero all
returns-else-to-from c =
    let a = c.args in
    let upto : a.from + (a.to - a.from) ≡ a.to = omega arith in
    all_of_pieces chunks_steps chunks_rest _ (λ x. eqb x 0) _ (λ s t h. h.1.0) (λ s x t h. h.1.0) (λ x b q k. search (rules, tests)) c.chunks.result c.all.new.self c.all.result c.all.ensures.ran
    ∙ ap (list_all (λ x. eqb x 0)) (c.chunks.ensures.rest ∙ sym (drop-take a.from (a.to - a.from) a.b.now) ∙ ap (λ (n : ℕ). drop a.from (take n a.b.now)) upto)
