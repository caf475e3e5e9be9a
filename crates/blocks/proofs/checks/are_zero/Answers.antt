-- `are_zero` tests each byte, and joins the answers.
use Rattle.std.proofs.Common.{rules, Bool, true, false, ◌≡◌, List, [], ◌∷◌, refl, ℕ}
use mathlib.Core.Path.{◌∙◌}
use mathlib.Core.Bool.{◌&&◌}
use lib.Dec.{eqb}
use borrow.Author.Tests.{tests}
use Rattle.std.specs.List.{fold, list_all}
use Rattle.std.proofs.lemmas.Iterator.{YieldsList-from_slice}
use Rattle.std.proofs.lemmas.Iterator.Consumers.{fold_from_yields_List}
use Rattle.base.specs.Lists.{all}
use Rattle.blocks.specs.Blocks.{all_zero}
use Rattle.blocks.proofs.checks.are_zero.Goals as goal

module _ (test : ℕ → Bool) where
  -- what has failed stays so
  fails : (l : List ℕ) → fold (λ z x. z && test x) false l ≡ false
  fails [] = refl
  fails (x ∷ l) = fails l

  joined : (l : List ℕ) → fold (λ z x. z && test x) true l ≡ list_all test l
  joined [] = refl
  joined (x ∷ l) = turn (test x) (joined l)
    where
      turn : (b : Bool) → fold (λ z x. z && test x) true l ≡ list_all test l → fold (λ z x. z && test x) b l ≡ (b && list_all test l)
      turn true e = e
      turn false e = fails l

pub returns : goal.returns
unfolding all_zero all
returns c = fold_from_yields_List _ (λ z x. z && eqb x 0) _ _ c.fold.ensures.ran (YieldsList-from_slice c.args.c.now cc) (λ a x b q k. search (rules, tests)) ∙ joined (λ x. eqb x 0) c.args.c.now
