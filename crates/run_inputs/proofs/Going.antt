-- From block to block the state stays sound, and the end of an input comes behind a block.
use Prim.Native.Nat.{ℕ}
use mathlib.Core.Path.{◌≡◌, refl, sym}
use mathlib.Core.Bool.{true, not}
use mathlib.Core.List.{List}
use borrow.Author.Tests.{eq-eqb, not-true}
use lib.ListN.{length}
use lib.Dec.{eqb}
use Rattle.base.proofs.Logic.{split, and_true, true_false, both}
use Rattle.network.specs.declared.State.{State}
use Rattle.events.proofs.SoundStays.{Right}
use Rattle.blocks.specs.Answers.{block_answer}
use Rattle.logs.proofs.Running.{run_right}
use Rattle.run_inputs.specs.Inputs.{is_end, next_goes_on, next_state}

pub end_later : (place : ℕ) (b : List ℕ) → is_end place b ≡ true → place ≡ 0 → ⊥
unfolding is_end
end_later place b e z =
    let n = (and_true (not (eqb place 0)) (eqb (length b) 0) e).0 in
    both (eqb place 0) (eq-eqb place 0 z) (not-true (eqb place 0) n)

pub next_right : (place : ℕ) (s : State) (b : List ℕ) → ((place ≡ 0 → ⊥) → Right s) → next_goes_on place b ≡ true → Right (next_state place s b)
next_right place s b w g =
    split (is_end place b)
    (λ t. absurd (true_false (sym (rw t at g))))
    (λ f. rw f (run_right place s b (block_answer place b) refl w (rw f at g)))
