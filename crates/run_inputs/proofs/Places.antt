-- Block 65,536 is refused, whatever it holds: the place that a block states has two bytes.
use Prim.Native.Nat.{ℕ, ◌<◌}
use mathlib.Core.Path.{◌≡◌, refl, sym}
use mathlib.Core.Bool.{true}
use mathlib.Core.List.{List}
use native.Mathlib.Omega.{arith}
use borrow.Author.Tests.{eqb-true}
use lib.Dec.{eqb}
use Rattle.base.proofs.Logic.{split, and_true, true_false}
use Rattle.std.specs.Prelude.{Result, Ok, Err}
use Rattle.base.specs.declared.Refusal.{Refusal}
use Rattle.blocks.specs.declared.BlockKind.{BlockKind}
use Rattle.blocks.specs.Blocks.{byte, block_place, kind_place_count_are_right}
use Rattle.blocks.specs.Answers.{block_answer}
use Rattle.blocks.proofs.Accepted.{accepted_block, frame_is_right}
use Rattle.logs.specs.code.Runs.{goes_on}
use Rattle.run_inputs.specs.Inputs.{is_end, next_goes_on}

kind_of : (a : Result BlockKind Refusal) → goes_on a ≡ true → (k : BlockKind) × (a ≡ Ok k)
kind_of (Ok k) g = (k, refl)
kind_of (Err n) g = absurd (true_false (sym g))

module _ (place : ℕ) (b : List ℕ) (low : byte b 2 < 256) (high : byte b 3 < 256) where
  states_place : goes_on (block_answer place b) ≡ true → block_place b ≡ place
  unfolding kind_place_count_are_right
  states_place g =
      let k = kind_of (block_answer place b) g in
      let h = (accepted_block place b k.0 k.1).0 in
      eqb-true (block_place b) place (and_true (eqb (block_place b) place) _ (frame_is_right place b h)).0

  pub goes_early : next_goes_on place b ≡ true → place < 65536
  goes_early g =
      split (is_end place b)
      (λ t. absurd (true_false (sym (rw t at g))))
      (λ f. let e = states_place (rw f at g) in omega arith)
