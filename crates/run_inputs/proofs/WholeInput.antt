-- A whole input: its blocks handed to `play_next` one after the other, then its end, print the log of the definition.
-- Each block by its answer is what `block_played` says; the end stands behind the last one.
use Prim.Native.Nat.{ℕ, zero, suc}
use mathlib.Core.Path.{◌≡◌, refl, ap}
use mathlib.Core.Bool.{true, false, cond}
use mathlib.Core.List.{List, [], ◌∷◌, ◌++◌}
use Rattle.std.specs.Prelude.{None, Some}
use native.Mathlib.Omega.{arith}
use borrow.Author.Tests.{ne_eqb}
use lib.ListN.{length, take, drop, length-take}
use lib.Dec.{eqb}
use Rattle.base.specs.declared.Refusal.{Refusal}
use Rattle.base.specs.Grounds.{refusal}
use Rattle.base.proofs.Logic.{split, there}
use Rattle.network.specs.declared.State.{State}
use Rattle.network.specs.Opening.{zero_state}
use Rattle.blocks.specs.Blocks.{block_grounds}
use Rattle.blocks.specs.Answers.{block_answer}
use Rattle.lines.specs.Lines.{Line, texts}
use Rattle.logs.specs.Logs.{block_played, blocks_played, cut, input_blocks, run, log}
use Rattle.logs.proofs.Running.{run_is_played}
use Rattle.run_inputs.specs.Inputs.{is_end, next_goes_on, next_state, next_lines}

-- what the turns of the loop print: the blocks in turn while the input is read on, then no bytes
unfoldable pub turns : ℕ → State → List (List ℕ) → List Line
turns place s [] = next_lines place s []
turns place s (b ∷ bs) = next_lines place s b ++ cond (next_goes_on place b) (turns (suc place) (next_state place s b) bs) []

-- no block of an input but the first is without bytes
abbrev Filled : List (List ℕ) → Type 0
Filled [] = Unit {0}
Filled (b ∷ bs) = (length b ≡ 0 → ⊥) × Filled bs

pub no_bytes_end : (place : ℕ) → is_end (suc place) [] ≡ true
unfolding is_end
no_bytes_end place = rw (ne_eqb (suc place) 0 (λ e. omega arith))

bytes_go_on : (place : ℕ) (b : List ℕ) → (length b ≡ 0 → ⊥) → is_end place b ≡ false
unfolding is_end
bytes_go_on place b h = rw (ne_eqb (length b) 0 h) (split (eqb place 0) (λ e. rw e) (λ e. rw e))

-- the first turn is always a block
first_is_block : (b : List ℕ) → is_end 0 b ≡ false
unfolding is_end
first_is_block b = refl

module _ (place : ℕ) (s : State) (b : List ℕ) (bs : List (List ℕ)) (here : is_end place b ≡ false)
    (rest : (z : State) → turns (suc place) z bs ≡ (blocks_played (suc place) z bs).lines) where
  refused_turn : (n : Refusal) → refusal (block_grounds place b) ≡ Some n → turns place s (b ∷ bs) ≡ (blocks_played place s (b ∷ bs)).lines
  unfolding turns blocks_played block_answer
  refused_turn n h = rw (here, h, blocks_played)

  played_turn : refusal (block_grounds place b) ≡ None → turns place s (b ∷ bs) ≡ (blocks_played place s (b ∷ bs)).lines
  unfolding turns blocks_played block_answer
  played_turn h =
      let p = run_is_played place s b h in
      rw (here, h, blocks_played, p.0, p.1) (ap (λ (l : List Line). (block_played place s b).lines ++ l) (rest (block_played place s b).state))

  one_turn : turns place s (b ∷ bs) ≡ (blocks_played place s (b ∷ bs)).lines
  one_turn = there (refusal (block_grounds place b)) played_turn (λ n h. refused_turn n h)

later_turns : (place : ℕ) (bs : List (List ℕ)) → Filled bs → (s : State) → turns (suc place) s bs ≡ (blocks_played (suc place) s bs).lines
unfolding turns blocks_played
later_turns place [] f s = rw (no_bytes_end place)
later_turns place (b ∷ bs) f s = one_turn (suc place) s b bs (bytes_go_on (suc place) b f.0) (later_turns (suc place) bs f.1)

-- ---- an input cut into blocks

cut_filled : (k : ℕ) (l : List ℕ) → Filled (cut k l)
unfolding cut
cut_filled zero l = tt
cut_filled (suc k) [] = tt
cut_filled (suc k) (x ∷ l) = (λ e. let n = length-take 512 (x ∷ l) in absurd (omega (arith, n)), cut_filled k (drop 512 (x ∷ l)))

pub whole_input : (input : List ℕ) → texts (turns 0 zero_state (input_blocks input)) ≡ log input
unfolding input_blocks log run cut
whole_input [] = ap texts (one_turn 0 zero_state [] [] (first_is_block []) (later_turns 0 [] tt))
whole_input (x ∷ l) = ap texts (one_turn 0 zero_state (take 512 (x ∷ l)) (cut (length l) (drop 512 (x ∷ l))) (first_is_block (take 512 (x ∷ l))) (later_turns 0 (cut (length l) (drop 512 (x ∷ l))) (cut_filled (length l) (drop 512 (x ∷ l)))))
