-- The turns of a loop that takes an input's bytes 512 at a time: one turn prints what the next bytes print, and the rest is left.
use Prim.Native.Nat.{ℕ, zero, suc, ◌≤◌}
use mathlib.Core.Path.{◌≡◌, refl, ap, sym, ◌∙◌}
use mathlib.Core.Bool.{true, false, cond}
use mathlib.Core.List.{List, [], ◌∷◌, ◌++◌, append_assoc}
use native.Mathlib.Omega.{arith}
use lib.ListN.{length, take, drop, length-drop}
use Rattle.network.specs.declared.State.{State}
use Rattle.network.specs.Opening.{zero_state}
use Rattle.lines.specs.Lines.{Line, text, texts}
use Rattle.logs.specs.Logs.{cut, input_blocks, log}
use Rattle.run_inputs.specs.Inputs.{next_goes_on, next_state, next_lines}
use Rattle.run_inputs.proofs.WholeInput.{turns, no_bytes_end, whole_input}

-- the lines of the bytes that are left at a place
unfoldable pub left_lines : ℕ → State → List ℕ → List Line
left_lines zero s l = turns 0 s (input_blocks l)
left_lines (suc place) s l = turns (suc place) s (cut (length l) l)

-- bounds that are large enough cut alike
cut_alike : (j k : ℕ) (l : List ℕ) → length l ≤ j → length l ≤ k → cut j l ≡ cut k l
unfolding cut
cut_alike zero zero [] h g = refl
cut_alike zero (suc k) [] h g = refl
cut_alike (suc j) zero [] h g = refl
cut_alike (suc j) (suc k) [] h g = refl
cut_alike zero k (x ∷ l) h g = absurd (omega arith)
cut_alike (suc j) zero (x ∷ l) h g = absurd (omega arith)
cut_alike (suc j) (suc k) (x ∷ l) h g =
    let n = length-drop 512 (x ∷ l) in
    ap (take 512 (x ∷ l) ∷◌) (cut_alike j k (drop 512 (x ∷ l)) (omega arith) (omega arith))

cut_rest : (x : ℕ) (l : List ℕ) → cut (length l) (drop 512 (x ∷ l)) ≡ cut (length (drop 512 (x ∷ l))) (drop 512 (x ∷ l))
cut_rest x l =
    let n = length-drop 512 (x ∷ l) in
    cut_alike (length l) (length (drop 512 (x ∷ l))) (drop 512 (x ∷ l)) (omega arith) (omega arith)

-- one turn
pub one_left : (place : ℕ) (s : State) (l : List ℕ) → left_lines place s l
    ≡ next_lines place s (take 512 l) ++ cond (next_goes_on place (take 512 l)) (left_lines (suc place) (next_state place s (take 512 l)) (drop 512 l)) []
unfolding left_lines turns input_blocks cut
one_left zero s [] = refl
one_left zero s (x ∷ l) = rw (cut_rest x l)
one_left (suc place) s [] = rw (no_bytes_end place)
one_left (suc place) s (x ∷ l) = rw (cut_rest x l)

texts_on : (ls ms : List Line) → texts (ls ++ ms) ≡ texts ls ++ texts ms
unfolding texts
texts_on [] ms = refl
texts_on (l ∷ ls) ms = ap (text l ++◌) (texts_on ls ms) ∙ sym (append_assoc (text l) (texts ls) (texts ms))

module _ (place : ℕ) (s : State) (l : List ℕ) where
  -- the input is read on
  pub left_on : next_goes_on place (take 512 l) ≡ true → texts (left_lines place s l)
      ≡ texts (next_lines place s (take 512 l)) ++ texts (left_lines (suc place) (next_state place s (take 512 l)) (drop 512 l))
  left_on g = rw (one_left place s l, g) (texts_on _ _)

  -- or not
  pub left_last : next_goes_on place (take 512 l) ≡ false → texts (left_lines place s l) ≡ texts (next_lines place s (take 512 l)) ++ []
  unfolding texts
  left_last g = rw (one_left place s l, g) (texts_on (next_lines place s (take 512 l)) [])

pub left_all : (input : List ℕ) → texts (left_lines 0 zero_state input) ≡ log input
unfolding left_lines
left_all = whole_input
