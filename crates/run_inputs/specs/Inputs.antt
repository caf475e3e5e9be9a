-- The next bytes of an input: what they print, the state behind them, and whether the input is read on.
use Rattle.std.specs.Prelude.{ℕ, Bool, false, cond, not, ◌&&◌, List, [], ◌∷◌, length, eqb}
use Rattle.network.specs.declared.State.{State}
use Rattle.blocks.specs.Answers.{block_answer}
use Rattle.lines.specs.Lines.{Line, end}
use Rattle.logs.specs.Logs.{entries_left}
use Rattle.logs.specs.code.Runs.{run_lines, run_state, goes_on}

-- no bytes behind at least one block are the end; an input without any block is a block of no bytes
unfoldable pub is_end : ℕ → List ℕ → Bool
is_end place b = not (eqb place 0) && eqb (length b) 0

abbrev pub next_goes_on : ℕ → List ℕ → Bool
next_goes_on place b = cond (is_end place b) false (goes_on (block_answer place b))

module _ (place : ℕ) (s : State) (b : List ℕ) where
  abbrev pub next_state : State
  next_state = cond (is_end place b) s (run_state place s b (block_answer place b))

  abbrev pub next_lines : List Line
  next_lines = cond (is_end place b) (end (entries_left s.channels) ∷ []) (run_lines place s b (block_answer place b))
