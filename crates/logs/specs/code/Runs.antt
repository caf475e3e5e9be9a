-- One block of an input, by its answer: what it prints, the state behind it, and whether the input is read on. That this is
-- what `block_played` says: proofs/Running.antt.
use Rattle.std.specs.Prelude.{ℕ, Bool, true, false, List, [], ◌∷◌, Result, Ok, Err}
use Rattle.base.specs.declared.Refusal.{Refusal}
use Rattle.base.specs.Grounds.{number_of}
use Rattle.network.specs.declared.State.{State}
use Rattle.network.specs.Nets.{pack, empty_net}
use Rattle.blocks.specs.declared.BlockKind.{BlockKind}
use Rattle.blocks.specs.declared.BlockKind.TheVariants.{Network, Steps, Tick}
use Rattle.blocks.specs.Blocks.{table_of, block_records}
use Rattle.lines.specs.Lines.{Line, stop}
use Rattle.logs.specs.Logs.{steps, tick_lines, tick_of, net_line}

module _ (place : ℕ) (s : State) (b : List ℕ) where
  abbrev pub run_lines : Result BlockKind Refusal → List Line
  run_lines (Err n) = stop place (number_of n) ∷ []
  run_lines (Ok Network) = net_line (table_of b) ∷ []
  run_lines (Ok Steps) = (steps place 0 s (block_records b)).lines
  run_lines (Ok Tick) = tick_lines place (block_records b) (tick_of s b)

  abbrev pub run_state : Result BlockKind Refusal → State
  run_state (Err n) = s
  run_state (Ok Network) = pack (empty_net (table_of b))
  run_state (Ok Steps) = (steps place 0 s (block_records b)).state
  run_state (Ok Tick) = (tick_of s b).state

abbrev pub goes_on : Result BlockKind Refusal → Bool
goes_on (Err n) = false
goes_on (Ok k) = true
