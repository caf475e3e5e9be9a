-- A whole input to its log: blocks in turn, up to the first refused one.
use Rattle.std.specs.Prelude.{ℕ, zero, suc, ◌+◌, cond, List, [], ◌∷◌, ◌++◌, length, take, drop, replicate, eqb, None, Some, Ok, Err}
use Rattle.base.specs.Grounds.{refusal, number_of}
use Rattle.chassis.specs.declared.Table.{Table}
use Rattle.queue.specs.declared.Channel.{Channel}
use Rattle.network.specs.declared.State.{State}
use Rattle.network.specs.Opening.{opened, zero_state}
use Rattle.events.specs.declared.Outcome.{Outcome}
use Rattle.events.specs.Steps.{step, refusal_number, answer_value}
use Rattle.ticks.specs.Ticks.{Ticked, tick, tick_number, tick_record, tick_other, TickAnswer}
use Rattle.blocks.specs.Blocks.{byte, block_kind, record_count, block_grounds, table_of, stray_in_table, record_bytes, block_records}
use Rattle.lines.specs.Lines.{Line, net, e, t, stop, end, texts}

-- the lines printed so far, and the state they end in
pub record Ran : Type 0 where
  pub lines : List Line
  pub state : State

abbrev pub then_more : List Line → Ran → Ran
then_more ls r = record { lines = ls ++ r.lines; state = r.state }

-- the entries left in all channels
unfoldable pub entries_left : List Channel → ℕ
entries_left [] = 0
entries_left (c ∷ cs) = c.count + entries_left cs

-- a refused single step is printed with its number, and the state stays
abbrev pub step_line : ℕ → ℕ → List ℕ → Outcome → Line
step_line block i b o = e block i (byte b 0) (refusal_number o.answer) (answer_value o.answer)

-- the single steps of a block from record i on
unfoldable pub steps : ℕ → ℕ → State → List (List ℕ) → Ran
steps block i s [] = record { lines = []; state = s }
steps block i s (b ∷ bs) =
    then_more (step_line block i b (step s b) ∷ []) (steps block (suc i) (step s b).state bs)

-- the `e` lines of an accepted tick: each record with its value
unfoldable pub value_lines : ℕ → ℕ → List (List ℕ) → List ℕ → List Line
value_lines block i [] vs = []
value_lines block i (b ∷ bs) [] = []
value_lines block i (b ∷ bs) (v ∷ vs) = e block i (byte b 0) 0 v ∷ value_lines block (suc i) bs vs

abbrev pub value_lines_if : TickAnswer → List Line → List Line
value_lines_if (Ok u) ls = ls
value_lines_if (Err a) ls = []

unfoldable pub tick_lines : ℕ → List (List ℕ) → Ticked → List Line
tick_lines block bs r =
    t block (tick_number r.answer) (tick_record r.answer) (tick_other r.answer)
    ∷ value_lines_if r.answer (value_lines block 0 bs r.answers)

-- the program lends as many answer places as there are records
abbrev pub tick_of : State → List ℕ → Ticked
tick_of s b = tick s (record_bytes b) (replicate (record_count b) 0)

abbrev pub net_line : Table → Line
net_line T = net T.buses T.bridges T.agents

-- what an accepted block prints, and the state behind it
unfoldable pub block_played : ℕ → State → List ℕ → Ran
block_played place s b =
    cond (eqb (block_kind b) 1)
    (record { lines = net_line (table_of b) ∷ []; state = (opened (table_of b) (stray_in_table b)).state })
    (cond (eqb (block_kind b) 2)
    (steps place 0 s (block_records b))
    (record { lines = tick_lines place (block_records b) (tick_of s b); state = (tick_of s b).state }))

-- the blocks from `place` on; the program stops at the first refused one
unfoldable pub blocks_played : ℕ → State → List (List ℕ) → Ran
blocks_played place s [] = record { lines = end (entries_left s.channels) ∷ []; state = s }
blocks_played place s (b ∷ bs) =
    elim (refusal (block_grounds place b)) [
      | Some n ↦ record { lines = stop place (number_of n) ∷ []; state = s }
      | None ↦ then_more (block_played place s b).lines (blocks_played (suc place) (block_played place s b).state bs)
    ]

-- an input in blocks of 512 bytes, the last one perhaps shorter; k bounds their number
unfoldable pub cut : ℕ → List ℕ → List (List ℕ)
cut zero l = []
cut (suc k) [] = []
cut (suc k) (x ∷ l) = take 512 (x ∷ l) ∷ cut k (drop 512 (x ∷ l))

-- empty input is a block of no bytes
unfoldable pub input_blocks : List ℕ → List (List ℕ)
input_blocks [] = [] ∷ []
input_blocks (x ∷ l) = cut (length (x ∷ l)) (x ∷ l)

-- what the program does with an input: before its table there is no network
unfoldable pub run : List ℕ → Ran
run input = blocks_played 0 zero_state (input_blocks input)

-- and prints
unfoldable pub log : List ℕ → List ℕ
log input = texts (run input).lines
