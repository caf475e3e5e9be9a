-- `run_block` does with one block what the definition does.
-- The idea: each arm is an answer of `block_answer`.
use Rattle.std.specs.Prelude.{Ok}
use Prim.Native.Nat.{ℕ, ◌≤◌}
use mathlib.Core.List.{List}
use mathlib.Core.Path.{◌≡◌, ap, sym, ◌∙◌}
use native.Mathlib.Omega.{arith}
use lib.ListN.{length}
use Rattle.chassis.specs.Capacities.{most_records}
use Rattle.blocks.specs.declared.BlockKind.{BlockKind}
use Rattle.blocks.specs.Answers.{block_answer}
use Rattle.blocks.specs.Blocks.{record_count}
use Rattle.blocks.proofs.Accepted.{accepted_block, accepted_length, accepted_count}
use Rattle.logs.proofs.Running.{steps_later, tick_later}
use Rattle.logs.proofs.runs.run_block.Goals as goal

-- an accepted block is whole, and its records are few
fits : (place : ℕ) (b : List ℕ) {k : BlockKind} → block_answer place b ≡ Ok k → (length b ≡ 512) × (record_count b ≤ most_records)
fits place b {k} e = let h = (accepted_block place b k e).0 in (accepted_length place b h, accepted_count place b h)

pub table_of-t-requires : goal.table_of-t-requires
table_of-t-requires c = (fits c.args.place c.args.b.now (sym c.block_answer.ensures ∙ c.in-Ok-Network.is)).0

pub play_steps-r-requires : goal.play_steps-r-requires
play_steps-r-requires c =
    let e = sym c.block_answer.ensures ∙ c.in-Ok-Steps.is ∙ ap Ok c.in-Ok-Steps.field-0-is in
    let f = fits c.args.place c.args.b.now e in
    (c.requires.1 (steps_later c.args.place c.args.b.now e), f.0, f.1, omega arith)

pub play_cycle-r-requires : goal.play_cycle-r-requires
play_cycle-r-requires c =
    let e = sym c.block_answer.ensures ∙ c.in-Ok-Tick.is ∙ ap Ok c.in-Ok-Tick.field-0-is in
    let f = fits c.args.place c.args.b.now e in
    (c.requires.1 (tick_later c.args.place c.args.b.now e), f.0, f.1, omega arith)
