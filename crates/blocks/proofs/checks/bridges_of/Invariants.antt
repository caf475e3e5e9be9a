-- `bridges_of` reads the bus pairs of bytes 16 to 45.
-- The idea: the pairs filled so far and the records of the bytes left make up the records of all the bytes.
use Prim.Native.Nat.{◌+◌, ◌*◌, ◌≤◌}
use mathlib.Core.Path.{◌≡◌}
use mathlib.Core.List.{◌++◌}
use lib.ListN.{length, take}
use lib.Seq.{slice}
use Rattle.blocks.specs.Blocks.{bridge_records}
use Rattle.blocks.proofs.checks.bridges_of.Given as goal

abbrev pub invariant-loop-i : goal.invariant-loop-i
invariant-loop-i l =
    (l.i ≤ 15) × (length l.pairs ≡ 15) × (take l.i l.pairs ++ bridge_records (slice (16 + 2 * l.i) 46 l.b) ≡ bridge_records (slice 16 46 l.b))
