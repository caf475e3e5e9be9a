-- `weigh` is the weighed sum of the bytes.
-- The idea: the sum so far and the weighed sum of the bytes left make up the whole; 508 bytes keep it below 2^32.
use Prim.Native.Nat.{◌+◌, ◌*◌, ◌≤◌}
use mathlib.Core.Path.{◌≡◌}
use lib.ListN.{drop}
use Rattle.blocks.specs.Blocks.{weighed}
use Rattle.blocks.proofs.checks.weigh.Given as goal

abbrev pub invariant-loop-x : goal.invariant-loop-x
invariant-loop-x l =
    (l.weight ≡ l.x-index + 1) × (l.sum ≤ 129540 * l.x-index) × (l.sum + weighed l.weight (drop l.x-index l.b) ≡ weighed 1 l.b)
