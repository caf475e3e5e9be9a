-- `weigh` is the weighed sum of the bytes.
-- The idea: the sum so far and the weighed sum of the bytes left make up the whole; 508 bytes keep it below 2^32.
use Prim.Native.Nat.{◌*◌, ◌≤◌}
use native.Mathlib.Omega.{arith}
use lib.ListN.{drop_of_length-le}
use Rattle.blocks.specs.Blocks.{weighed}
use Rattle.blocks.proofs.Bytes.{weighed_turn, weight_small}
use borrow.Author.Rules.{rules}
use Rattle.blocks.proofs.checks.weigh.Goals as goal

pub loop-x-preserved : goal.loop-x-preserved
loop-x-preserved c =
    let l = c.loop-x in
    let turn = rw (← c.from.ensures) at (weighed_turn l.weight l.x-index c.args.b.now (omega arith)) in
    let byte : c.from.result ≤ 255 = omega (arith, c.type_inv.b l.x-index, c.from.ensures) in
    let small : l.weight * c.from.result ≤ 129540 = weight_small l.weight c.from.result (omega arith) byte in
    (omega arith, omega arith, omega (arith, turn, l.invariant.2))

pub returns : goal.returns
unfolding weighed
returns c =
    let h = rw (drop_of_length-le c.args.b.now {i = c.loop-x.x-index} (search rules)) at c.loop-x.invariant.2 in
    omega (arith, h)
