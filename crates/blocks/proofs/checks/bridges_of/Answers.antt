-- `bridges_of` reads the bus pairs of bytes 16 to 45.
-- The idea: the pairs filled so far and the records of the bytes left make up the records of all the bytes.
use Prim.Native.Nat.{◌+◌, ◌*◌, ◌<◌}
use mathlib.Core.Path.{◌≡◌, ap, sym, ◌∙◌}
use native.Mathlib.Omega.{arith}
use lib.ListN.{length, length-set}
use Rattle.blocks.specs.Blocks.{bridge_records}
use Rattle.blocks.proofs.Bytes.{bridges_turn}
use Rattle.base.proofs.Writing.{filled, filled_on}
use Rattle.base.proofs.Loops.{slice_over}
use Rattle.blocks.proofs.checks.bridges_of.Goals as goal

pub loop-i-preserved : goal.loop-i-preserved
loop-i-preserved c =
    let l = c.loop-i in
    let b = c.args.b.now in
    let k : l.i < length l.pairs = omega (arith, l.invariant.1) in
    let e : 16 + 2 * (l.i + 1) ≡ 16 + 2 * l.i + 2 = omega arith in (
      omega arith,
      simp length-set l.invariant.1,
      filled_on l.pairs l.i _ _ k ∙ rw (← l.invariant.2, bridges_turn b 46 (16 + 2 * l.i) (omega arith) (omega arith), e),
    )

pub returns : goal.returns
unfolding bridge_records
returns c =
    let l = c.loop-i in
    sym (filled l.pairs l.i (omega arith) (ap bridge_records (slice_over (16 + 2 * l.i) 46 c.args.b.now (omega arith)))) ∙ l.invariant.2
