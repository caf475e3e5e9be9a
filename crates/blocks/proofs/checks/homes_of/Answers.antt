-- `homes_of` reads the agents' buses of bytes 48 to 79.
-- The idea: the buses filled so far and those of the bytes left make up those of all the bytes.
use Prim.Native.Nat.{◌+◌, ◌<◌}
use mathlib.Core.Path.{◌≡◌, ap, sym, ◌∙◌}
use mathlib.Core.List.{map}
use native.Mathlib.Omega.{arith}
use lib.ListN.{length, length-set}
use Rattle.chassis.specs.Numbers.{bus}
use Rattle.blocks.proofs.Bytes.{homes_turn}
use Rattle.base.proofs.Writing.{filled, filled_on}
use Rattle.base.proofs.Loops.{slice_over}
use Rattle.blocks.proofs.checks.homes_of.Goals as goal

pub loop-i-preserved : goal.loop-i-preserved
loop-i-preserved c =
    let l = c.loop-i in
    let b = c.args.b.now in
    let k : l.i < length l.homes = omega (arith, l.invariant.1) in
    let e : 48 + (l.i + 1) ≡ 48 + l.i + 1 = omega arith in (
      omega arith,
      simp length-set l.invariant.1,
      filled_on l.homes l.i _ _ k ∙ rw (← l.invariant.2, homes_turn b 80 (48 + l.i) (omega arith) (omega arith), e),
    )

pub returns : goal.returns
returns c =
    let l = c.loop-i in
    sym (filled l.homes l.i (omega arith) (ap (map bus) (slice_over (48 + l.i) 80 c.args.b.now (omega arith)))) ∙ l.invariant.2
