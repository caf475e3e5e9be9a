-- The ladder, filled from the front.
-- The places before i hold their labels and those from i on hold 0; `is_ladder` knows the ladder by its places.
use Prim.Native.Nat.{◌<◌}
use mathlib.Core.Path.{refl}
use native.Mathlib.Omega.{arith}
use lib.ListN.{length, length-set}
use Rattle.base.proofs.Made.{fill_on, fill_behind, replicate_at}
use Rattle.check_tables.specs.Ladders.{label_at}
use Rattle.check_tables.proofs.Levels.{few_places, is_ladder}
use Rattle.check_tables.proofs.labels.ladder.Goals as goal

pub loop-i-init : goal.loop-i-init
loop-i-init c = (omega arith, refl, λ j b. absurd (omega arith), λ j b. replicate_at 256 j 0)

pub loop-i-preserved : goal.loop-i-preserved
loop-i-preserved c =
    let t = c.args.t in
    let l = c.loop-i in
    let k : l.i < length l.l = omega (arith, few_places t c.requires) in (
      omega arith,
      simp length-set l.invariant.1,
      fill_on 0 l.l l.i c.label-v.result (label_at t) k c.label-v.ensures l.invariant.2,
      fill_behind 0 l.l l.i c.label-v.result 0 l.invariant.3,
    )

pub returns : goal.returns
returns c =
    let t = c.args.t in
    let l = c.loop-i in
    is_ladder t c.requires l.l l.invariant.1 (λ j b. l.invariant.2 j (omega arith)) (λ j b. l.invariant.3 j (omega arith))
