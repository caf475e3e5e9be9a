-- The first 508 bytes are 508.
use native.Mathlib.Omega.{arith}
use lib.ListN.{length-take}
use Rattle.blocks.proofs.checks.check_is_right.Goals as goal

pub slice_bounds-weigh-end : goal.slice_bounds-weigh-end
slice_bounds-weigh-end c = simp length-take (omega arith)
