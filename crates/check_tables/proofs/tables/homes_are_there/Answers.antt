-- The agents' buses that the table has lie within its places: ground 23 bounds the agents' number.
use native.Mathlib.Omega.{arith}
use Rattle.chassis.proofs.Counts.{counts}
use Rattle.check_tables.proofs.tables.homes_are_there.Goals as goal

pub shared_ref_as_front-iter : goal.shared_ref_as_front-iter
shared_ref_as_front-iter c = omega (arith, counts c.args.t c.requires)
