-- All rows of the table, one after the other: a row is made of itself, so those before do not matter to it.
use native.Mathlib.Omega.{arith}
use Rattle.find_routes.proofs.Crossings.{rows_next}
use Rattle.find_routes.proofs.hops.cross.Goals as goal

pub loop-a-preserved : goal.loop-a-preserved
loop-a-preserved c =
    let s = c.args in
    let l = c.loop-a in
    rows_next s.labels s.near s.far s.c s.h.now l.h c.cross_from.new.h l.a (omega arith) c.requires.1 l.invariant c.cross_from.ensures
