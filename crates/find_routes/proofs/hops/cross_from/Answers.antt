-- One row of the table, filled in place from the front. Before the loop it is known that bus a is on the near side; the row
-- is then what `crossed` says, by `on_near_side`.
use Prim.Native.Nat.{◌+◌, ◌*◌}
use mathlib.Core.Path.{◌≡◌, ◌∙◌}
use mathlib.Core.Bool.{cond}
use native.Mathlib.Omega.{arith}
use borrow.Author.Tests.{eq-eqb, ne_eqb}
use lib.Dec.{eqb}
use lib.ListN.{get_or}
use Rattle.find_routes.specs.Crossings.{at, crossed}
use Rattle.find_routes.proofs.Crossings.{row_next, row_ends, row_stays, spread, on_near_side, off_near_side}
use Rattle.find_routes.proofs.hops.cross_from.Goals as goal
use Rattle.find_routes.proofs.hops.cross_from.Goals.{then-a-x, else-a-x}

pub returns-then-labels-a : goal.returns-then-labels-a
returns-then-labels-a c =
    let s = c.args in
    row_stays s.a s.h.now (crossed s.labels.now s.near s.far s.c (at s.h.now)) c.requires.0
    (λ b. off_near_side s.labels.now s.near s.far s.c s.a (at s.h.now) b c.if-labels-a.true)

pub loop-b-preserved : goal.loop-b-preserved
loop-b-preserved c =
    let s = c.args in
    let l = c.loop-b in
    let g = spread s.labels.now (get_or s.labels.now s.far.0 0) c.if-a-x.v (at s.h.now) in
    let same : get_or l.h (16 * s.a + l.b) 0 ≡ at s.h.now s.a l.b = l.invariant.rest (16 * s.a + l.b) (omega arith) (omega arith) in
    let e : c.chosen.result ≡ g s.a l.b = c.chosen.ensures ∙ rw same in
    row_next s.a s.h.now g l.h l.b _ c.requires.1 (omega arith) l.invariant e

pub returns : goal.returns
returns c =
    let l = c.loop-b in
    let s = c.args in
    let v = c.if-a-x.v in
    let e : v ≡ cond (eqb s.a s.near.0) s.c.0 (at s.h.now s.a s.near.0) =
    elim c.if-a-x.branch [ then-a-x w ↦ w.v-is ∙ rw (eq-eqb _ _ w.if-a-x.true) | else-a-x w ↦ w.v-is ∙ rw (ne_eqb _ _ w.if-a-x.false) ] in
    row_ends s.a s.h.now (spread s.labels.now (get_or s.labels.now s.far.0 0) v (at s.h.now)) (crossed s.labels.now s.near s.far s.c (at s.h.now))
    (λ b. on_near_side s.labels.now s.near s.far s.c s.a (at s.h.now) v b c.if-labels-a.false e)
    l.h l.b (omega arith) l.invariant
