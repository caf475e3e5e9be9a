-- `next_hop` goes down the bridges, the last one first; before each turn the first place towards the goal is the one asked
-- for. Each turn is a law of proofs/Nearest.antt at what the labels said.
use mathlib.Core.Path.{sym, ◌∙◌}
use Rattle.base.proofs.Cases.{cases}
use Rattle.find_routes.proofs.Nearest.{go_below, go_through, go_near}
use Rattle.find_routes.proofs.hops.next_hop.Goals as goal

pub returns-then-eq : goal.returns-then-eq
returns-then-eq c =
    let a = c.args in
    let d = c.share_label-forth in
    rw c.bridge_channel.ensures
    (go_through a.t c.requires.0 a.l.now c.requires.1 c.loop-left.invariant c.loop-left-test.true (search cases) d.result d.ensures _ c.near_end-near.ensures (sym c.eq.ensures ∙ c.if-eq.true))

pub loop-left-preserved-then-not-share_label : goal.loop-left-preserved-then-not-share_label
loop-left-preserved-then-not-share_label c =
    let a = c.args in
    let d = c.share_label-forth in
    go_near a.t c.requires.0 a.l.now c.requires.1 c.loop-left.invariant c.loop-left-test.true (search cases) d.result d.ensures _ c.near_end-near.ensures (sym c.eq.ensures ∙ c.if-eq.false)

pub loop-left-preserved : goal.loop-left-preserved
loop-left-preserved c =
    go_below c.args.t c.requires.0 c.args.l.now c.requires.1 c.loop-left.invariant c.loop-left-test.true (search cases)
