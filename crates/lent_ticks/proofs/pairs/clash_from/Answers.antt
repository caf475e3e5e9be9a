-- The search for a partner, place by place, is the place that the definition tells.
use mathlib.Core.Path.{◌≡◌, ap, sym, ◌∙◌}
use lib.ListN.{get_or}
use Rattle.ticks.specs.Conflicts.{clash}
use Rattle.compare_events.specs.declared.Foot.{Foot}
use Rattle.compare_events.specs.Feet.{footing_of}
use Rattle.play_ticks.specs.Turns.{no_turn}
use Rattle.play_ticks.proofs.Pairing.{compare_on, partner_found, no_partner}
use Rattle.lent_ticks.specs.Places.{partner_place}
use Rattle.lent_ticks.proofs.pairs.clash_from.Goals as goal
use Rattle.lent_ticks.proofs.pairs.clash_from.Goals.{After-clashes}

-- what was asked of the foot at place i
asked : (c : After-clashes) → clash (footing_of c.args.e) (footing_of (get_or c.args.turns.now.all c.loop-i.i no_turn).foot) ≡ c.clashes.result
asked c = sym (c.clashes.ensures ∙ ap (λ (x : Foot). clash (footing_of c.args.e) (footing_of x)) c.foot_at.ensures)

pub returns-then-clashes : goal.returns-then-clashes
unfolding partner_place
returns-then-clashes c =
    let h = asked (goal.at.returns-then-clashes c).After-clashes ∙ c.if-clashes.true in
    sym (partner_found c.args.turns.now.all c.args.n c.args.e c.args.j c.loop-i.i c.loop-i.invariant no_turn c.loop-i-test.true h)

pub loop-i-preserved : goal.loop-i-preserved
loop-i-preserved c =
    let h = asked (goal.at.loop-i-preserved c).After-clashes ∙ c.if-clashes.false in
    compare_on c.args.turns.now.all c.args.n c.args.e c.args.j c.loop-i.i c.loop-i.invariant no_turn c.loop-i-test.true h

pub returns : goal.returns
unfolding partner_place
returns c = sym (no_partner c.args.turns.now.all c.args.n c.args.e c.args.j c.loop-i.i c.loop-i.invariant c.loop-i-test.false)
