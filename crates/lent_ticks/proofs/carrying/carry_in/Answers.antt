-- A turn that is settled is carried out, and its value goes to its place.
use mathlib.Core.Path.{ap, ◌∙◌}
use lib.ListN.{get_or}
use Rattle.play_ticks.specs.declared.Turn.{Turn}
use Rattle.play_ticks.specs.Turns.{no_turn}
use Rattle.play_ticks.proofs.Carrying.{carry_on, carry_done}
use Rattle.lent_plays.specs.Asks.{settled}
use Rattle.lent_ticks.proofs.Settled.{settles_turn}
use Rattle.lent_ticks.proofs.carrying.carry_in.Goals as goal

pub loop-i-preserved : goal.loop-i-preserved
loop-i-preserved c =
    let all = c.args.turns.now.all in
    let s = c.loop-i.s in
    let i = c.loop-i.i in
    rw c.turn_at-x.ensures
    (carry_on all c.args.n c.args.s.now c.args.answers.now s c.loop-i.answers i c.loop-i.invariant c.loop-i-test.true no_turn c.settle_in.new.s
    (c.settle_in.ensures ∙ ap (λ (x : Turn). settled s x.master x.plan) c.turn_at-x.ensures ∙ settles_turn s (get_or all i no_turn)))

pub returns : goal.returns
returns c = carry_done c.args.turns.now.all c.args.n c.args.s.now c.args.answers.now c.loop-i.s c.loop-i.answers c.loop-i.i c.loop-i.invariant c.loop-i-test.false
