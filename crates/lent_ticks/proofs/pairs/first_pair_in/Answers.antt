-- The partner that was found is the lowest of the lowest; where none is found, the next record's is sought.
use mathlib.Core.Path.{◌≡◌, sym, ◌∙◌}
use Prim.Native.Nat.{◌+◌, ◌<◌}
use native.Mathlib.Omega.{arith}
use lib.ListN.{get_or}
use Rattle.play_ticks.specs.Turns.{no_turn}
use Rattle.play_ticks.proofs.Pairing.{pair_found, seek_on, seek_done}
use Rattle.lent_ticks.specs.Places.{partner_place}
use Rattle.lent_ticks.proofs.Pairing.{below}
use Rattle.lent_ticks.proofs.pairs.first_pair_in.Goals as goal
use Rattle.lent_ticks.proofs.pairs.first_pair_in.Goals.{After-clash_from}

-- what was sought of the record at place i
sought : (c : After-clash_from) → partner_place c.args.turns.now.all (get_or c.args.turns.now.all c.loop-i.i no_turn).foot (c.loop-i.i + 1) c.args.n ≡ c.clash_from.result
sought c = sym (c.clash_from.ensures ∙ rw c.foot_at-e.ensures)

pub overflow_cast-result-in-Some : goal.overflow_cast-result-in-Some
overflow_cast-result-in-Some c =
    let all = c.args.turns.now.all in
    let n = c.args.n in
    let i = c.loop-i.i in
    let lt : i < n = c.loop-i-test.true in
    let p = sought (goal.at.overflow_cast-result-in-Some c).After-clash_from ∙ c.in-Some.is in
    let b = below all (get_or all i no_turn).foot (i + 1) n (omega arith) c.loop-i.invariant.long c.in-Some.j p in
    let few = c.requires in
    omega arith

pub returns-in-Some : goal.returns-in-Some
unfolding partner_place
returns-in-Some c =
    pair_found c.args.turns.now.all c.args.n c.loop-i.i no_turn c.loop-i.invariant c.loop-i-test.true c.in-Some.j
    (sought (goal.at.returns-in-Some c).After-clash_from ∙ c.in-Some.is)

pub loop-i-preserved : goal.loop-i-preserved
unfolding partner_place
loop-i-preserved c =
    seek_on c.args.turns.now.all c.args.n c.loop-i.i no_turn c.loop-i.invariant c.loop-i-test.true
    (sought (goal.at.loop-i-preserved c).After-clash_from ∙ c.in_default.is)

pub returns : goal.returns
returns c = seek_done c.args.turns.now.all c.args.n c.loop-i.i c.loop-i.invariant c.loop-i-test.false
