-- Each record is judged against the one state: where it is refused the search ends, else its turn lies in its place.
use mathlib.Core.Path.{sym, ◌∙◌}
use Rattle.network.specs.Nets.{view}
use Rattle.play_ticks.proofs.Judging.{judge_on, judge_stop, made_stop, made_over, pairs_decide, in_their_places}
use Rattle.lent_ticks.proofs.Told.{left, refused_by}
use Rattle.lent_ticks.proofs.judging.judge_all_in.Goals as goal

pub returns-in-Err : goal.returns-in-Err
returns-in-Err c =
    let s = view c.args.s.now in
    let r = c.args.r.now in
    let many = c.many_in-many.result in
    let before = c.args.turns.now.all in
    let all = c.loop-i.turns.all in
    let i = c.loop-i.i in
    let inv = c.loop-i.invariant in
    let d = c.record_at.result in
    let h = refused_by s d (sym c.in-Err.ensures) in (
      judge_stop s r many before all i inv c.loop-i-test.true d c.record_at.ensures c.in-Err.ground h,
      in_their_places s r many before all i inv (made_stop s r many before all i inv c.loop-i-test.true d c.record_at.ensures c.in-Err.ground h),
    )

pub loop-i-preserved : goal.loop-i-preserved
loop-i-preserved c =
    let s = view c.args.s.now in
    let d = c.record_at.result in
    let x = left s d c.in-Ok.x (sym c.in-Ok.ensures) in
    rw (c.put_turn.ensures, x.own)
    (judge_on s c.args.r.now c.many_in-many.result c.args.turns.now.all c.loop-i.turns.all c.loop-i.i c.loop-i.invariant c.loop-i-test.true d c.record_at.ensures x.event x.is x.accepted)

pub returns : goal.returns
returns c =
    let s = view c.args.s.now in
    let r = c.args.r.now in
    let many = c.many_in-many.result in
    let before = c.args.turns.now.all in
    let all = c.loop-i.turns.all in
    let i = c.loop-i.i in
    let inv = c.loop-i.invariant in (
      c.first_pair_in.ensures ∙ pairs_decide s r many before all i inv c.loop-i-test.false,
      in_their_places s r many before all i inv (made_over s r many before all i inv c.loop-i-test.false),
    )
