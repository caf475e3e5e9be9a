-- The goals of `play_input` that speak of the log: what was handed on and what is left make up the whole.
use Rattle.std.proofs.Common.{rules, ◌≡◌, Some, refl, ◌∙◌, arith}
use borrow.Author.Tests.{not-false}
use Rattle.play_inputs.proofs.Turns.{right_on, left_at_first, goes_on, ends_cut, ends}
use Rattle.play_inputs.proofs.play_input.Goals as goal

pub loop-place-init : goal.loop-place-init
loop-place-init g c = record {
  early = omega arith;
  right = λ n. absurd (n refl);
  block_long = search rules;
  out_long = search rules;
  kept = refl;
  left = rw c.zero-state.ensures (left_at_first _ _ c.args.log.now _);
}

pub returns-in_err-hand_on-clause-known : goal.returns-in_err-hand_on-clause-known
returns-in_err-hand_on-clause-known g c =
    let l = c.loop-place in
    let is : c.read_block.result ≡ Some c.in_ok-n.n = search rules in
    let read = c.read_block.ensures in
    let page = c.play_next-r.ensures in
    ends_cut g.W.Write.contents g.S.Read.remaining c.args.log.now l.log c.hand_on.new.log l.state l.place _ _ _ l.block c.read_block.new.block l.out c.play_next-r.new.out
    c.read_block.result c.in_ok-n.n c.play_next-r.result.end is l.invariant.block_long (search rules) read.within read.known page.written (omega (arith, l.invariant.out_long, page.end_bound)) l.invariant.left
    _ c.from_residual-in_err-hand_on.ensures.0 c.in_err-hand_on.ensures.known

pub returns-then-not-r-clause-known : goal.returns-then-not-r-clause-known
returns-then-not-r-clause-known g c =
    let l = c.loop-place in
    let is : c.read_block.result ≡ Some c.in_ok-n.n = search rules in
    let read = c.read_block.ensures in
    let page = c.play_next-r.ensures in
    ends g.W.Write.contents g.S.Read.remaining c.args.log.now l.log c.hand_on.new.log l.state l.place _ _ _ l.block c.read_block.new.block l.out c.play_next-r.new.out
    c.read_block.result c.in_ok-n.n c.play_next-r.result.end is l.invariant.block_long (search rules) read.within read.known page.written (omega (arith, l.invariant.out_long, page.end_bound)) l.invariant.left
    c.ending.new.log c.ending.result _ page.going_value c.if-not-r.true c.in_ok-hand_on.ensures.known c.ending.ensures.known

pub loop-place-preserved : goal.loop-place-preserved
loop-place-preserved g c =
    let l = c.loop-place in
    let is : c.read_block.result ≡ Some c.in_ok-n.n = search rules in
    let read = c.read_block.ensures in
    let page = c.play_next-r.ensures in
    let going = not-false c.play_next-r.result.going c.if-not-r.false in
    let early = page.place_bound going in record {
      early = omega arith;
      right = λ n. right_on l.place l.state _ _ _ l.invariant.right page.state_value page.going_value going;
      block_long = search rules;
      out_long = search rules;
      kept = c.hand_on.ensures.kept ∙ l.invariant.kept;
      left = goes_on g.W.Write.contents g.S.Read.remaining c.args.log.now l.log c.hand_on.new.log l.state l.place _ _ _ l.block c.read_block.new.block l.out c.play_next-r.new.out
          c.read_block.result c.in_ok-n.n c.play_next-r.result.end is l.invariant.block_long (search rules) read.within read.known page.written (omega (arith, l.invariant.out_long, page.end_bound)) l.invariant.left
          _ _ page.state_value page.going_value going c.in_ok-hand_on.ensures.known;
    }
