-- `put_numbers` writes a space and a number for each.
-- The idea: what is left of the numbers, written behind what is done, makes up all of them.
use borrow.Author.Rules.{rules}
use native.Mathlib.Omega.{arith}
use lib.ListN.{length-append, drop_of_length-le}
use Rattle.lines.specs.Lines.{numbers}
use Rattle.lines.proofs.Texts.{to_write_on, to_write_none, to_write_length, numbers_turn}
use Rattle.lines.proofs.lines.put_numbers.Goals as goal

pub put_number-end-requires : goal.put_number-end-requires
put_number-end-requires c =
    let l = c.loop-n in
    let ns = c.args.ns.now in
    omega (arith, rw (numbers_turn ns l.n-index (omega arith), length-append) at l.invariant.reached, to_write_length l.invariant)

pub loop-n-preserved : goal.loop-n-preserved
loop-n-preserved c =
    let l = c.loop-n in
    let ns = c.args.ns.now in
    to_write_on (rw (numbers_turn ns l.n-index (omega arith)) at l.invariant) c.put_number-end.ensures

pub returns : goal.returns
unfolding numbers
returns c =
    let l = c.loop-n in
    to_write_none (rw (drop_of_length-le c.args.ns.now {i = l.n-index} (search rules)) at l.invariant)
