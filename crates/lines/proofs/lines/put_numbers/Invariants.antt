-- `put_numbers` writes a space and a number for each.
-- The idea: what is left of the numbers, written behind what is done, makes up all of them.
use lib.ListN.{drop}
use Rattle.lines.specs.Lines.{numbers}
use Rattle.lines.proofs.Texts.{ToWrite}
use Rattle.lines.proofs.lines.put_numbers.Given as goal

abbrev pub invariant-loop-n : goal.invariant-loop-n
invariant-loop-n l = ToWrite l.initial.out l.at (numbers l.ns) l.out l.end (numbers (drop l.n-index l.ns))
