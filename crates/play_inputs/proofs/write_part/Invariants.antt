-- A failed write takes nothing.
use Rattle.std.specs.Io.KnownBytes.{Keeps}
use Rattle.play_inputs.proofs.write_part.Given as goal

abbrev pub invariant-loop : goal.invariant-loop
invariant-loop g l = Keeps (g.W.Write.contents l.initial.to) (g.W.Write.contents l.to)
