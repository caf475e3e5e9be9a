-- The buffer keeps its length, and a failed read takes nothing.
use Rattle.std.proofs.Common.{◌≡◌, length}
use Rattle.std.specs.Io.KnownBytes.{Keeps}
use Rattle.play_inputs.proofs.read_part.Given as goal

abbrev pub invariant-loop : goal.invariant-loop
invariant-loop g l = (length l.part ≡ length l.initial.part) × Keeps (g.R.Read.remaining l.initial.from) (g.R.Read.remaining l.from)
