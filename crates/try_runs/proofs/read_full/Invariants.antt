-- What was read is within the buffer.
use Rattle.std.proofs.Common.{◌≡◌, ◌≤◌, length}
use Rattle.try_runs.proofs.read_full.Given as goal

abbrev pub invariant-loop : goal.invariant-loop
invariant-loop g l = (l.done ≤ length l.buffer) × (length l.buffer ≡ length l.initial.buffer)
