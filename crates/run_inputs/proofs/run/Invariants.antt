-- `run` prints the log of its input into the buffer, and answers how long the log is.
-- The idea: what is left of the log, printed behind what is done, makes up all of it; and block 65,536 is refused.
use Prim.Native.Nat.{◌-◌, ◌*◌, ◌≤◌}
use mathlib.Core.Path.{◌≡◌}
use lib.ListN.{length}
use Rattle.events.proofs.SoundStays.{Right}
use Rattle.run_inputs.proofs.Runs.{Left}
use Rattle.run_inputs.proofs.run.Given as goal

abbrev pub invariant-loop-text : goal.invariant-loop-text
invariant-loop-text l =
    (l.at ≤ length l.input) × (l.place ≤ 65536) × (l.end ≤ 2560 * l.place) × (length l.text ≡ 2560) × ((l.place ≡ 0 → ⊥) → Right l.state)
    × Left l.input l.initial.out l.out l.state l.place l.at l.end

abbrev pub decreases-loop-text : goal.decreases-loop-text
decreases-loop-text l = 65536 - l.place
