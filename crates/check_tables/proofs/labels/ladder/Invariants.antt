-- The ladder, filled from the front.
-- The places before i hold their labels and those from i on hold 0; `is_ladder` knows the ladder by its places.
use Prim.Native.Nat.{ℕ, ◌<◌, ◌≤◌}
use mathlib.Core.Path.{◌≡◌}
use lib.ListN.{length, get_or}
use Rattle.check_tables.specs.Ladders.{places, label_at}
use Rattle.check_tables.proofs.labels.ladder.Given as goal

abbrev pub invariant-loop-i : goal.invariant-loop-i
invariant-loop-i l =
    (l.i ≤ places l.t)
    × (length l.l ≡ 256)
    × ((j : ℕ) → j < l.i → get_or l.l j 0 ≡ label_at l.t j)
    × ((j : ℕ) → l.i ≤ j → get_or l.l j 0 ≡ 0)
