-- `homes_of` reads the agents' buses of bytes 48 to 79.
-- The idea: the buses filled so far and those of the bytes left make up those of all the bytes.
use Prim.Native.Nat.{◌+◌, ◌≤◌}
use mathlib.Core.Path.{◌≡◌}
use mathlib.Core.List.{◌++◌, map}
use lib.ListN.{length, take}
use lib.Seq.{slice}
use Rattle.chassis.specs.Numbers.{bus}
use Rattle.chassis.specs.Capacities.{most_agents}
use Rattle.blocks.proofs.checks.homes_of.Given as goal

abbrev pub invariant-loop-i : goal.invariant-loop-i
invariant-loop-i l =
    (l.i ≤ most_agents) × (length l.homes ≡ most_agents) × (take l.i l.homes ++ map bus (slice (48 + l.i) 80 l.b) ≡ map bus (slice 48 80 l.b))
