-- `crosses` finds a channel among those of the way, bus by bus; the measure is the number of bridges left on the way.
-- Each turn is a law of proofs/Following.antt at what was looked up.
use Prim.Native.Nat.{◌<◌}
use mathlib.Core.Path.{◌≡◌}
use mathlib.Core.List.{map}
use lib.ListN.{length}
use Rattle.chassis.specs.Routes.{way, channel_of, among}
use Rattle.find_routes.proofs.ways.Ways.crosses.Given as goal

-- the bus is there, and what is left of the way answers for the whole
abbrev pub invariant-loop-b : goal.invariant-loop-b
invariant-loop-b l =
    let T = l.self.table in
    (l.here.0 < T.buses)
    × (among l.n (map (channel_of T) (way T l.here l.b)) ≡ among l.n (map (channel_of T) (way T l.initial.here l.b)))

abbrev pub decreases-loop-b : goal.decreases-loop-b
decreases-loop-b l = length (way l.self.table l.here l.b)
