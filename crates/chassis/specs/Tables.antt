-- Grounds 23 to 27 of a table, in their order.
use Rattle.std.specs.Prelude.{ℕ, Bool, false, not, ◌&&◌, ◌||◌, List, [], ◌∷◌, take, drop, replicate, leb, eqb}
use Rattle.base.specs.Lists.{all, any, is_some}
use Rattle.base.specs.Grounds.{Ground, ◌when◌, refusal}
use Rattle.base.specs.declared.Refusal.TheVariants.{OutOfRange, UnusedByte, NoSuchBus, OnOneBus, NotOneWay}
use Rattle.chassis.specs.declared.Bus.{Bus}
use Rattle.chassis.specs.declared.Bridge.{Bridge}
use Rattle.chassis.specs.declared.Table.{Table}
use Rattle.chassis.specs.Numbers.{bus, same_bus}
use Rattle.chassis.specs.Channels.{no_bridge, has_bus}
use Rattle.chassis.specs.Routes.{one_way}
use Rattle.chassis.specs.Capacities.{most_agents}

abbrev pub within : ℕ → ℕ → ℕ → Bool
within low high n = leb low n && leb n high

-- the bridges and the agents' buses that the table has, and the places behind them
abbrev pub bridges_of : Table → List Bridge
bridges_of T = take T.bridges T.pairs

abbrev pub homes_of : Table → List Bus
homes_of T = take T.agents T.homes

abbrev pub is_zero_bus : Bus → Bool
is_zero_bus b = eqb b.0 0

abbrev pub is_zero_bridge : Bridge → Bool
is_zero_bridge g = is_zero_bus g.first && is_zero_bus g.second

unfoldable pub counts_in_range : Table → Bool
counts_in_range T =
    within 1 16 T.buses
    && within 0 15 T.bridges
    && within 1 most_agents T.agents
    && all (within 1 8) T.limits

unfoldable pub unused_are_zero : Table → Bool
unused_are_zero T =
    all is_zero_bridge (drop T.bridges T.pairs)
    && all is_zero_bus (drop T.agents T.homes)

abbrev pub has_both_buses : Table → Bridge → Bool
has_both_buses T g = has_bus T g.first && has_bus T g.second

unfoldable pub buses_are_there : Table → Bool
buses_are_there T =
    all (has_both_buses T) (bridges_of T)
    && all (has_bus T) (homes_of T)

abbrev pub is_on_one_bus : Bridge → Bool
is_on_one_bus g = same_bus g.first g.second

unfoldable pub a_bridge_on_one_bus : Table → Bool
a_bridge_on_one_bus T = any is_on_one_bus (bridges_of T)

-- `stray`: whatever else brought the table, its bytes, has an unused one that is not 0
unfoldable pub table_grounds : Table → Bool → List Ground
table_grounds T stray =
    OutOfRange when not (counts_in_range T)
    ∷ UnusedByte when (not (unused_are_zero T) || stray)
    ∷ NoSuchBus when not (buses_are_there T)
    ∷ OnOneBus when a_bridge_on_one_bus T
    ∷ NotOneWay when not (one_way T)
    ∷ []

-- the table passes grounds 23 to 27
unfoldable pub table_passes : Table → Bool
table_passes T = not (is_some (refusal (table_grounds T false)))

-- the table of the all-zero state
unfoldable pub zero_table : Table
zero_table = record {
  buses = 0;
  bridges = 0;
  agents = 0;
  limits = replicate 3 0;
  pairs = replicate 15 no_bridge;
  homes = replicate most_agents (bus 0);
}
