-- Channels and their buses. With A agents, channel a below A is the master channel of agent a;
-- bridge g has channel A + 2g, from its first bus to its second, and A + 2g + 1, the opposite one.
use Rattle.std.specs.Prelude.{ℕ, ◌+◌, ◌-◌, ◌*◌, ◌/◌, ◌%◌, Bool, cond, get_or, ltb, eqb, Option, None, Some}
use Rattle.chassis.specs.declared.Agent.{Agent}
use Rattle.chassis.specs.declared.Bus.{Bus}
use Rattle.chassis.specs.declared.Chan.{Chan}
use Rattle.chassis.specs.declared.Bridge.{Bridge}
use Rattle.chassis.specs.declared.Table.{Table}
use Rattle.chassis.specs.Numbers.{agent, bus, chan}

abbrev pub no_bridge : Bridge
no_bridge = record { first = bus 0; second = bus 0 }

-- the two buses of bridge g
abbrev pub first_bus : Table → ℕ → Bus
first_bus T g = (get_or T.pairs g no_bridge).first

abbrev pub second_bus : Table → ℕ → Bus
second_bus T g = (get_or T.pairs g no_bridge).second

-- an agent's bus
abbrev pub home : Table → Agent → Bus
home T a = get_or T.homes a.0 (bus 0)

abbrev pub chan_count : Table → ℕ
chan_count T = T.agents + 2 * T.bridges

-- is it in the table
abbrev pub has_agent : Table → Agent → Bool
has_agent T a = ltb a.0 T.agents

abbrev pub has_chan : Table → Chan → Bool
has_chan T N = ltb N.0 (chan_count T)

abbrev pub has_bus : Table → Bus → Bool
has_bus T b = ltb b.0 T.buses

abbrev pub is_master : Table → Chan → Bool
is_master T N = ltb N.0 T.agents

abbrev pub master_channel : Agent → Chan
master_channel a = chan a.0

-- the bridge of a bridge channel, and whether the channel goes from its first bus to its second
abbrev pub bridge_of : Table → Chan → ℕ
bridge_of T N = (N.0 - T.agents) / 2

abbrev pub goes_forth : Table → Chan → Bool
goes_forth T N = eqb ((N.0 - T.agents) % 2) 0

unfoldable pub out_bus : Table → Chan → Bus
out_bus T N =
    cond (is_master T N) (home T (agent N.0))
    (cond (goes_forth T N) (second_bus T (bridge_of T N)) (first_bus T (bridge_of T N)))

-- a master channel has no in-bus
unfoldable pub in_bus : Table → Chan → Option Bus
in_bus T N =
    cond (is_master T N) None
    (Some (cond (goes_forth T N) (first_bus T (bridge_of T N)) (second_bus T (bridge_of T N))))

-- the other channel of the same bridge
unfoldable pub opposite : Table → Chan → Chan
opposite T N = cond (goes_forth T N) (chan (N.0 + 1)) (chan (N.0 - 1))

-- the limit for entries of kind k (1 P, 2 R, 3 C) in a channel
abbrev pub limit : Table → ℕ → ℕ
limit T k = get_or T.limits (k - 1) 0
