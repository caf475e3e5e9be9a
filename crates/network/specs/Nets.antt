-- A state as lists: for each channel its entries, oldest first; for each agent its count. `view` reads it off the declared
-- state, `pack` writes it there. Arrays, padding and unused places appear nowhere else.
use Rattle.std.specs.Prelude.{ℕ, List, [], map, Bool, get_or, replicate}
use Rattle.chassis.specs.declared.Agent.{Agent}
use Rattle.chassis.specs.declared.Chan.{Chan}
use Rattle.chassis.specs.declared.Table.{Table}
use Rattle.chassis.specs.Capacities.{most_agents, most_channels}
use Rattle.queue.specs.declared.Entry.{Entry}
use Rattle.queue.specs.Packing.{live, packed}
use Rattle.network.specs.declared.State.{State}
use Rattle.network.specs.Rooms.{room_for, is_full}

pub record Net : Type 0 where
  pub table : Table
  pub chans : List (List Entry)
  pub begins : List ℕ

unfoldable pub view : State → Net
view s = record { table = s.table; chans = map live s.channels; begins = s.begins }

unfoldable pub pack : Net → State
pack s = record { table = s.table; channels = map packed s.chans; begins = s.begins }

-- the empty network of a table
unfoldable pub empty_net : Table → Net
empty_net T = record { table = T; chans = replicate most_channels []; begins = replicate most_agents 0 }

-- what waits in channel N
abbrev pub waiting : Net → Chan → List Entry
waiting s N = get_or s.chans N.0 []

-- the count of agent a's accepted begins
abbrev pub begun : Net → Agent → ℕ
begun s a = get_or s.begins a.0 0

-- channel N has no room for an entry of kind k and master m
abbrev pub full : Net → ℕ → Agent → Chan → Bool
full s k m N = is_full (room_for s.table k m) (waiting s N)
