-- A state with one of its parts replaced.
use Rattle.std.specs.Prelude.{ℕ, List, set}
use Rattle.chassis.specs.declared.Chan.{Chan}
use Rattle.chassis.specs.declared.Table.{Table}
use Rattle.queue.specs.declared.Channel.{Channel}
use Rattle.network.specs.declared.State.{State}

abbrev pub with_table : State → Table → State
with_table s t = record { table = t; channels = s.channels; begins = s.begins }

abbrev pub with_channels : State → List Channel → State
with_channels s l = record { table = s.table; channels = l; begins = s.begins }

abbrev pub with_counts : State → List ℕ → State
with_counts s l = record { table = s.table; channels = s.channels; begins = l }

-- one channel replaced; one that is not there replaces nothing
abbrev pub with_channel : State → Chan → Channel → State
with_channel s n c = with_channels s (set s.channels n.0 c)
