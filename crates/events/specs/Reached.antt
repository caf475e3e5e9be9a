-- The states reached from an empty network by accepted events.
use Rattle.std.specs.Prelude.{◌≡◌, true}
use Rattle.chassis.specs.declared.Table.{Table}
use Rattle.chassis.specs.Tables.{table_passes}
use Rattle.network.specs.Nets.{Net, empty_net}
use Rattle.events.specs.declared.Event.{Event}
use Rattle.events.specs.Grounds.{Accepted}
use Rattle.events.specs.Effects.{after}

pub data Reached : Net → Type 0 where
  at_first : (T : Table) → table_passes T ≡ true → Reached (empty_net T)
  and_then : (s : Net) (e : Event) → Reached s → Accepted s e → Reached (after s e)
