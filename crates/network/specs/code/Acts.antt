-- A change of one channel, as lists and as declared; and what three changes and a count make of a state.
use Rattle.std.specs.Prelude.{ℕ, [], get_or, set}
use Rattle.base.specs.Lists.{modify}
use Rattle.chassis.specs.declared.Agent.{Agent}
use Rattle.chassis.specs.declared.Chan.{Chan}
use Rattle.queue.specs.declared.Channel.{Channel}
use Rattle.queue.specs.code.Changes.{changes}
use Rattle.queue.specs.code.Methods.{changed_to}
use Rattle.network.specs.declared.State.{State}
use Rattle.network.specs.declared.Act.{Act}
use Rattle.network.specs.Nets.{Net}

-- as lists
unfoldable pub act : Act → Net → Net
act a s = record { table = s.table; chans = modify s.chans a.at.0 (changes a.change); begins = s.begins }

-- what a place of the declared list of channels holds; one that is not there holds nothing
abbrev pub channel_at : State → Chan → Channel
channel_at s N = get_or s.channels N.0 (record { entries = []; count = 0 })

-- as declared
unfoldable pub acted_on : State → Act → State
acted_on s a = record {
  table = s.table;
  channels = set s.channels a.at.0 (changed_to (channel_at s a.at) a.change);
  begins = s.begins;
}

-- the count of agent m is n
unfoldable pub counted : State → Agent → ℕ → State
counted s m n = record { table = s.table; channels = s.channels; begins = set s.begins m.0 n }
