-- The declared channel and the list of its entries: the unused places are zero.
use Rattle.std.specs.Prelude.{ℕ, ◌-◌, List, ◌++◌, length, take, replicate}
use Rattle.queue.specs.declared.Entry.{Entry}
use Rattle.queue.specs.declared.Channel.{Channel}
use Rattle.queue.specs.Entries.{zero_entry}

-- a channel holds up to 24 entries
abbrev pub channel_places : ℕ
channel_places = 24

-- the entries that a channel holds
abbrev pub live : Channel → List Entry
live c = take c.count c.entries

-- the channel that holds these
abbrev pub packed : List Entry → Channel
packed l = record { entries = l ++ replicate (channel_places - length l) zero_entry; count = length l }

abbrev pub zero_channel : Channel
zero_channel = record { entries = replicate channel_places zero_entry; count = 0 }
