-- Soundness as the code tests it: the table, then all of a channel, channel by channel, then the counts. That it is `sound`
-- is shown in proofs/Testing.antt.
use Rattle.std.specs.Prelude.{ℕ, Bool, ◌&&◌, ◌||◌, List, [], drop, ltb, leb, eqb}
use Rattle.base.specs.Lists.{all, all_from}
use Rattle.chassis.specs.declared.Table.{Table}
use Rattle.chassis.specs.Numbers.{chan}
use Rattle.chassis.specs.Channels.{chan_count}
use Rattle.chassis.specs.Tables.{table_passes}
use Rattle.queue.specs.declared.Channel.{Channel}
use Rattle.queue.specs.Entries.{is_zero_entry}
use Rattle.queue.specs.Packing.{live, channel_places}
use Rattle.network.specs.declared.State.{State}
use Rattle.network.specs.Nets.{Net}
use Rattle.network.specs.Soundness.{within_limits, fit}

-- what an entry's test asks of the state: the table and the counts
abbrev pub counting : Table → List ℕ → Net
counting T begins = record { table = T; chans = []; begins = begins }

-- channel n
unfoldable pub sound_channel : Table → List ℕ → ℕ → Channel → Bool
sound_channel T begins n c =
    leb c.count channel_places
    && within_limits T (live c)
    && all (fit (counting T begins) (chan n)) (live c)
    && all is_zero_entry (drop c.count c.entries)
    && (ltb n (chan_count T) || eqb c.count 0)

-- agent a's count
abbrev pub sound_count : Table → ℕ → ℕ → Bool
sound_count T a n = ltb a T.agents || eqb n 0

unfoldable pub tested : State → Bool
tested s =
    table_passes s.table
    && all_from 0 (sound_channel s.table s.begins) s.channels
    && all_from 0 (sound_count s.table) s.begins
