-- When a state is sound, clause by clause in document 01's order.
use Rattle.std.specs.Prelude.{Bool, cond, not, ◌&&◌, ◌||◌, List, drop, ltb, leb, eqb}
use Rattle.base.specs.Lists.{all, all_from}
use Rattle.chassis.specs.declared.Chan.{Chan}
use Rattle.chassis.specs.declared.Table.{Table}
use Rattle.chassis.specs.Numbers.{chan, same_agent}
use Rattle.chassis.specs.Channels.{has_agent, chan_count}
use Rattle.chassis.specs.Routes.{on_the_way, opposes_the_way}
use Rattle.chassis.specs.Tables.{table_passes, within}
use Rattle.queue.specs.declared.Entry.{Entry}
use Rattle.queue.specs.Entries.{P, R, C, is_kind, is_zero_entry}
use Rattle.queue.specs.Packing.{channel_places}
use Rattle.network.specs.declared.State.{State}
use Rattle.network.specs.Rooms.{rooms, is_kept}
use Rattle.network.specs.Nets.{Net, view, begun}

-- no channel's number of entries is above 24
unfoldable pub counts_fit : State → Bool
counts_fit s = all (λ c. leb c.count channel_places) s.channels

-- no kind exceeds its limit in a channel
unfoldable pub within_limits : Table → List Entry → Bool
within_limits T l = all (λ r. is_kept r l) (rooms T)

-- P and R stand only on the way from master to target; C stands only in the opposite of a bridge channel on that way
unfoldable pub stands_right : Table → Chan → Entry → Bool
stands_right T N x =
    cond (is_kind C x)
    (opposes_the_way T x.transaction.master x.target N)
    (on_the_way T x.transaction.master x.target N)

-- an entry of channel N
unfoldable pub fit : Net → Chan → Entry → Bool
fit s N x =
    -- kinds are known
    within P C x.kind
    -- P is a write
    && (not (is_kind P x) || x.write)
    -- master and target are two different agents
    && has_agent s.table x.transaction.master
    && has_agent s.table x.target
    && not (same_agent x.transaction.master x.target)
    -- numbers run from 1 to the master's count
    && within 1 (begun s x.transaction.master) x.transaction.number
    -- it stands where its kind may
    && stands_right s.table N x
    -- only R may carry the mark
    && (is_kind R x || not x.committed)

-- what is said of tables and entries
unfoldable pub keeps_the_rules : Net → Bool
keeps_the_rules s =
    table_passes s.table
    && all (within_limits s.table) s.chans
    && all_from 0 (λ n l. all (fit s (chan n)) l) s.chans

-- unused places are zero: behind a channel's number, in channels and counts that the table does not have
-- (the table's own unused places are ground 24)
unfoldable pub unused_are_zero : State → Bool
unused_are_zero s =
    all (λ c. all is_zero_entry (drop c.count c.entries)) s.channels
    && all_from 0 (λ n c. ltb n (chan_count s.table) || eqb c.count 0) s.channels
    && all_from 0 (λ a n. ltb a s.table.agents || eqb n 0) s.begins

unfoldable pub sound : State → Bool
sound s = counts_fit s && keeps_the_rules (view s) && unused_are_zero s
