-- Room in a channel: how many may stand there of the entries that share it. Each kind has room of its own.
use Rattle.std.specs.Prelude.{ℕ, Bool, List, map, leb}
use Rattle.chassis.specs.declared.Agent.{Agent}
use Rattle.chassis.specs.declared.Table.{Table}
use Rattle.chassis.specs.Channels.{limit}
use Rattle.queue.specs.declared.Entry.{Entry}
use Rattle.queue.specs.Entries.{kinds, is_kind}
use Rattle.queue.specs.Queues.{filling}

pub record Room : Type 0 where
  -- at most so many
  pub most : ℕ
  -- of those that pass
  pub holds : Entry → Bool

-- the room of kind k: its limit is the table's
abbrev pub room_of : Table → ℕ → Room
room_of T k = record { most = limit T k; holds = is_kind k }

-- the room that an entry of kind k and master m takes: the kind's, whoever the master is
unfoldable pub room_for : Table → ℕ → Agent → Room
room_for T k m = room_of T k

-- every room of a channel
unfoldable pub rooms : Table → List Room
rooms T = map (room_of T) kinds

-- those that share it are at their limit, or above it
abbrev pub is_full : Room → List Entry → Bool
is_full r l = leb r.most (filling r.holds l)

-- they are not above their limit
abbrev pub is_kept : Room → List Entry → Bool
is_kept r l = leb (filling r.holds l) r.most
