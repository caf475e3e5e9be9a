-- What is told of the channels that were read: N's own entries, N1's, those of N1's opposite and of N's opposite; r is the entry that
-- the event names, which others are matched to. That it is what the state shows: play_events/proofs/Shown.antt.
use Rattle.std.specs.Prelude.{ℕ, ◌<◌, Bool, false, cond, not, ◌&&◌, List, Option, None, Some}
use Rattle.chassis.specs.declared.Chan.{Chan}
use Rattle.chassis.specs.declared.Table.{Table}
use Rattle.chassis.specs.declared.NextPlace.{NextPlace}
use Rattle.chassis.specs.declared.NextPlace.TheVariants.{Target, Through}
use Rattle.chassis.specs.Channels.{is_master}
use Rattle.chassis.specs.Routes.{next_place}
use Rattle.queue.specs.declared.Entry.{Entry}
use Rattle.queue.specs.declared.Look.{Look}
use Rattle.queue.specs.Entries.{P, R, C, zero_entry}
use Rattle.queue.specs.Queues.{has_matching, first_C}
use Rattle.queue.specs.code.Changes.{match_of}
use Rattle.network.specs.Rooms.{room_of, is_full}
use Rattle.events.specs.declared.Event.{Event}
use Rattle.events.specs.declared.Event.TheVariants.{BeginPosted, BeginRead, BeginWrite, Commit, Post, Latch, Complete, DropRequest, DropCompletion}
use Rattle.events.specs.Accounts.{account}
use Rattle.read_events.specs.declared.Sight.{Sight}
use Rattle.read_events.specs.Frames.{sees_full}

-- the next place, where the kind asks for it and the entry is there
abbrev pub next_for : Table → Chan → Option Look → NextPlace
next_for T N None = Target
next_for T N (Some l) = next_place T N l.entry.target

abbrev pub next_told : Table → Event → Chan → Option Look → NextPlace
next_told T e N l = cond (account e).moves (next_for T N l) Target

-- the entry that was looked for; a zero entry where it is not there
abbrev pub entry_in : Option Look → Entry
entry_in None = zero_entry
entry_in (Some l) = l.entry

-- a next place's number has room above it
abbrev pub small : NextPlace → Type 0
small Target = Unit {0}
small (Through X) = X.0 < 255

-- only where N1 is a channel
abbrev pub if_channel : NextPlace → Bool → Bool
if_channel Target b = false
if_channel (Through X) b = b

abbrev pub look_if : NextPlace → Option Look → Option Look
look_if Target l = None
look_if (Through X) l = l

abbrev pub full_in : Table → ℕ → List Entry → Bool
full_in T k l = is_full (room_of T k) l

-- in a bridge channel there must be room for the answer
abbrev pub full_back : Table → Chan → List Entry → Bool
full_back T N back = not (is_master T N) && full_in T C back

module _ (T : Table) (next : NextPlace) (r : Entry) (here ahead answer back : List Entry) where
  abbrev pub sight_told : Event → Sight
  sight_told (BeginPosted m a) = sees_full (full_in T P here)
  sight_told (BeginRead m a) = sees_full (full_in T R here)
  sight_told (BeginWrite m a) = sees_full (full_in T R here)
  sight_told (Commit N t) = sees_full false
  sight_told (Post N t) = sees_full (if_channel next (full_in T P ahead))
  sight_told (Latch N t) = record {
    full = if_channel next (full_in T R ahead);
    waits = if_channel next (has_matching R r ahead);
    answer = look_if next (match_of C r answer);
    oldest = false;
  }
  sight_told (Complete N t) = record {
    full = full_back T N back;
    waits = false;
    answer = look_if next (match_of C r answer);
    oldest = false;
  }
  sight_told (DropRequest N t) = sees_full false
  sight_told (DropCompletion N t) = record { full = false; waits = false; answer = None; oldest = first_C t here }
