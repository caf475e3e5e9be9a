-- What is read off a record before any channel is looked at, and what is then looked at.
use Rattle.std.specs.Prelude.{Bool, false, cond, ◌&&◌, Some, None, Option, Result, Ok, Err}
use Rattle.base.specs.declared.Refusal.{Refusal}
use Rattle.base.specs.declared.Refusal.TheVariants.{UnfitRecord, NotInTable, TargetIsMaster}
use Rattle.chassis.specs.declared.Agent.{Agent}
use Rattle.chassis.specs.declared.Chan.{Chan}
use Rattle.chassis.specs.declared.Table.{Table}
use Rattle.chassis.specs.declared.NextPlace.{NextPlace}
use Rattle.chassis.specs.declared.NextPlace.TheVariants.{Target, Through}
use Rattle.chassis.specs.Numbers.{same_agent}
use Rattle.chassis.specs.Channels.{has_agent, has_chan, is_master, master_channel, opposite}
use Rattle.queue.specs.declared.Transaction.{Transaction}
use Rattle.queue.specs.declared.Entry.{Entry}
use Rattle.queue.specs.declared.Look.{Look}
use Rattle.queue.specs.Entries.{P, R, C}
use Rattle.queue.specs.Queues.{stands, has_matching}
use Rattle.queue.specs.code.Changes.{look_of, match_of}
use Rattle.network.specs.Nets.{Net, waiting, full}
use Rattle.events.specs.Records.{Decoded}
use Rattle.events.specs.declared.Account.{Account}
use Rattle.events.specs.declared.Event.{Event}
use Rattle.events.specs.declared.Event.TheVariants.{BeginPosted, BeginRead, BeginWrite, Commit, Post, Latch, Complete, DropRequest, DropCompletion}
use Rattle.read_events.specs.declared.Frame.{Frame}
use Rattle.read_events.specs.declared.Sight.{Sight}
use Rattle.events.specs.Tests.{ahead, entry_at, full_ahead, answer_full, is_channel_with, is_oldest_C}
use Rattle.events.specs.Accounts.{account}

-- ---- the frame

-- 2, 3
abbrev pub begin_frame : Table → Event → Agent → Agent → Result Frame Refusal
begin_frame T e m a =
    cond (has_agent T m)
    (cond (has_agent T a)
    (cond (same_agent m a) (Err TargetIsMaster)
    (Ok (record { event = e; at = master_channel m; master = m })))
    (Err NotInTable))
    (Err NotInTable)

-- 2
abbrev pub named_frame : Table → Event → Chan → Transaction → Result Frame Refusal
named_frame T e N t =
    cond (has_chan T N)
    (cond (has_agent T t.master) (Ok (record { event = e; at = N; master = t.master })) (Err NotInTable))
    (Err NotInTable)

abbrev pub frame_for : Table → Event → Account → Option Agent → Result Frame Refusal
frame_for T e x (Some a) = begin_frame T e x.name.master a
frame_for T e x None = named_frame T e x.channel x.name

abbrev pub event_frame : Table → Event → Result Frame Refusal
event_frame T e = frame_for T e (account e) (account e).target

-- the frame of an event whose numbers are all there
abbrev pub own_frame : Event → Frame
own_frame e = record { event = e; at = (account e).channel; master = (account e).name.master }

-- 1
abbrev pub frame : Table → Decoded → Result Frame Refusal
frame T None = Err UnfitRecord
frame T (Some e) = event_frame T e

-- ---- what is seen

-- what the named channel shows
unfoldable pub look_at : Net → Event → Option Look
look_at s e = look_of (account e).kind (account e).name (waiting s (account e).channel)

-- the next place, where the kind asks for it and the entry is there
unfoldable pub next_of : Net → Event → NextPlace
next_of s e = cond ((account e).moves && stands (account e).kind (account e).name (waiting s (account e).channel)) (ahead s (account e).kind (account e).channel (account e).name) Target

-- the channels beside N: N1, its opposite, and the opposite of N; N itself where there is none
abbrev pub ahead_or : Chan → NextPlace → Chan
ahead_or N Target = N
ahead_or N (Through X) = X

abbrev pub answer_or : Table → Chan → NextPlace → Chan
answer_or T N Target = N
answer_or T N (Through X) = opposite T X

unfoldable pub back_or : Table → Chan → Chan
back_or T N = cond (is_master T N) N (opposite T N)

-- ---- what a judge is told

abbrev pub sees_full : Bool → Sight
sees_full b = record { full = b; waits = false; answer = None; oldest = false }

abbrev pub look_back : Net → Entry → NextPlace → Option Look
look_back s r Target = None
look_back s r (Through X) = match_of C r (waiting s (opposite s.table X))

unfoldable pub sight : Net → Event → Sight
sight s (BeginPosted m a) = sees_full (full s P m (master_channel m))
sight s (BeginRead m a) = sees_full (full s R m (master_channel m))
sight s (BeginWrite m a) = sees_full (full s R m (master_channel m))
sight s (Commit N t) = sees_full false
sight s (Post N t) = sees_full (full_ahead s P t.master (next_of s (Post N t)))
sight s (Latch N t) = record {
  full = full_ahead s R t.master (next_of s (Latch N t));
  waits = is_channel_with (λ X. has_matching R (entry_at s R N t) (waiting s X)) (next_of s (Latch N t));
  answer = look_back s (entry_at s R N t) (next_of s (Latch N t));
  oldest = false;
}
sight s (Complete N t) = record {
  full = answer_full s t.master N;
  waits = false;
  answer = look_back s (entry_at s R N t) (next_of s (Complete N t));
  oldest = false;
}
sight s (DropRequest N t) = sees_full false
sight s (DropCompletion N t) = record { full = false; waits = false; answer = None; oldest = is_oldest_C s N t }
