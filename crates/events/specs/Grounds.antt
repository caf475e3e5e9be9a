-- For each kind its grounds in its order, from 2 on; 16, 18 and 1 stand in front (Steps.antt). One line a ground.
use Rattle.std.specs.Prelude.{ℕ, ◌≡◌, not, ◌&&◌, List, [], ◌∷◌, leb, None}
use Rattle.base.specs.Grounds.{Ground, ◌when◌, refusal}
use Rattle.base.specs.declared.Refusal.TheVariants.{NotInTable, TargetIsMaster, AllBegun, NoRoom, NoSuchEntry, InMaster, AlreadyCommitted, BehindPosted, AlreadyLatched, AtTarget, NoAnswer, OldestAnswer, AnswerBehind}
use Rattle.chassis.specs.declared.Agent.{Agent}
use Rattle.chassis.specs.declared.Chan.{Chan}
use Rattle.chassis.specs.Numbers.{same_agent}
use Rattle.chassis.specs.Channels.{has_agent, has_chan, is_master, master_channel}
use Rattle.queue.specs.declared.Transaction.{Transaction}
use Rattle.queue.specs.Entries.{P, R, C}
use Rattle.network.specs.Nets.{Net, begun, full}
use Rattle.events.specs.declared.Event.{Event}
use Rattle.events.specs.declared.Event.TheVariants.{BeginPosted, BeginRead, BeginWrite, Commit, Post, Latch, Complete, DropRequest, DropCompletion}
use Rattle.events.specs.Tests.{entry_at, ahead, is_target, full_ahead, answer_full, no_such_entry, is_committed, behind_a_P, latched_already, unanswered, is_oldest_C, read_answer_behind_P}

-- begins: 1, 2, 3, 4, 5
unfoldable pub begin_grounds : Net → ℕ → Agent → Agent → List Ground
begin_grounds s k m a =
    NotInTable when not (has_agent s.table m && has_agent s.table a)
    ∷ TargetIsMaster when same_agent m a
    ∷ AllBegun when leb 65535 (begun s m)
    ∷ NoRoom when full s k m (master_channel m)
    ∷ []

-- others: 1, 2, 6, then
unfoldable pub named_grounds : Net → ℕ → Chan → Transaction → List Ground → List Ground
named_grounds s k N t more =
    NotInTable when not (has_chan s.table N && has_agent s.table t.master)
    ∷ NoSuchEntry when no_such_entry s k N t
    ∷ more

unfoldable pub grounds : Net → Event → List Ground
grounds s (BeginPosted m a) = begin_grounds s P m a
grounds s (BeginRead m a) = begin_grounds s R m a
grounds s (BeginWrite m a) = begin_grounds s R m a
-- commit 8, 9
grounds s (Commit N t) =
    named_grounds s R N t
    (AlreadyCommitted when is_committed s N t
    ∷ BehindPosted when behind_a_P s R N t
    ∷ [])
-- post 9, 5
grounds s (Post N t) =
    named_grounds s P N t
    (BehindPosted when behind_a_P s P N t
    ∷ NoRoom when full_ahead s P t.master (ahead s P N t)
    ∷ [])
-- latch 11, 9, 10, 5
grounds s (Latch N t) =
    named_grounds s R N t
    (AtTarget when is_target (ahead s R N t)
    ∷ BehindPosted when behind_a_P s R N t
    ∷ AlreadyLatched when latched_already s (entry_at s R N t) (ahead s R N t)
    ∷ NoRoom when full_ahead s R t.master (ahead s R N t)
    ∷ [])
-- complete 9, 12, 14, 5
grounds s (Complete N t) =
    named_grounds s R N t
    (BehindPosted when behind_a_P s R N t
    ∷ NoAnswer when unanswered s (entry_at s R N t) (ahead s R N t)
    ∷ AnswerBehind when read_answer_behind_P s (entry_at s R N t) (ahead s R N t)
    ∷ NoRoom when answer_full s t.master N
    ∷ [])
-- drop request 7, 8
grounds s (DropRequest N t) =
    named_grounds s R N t
    (InMaster when is_master s.table N
    ∷ AlreadyCommitted when is_committed s N t
    ∷ [])
-- drop completion 13
grounds s (DropCompletion N t) =
    named_grounds s C N t
    (OldestAnswer when is_oldest_C s N t
    ∷ [])

-- no ground holds
abbrev pub Accepted : Net → Event → Type 0
Accepted s e = refusal (grounds s e) ≡ None
