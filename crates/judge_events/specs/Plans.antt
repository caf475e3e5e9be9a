-- What a judge says: a refusal, or the effects of an accepted event as changes of channels.
use Rattle.std.specs.Prelude.{ℕ, ◌+◌, Bool, true, false, cond, get_or, None, Some, Result, Err}
use Rattle.base.specs.Grounds.{refusal, answer}
use Rattle.base.specs.declared.Refusal.{Refusal}
use Rattle.base.specs.declared.Refusal.TheVariants.{UnfitRecord}
use Rattle.chassis.specs.declared.Agent.{Agent}
use Rattle.chassis.specs.declared.Chan.{Chan}
use Rattle.chassis.specs.declared.Table.{Table}
use Rattle.chassis.specs.declared.NextPlace.{NextPlace}
use Rattle.chassis.specs.declared.NextPlace.TheVariants.{Target, Through}
use Rattle.chassis.specs.Numbers.{chan}
use Rattle.chassis.specs.Channels.{is_master, master_channel, opposite}
use Rattle.queue.specs.declared.Entry.{Entry}
use Rattle.queue.specs.declared.Change.{Change}
use Rattle.queue.specs.declared.Change.TheVariants.{Nothing, Add, TakeOut, TakeMatching, Mark}
use Rattle.queue.specs.Entries.{P, R, C, as_kind}
use Rattle.network.specs.declared.State.{State}
use Rattle.network.specs.declared.Act.{Act}
use Rattle.network.specs.Nets.{Net}
use Rattle.network.specs.code.Acts.{acted_on, counted}
use Rattle.events.specs.Records.{Decoded}
use Rattle.events.specs.declared.Event.{Event}
use Rattle.events.specs.declared.Event.TheVariants.{BeginPosted, BeginRead, BeginWrite, Commit, Post, Latch, Complete, DropRequest, DropCompletion}
use Rattle.judge_events.specs.declared.Plan.{Plan}
use Rattle.events.specs.Tests.{ahead, entry_at}
use Rattle.events.specs.Grounds.{grounds}
use Rattle.events.specs.Accounts.{is_begin}
use Rattle.events.specs.Effects.{new_entry, next_number, value}

abbrev pub at_channel : Chan → Change → Act
at_channel N ch = record { at = N; change = ch }

abbrev pub no_act : Act
no_act = at_channel (chan 0) Nothing

-- the changes of an event, in their order
pub record Acts : Type 0 where
  pub first : Act
  pub second : Act
  pub third : Act

abbrev pub three : Act → Act → Act → Acts
three a b c = record { first = a; second = b; third = c }

abbrev pub begin_acts : Net → ℕ → Bool → Agent → Agent → Acts
begin_acts s k write m a = three (at_channel (master_channel m) (Add (new_entry s k write m a))) no_act no_act

abbrev pub does : Act → Act → Act → Plan
does a b c = record { value = 0; raises = false; first = a; second = b; third = c }

abbrev pub begin_plan : Net → ℕ → Bool → Agent → Agent → Plan
begin_plan s k write m a = record {
  value = next_number s m;
  raises = true;
  first = at_channel (master_channel m) (Add (new_entry s k write m a));
  second = no_act;
  third = no_act;
}

-- x enters N1; at the target nothing waits
abbrev pub entering : NextPlace → Entry → Act
entering Target x = no_act
entering (Through X) x = at_channel X (Add x)

-- the C that matches r is taken out of the opposite of N1
abbrev pub answer_leaving : Table → NextPlace → Entry → Act
answer_leaving T Target r = no_act
answer_leaving T (Through X) r = at_channel (opposite T X) (TakeMatching r)

-- in a bridge channel a C enters the opposite of N
abbrev pub answer_entering : Table → Chan → Entry → Act
answer_entering T N x = cond (is_master T N) no_act (at_channel (opposite T N) (Add (as_kind C x)))

-- the changes of channels that an event makes
unfoldable pub acts_of : Net → Event → Acts
acts_of s (BeginPosted m a) = begin_acts s P true m a
acts_of s (BeginRead m a) = begin_acts s R false m a
acts_of s (BeginWrite m a) = begin_acts s R true m a
acts_of s (Commit N t) = three (at_channel N (Mark (entry_at s R N t))) no_act no_act
acts_of s (Post N t) =
    three (at_channel N (TakeOut (entry_at s P N t))) (entering (ahead s P N t) (entry_at s P N t)) no_act
acts_of s (Latch N t) =
    three (at_channel N (Mark (entry_at s R N t))) (entering (ahead s R N t) (as_kind R (entry_at s R N t))) no_act
acts_of s (Complete N t) =
    three
    (at_channel N (TakeOut (entry_at s R N t)))
    (answer_leaving s.table (ahead s R N t) (entry_at s R N t))
    (answer_entering s.table N (entry_at s R N t))
acts_of s (DropRequest N t) = three (at_channel N (TakeOut (entry_at s R N t))) no_act no_act
acts_of s (DropCompletion N t) = three (at_channel N (TakeOut (entry_at s C N t))) no_act no_act

-- these, with the event's value; a begin raises its master's count
unfoldable pub accepted_plan : Net → Event → Plan
accepted_plan s e = record {
  value = value s e;
  raises = is_begin e;
  first = (acts_of s e).first;
  second = (acts_of s e).second;
  third = (acts_of s e).third;
}

unfoldable pub plan : Net → Event → Result Plan Refusal
plan s e = answer (refusal (grounds s e)) (accepted_plan s e)

unfoldable pub record_plan : Net → Decoded → Result Plan Refusal
record_plan s None = Err UnfitRecord
record_plan s (Some e) = plan s e

-- what a plan makes of a state; m is the event's master
unfoldable pub carried_out : State → Agent → Plan → State
carried_out s m p =
    counted (acted_on (acted_on (acted_on s p.first) p.second) p.third) m
    (cond p.raises (get_or s.begins m.0 0 + 1) (get_or s.begins m.0 0))
