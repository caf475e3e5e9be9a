-- What a record asks of which channel, and what is said once the channels have answered. That it is the record's own plan: proofs/Answered.antt.
use Rattle.std.specs.Prelude.{ℕ, ◌<◌, Bool, false, cond, leb, get_or, Option, None, Some}
use Rattle.std.specs.Option.{option_map}
use Rattle.base.specs.Lists.{is_some}
use Rattle.chassis.specs.declared.Agent.{Agent}
use Rattle.chassis.specs.declared.Chan.{Chan}
use Rattle.chassis.specs.declared.NextPlace.{NextPlace}
use Rattle.chassis.specs.declared.NextPlace.TheVariants.{Target, Through}
use Rattle.chassis.specs.declared.Table.{Table}
use Rattle.chassis.specs.Capacities.{most_agents, most_channels}
use Rattle.chassis.specs.Channels.{is_master, limit}
use Rattle.queue.specs.declared.Transaction.{Transaction}
use Rattle.queue.specs.declared.Look.{Look}
use Rattle.queue.specs.Entries.{P, R, C}
use Rattle.queue.specs.Packing.{live}
use Rattle.lent_channels.specs.declared.Sought.{Sought}
use Rattle.lent_channels.specs.Looks.{look_asked, filling_asked, first_asked}
use Rattle.network.specs.declared.State.{State}
use Rattle.network.specs.code.Acts.{channel_at, acted_on, counted}
use Rattle.events.specs.declared.Event.{Event}
use Rattle.events.specs.declared.Event.TheVariants.{BeginPosted, BeginRead, BeginWrite, Commit, Post, Latch, Complete, DropRequest, DropCompletion}
use Rattle.events.specs.Accounts.{account, is_begin}
use Rattle.read_events.specs.declared.Frame.{Frame}
use Rattle.read_events.specs.Sights.{small}
use Rattle.judge_events.specs.declared.Plan.{Plan}
use Rattle.judge_events.specs.Verdicts.{Verdict, verdict}
use Rattle.play_events.specs.declared.Notice.{Notice}
use Rattle.lent_plays.specs.declared.Asks.{Asks}

-- what is asked of a bridge channel N1 is not asked at the target
abbrev pub if_through : {A : Type 0} → NextPlace → A → Option A
if_through Target x = None
if_through (Through X) x = Some x

abbrev pub named : ℕ → Transaction → Sought
named k t = record { kind = k; transaction = t }

-- the entry that a record names: not of a begin
abbrev pub sought_for : Frame → Option Sought
sought_for f = cond (is_begin f.event) None (Some (named (account f.event).kind (account f.event).name))

-- room for an entry of a kind is asked of one channel, where it is asked
abbrev pub asks_room : Chan → Option ℕ → Asks
asks_room N k = record { room = N; counted = k; waits = None; answers = None; oldest = None }

-- where the request is there, and not in a master channel, room is asked for its answer
abbrev pub back_room : Table → Chan → Option Look → Option ℕ
back_room T N None = None
back_room T N (Some l) = cond (is_master T N) None (Some C)

-- what goes with the request that a look found is sought by the request's own transaction, in a bridge channel N1 or behind it
abbrev pub matched : ℕ → NextPlace → Option Look → Option Sought
matched k Target l = None
matched k (Through X) l = option_map (λ w. named k w.entry.transaction) l

module _ (T : Table) (f : Frame) (n : Notice) where
  abbrev pub asks_for : Event → Asks
  asks_for (BeginPosted m a) = asks_room f.at (Some P)
  asks_for (BeginRead m a) = asks_room f.at (Some R)
  asks_for (BeginWrite m a) = asks_room f.at (Some R)
  asks_for (Commit N t) = asks_room f.at None
  asks_for (Post N t) = asks_room n.ahead (if_through n.next P)
  asks_for (Latch N t) = record {
    room = n.ahead;
    counted = if_through n.next R;
    waits = matched R n.next n.look;
    answers = matched C n.next n.look;
    oldest = None;
  }
  asks_for (Complete N t) = record {
    room = n.back;
    counted = back_room T N n.look;
    waits = None;
    answers = matched C n.next n.look;
    oldest = None;
  }
  asks_for (DropRequest N t) = asks_room f.at None
  asks_for (DropCompletion N t) = record { room = f.at; counted = None; waits = None; answers = None; oldest = Some (named C t) }

  abbrev pub asks : Asks
  asks = asks_for f.event

-- so many of a kind are its limit, where it is asked
abbrev pub fills : Table → Option ℕ → ℕ → Bool
fills T None filled = false
fills T (Some k) filled = leb (limit T k) filled

-- what the channels of s answer, and the plan
unfoldable pub plan_seen : State → Table → Frame → Notice → Verdict
plan_seen s T f n =
    verdict T f.event (get_or s.begins f.master.0 0) n.look n.next (record {
      full = fills T (asks T f n).counted (filling_asked (asks T f n).counted (live (channel_at s (asks T f n).room)));
      waits = is_some (look_asked (asks T f n).waits (live (channel_at s n.ahead)));
      answer = look_asked (asks T f n).answers (live (channel_at s n.answer));
      oldest = first_asked (asks T f n).oldest (live (channel_at s f.at));
    })

-- every place that is looked at is there
pub record InPlace (f : Frame) (n : Notice) : Type 0 where
  pub at : f.at.0 < most_channels
  pub ahead : n.ahead.0 < most_channels
  pub answer : n.answer.0 < most_channels
  pub back : n.back.0 < most_channels
  pub master : f.master.0 < most_agents
  pub number : (account f.event).channel.0 < 255
  pub next : small n.next

-- and every place that is stored to
pub record Stored (m : Agent) (p : Plan) : Type 0 where
  pub first : p.first.at.0 < most_channels
  pub second : p.second.at.0 < most_channels
  pub third : p.third.at.0 < most_channels
  pub master : m.0 < most_agents

abbrev acted : State → Plan → State
acted s p = acted_on (acted_on (acted_on s p.first) p.second) p.third

-- what a plan makes of s; m is the event's master
unfoldable pub settled : State → Agent → Plan → State
settled s m p = counted (acted s p) m (cond p.raises p.value (get_or (acted s p).begins m.0 0))
