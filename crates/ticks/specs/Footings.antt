-- What two events are compared by: where an event occurs, who begins, which entry it tries or drops, where it takes a C.
use Rattle.std.specs.Prelude.{ℕ, Option, None, Some}
use Rattle.chassis.specs.declared.Agent.{Agent}
use Rattle.chassis.specs.declared.Bus.{Bus}
use Rattle.chassis.specs.declared.Chan.{Chan}
use Rattle.chassis.specs.declared.Table.{Table}
use Rattle.chassis.specs.declared.NextPlace.{NextPlace}
use Rattle.chassis.specs.declared.NextPlace.TheVariants.{Target, Through}
use Rattle.chassis.specs.Channels.{out_bus, opposite}
use Rattle.queue.specs.declared.Transaction.{Transaction}
use Rattle.queue.specs.Entries.{R, C}
use Rattle.network.specs.Nets.{Net}
use Rattle.events.specs.declared.Event.{Event}
use Rattle.events.specs.declared.Event.TheVariants.{BeginPosted, BeginRead, BeginWrite, Commit, Post, Latch, Complete, DropRequest, DropCompletion}
use Rattle.events.specs.Tests.{ahead}

-- an entry by its channel, kind and transaction
pub record Name : Type 0 where
  pub channel : Chan
  pub kind : ℕ
  pub transaction : Transaction

pub record Footing : Type 0 where
  -- kinds 4 to 7: the bus on which it occurs, the out-bus of the named channel
  pub bus : Option Bus
  -- kinds 1 to 3: the agent that begins
  pub beginner : Option Agent
  -- kinds 4, 6 and 7: the R that it names
  pub tries : Option Name
  -- kinds 8 and 9: the entry that it drops
  pub drops : Option Name
  -- kind 7: the channel that it takes a C out of
  pub takes : Option Chan

abbrev pub begins_at : Agent → Footing
begins_at m = record { bus = None; beginner = Some m; tries = None; drops = None; takes = None }

abbrev pub occurs_on : Bus → Option Name → Option Chan → Footing
occurs_on b tries takes = record { bus = Some b; beginner = None; tries = tries; drops = None; takes = takes }

abbrev pub drops_the : Name → Footing
drops_the x = record { bus = None; beginner = None; tries = None; drops = Some x; takes = None }

abbrev pub the_R : Chan → Transaction → Name
the_R N t = record { channel = N; kind = R; transaction = t }

abbrev pub the_C : Chan → Transaction → Name
the_C N t = record { channel = N; kind = C; transaction = t }

-- a complete takes the matching C out of the opposite of N1, if N1 is a bridge channel
abbrev pub taken_from : Table → NextPlace → Option Chan
taken_from T Target = None
taken_from T (Through X) = Some (opposite T X)

unfoldable pub footing : Net → Event → Footing
footing s (BeginPosted m a) = begins_at m
footing s (BeginRead m a) = begins_at m
footing s (BeginWrite m a) = begins_at m
footing s (Commit N t) = occurs_on (out_bus s.table N) (Some (the_R N t)) None
footing s (Post N t) = occurs_on (out_bus s.table N) None None
footing s (Latch N t) = occurs_on (out_bus s.table N) (Some (the_R N t)) None
footing s (Complete N t) =
    occurs_on (out_bus s.table N) (Some (the_R N t)) (taken_from s.table (ahead s R N t))
footing s (DropRequest N t) = drops_the (the_R N t)
footing s (DropCompletion N t) = drops_the (the_C N t)
