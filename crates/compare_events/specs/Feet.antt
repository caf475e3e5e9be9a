-- A record's foot, as code holds it. That it is the event's footing: proofs/Standing.antt.
use Rattle.std.specs.Prelude.{ℕ, Option, None, Some}
use Rattle.std.specs.Option.{option_map}
use Rattle.chassis.specs.declared.Agent.{Agent}
use Rattle.chassis.specs.declared.Chan.{Chan}
use Rattle.chassis.specs.declared.Table.{Table}
use Rattle.chassis.specs.declared.NextPlace.{NextPlace}
use Rattle.chassis.specs.Channels.{out_bus}
use Rattle.queue.specs.declared.Transaction.{Transaction}
use Rattle.queue.specs.Entries.{R, C}
use Rattle.events.specs.declared.Event.{Event}
use Rattle.events.specs.declared.Event.TheVariants.{BeginPosted, BeginRead, BeginWrite, Commit, Post, Latch, Complete, DropRequest, DropCompletion}
use Rattle.ticks.specs.Footings as Footings
use Rattle.ticks.specs.Footings.{Footing, taken_from}
use Rattle.compare_events.specs.declared.Foot.{Foot}
use Rattle.compare_events.specs.declared.Name.{Name}

-- ---- what a foot stands for

abbrev pub name_of : Name → Footings.Name
name_of x = record { channel = x.channel; kind = x.kind; transaction = x.transaction }

unfoldable pub footing_of : Foot → Footing
footing_of f = record {
  bus = f.bus;
  beginner = f.beginner;
  tries = option_map name_of f.tries;
  drops = option_map name_of f.drops;
  takes = f.takes;
}

-- ---- the foot of each kind

abbrev pub no_foot : Foot
no_foot = record { bus = None; beginner = None; tries = None; drops = None; takes = None }

abbrev pub begin_foot : Agent → Foot
begin_foot m = record { bus = None; beginner = Some m; tries = None; drops = None; takes = None }

abbrev pub bus_foot : Table → Chan → Option Name → Option Chan → Foot
bus_foot T N tries takes = record { bus = Some (out_bus T N); beginner = None; tries = tries; drops = None; takes = takes }

abbrev pub try_foot : Table → Chan → Transaction → Option Chan → Foot
try_foot T N t takes = bus_foot T N (Some (record { channel = N; kind = R; transaction = t })) takes

abbrev pub drop_foot : ℕ → Chan → Transaction → Foot
drop_foot k N t = record { bus = None; beginner = None; tries = None; drops = Some (record { channel = N; kind = k; transaction = t }); takes = None }

-- next: the next place, which only a complete asks for
unfoldable pub foot : Table → Event → NextPlace → Foot
foot T (BeginPosted m a) next = begin_foot m
foot T (BeginRead m a) next = begin_foot m
foot T (BeginWrite m a) next = begin_foot m
foot T (Commit N t) next = try_foot T N t None
foot T (Post N t) next = bus_foot T N None None
foot T (Latch N t) next = try_foot T N t None
foot T (Complete N t) next = try_foot T N t (taken_from T next)
foot T (DropRequest N t) next = drop_foot R N t
foot T (DropCompletion N t) next = drop_foot C N t
