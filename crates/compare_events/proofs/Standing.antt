-- A record's foot stands for its footing.
use mathlib.Core.Path.{◌≡◌, refl}
use Rattle.chassis.specs.declared.Chan.{Chan}
use Rattle.chassis.specs.declared.NextPlace.{NextPlace}
use Rattle.queue.specs.declared.Transaction.{Transaction}
use Rattle.network.specs.Nets.{Net}
use Rattle.events.specs.declared.Event.{Event}
use Rattle.events.specs.declared.Event.TheVariants.{BeginPosted, BeginRead, BeginWrite, Commit, Post, Latch, Complete, DropRequest, DropCompletion}
use Rattle.events.specs.Tests.{ahead}
use Rattle.queue.specs.Entries.{R}
use Rattle.ticks.specs.Footings.{footing}
use Rattle.compare_events.specs.Feet.{footing_of, foot}

-- next: the next place, where the event is a complete
pub foot_stands : (s : Net) (e : Event) (next : NextPlace) → ((N : Chan) (t : Transaction) → e ≡ Complete N t → next ≡ ahead s R N t) → footing_of (foot s.table e next) ≡ footing s e
unfolding footing_of foot footing
foot_stands s (BeginPosted m a) next h = refl
foot_stands s (BeginRead m a) next h = refl
foot_stands s (BeginWrite m a) next h = refl
foot_stands s (Commit N t) next h = refl
foot_stands s (Post N t) next h = refl
foot_stands s (Latch N t) next h = refl
foot_stands s (Complete N t) next h = rw (h N t refl)
foot_stands s (DropRequest N t) next h = refl
foot_stands s (DropCompletion N t) next h = refl
