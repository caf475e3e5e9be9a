-- What the nine kinds have in common, one line a kind: the channel, the name and the kind of entry that an event speaks of, whether it
-- begins a transaction, and whether it asks for the next place.
use Rattle.std.specs.Prelude.{ℕ, Bool, true, false, None, Some}
use Rattle.base.specs.Lists.{is_some}
use Rattle.chassis.specs.declared.Agent.{Agent}
use Rattle.chassis.specs.declared.Chan.{Chan}
use Rattle.chassis.specs.Channels.{master_channel}
use Rattle.queue.specs.declared.Transaction.{Transaction}
use Rattle.queue.specs.Entries.{P, R, C}
use Rattle.events.specs.declared.Event.{Event}
use Rattle.events.specs.declared.Event.TheVariants.{BeginPosted, BeginRead, BeginWrite, Commit, Post, Latch, Complete, DropRequest, DropCompletion}
use Rattle.events.specs.declared.Account.{Account}

-- a begin adds an entry of kind k in its master's channel, and names no number
abbrev pub begins_with : ℕ → Agent → Agent → Account
begins_with k m a = record {
  channel = master_channel m;
  name = record { master = m; number = 0 };
  target = Some a;
  kind = k;
  moves = false;
}

-- other kinds name an entry of kind k in N, and no target
abbrev pub names : ℕ → Chan → Transaction → Bool → Account
names k N t moves = record {
  channel = N;
  name = t;
  target = None;
  kind = k;
  moves = moves;
}

-- P for kind 5; R for 4, 6, 7, 8; C for 9
abbrev pub account : Event → Account
account (BeginPosted m a) = begins_with P m a
account (BeginRead m a) = begins_with R m a
account (BeginWrite m a) = begins_with R m a
account (Commit N t) = names R N t false
account (Post N t) = names P N t true
account (Latch N t) = names R N t true
account (Complete N t) = names R N t true
account (DropRequest N t) = names R N t false
account (DropCompletion N t) = names C N t false

-- kinds 1 to 3: only a begin has a target
abbrev pub is_begin : Event → Bool
is_begin e = is_some (account e).target
