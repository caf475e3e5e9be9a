-- What each kind does, and its value.
use Rattle.std.specs.Prelude.{ℕ, ◌+◌, Bool, true, false, cond, List, [], ◌∷◌, ◌++◌}
use Rattle.chassis.specs.declared.Agent.{Agent}
use Rattle.chassis.specs.declared.Chan.{Chan}
use Rattle.chassis.specs.declared.Table.{Table}
use Rattle.chassis.specs.declared.NextPlace.{NextPlace}
use Rattle.chassis.specs.declared.NextPlace.TheVariants.{Target, Through}
use Rattle.chassis.specs.Channels.{is_master, master_channel, opposite}
use Rattle.queue.specs.declared.Transaction.{Transaction}
use Rattle.queue.specs.declared.Entry.{Entry}
use Rattle.queue.specs.Entries.{P, R, C, is_named, matches, as_kind, gone, marking}
use Rattle.network.specs.Nets.{Net, begun}
use Rattle.network.specs.Edits.{Edit, add, change, raise, edits}
use Rattle.events.specs.declared.Event.{Event}
use Rattle.events.specs.declared.Event.TheVariants.{BeginPosted, BeginRead, BeginWrite, Commit, Post, Latch, Complete, DropRequest, DropCompletion}
use Rattle.events.specs.Accounts.{account, is_begin}
use Rattle.events.specs.Tests.{entry_at, ahead}

-- the number that a begin gives
abbrev pub next_number : Net → Agent → ℕ
next_number s m = begun s m + 1

unfoldable pub new_entry : Net → ℕ → Bool → Agent → Agent → Entry
new_entry s k write m a = record {
  transaction = record { master = m; number = next_number s m };
  kind = k;
  target = a;
  write = write;
  committed = false;
}

-- in the master's channel, number = count + 1, count rises
abbrev pub begins : Net → ℕ → Bool → Agent → Agent → List Edit
begins s k write m a = add (master_channel m) (new_entry s k write m a) ∷ raise m ∷ []

-- the named entry leaves N, or gets its mark there
abbrev pub leaves : ℕ → Chan → Transaction → Edit
leaves k N t = change N (is_named k t) gone

abbrev pub is_marked : Chan → Transaction → Edit
is_marked N t = change N (is_named R t) marking

-- x enters N1; at the target nothing waits
abbrev pub enters : NextPlace → Entry → List Edit
enters Target x = []
enters (Through X) x = add X x ∷ []

-- the C that matches r is taken out of the opposite of N1
abbrev pub answer_taken : Table → NextPlace → Entry → List Edit
answer_taken T Target r = []
answer_taken T (Through X) r = change (opposite T X) (matches C r) gone ∷ []

-- if N is a bridge channel a C enters the opposite of N, else the transaction ends
abbrev pub answer_given : Table → Chan → Entry → List Edit
answer_given T N x = cond (is_master T N) [] (add (opposite T N) (as_kind C x) ∷ [])

unfoldable pub effects : Net → Event → List Edit
effects s (BeginPosted m a) = begins s P true m a
effects s (BeginRead m a) = begins s R false m a
effects s (BeginWrite m a) = begins s R true m a
effects s (Commit N t) = is_marked N t ∷ []
effects s (Post N t) = leaves P N t ∷ enters (ahead s P N t) (entry_at s P N t)
effects s (Latch N t) = is_marked N t ∷ enters (ahead s R N t) (as_kind R (entry_at s R N t))
effects s (Complete N t) =
    leaves R N t
    ∷ (answer_taken s.table (ahead s R N t) (entry_at s R N t)
    ++ answer_given s.table N (entry_at s R N t))
effects s (DropRequest N t) = leaves R N t ∷ []
effects s (DropCompletion N t) = leaves C N t ∷ []

-- the new number for kinds 1 to 3, otherwise 0
unfoldable pub value : Net → Event → ℕ
value s e = cond (is_begin e) (next_number s (account e).name.master) 0

-- the next state
unfoldable pub after : Net → Event → Net
after s e = edits (effects s e) s
