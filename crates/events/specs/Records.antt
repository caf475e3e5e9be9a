-- Eight record bytes to an event, and ground 1: kind, channel, master, target, number (two bytes, low first), two zero bytes.
use Rattle.std.specs.Prelude.{ℕ, ◌+◌, ◌*◌, ◌/◌, Bool, cond, ◌&&◌, List, map, length, get_or, eqb, ltb, Some, None, Option}
use Rattle.base.specs.Lists.{parts}
use Rattle.chassis.specs.declared.Agent.{Agent}
use Rattle.chassis.specs.declared.Chan.{Chan}
use Rattle.chassis.specs.Numbers.{agent, chan}
use Rattle.queue.specs.declared.Transaction.{Transaction}
use Rattle.events.specs.declared.Event.{Event}
use Rattle.events.specs.declared.Event.TheVariants.{BeginPosted, BeginRead, BeginWrite, Commit, Post, Latch, Complete, DropRequest, DropCompletion}

-- what eight record bytes say: an event, or, of a record that is none, nothing (ground 1)
abbrev pub Decoded : Type 0
Decoded = Option Event

-- byte i of a record
abbrev pub byte : List ℕ → ℕ → ℕ
byte b i = get_or b i 0

abbrev pub number_in : List ℕ → ℕ
number_in b = byte b 4 + 256 * byte b 5

-- a begin does not use channel and number, other kinds do not use target, none uses the last two bytes
abbrev pub rest_is_zero : List ℕ → Bool
rest_is_zero b = eqb (byte b 6) 0 && eqb (byte b 7) 0

abbrev pub begin_unused_zero : List ℕ → Bool
begin_unused_zero b = eqb (byte b 1) 0 && (eqb (byte b 4) 0 && (eqb (byte b 5) 0 && rest_is_zero b))

abbrev pub other_unused_zero : List ℕ → Bool
other_unused_zero b = eqb (byte b 3) 0 && rest_is_zero b

-- kinds 1 to 3
abbrev pub begin_event : ℕ → Agent → Agent → Decoded
begin_event k m a =
    cond (eqb k 1) (Some (BeginPosted m a))
    (cond (eqb k 2) (Some (BeginRead m a))
    (cond (eqb k 3) (Some (BeginWrite m a))
    None))

-- kinds 4 to 9
abbrev pub named_event : ℕ → Chan → Transaction → Decoded
named_event k N t =
    cond (eqb k 4) (Some (Commit N t))
    (cond (eqb k 5) (Some (Post N t))
    (cond (eqb k 6) (Some (Latch N t))
    (cond (eqb k 7) (Some (Complete N t))
    (cond (eqb k 8) (Some (DropRequest N t))
    (cond (eqb k 9) (Some (DropCompletion N t))
    None)))))

abbrev pub transaction_in : List ℕ → Transaction
transaction_in b = record { master = agent (byte b 2); number = number_in b }

-- by the kind in byte 0; an unknown kind is unfit whatever else
unfoldable pub decoded : List ℕ → Decoded
decoded b =
    cond (ltb (byte b 0) 4)
    (cond (begin_unused_zero b) (begin_event (byte b 0) (agent (byte b 2)) (agent (byte b 3))) None)
    (cond (other_unused_zero b) (named_event (byte b 0) (chan (byte b 1)) (transaction_in b)) None)

-- the records of bytes, eight bytes each
unfoldable pub records : List ℕ → List Decoded
records b = map decoded (parts (length b / 8) 8 b)

-- document 01's number of each kind
abbrev pub kind_number : Event → ℕ
kind_number (BeginPosted m a) = 1
kind_number (BeginRead m a) = 2
kind_number (BeginWrite m a) = 3
kind_number (Commit N t) = 4
kind_number (Post N t) = 5
kind_number (Latch N t) = 6
kind_number (Complete N t) = 7
kind_number (DropRequest N t) = 8
kind_number (DropCompletion N t) = 9
