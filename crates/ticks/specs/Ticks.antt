-- The tick: 16, 18, 17; the lowest record refused alone in the starting state; the lowest conflicting pair; the end state.
use Rattle.std.specs.Prelude.{ℕ, suc, ◌/◌, ◌%◌, true, false, not, ◌||◌, List, [], ◌∷◌, ◌++◌, length, drop, ltb, eqb, Option, None, Some, Result, Ok, Err}
use Rattle.base.specs.Grounds.{Ground, ◌when◌, refusal, number_of}
use Rattle.base.specs.declared.Refusal.TheVariants.{InConflict, NotSound, ShortList, NotRecords}
use Rattle.chassis.specs.Capacities.{most_record_bytes}
use Rattle.network.specs.declared.State.{State}
use Rattle.network.specs.Nets.{Net, view, pack}
use Rattle.network.specs.Soundness.{sound}
use Rattle.events.specs.declared.Event.{Event}
use Rattle.events.specs.Records.{records, Decoded}
use Rattle.events.specs.Steps.{record_grounds}
use Rattle.events.specs.Effects.{after, value}
use Rattle.ticks.specs.declared.TickRefusal.{TickRefusal}
use Rattle.ticks.specs.declared.TickRefusal.TheVariants.{Refused, Conflict}
use Rattle.ticks.specs.Conflicts.{conflict}

-- what a tick answers; the state stands beside it
abbrev pub TickAnswer : Type 0
TickAnswer = Result Unit TickRefusal

-- document 01's number, record and other record for each answer (0 where none)
abbrev pub tick_number : TickAnswer → ℕ
tick_number (Ok u) = 0
tick_number (Err (Refused n i)) = number_of n
tick_number (Err (Conflict i j)) = number_of InConflict

abbrev pub tick_record : TickAnswer → ℕ
tick_record (Ok u) = 0
tick_record (Err (Refused n i)) = i
tick_record (Err (Conflict i j)) = i

abbrev pub tick_other : TickAnswer → ℕ
tick_other (Ok u) = 0
tick_other (Err (Refused n i)) = 0
tick_other (Err (Conflict i j)) = j

-- the events of the records that are known
unfoldable pub known : List Decoded → List Event
known [] = []
known (None ∷ ds) = known ds
known (Some e ∷ ds) = e ∷ known ds

-- the state that events reach taken one by one in listed order, and the value of each there
unfoldable pub end_of : Net → List Event → Net
end_of s [] = s
end_of s (e ∷ es) = end_of (after s e) es

unfoldable pub values_of : Net → List Event → List ℕ
values_of s [] = []
values_of s (e ∷ es) = value s e ∷ values_of (after s e) es

-- the lowest record that would be refused alone in s, with its number; places count from i
unfoldable pub first_refused : Net → ℕ → List Decoded → Option TickRefusal
first_refused s i [] = None
first_refused s i (d ∷ ds) =
    elim (refusal (record_grounds s d)) [ None ↦ first_refused s (suc i) ds | Some n ↦ Some (Refused n i) ]

-- the lowest partner of e among the events from place j on
unfoldable pub partner : Net → Event → ℕ → List Event → Option ℕ
partner s e j [] = None
partner s e j (f ∷ fs) = elim (conflict s e f) [ true ↦ Some j | false ↦ partner s e (suc j) fs ]

-- the lowest first record of a conflicting pair and its lowest partner
unfoldable pub first_pair : Net → ℕ → List Event → Option TickRefusal
first_pair s i [] = None
first_pair s i (e ∷ es) =
    elim (partner s e (suc i) es) [ None ↦ first_pair s (suc i) es | Some j ↦ Some (Conflict i j) ]

-- what a tick hands back: its answer, the state, and the lent answer list as it stands then
pub record Ticked : Type 0 where
  pub answer : TickAnswer
  pub state : State
  pub answers : List ℕ

-- a refusal leaves the state and the answer list
abbrev pub held : State → List ℕ → TickRefusal → Ticked
held s out a = record { answer = Err a; state = s; answers = out }

-- each value at its place in the answer list; later places stay
abbrev pub ticked : State → List ℕ → List Event → Ticked
ticked s out es = record {
  answer = Ok tt;
  state = pack (end_of (view s) es);
  answers = values_of (view s) es ++ drop (length es) out;
}

-- 16, 18, 17
unfoldable pub tick_grounds : State → List ℕ → List ℕ → List Ground
tick_grounds s b out =
    NotSound when not (sound s)
    ∷ NotRecords when (not (eqb (length b % 8) 0) || ltb most_record_bytes (length b))
    ∷ ShortList when ltb (length out) (length b / 8)
    ∷ []

-- first the one, then the other, then the tick
unfoldable pub judged : State → List ℕ → List Decoded → Ticked
judged s out ds =
    elim (first_refused (view s) 0 ds) [
      | Some a ↦ held s out a
      | None ↦ elim (first_pair (view s) 0 (known ds)) [
        | Some a ↦ held s out a
        | None ↦ ticked s out (known ds)
      ]
    ]

-- a tick on record bytes, with the lent answer list
unfoldable pub tick : State → List ℕ → List ℕ → Ticked
tick s b out =
    elim (refusal (tick_grounds s b out)) [
      | Some n ↦ held s out (Refused n 0)
      | None ↦ judged s out (records b)
    ]
