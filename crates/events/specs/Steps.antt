-- The single step: 16, 18, 1, then the kind's grounds. A refusal has value 0 and the state unchanged.
use Rattle.std.specs.Prelude.{ℕ, true, not, List, [], ◌∷◌, length, eqb, Option, None, Some, Result, Ok, Err}
use Rattle.base.specs.Grounds.{Ground, ◌when◌, refusal, number}
use Rattle.base.specs.declared.Refusal.{Refusal}
use Rattle.base.specs.declared.Refusal.TheVariants.{UnfitRecord, NotSound, NotRecords}
use Rattle.network.specs.declared.State.{State}
use Rattle.network.specs.Nets.{Net, view, pack}
use Rattle.network.specs.Soundness.{sound}
use Rattle.events.specs.declared.Event.{Event}
use Rattle.events.specs.declared.Outcome.{Outcome}
use Rattle.events.specs.Records.{decoded, Decoded}
use Rattle.events.specs.Grounds.{grounds}
use Rattle.events.specs.Effects.{after, value}

-- what a single step answers; the state stands beside it
abbrev pub Answer : Type 0
Answer = Result ℕ Refusal

-- document 01's number and value for each answer
abbrev pub refusal_number : Answer → ℕ
refusal_number a = number a

abbrev pub answer_value : Answer → ℕ
answer_value (Ok v) = v
answer_value (Err n) = 0

-- what a record is refused for in a state, with ground 1 in front
unfoldable pub record_grounds : Net → Decoded → List Ground
record_grounds s None = UnfitRecord when true ∷ []
record_grounds s (Some e) = grounds s e

-- what follows where no ground holds; a refusal leaves the state
abbrev pub unless : Option Refusal → State → Outcome → Outcome
unless None s o = o
unless (Some n) s o = record { answer = Err n; state = s }

-- the step on an event, for whoever holds a sound state: neither 16 nor 18 nor 1 is asked
unfoldable pub inner_step : State → Event → Outcome
inner_step s e =
    unless (refusal (grounds (view s) e)) s
    (record { answer = Ok (value (view s) e); state = pack (after (view s) e) })

-- the same in any state: 16 first
unfoldable pub step_on : State → Event → Outcome
step_on s e = unless (refusal (NotSound when not (sound s) ∷ [])) s (inner_step s e)

abbrev pub record_step : State → Decoded → Outcome
record_step s None = record { answer = Err UnfitRecord; state = s }
record_step s (Some e) = inner_step s e

-- always 16 first; a single step handed other than eight record bytes is 18, right after 16
unfoldable pub step_grounds : State → List ℕ → List Ground
step_grounds s b =
    NotSound when not (sound s)
    ∷ NotRecords when not (eqb (length b) 8)
    ∷ []

-- a single step on record bytes
unfoldable pub step : State → List ℕ → Outcome
step s b = unless (refusal (step_grounds s b)) s (record_step s (decoded b))
