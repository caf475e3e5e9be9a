-- What a tick asks before its records: its grounds, of what they look at.
use Rattle.std.specs.Prelude.{ℕ, ◌/◌, ◌%◌, Bool, not, ◌||◌, [], ◌∷◌, ltb, eqb, Result}
use Rattle.base.specs.Grounds.{◌when◌, refusal, answer}
use Rattle.base.specs.declared.Refusal.{Refusal}
use Rattle.base.specs.declared.Refusal.TheVariants.{NotSound, ShortList, NotRecords}
use Rattle.chassis.specs.Capacities.{most_record_bytes}

-- 16, 18, 17, of a state that is sound or not, that many bytes and that many places
unfoldable pub tick_first : Bool → ℕ → ℕ → Result Unit Refusal
tick_first sound bytes room =
    answer (refusal (
    NotSound when not sound
    ∷ NotRecords when (not (eqb (bytes % 8) 0) || ltb most_record_bytes bytes)
    ∷ ShortList when ltb room (bytes / 8)
    ∷ []
    )) tt
