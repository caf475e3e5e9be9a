-- What the table's questions answer.
use Rattle.std.specs.Prelude.{ℕ, Bool, false, not, ◌&&◌, List, [], ◌∷◌, ◌++◌, Result}
use Rattle.base.specs.declared.Refusal.{Refusal}
use Rattle.base.specs.declared.Refusal.TheVariants.{NotInTable}
use Rattle.base.specs.Grounds.{Ground, ◌when◌, refusal, answer, number}
use Rattle.chassis.specs.declared.Agent.{Agent}
use Rattle.chassis.specs.declared.Chan.{Chan}
use Rattle.chassis.specs.declared.Table.{Table}
use Rattle.chassis.specs.declared.NextPlace.{NextPlace}
use Rattle.chassis.specs.Channels.{has_agent, has_chan}
use Rattle.chassis.specs.Routes.{next_place}
use Rattle.chassis.specs.Tables.{table_grounds}

-- document 01's number for each answer
abbrev pub table_number : Result Unit Refusal → ℕ
table_number a = number a

-- what the check of a table answers; `stray` as in `table_grounds`
unfoldable pub table_answer : Table → Bool → Result Unit Refusal
table_answer T stray = answer (refusal (table_grounds T stray)) tt

abbrev pub route_number : Result NextPlace Refusal → ℕ
route_number a = number a

-- the next place as a question that any caller may ask: 23 to 27 for the table, 2 for a number that is not in it
unfoldable pub route_grounds : Table → Chan → Agent → List Ground
route_grounds T N a = table_grounds T false ++ (NotInTable when not (has_chan T N && has_agent T a) ∷ [])

unfoldable pub route_answer : Table → Chan → Agent → Result NextPlace Refusal
route_answer T N a = answer (refusal (route_grounds T N a)) (next_place T N a)
