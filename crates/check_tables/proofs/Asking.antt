-- The table question's first ground; and the route question: the table's own grounds first, then 2, then the next place.
use mathlib.Core.Path.{◌≡◌}
use mathlib.Core.Bool.{Bool, true, false, not, ◌&&◌}
use mathlib.Core.List.{List, [], ◌∷◌}
use Rattle.std.specs.Prelude.{None, Ok, Err}
use Rattle.base.specs.declared.Refusal.{Refusal}
use Rattle.base.specs.Grounds.{Ground, ◌when◌, refusal}
use Rattle.base.specs.declared.Refusal.TheVariants.{NotInTable, OutOfRange}
use Rattle.base.proofs.Grounds.{refused_before, refused_behind, answered_ok, answered_err}
use Rattle.chassis.specs.declared.Agent.{Agent}
use Rattle.chassis.specs.declared.Chan.{Chan}
use Rattle.chassis.specs.declared.Table.{Table}
use Rattle.chassis.specs.Channels.{has_agent, has_chan}
use Rattle.chassis.specs.Routes.{next_place}
use Rattle.chassis.specs.Tables.{counts_in_range, table_grounds, table_passes}
use Rattle.chassis.specs.Answers.{table_answer, route_grounds, route_answer}

-- ---- the table question

pub says_23 : (T : Table) (s : Bool) → counts_in_range T ≡ false → Err OutOfRange ≡ table_answer T s
unfolding table_answer table_grounds
says_23 T s a = rw a

-- ---- the route question

module _ (T : Table) where
  clear_of : table_answer T false ≡ Ok tt → refusal (table_grounds T false) ≡ None
  unfolding table_answer
  clear_of h = answered_ok tt (refusal (table_grounds T false)) h

  pub answered_passes : table_answer T false ≡ Ok tt → table_passes T ≡ true
  unfolding table_passes
  answered_passes h = rw (clear_of h)

  pub answered_refused : {n : Refusal} → table_answer T false ≡ Err n → table_passes T ≡ false
  unfolding table_answer table_passes
  answered_refused h = rw (answered_err tt (refusal (table_grounds T false)) h)

  module _ (N : Chan) (a : Agent) where
    abbrev unknown : List Ground
    unknown = NotInTable when not (has_chan T N && has_agent T a) ∷ []

    pub route_refused : {n : Refusal} → table_answer T false ≡ Err n → Err n ≡ route_answer T N a
    unfolding table_answer route_answer route_grounds
    route_refused h =
        rw (refused_before (table_grounds T false) unknown (answered_err tt (refusal (table_grounds T false)) h))

    pub route_unknown : table_answer T false ≡ Ok tt → has_chan T N && has_agent T a ≡ false → Err NotInTable ≡ route_answer T N a
    unfolding route_answer route_grounds
    route_unknown h f = rw (refused_behind (table_grounds T false) unknown (clear_of h), f)

    pub route_next : table_answer T false ≡ Ok tt → has_chan T N && has_agent T a ≡ true → Ok (next_place T N a) ≡ route_answer T N a
    unfolding route_answer route_grounds
    route_next h t = rw (refused_behind (table_grounds T false) unknown (clear_of h), t)
