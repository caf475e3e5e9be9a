-- An answer's number is that of the first ground that holds, and 0 where none does.
use mathlib.Core.Path.{◌≡◌}
use mathlib.Core.Bool.{Bool}
use Rattle.base.specs.Grounds.{refusal, number_or_0}
use Rattle.base.proofs.Grounds.{numbered}
use Rattle.chassis.specs.declared.Agent.{Agent}
use Rattle.chassis.specs.declared.Chan.{Chan}
use Rattle.chassis.specs.declared.Table.{Table}
use Rattle.chassis.specs.Tables.{table_grounds}
use Rattle.chassis.specs.Routes.{next_place}
use Rattle.chassis.specs.Answers.{table_number, table_answer, route_number, route_grounds, route_answer}

pub table_numbered : (T : Table) (stray : Bool) → table_number (table_answer T stray) ≡ number_or_0 (refusal (table_grounds T stray))
unfolding table_answer
table_numbered T stray = numbered tt (refusal (table_grounds T stray))

pub route_numbered : (T : Table) (N : Chan) (a : Agent) → route_number (route_answer T N a) ≡ number_or_0 (refusal (route_grounds T N a))
unfolding route_answer
route_numbered T N a = numbered (next_place T N a) (refusal (route_grounds T N a))
