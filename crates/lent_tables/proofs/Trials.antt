-- Every row of the table of trials has the outcome that it states: by computing the definitions.
use mathlib.Core.Path.{◌≡◌, refl}
use mathlib.Core.List.{map}
use Rattle.base.specs.Lists.{all, any, from_to}
use Rattle.chassis.specs.Routes.{component, loop_free, all_joined, one_way}
use Rattle.chassis.specs.Tables.{counts_in_range, unused_are_zero, buses_are_there, a_bridge_on_one_bus, table_grounds}
use Rattle.chassis.specs.Answers.{table_answer}
use Rattle.lent_tables.specs.Lists.{table_of, lent_answer, joined_of}
use Rattle.lent_tables.specs.Trials.{rows, outcome, questions, answered}

pub all_come_out : (map outcome rows ≡ map (λ r. r.number) rows) × (map answered questions ≡ map (λ q. q.answer) questions)
unfolding all any from_to component loop_free all_joined one_way counts_in_range unused_are_zero buses_are_there a_bridge_on_one_bus table_grounds table_answer table_of lent_answer joined_of rows questions
all_come_out = (refl, refl)
