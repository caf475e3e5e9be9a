-- What a table check hands back: its answer, and the state beside it.
use Rattle.std.specs.Prelude.{Bool, replicate, Result, Ok, Err}
use Rattle.chassis.specs.declared.Table.{Table}
use Rattle.base.specs.declared.Refusal.{Refusal}
use Rattle.chassis.specs.Tables.{zero_table}
use Rattle.chassis.specs.Answers.{table_answer}
use Rattle.chassis.specs.Capacities.{most_agents, most_channels}
use Rattle.queue.specs.Packing.{zero_channel}
use Rattle.network.specs.declared.State.{State}
use Rattle.network.specs.declared.Opened.{Opened}
use Rattle.network.specs.Nets.{pack, empty_net}

-- the all-zero state, which is not sound
unfoldable pub zero_state : State
zero_state = record { table = zero_table; channels = replicate most_channels zero_channel; begins = replicate most_agents 0 }

abbrev pub state_by : Table → Result Unit Refusal → State
state_by T (Ok u) = pack (empty_net T)
state_by T (Err n) = zero_state

-- a refused table gives its number and the all-zero state; `stray` as in `table_grounds`
unfoldable pub opened : Table → Bool → Opened
opened T stray = record { answer = table_answer T stray; state = state_by T (table_answer T stray) }
