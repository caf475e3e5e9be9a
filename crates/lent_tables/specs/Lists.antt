-- "A list of bridge records, each with two bus numbers, and one bus for each agent make the table": its check, and the bridge between two buses.
use Rattle.std.specs.Prelude.{ℕ, ◌-◌, Bool, false, cond, ◌&&◌, ◌||◌, List, ◌++◌, length, replicate, ltb, position, Option, None, Result, Ok, Err}
use Rattle.base.specs.declared.Refusal.{Refusal}
use Rattle.base.specs.declared.Refusal.TheVariants.{OutOfRange}
use Rattle.base.specs.Grounds.{number_of}
use Rattle.chassis.specs.declared.Bus.{Bus}
use Rattle.chassis.specs.declared.Bridge.{Bridge}
use Rattle.chassis.specs.declared.Table.{Table}
use Rattle.chassis.specs.Numbers.{bus, same_bus}
use Rattle.chassis.specs.Channels.{no_bridge}
use Rattle.chassis.specs.Answers.{table_answer}
use Rattle.chassis.specs.Capacities.{most_agents}
use Rattle.lent_tables.specs.declared.Numbers.{Numbers}

-- both counts are the lists' own; unused places are zero
unfoldable pub table_of : Numbers → List Bridge → List Bus → Table
table_of m gs hs = record {
  buses = m.buses;
  bridges = length gs;
  agents = length hs;
  limits = m.limits;
  pairs = gs ++ replicate (15 - length gs) no_bridge;
  homes = hs ++ replicate (most_agents - length hs) (bus 0);
}

-- grounds 23 to 27 of that table: a sixteenth bridge, a thirty-third agent or no agent at all is a count out of range
unfoldable pub lent_answer : Numbers → List Bridge → List Bus → Result Unit Refusal
lent_answer m gs hs = table_answer (table_of m gs hs) false

-- the bridge's two buses are a and b, in either direction
abbrev pub joins : Bus → Bus → Bridge → Bool
joins a b g =
    (same_bus g.first a && same_bus g.second b)
    || (same_bus g.first b && same_bus g.second a)

-- document 01's number for each answer, and the bridge where there is one
abbrev pub joined_number : Result (Option ℕ) Refusal → ℕ × Option ℕ
joined_number (Err n) = (number_of n, None)
joined_number (Ok g) = (0, g)

-- the lowest bridge between two buses; a list of more than 15 is a count out of range
unfoldable pub joined_of : List Bridge → Bus → Bus → Result (Option ℕ) Refusal
joined_of gs a b = cond (ltb 15 (length gs)) (Err OutOfRange) (Ok (position (joins a b) gs))
