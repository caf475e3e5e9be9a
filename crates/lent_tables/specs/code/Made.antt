-- A table made record by record. A count that is one too high says that there were more records than places.
use Rattle.std.specs.Prelude.{ℕ, ◌+◌, cond, List, fold, replicate, set, ltb, position, Option, Result, Ok, Err}
use Rattle.base.specs.declared.Refusal.{Refusal}
use Rattle.base.specs.declared.Refusal.TheVariants.{OutOfRange}
use Rattle.chassis.specs.declared.Bus.{Bus}
use Rattle.chassis.specs.declared.Bridge.{Bridge}
use Rattle.chassis.specs.declared.Table.{Table}
use Rattle.chassis.specs.Numbers.{bus}
use Rattle.chassis.specs.Channels.{no_bridge}
use Rattle.chassis.specs.Tables.{bridges_of}
use Rattle.chassis.specs.Capacities.{most_agents}
use Rattle.lent_tables.specs.declared.Numbers.{Numbers}
use Rattle.lent_tables.specs.Lists.{joins}

-- one more record where n have a place: the count, and the places
abbrev pub count_on : ℕ → ℕ → ℕ
count_on n k = cond (ltb k n) (k + 1) (n + 1)

abbrev pub place_on : {A : Type 0} → ℕ → ℕ → List A → A → List A
place_on n k l x = cond (ltb k n) (set l k x) l

abbrev pub no_numbers : Numbers
no_numbers = record { buses = 0; limits = replicate 3 0 }

abbrev pub empty : Numbers → Table
empty m = record {
  buses = m.buses;
  bridges = 0;
  agents = 0;
  limits = m.limits;
  pairs = replicate 15 no_bridge;
  homes = replicate most_agents (bus 0);
}

abbrev pub bridge_added : Table → Bridge → Table
bridge_added T g = record {
  buses = T.buses;
  bridges = count_on 15 T.bridges;
  agents = T.agents;
  limits = T.limits;
  pairs = place_on 15 T.bridges T.pairs g;
  homes = T.homes;
}

abbrev pub home_added : Table → Bus → Table
home_added T b = record {
  buses = T.buses;
  bridges = T.bridges;
  agents = count_on most_agents T.agents;
  limits = T.limits;
  pairs = T.pairs;
  homes = place_on most_agents T.agents T.homes b;
}

-- all records of a list, one after the other
abbrev pub all_added : {A : Type 0} → (Table → A → Table) → Table → List A → Table
all_added f T l = fold f T l

-- the lowest bridge of a table between two buses
unfoldable pub joined_in : Table → Bus → Bus → Result (Option ℕ) Refusal
joined_in T a b = cond (ltb 15 T.bridges) (Err OutOfRange) (Ok (position (joins a b) (bridges_of T)))
