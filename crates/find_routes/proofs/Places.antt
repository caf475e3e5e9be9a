-- On a table that passes, the buses of its agents and channels are there, and any two are reached from each other: what
-- the private functions ask for follows from `table_passes`.
use Prim.Native.Nat.{◌<◌, ◌≤◌}
use mathlib.Core.Path.{◌≡◌, subst}
use mathlib.Core.Bool.{true}
use mathlib.Core.List.{[]}
use native.Mathlib.Omega.{arith}
use borrow.Author.Tests.{ltb-true, ltb-false, lt-ltb}
use Rattle.base.specs.Lists.{all}
use Rattle.base.proofs.Logic.{split, and_true}
use Rattle.base.proofs.Lists.{all_take}
use Rattle.chassis.specs.Capacities.{most_agents}
use Rattle.chassis.specs.declared.Agent.{Agent}
use Rattle.chassis.specs.declared.Bus.{Bus}
use Rattle.chassis.specs.declared.Chan.{Chan}
use Rattle.chassis.specs.declared.Table.{Table}
use Rattle.chassis.specs.Numbers.{agent, bus}
use Rattle.chassis.specs.Channels.{has_agent, has_chan, has_bus, is_master, goes_forth, bridge_of, home, out_bus}
use Rattle.chassis.specs.Routes.{way}
use Rattle.chassis.specs.Tables.{has_both_buses, bridges_of, homes_of, buses_are_there, table_passes}
use Rattle.check_tables.specs.Ladders.{InRange, Reachable}
use Rattle.chassis.proofs.Trees.{joined_in}
use Rattle.chassis.proofs.Passing.{passed}
use Rattle.chassis.proofs.Steps.{ends_of}
use Rattle.chassis.proofs.Numbering.{few, bridge_there}
use Rattle.find_routes.proofs.Nearest.{way_none}

-- there is no way to go to the bus where one is
pub here : (T : Table) (a b : Bus) → a ≡ b → way T a b ≡ []
here T a b p = subst (λ (x : Bus). way T a x ≡ []) p (way_none T T.bridges a)

module _ (T : Table) (ok : table_passes T ≡ true) where
  pub in_range : InRange T
  in_range = record { counts = (passed T ok).counts; buses = (passed T ok).buses }

  pub few_buses_there : T.buses ≤ 16
  few_buses_there = omega (arith, few T ok)

  pub few_bridges_there : T.bridges ≤ 15
  few_bridges_there = omega (arith, few T ok)

  pub few_agents_there : T.agents ≤ most_agents
  few_agents_there = omega (arith, few T ok)

  pub agent_low : (a : Agent) → has_agent T a ≡ true → a.0 < most_agents
  agent_low a h = omega (arith, ltb-true a.0 T.agents h, few T ok)

  pub home_there : (a : Agent) → has_agent T a ≡ true → (home T a).0 < T.buses
  unfolding buses_are_there
  home_there a h =
      let r = (and_true (all (has_both_buses T) (bridges_of T)) (all (has_bus T) (homes_of T)) (passed T ok).buses).1 in
      let z = lt-ltb 0 T.buses (few T ok).buses.0 in
      ltb-true (home T a).0 T.buses
      (all_take (has_bus T) T.agents T.homes (bus 0) r z a.0 (ltb-true a.0 T.agents h))

  pub out_bus_there : (N : Chan) → has_chan T N ≡ true → (out_bus T N).0 < T.buses
  unfolding out_bus
  out_bus_there N h =
      split (is_master T N)
      (λ m. rw m (home_there (agent N.0) m))
      (λ m.
      let e = ends_of T ok (bridge_of T N) (bridge_there T N h (ltb-false N.0 T.agents m)) in
      split (goes_forth T N) (λ f. rw (m, f) e.1) (λ f. rw (m, f) e.0))

  pub reached : (a b : Bus) → a.0 < T.buses → b.0 < T.buses → Reachable T T.bridges a b
  reached a b h i = record {
    few = omega arith;
    start = omega (arith, few T ok);
    goal = omega (arith, few T ok);
    joined = joined_in T (passed T ok).ways a b h i;
  }
