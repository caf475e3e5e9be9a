-- What a table has where ground 23 does not hold, in numbers.
-- The tests of the ground, taken apart one by one.
use Prim.Native.Nat.{ℕ, ◌≤◌}
use mathlib.Core.Path.{◌≡◌}
use mathlib.Core.Bool.{true, ◌&&◌}
use borrow.Author.Tests.{leb-true}
use lib.Dec.{leb}
use Rattle.base.specs.Lists.{all}
use Rattle.base.proofs.Logic.{and_true}
use Rattle.chassis.specs.declared.Table.{Table}
use Rattle.chassis.specs.Tables.{within, counts_in_range}
use Rattle.chassis.specs.Capacities.{most_agents}

pub record Counts (T : Table) : Type 0 where
  pub buses : (1 ≤ T.buses) × (T.buses ≤ 16)
  pub bridges : (0 ≤ T.bridges) × (T.bridges ≤ 15)
  pub agents : (1 ≤ T.agents) × (T.agents ≤ most_agents)
  pub limits : all (within 1 8) T.limits ≡ true

between : (low high n : ℕ) → within low high n ≡ true → (low ≤ n) × (n ≤ high)
between low high n h =
    let r = and_true (leb low n) (leb n high) h in
    (leb-true low n r.0, leb-true n high r.1)

pub counts : (T : Table) → counts_in_range T ≡ true → Counts T
unfolding counts_in_range
counts T h =
    let a = within 1 16 T.buses in
    let b = within 0 15 T.bridges in
    let c = within 1 most_agents T.agents in
    let abc = and_true (a && b && c) (all (within 1 8) T.limits) h in
    let ab = and_true (a && b) c abc.0 in
    let one = and_true a b ab.0 in
    record {
      buses = between 1 16 T.buses one.0;
      bridges = between 0 15 T.bridges one.1;
      agents = between 1 most_agents T.agents ab.1;
      limits = abc.1;
    }
