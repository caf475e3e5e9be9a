-- What a table that passes grounds 23 to 27 has; and where 23 and 25 do not hold, 27 holds exactly where there is not
-- exactly one way.
use mathlib.Core.Path.{◌≡◌, refl, sym}
use mathlib.Core.Bool.{true, false, not}
use mathlib.Core.Logic.{◌↔◌}
use Rattle.std.specs.Prelude.{Option, None, Some}
use borrow.Author.Tests.{ltb-true, lt-ltb, not-false}
use lib.ListN.{take}
use Rattle.base.specs.Lists.{all, is_some}
use Rattle.base.specs.declared.Refusal.{Refusal}
use Rattle.base.specs.Grounds.{refusal}
use Rattle.base.proofs.Logic.{and_true, or_false, true_and, true_false}
use Rattle.base.proofs.Grounds.{clear}
use Rattle.base.proofs.Lists.{all_take}
use Rattle.chassis.specs.declared.Table.{Table}
use Rattle.chassis.specs.Channels.{no_bridge, has_bus, first_bus, second_bus}
use Rattle.chassis.specs.Ways.{ExactlyOneWay}
use Rattle.chassis.specs.Routes.{one_way}
use Rattle.chassis.specs.Tables.{homes_of, has_both_buses, counts_in_range, unused_are_zero, buses_are_there, a_bridge_on_one_bus, table_grounds, table_passes}
use Rattle.chassis.proofs.Counts.{counts}
use Rattle.chassis.proofs.Trees.{Ends, one_way_is_one, one_way_is_exactly_one_way}

not_refused : (o : Option Refusal) → not (is_some o) ≡ true → o ≡ None
not_refused None h = refl
not_refused (Some n) h = absurd (true_false (sym h))

pub record Passed (T : Table) : Type 0 where
  pub counts : counts_in_range T ≡ true
  pub unused : unused_are_zero T ≡ true
  pub buses : buses_are_there T ≡ true
  pub bridges : a_bridge_on_one_bus T ≡ false
  pub ways : one_way T ≡ true

pub passed : (T : Table) → table_passes T ≡ true → Passed T
unfolding table_passes table_grounds
passed T h =
    let r = clear (table_grounds T false) (not_refused (refusal (table_grounds T false)) h) in
    record {
      counts = not-false (counts_in_range T) r.0;
      unused = not-false (unused_are_zero T) (or_false (not (unused_are_zero T)) false r.1.0).0;
      buses = not-false (buses_are_there T) r.1.1.0;
      bridges = r.1.1.1.0;
      ways = not-false (one_way T) r.1.1.1.1.0;
    }

-- ---- 25 in numbers

pub ends : (T : Table) → counts_in_range T ≡ true → buses_are_there T ≡ true → Ends T
unfolding buses_are_there
ends T c h g k =
    let zero_there : has_bus T no_bridge.first ≡ true = lt-ltb 0 T.buses (counts T c).buses.0 in
    let r = all_take (has_both_buses T) T.bridges T.pairs no_bridge (and_true (all (has_both_buses T) (take T.bridges T.pairs)) (all (has_bus T) (homes_of T)) h).0 (true_and (has_bus T no_bridge.first) (has_bus T no_bridge.second) zero_there zero_there) g k in
    let q = and_true (has_bus T (first_bus T g)) (has_bus T (second_bus T g)) r in
    (ltb-true (first_bus T g).0 T.buses q.0, ltb-true (second_bus T g).0 T.buses q.1)

-- ---- 27, both ways

pub ground_27 : (T : Table) → counts_in_range T ≡ true → buses_are_there T ≡ true → (one_way T ≡ true) ↔ ExactlyOneWay T
ground_27 T c b = one_way_is_exactly_one_way T (ends T c b)

pub passed_one_way : (T : Table) → table_passes T ≡ true → ExactlyOneWay T
passed_one_way T h = one_way_is_one T (passed T h).ways
