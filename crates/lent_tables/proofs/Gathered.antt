-- The table that the code gathers out of two lists gives the answers of the lists themselves.
-- Lists that fit make the very table of document 01; a longer one leaves a count out of range, as the table of document 01 has it.
use Prim.Native.Nat.{◌≤◌}
use mathlib.Core.Path.{◌≡◌, ap, sym, ◌∙◌}
use mathlib.Core.Bool.{false}
use mathlib.Core.List.{List, []}
use native.Mathlib.Omega.{arith}
use lib.ListN.{length}
use lib.Seq.{take-append_seam}
use Rattle.base.proofs.Logic.{split}
use Rattle.chassis.specs.declared.Bus.{Bus}
use Rattle.chassis.specs.declared.Bridge.{Bridge}
use Rattle.chassis.specs.declared.Table.{Table}
use Rattle.chassis.specs.Numbers.{bus}
use Rattle.chassis.specs.Channels.{no_bridge}
use Rattle.chassis.specs.Tables.{counts_in_range}
use Rattle.chassis.specs.Answers.{table_answer}
use Rattle.chassis.specs.Capacities.{most_agents}
use Rattle.chassis.proofs.Counts.{Counts, counts}
use Rattle.check_tables.proofs.Asking.{says_23}
use Rattle.lent_tables.specs.declared.Numbers.{Numbers}
use Rattle.lent_tables.specs.Lists.{table_of, lent_answer, joined_of}
use Rattle.lent_tables.specs.code.Made.{no_numbers, empty, bridge_added, home_added, all_added, joined_in}
use Rattle.lent_tables.proofs.Adding.{by_test, added_all, counted, placed, counted_over, counted_fits, placed_fits, counted_on, placed_on}

module _ (m : Numbers) where
  abbrev gathered : List Bridge → List Bus → Table
  gathered gs hs = record {
    buses = m.buses;
    bridges = counted no_bridge 15 gs;
    agents = counted (bus 0) most_agents hs;
    limits = m.limits;
    pairs = placed no_bridge 15 gs;
    homes = placed (bus 0) most_agents hs;
  }

  bridges_gathered : (gs : List Bridge) → all_added bridge_added (empty m) gs ≡ gathered gs []
  bridges_gathered gs = added_all bridge_added (λ l. gathered l []) (λ l x. rw (counted_on no_bridge 15 l x, placed_on no_bridge 15 l x)) [] gs

  both_gathered : (gs : List Bridge) (hs : List Bus) → all_added home_added (all_added bridge_added (empty m) gs) hs ≡ gathered gs hs
  both_gathered gs hs =
      ap (λ T. all_added home_added T hs) (bridges_gathered gs)
      ∙ added_all home_added (gathered gs) (λ l x. rw (counted_on (bus 0) most_agents l x, placed_on (bus 0) most_agents l x)) [] hs

  fits : (gs : List Bridge) (hs : List Bus) → length gs ≤ 15 → length hs ≤ most_agents → gathered gs hs ≡ table_of m gs hs
  unfolding table_of
  fits gs hs g h = rw (counted_fits no_bridge 15 gs g, placed_fits no_bridge 15 gs g, counted_fits (bus 0) most_agents hs h, placed_fits (bus 0) most_agents hs h)

  out_of_range : (T : Table) → (Counts T → ⊥) → counts_in_range T ≡ false
  out_of_range T not_so = split (counts_in_range T) (λ e. absurd (not_so (counts T e))) (λ e. e)

  both_refused : (T U : Table) → (Counts T → ⊥) → (Counts U → ⊥) → table_answer T false ≡ table_answer U false
  both_refused T U t u = sym (says_23 T false (out_of_range T t)) ∙ says_23 U false (out_of_range U u)

  -- the check of what is gathered is the check of the lists
  pub check_gathered : (gs : List Bridge) (hs : List Bus) → table_answer (all_added home_added (all_added bridge_added (empty m) gs) hs) false ≡ lent_answer m gs hs
  unfolding lent_answer table_of
  check_gathered gs hs =
      ap (λ T. table_answer T false) (both_gathered gs hs)
      ∙ by_test 15 (length gs)
      (λ h t. both_refused (gathered gs hs) (table_of m gs hs)
      (λ c. let e = counted_over no_bridge 15 gs h in omega (arith, c.bridges.1))
      (λ c. omega (arith, c.bridges.1)))
      (λ g t. by_test most_agents (length hs)
      (λ h t'. both_refused (gathered gs hs) (table_of m gs hs)
      (λ c. let e = counted_over (bus 0) most_agents hs h in omega (arith, c.agents.1))
      (λ c. omega (arith, c.agents.1)))
      (λ h t'. ap (λ T. table_answer T false) (fits gs hs g h)))

-- so is the bridge between two buses
pub between_gathered : (m : Numbers) (gs : List Bridge) (a b : Bus) → joined_in (all_added bridge_added (empty m) gs) a b ≡ joined_of gs a b
unfolding joined_in joined_of
between_gathered m gs a b =
    ap (λ T. joined_in T a b) (bridges_gathered m gs)
    ∙ by_test 15 (length gs)
    (λ h t. rw (counted_over no_bridge 15 gs h, t))
    (λ h t. rw (counted_fits no_bridge 15 gs h, placed_fits no_bridge 15 gs h, take-append_seam))

-- of a table that nothing else was put into
pub between_alone : (gs : List Bridge) (a b : Bus) → joined_in (all_added bridge_added (empty no_numbers) gs) a b ≡ joined_of gs a b
between_alone = between_gathered no_numbers
