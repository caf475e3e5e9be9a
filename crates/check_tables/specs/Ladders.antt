-- The components level by level, as a table of labels: place 16k + a has the label of bus a over the first k bridges.
use Rattle.std.specs.Prelude.{ℕ, ◌+◌, ◌*◌, ◌/◌, ◌%◌, ◌<◌, ◌≤◌, ◌≡◌, Bool, true, cond, List, map, get_or, ltb, eqb}
use Rattle.base.specs.Lists.{from_to}
use Rattle.chassis.specs.declared.Bus.{Bus}
use Rattle.chassis.specs.declared.Table.{Table}
use Rattle.chassis.specs.Numbers.{bus}
use Rattle.chassis.specs.Routes.{component}
use Rattle.chassis.specs.Tables.{counts_in_range, buses_are_there}

-- grounds 23 and 25 do not hold: every number in the table is in its range
pub record InRange (T : Table) : Type 0 where
  pub counts : counts_in_range T ≡ true
  pub buses : buses_are_there T ≡ true

-- the places in use: a level more than there are bridges
abbrev pub places : Table → ℕ
places T = 16 * (T.bridges + 1)

abbrev pub label_at : Table → ℕ → ℕ
label_at T i = (component T (i / 16) (bus (i % 16))).0

-- the places behind hold 0
unfoldable pub ladder_of : Table → List ℕ
ladder_of T = map (λ i. cond (ltb i (places T)) (label_at T i) 0) (from_to 0 256)

-- do two buses have one label at level k
abbrev pub share_label : List ℕ → ℕ → Bus → Bus → Bool
share_label l k a b = eqb (get_or l (16 * k + a.0) 0) (get_or l (16 * k + b.0) 0)

-- the first k bridges join two buses that the ladder has
pub record Reachable (T : Table) (k : ℕ) (a b : Bus) : Type 0 where
  pub few : k ≤ T.bridges
  pub start : a.0 < 16
  pub goal : b.0 < 16
  pub joined : component T k a ≡ component T k b
