-- How the hop table is made, bridge by bridge. It has a place for each two of 16 buses; over the first k bridges it knows
-- the ways between the buses that these join.
use Rattle.std.specs.Prelude.{ℕ, ◌+◌, ◌*◌, ◌/◌, ◌%◌, cond, ◌&&◌, List, map, get_or, eqb}
use Rattle.base.specs.Lists.{from_to}
use Rattle.chassis.specs.declared.Bus.{Bus}
use Rattle.chassis.specs.declared.Chan.{Chan}
use Rattle.chassis.specs.declared.Table.{Table}
use Rattle.chassis.specs.Numbers.{bus, same_bus}
use Rattle.chassis.specs.Routes.{component, way_over, first_place}
use Rattle.find_routes.specs.Hops.{place_number}

-- what a table has for two buses, and the table that has f
abbrev pub at : List ℕ → ℕ → ℕ → ℕ
at h a b = get_or h (16 * a + b) 0

unfoldable pub tabled : (ℕ → ℕ → ℕ) → List ℕ
tabled f = map (λ i. f (i / 16) (i % 16)) (from_to 0 256)

-- g in one row, f elsewhere
abbrev pub in_row : ℕ → (ℕ → ℕ → ℕ) → (ℕ → ℕ → ℕ) → ℕ → ℕ → ℕ
in_row row g f a b = cond (eqb a row) (g a b) (f a b)

-- A bridge is crossed from its near end in channel c; buses of one component have one label. From a bus of the near end's
-- component to one of the far end's, the first channel is the one to the near end, and c at that end itself.
abbrev pub crossed : List ℕ → Bus → Bus → Chan → (ℕ → ℕ → ℕ) → ℕ → ℕ → ℕ
crossed labels near far c f a b =
    cond (eqb (get_or labels a 0) (get_or labels near.0 0) && eqb (get_or labels b 0) (get_or labels far.0 0))
    (cond (eqb a near.0) c.0 (f a near.0))
    (f a b)

-- a list that has f for each bus
unfoldable pub labelled : (ℕ → ℕ) → List ℕ
labelled f = map f (from_to 0 16)

-- label q becomes p
abbrev pub relabelled : List ℕ → ℕ → ℕ → ℕ → ℕ
relabelled labels p q a = cond (eqb (get_or labels a 0) q) p (get_or labels a 0)

-- the label of a bus over the first k bridges
abbrev pub label_over : Table → ℕ → ℕ → ℕ
label_over T k a = (component T k (bus a)).0

-- the number of the first channel over the first k bridges
abbrev pub hop_over : Table → ℕ → ℕ → ℕ → ℕ
hop_over T k a b =
    cond (same_bus (component T k (bus a)) (component T k (bus b))) (place_number (first_place T (way_over T k (bus a) (bus b)))) 255
