-- The hop table: for each two buses, which channel leads from the one towards the other. Place 16a + b has the number of
-- the first channel of the way from bus a to bus b, and 255 where there is none: the same bus, or one that is not there.
use Rattle.std.specs.Prelude.{ℕ, ◌/◌, ◌%◌, Bool, cond, ◌&&◌, List, map, ltb}
use Rattle.base.specs.Lists.{from_to}
use Rattle.chassis.specs.declared.Table.{Table}
use Rattle.chassis.specs.declared.NextPlace.{NextPlace}
use Rattle.chassis.specs.declared.NextPlace.TheVariants.{Target, Through}
use Rattle.chassis.specs.Numbers.{bus}
use Rattle.chassis.specs.Routes.{way, first_place}

abbrev pub place_number : NextPlace → ℕ
place_number Target = 255
place_number (Through c) = c.0

abbrev pub has_both : Table → ℕ → Bool
has_both T i = ltb (i / 16) T.buses && ltb (i % 16) T.buses

abbrev pub hop_at : Table → ℕ → ℕ
hop_at T i = cond (has_both T i) (place_number (first_place T (way T (bus (i / 16)) (bus (i % 16))))) 255

unfoldable pub hops_of : Table → List ℕ
hops_of T = map (hop_at T) (from_to 0 256)
