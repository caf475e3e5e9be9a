-- Following a way: its first place is a channel of the table whose out-bus is one bridge nearer; and what is asked of the
-- way is answered by that channel, or by the way that is left.
use Prim.Native.Nat.{ℕ, ◌<◌}
use mathlib.Core.Path.{◌≡◌, refl, ap, subst⁻¹, ◌∙◌}
use mathlib.Core.Bool.{Bool, true, false}
use mathlib.Core.List.{List, [], ◌∷◌, map}
use native.Mathlib.Omega.{arith}
use lib.ListN.{length}
use Rattle.base.specs.Lists.{any}
use Rattle.chassis.specs.declared.Bus.{Bus}
use Rattle.chassis.specs.declared.Chan.{Chan}
use Rattle.chassis.specs.declared.Table.{Table}
use Rattle.chassis.specs.declared.NextPlace.TheVariants.{Through}
use Rattle.chassis.specs.Numbers.{same_bus, same_chan}
use Rattle.chassis.specs.Channels.{has_chan, out_bus}
use Rattle.chassis.specs.Ways.{Hop, hop, to}
use Rattle.chassis.specs.Routes.{way, channel_of, first_place, among}
use Rattle.chassis.specs.Tables.{table_passes}
use Rattle.chassis.proofs.Buses.{same_yes}
use Rattle.chassis.proofs.Steps.{way_step}
use Rattle.chassis.proofs.Numbering.{out_bus_of, chan_there}
use Rattle.find_routes.proofs.Places.{here}

module _ (T : Table) where
  some : (c : Chan) (hops : List Hop) → Through c ≡ first_place T hops → (g : ℕ) × (d : Bool) × (rest : List Hop) × (hops ≡ hop g d ∷ rest) × (c ≡ channel_of T (hop g d))
  some c [] e = let z : ◌≡◌ {A = ℕ} 0 1 = cc in absurd (omega arith)
  some c (hop g d ∷ hops) e = (g, d, hops, refl, cc)

  -- at the goal the way is at its end
  pub arrived : (a b : Bus) → same_bus a b ≡ true → (N : Chan) → false ≡ among N (map (channel_of T) (way T a b))
  unfolding any
  arrived a b e N = rw (here T a b (same_yes a b e))

module _ (T : Table) (ok : table_passes T ≡ true) (a b : Bus) (i : a.0 < T.buses) (j : b.0 < T.buses) (c : Chan) (e : Through c ≡ first_place T (way T a b)) where
  -- the way taken apart
  record Taken : Type 0 where
    left : List Hop
    places : map (channel_of T) (way T a b) ≡ c ∷ map (channel_of T) left
    longer : length left < length (way T a b)
    nearer : way T (out_bus T c) b ≡ left
    there : has_chan T c ≡ true
    within : (out_bus T c).0 < T.buses

  taken_by : (g : ℕ) (d : Bool) (rest : List Hop) → way T a b ≡ hop g d ∷ rest → c ≡ channel_of T (hop g d) → Taken
  taken_by g d rest w h =
      let s = way_step T ok a b (i, j) g d rest w in
      let o : out_bus T c ≡ to T (hop g d) = ap (out_bus T) h ∙ out_bus_of T g d in
      record {
        left = rest;
        places = rw (w, h);
        longer = rw w (omega arith);
        nearer = ap (λ (x : Bus). way T x b) o ∙ s.nearer;
        there = ap (has_chan T) h ∙ chan_there T g d s.there;
        within = subst⁻¹ (λ (x : Bus). x.0 < T.buses) o s.within;
      }

  taken : Taken
  taken = let r = some T c (way T a b) e in taken_by r.0 r.1 r.2 r.3 r.4

  pub place_there : has_chan T c ≡ true
  place_there = taken.there

  pub bus_there : (out_bus T c).0 < T.buses
  bus_there = taken.within

  pub one_nearer : length (way T (out_bus T c) b) < length (way T a b)
  one_nearer = rw taken.nearer taken.longer

  pub crossed_here : (N : Chan) → same_chan N c ≡ true → true ≡ among N (map (channel_of T) (way T a b))
  unfolding any
  crossed_here N h = rw (taken.places, h)

  pub crossed_on : (N : Chan) → same_chan N c ≡ false → among N (map (channel_of T) (way T (out_bus T c) b)) ≡ among N (map (channel_of T) (way T a b))
  unfolding any
  crossed_on N h = rw (taken.nearer, taken.places, h)
