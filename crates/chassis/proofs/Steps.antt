-- On a table that passes, the way from a to b taken one bridge on is the way from there: each step is one bridge nearer.
use Prim.Native.Nat.{ℕ, ◌<◌}
use mathlib.Core.Path.{◌≡◌, refl, subst}
use mathlib.Core.Bool.{Bool, true, false}
use mathlib.Core.List.{List, [], ◌∷◌}
use Rattle.chassis.specs.declared.Bus.{Bus}
use Rattle.chassis.specs.declared.Table.{Table}
use Rattle.chassis.specs.Ways.{Hop, hop, from, to, Onward, Way}
use Rattle.chassis.specs.Routes.{way}
use Rattle.chassis.specs.Tables.{table_passes}
use Rattle.chassis.proofs.Trees.{Ends, the_way, only_way}
use Rattle.chassis.proofs.Passing.{passed, ends}

pub to_there : (T : Table) → Ends T → (g : ℕ) (d : Bool) → g < T.bridges → (to T (hop g d)).0 < T.buses
to_there T e g true h = (e g h).1
to_there T e g false h = (e g h).0

pub from_there : (T : Table) → Ends T → (g : ℕ) (d : Bool) → g < T.bridges → (from T (hop g d)).0 < T.buses
from_there T e g true h = (e g h).0
from_there T e g false h = (e g h).1

module _ (T : Table) (ok : table_passes T ≡ true) where
  abbrev pub Buses : Bus → Bus → Type 0
  Buses a b = (a.0 < T.buses) × (b.0 < T.buses)

  pub ends_of : Ends T
  ends_of = ends T (passed T ok).counts (passed T ok).buses

  -- the way taken apart
  pub record Step (a b : Bus) (g : ℕ) (d : Bool) (hops : List Hop) : Type 0 where
    pub there : g < T.bridges
    pub starts : from T (hop g d) ≡ a
    pub onward : Onward g hops
    pub within : (to T (hop g d)).0 < T.buses
    pub nearer : way T (to T (hop g d)) b ≡ hops

  pub way_step : (a b : Bus) → Buses a b → (g : ℕ) (d : Bool) (hops : List Hop) → way T a b ≡ hop g d ∷ hops → Step a b g d hops
  way_step a b i g d hops p =
      let o = (passed T ok).ways in
      let w : Way T T.bridges a b (hop g d ∷ hops) = subst (Way T T.bridges a b) p (the_way T o a b i.0 i.1) in
      let t = to_there T ends_of g d w.0 in
      record {
        there = w.0;
        starts = w.1;
        onward = w.2;
        within = t;
        nearer = only_way T o (to T (hop g d)) b (way T (to T (hop g d)) b) hops (the_way T o (to T (hop g d)) b t i.1) w.3;
      }

  -- no bridge is left exactly where the bus is reached
  pub way_ends : (a b : Bus) → Buses a b → way T a b ≡ [] → a ≡ b
  way_ends a b i p = subst (Way T T.bridges a b) p (the_way T (passed T ok).ways a b i.0 i.1)

  pub way_here : (a : Bus) → a.0 < T.buses → way T a a ≡ []
  way_here a h = only_way T (passed T ok).ways a a (way T a a) [] (the_way T (passed T ok).ways a a h h) refl

  -- any way is the way
  pub is_the_way : (a b : Bus) → Buses a b → (hops : List Hop) → Way T T.bridges a b hops → hops ≡ way T a b
  is_the_way a b i hops w = only_way T (passed T ok).ways a b hops (way T a b) w (the_way T (passed T ok).ways a b i.0 i.1)
