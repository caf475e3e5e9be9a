-- The hop table, known by its places; and what is looked up in it between two buses that are there and differ: the first
-- place of the way from the one to the other.
use Prim.Native.Nat.{ℕ, ◌+◌, ◌*◌, ◌/◌, ◌%◌, ◌<◌}
use mathlib.Core.Path.{◌≡◌, refl, ap, sym, subst, ◌∙◌}
use mathlib.Core.Bool.{true, false}
use mathlib.Core.List.{List, [], ◌∷◌}
use native.Mathlib.Omega.{arith}
use borrow.Author.Tests.{lt-ltb}
use lib.ListN.{get_or}
use Rattle.base.proofs.Made.{made_at}
use Rattle.chassis.specs.declared.Bus.{Bus}
use Rattle.chassis.specs.declared.Chan.{Chan}
use Rattle.chassis.specs.declared.Table.{Table}
use Rattle.chassis.specs.declared.NextPlace.{NextPlace}
use Rattle.chassis.specs.declared.NextPlace.TheVariants.{Target, Through}
use Rattle.chassis.specs.Numbers.{bus, chan, same_bus}
use Rattle.chassis.specs.Ways.{Hop, Way}
use Rattle.chassis.specs.Routes.{way, first_place}
use Rattle.chassis.specs.Tables.{table_passes}
use Rattle.chassis.proofs.Buses.{same_yes, same_no}
use Rattle.chassis.proofs.Trees.{way_right}
use Rattle.find_routes.specs.Hops.{place_number, hop_at, hops_of}
use Rattle.find_routes.proofs.Places.{here, reached}

module _ (T : Table) where
  pub both_there : (i : ℕ) → i / 16 < T.buses → i % 16 < T.buses → (p q : NextPlace) → p ≡ q → p ≡ first_place T (way T (bus (i / 16)) (bus (i % 16))) → place_number q ≡ hop_at T i
  both_there i h k p q s e = rw (lt-ltb (i / 16) T.buses h, lt-ltb (i % 16) T.buses k) (ap place_number (sym s ∙ e))

  -- there is no bridge to cross to the bus where one is
  pub at_once : (a b : Bus) → same_bus a b ≡ true → Target ≡ first_place T (way T a b)
  at_once a b e = rw (here T a b (same_yes a b e))

  -- a way that goes somewhere is known by the number of its first channel
  numbered : (hops : List Hop) → (hops ≡ [] → ⊥) → Through (chan (place_number (first_place T hops))) ≡ first_place T hops
  numbered [] n = absurd (n refl)
  numbered (h ∷ hops) n = refl

module _ (T : Table) (ok : table_passes T ≡ true) (a b : Bus) (h : a.0 < T.buses) (k : b.0 < T.buses) where
  looked_up : get_or (hops_of T) (16 * a.0 + b.0) 0 ≡ place_number (first_place T (way T a b))
  unfolding hops_of
  looked_up =
      let i = 16 * a.0 + b.0 in
      let r = reached T ok a b h k in
      let s = r.start in
      let g = r.goal in
      let p : i / 16 ≡ a.0 = omega arith in
      let q : i % 16 ≡ b.0 = omega arith in
      made_at (hop_at T) 256 i 0 (omega arith)
      ∙ sym (both_there T i (omega arith) (omega arith) _ _ refl refl)
      ∙ ap (λ (n : ℕ). place_number (first_place T (way T (bus n) (bus (i % 16))))) p
      ∙ ap (λ (n : ℕ). place_number (first_place T (way T a (bus n)))) q

  pub led : same_bus a b ≡ false → (l : List ℕ) → l ≡ hops_of T → (c : Chan) → c ≡ chan (get_or l (16 * a.0 + b.0) 0) → Through c ≡ first_place T (way T a b)
  led n l e c d =
      ap Through d
      ∙ ap (λ (m : List ℕ). Through (chan (get_or m (16 * a.0 + b.0) 0))) e
      ∙ ap (λ (m : ℕ). Through (chan m)) looked_up
      ∙ numbered T (way T a b) (λ p. same_no a b n (subst (Way T T.bridges a b) p (way_right T T.bridges a b (reached T ok a b h k).joined)))
