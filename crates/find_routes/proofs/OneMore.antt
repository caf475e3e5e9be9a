-- The first channels over the first k bridges, and over one bridge more: bridge k, crossed both ways, is all that is new.
use Prim.Native.Nat.{ℕ, suc, ◌<◌}
use mathlib.Core.Path.{◌≡◌, refl, ap, sym, subst, ◌∙◌}
use mathlib.Core.Bool.{Bool, true, false, cond, ◌&&◌}
use mathlib.Core.List.{[], ◌∷◌, ◌++◌}
use native.Mathlib.Omega.{arith}
use borrow.Author.Tests.{eqb-true, eqb-false}
use lib.Dec.{eqb}
use Rattle.base.proofs.Logic.{split}
use Rattle.chassis.specs.declared.Bus.{Bus}
use Rattle.chassis.specs.declared.Table.{Table}
use Rattle.chassis.specs.Numbers.{bus, same_bus}
use Rattle.chassis.specs.Channels.{first_bus, second_bus}
use Rattle.chassis.specs.Ways.{hop, from, to, Onward}
use Rattle.chassis.specs.Routes.{relabel, component, one_way, way_over, channel_of, first_place}
use Rattle.chassis.proofs.Buses.{bus_path, same_yes, same_no, yes_same, no_same}
use Rattle.chassis.proofs.Components.{Joined, within, across, joined, stays, lift, onward}
use Rattle.chassis.proofs.Trees.{way_right, only_way}
use Rattle.find_routes.specs.Hops.{place_number}
use Rattle.find_routes.specs.Crossings.{hop_over}
use Rattle.find_routes.proofs.Nearest.{place_here, place_before, over}

-- where there is one way only, no bridge joins two buses that are joined already
pub ends_apart : (T : Table) → one_way T ≡ true → (k : ℕ) → k < T.bridges → component T k (first_bus T k) ≡ component T k (second_bus T k) → ⊥
ends_apart T one k h e =
    let a = first_bus T k in
    let b = second_bus T k in
    let w = way_over T k a b in
    let r = way_right T k a b e in
    let q : w ≡ hop k true ∷ [] = only_way T one a b w (hop k true ∷ []) (lift T k T.bridges a b w (omega arith) r) (h, refl, tt, refl) in
    subst (Onward k) q (onward T k a b w r) refl

module _ (T : Table) (k : ℕ) where
  -- bridge k crossed one way, by components
  abbrev pub over_bridge : Bool → (ℕ → ℕ → ℕ) → ℕ → ℕ → ℕ
  over_bridge d f a b =
      cond
      (same_bus (component T k (bus a)) (component T k (from T (hop k d)))
      && same_bus (component T k (bus b)) (component T k (to T (hop k d))))
      (cond (eqb a (from T (hop k d)).0) (channel_of T (hop k d)).0 (f a (from T (hop k d)).0))
      (f a b)

  module _ (d : Bool) (f : ℕ → ℕ → ℕ) (a b : ℕ) where
    abbrev near? : Bool
    near? = same_bus (component T k (bus a)) (component T k (from T (hop k d)))

    abbrev far? : Bool
    far? = same_bus (component T k (bus b)) (component T k (to T (hop k d)))

    crosses : near? ≡ true → far? ≡ true → over_bridge d f a b ≡ cond (eqb a (from T (hop k d)).0) (channel_of T (hop k d)).0 (f a (from T (hop k d)).0)
    crosses t u = rw (t, u)

    not_near : near? ≡ false → over_bridge d f a b ≡ f a b
    not_near n = rw n

    not_far : far? ≡ false → over_bridge d f a b ≡ f a b
    not_far n = split near? (λ t. rw (t, n)) (λ u. rw u)

  -- a is on the near side of bridge k and b on its far side
  abbrev Over : Bool → Bus → Bus → Type 0
  Over d a b = (component T k a ≡ component T k (from T (hop k d))) × (component T k (to T (hop k d)) ≡ component T k b)

  kept : (a b : Bus) → component T k a ≡ component T k b → component T (suc k) a ≡ component T (suc k) b
  unfolding component
  kept a b e = ap (relabel (component T k (first_bus T k)) (component T k (second_bus T k))) e

  met : (d : Bool) (a b : Bus) → Over d a b → component T (suc k) a ≡ component T (suc k) b
  met d a b o =
      let n = from T (hop k d) in
      let f = to T (hop k d) in
      kept a n o.0 ∙ stays T (suc k) n f (hop k d ∷ []) (omega arith, refl, tt, refl) ∙ kept f b o.1

  -- what bridge k does not join stays as it is
  module _ (a b : Bus) (n : (d : Bool) → Over d a b → ⊥) where
    not_across : (component T k a ≡ component T k b → ⊥) → Joined T k a b → ⊥
    not_across u (within e) = u e
    not_across u (across d p q) = n d (p, q)

    hop_stays : hop_over T k a.0 b.0 ≡ hop_over T (suc k) a.0 b.0
    unfolding way_over
    hop_stays =
        split (same_bus (component T k a) (component T k b))
        (λ t. rw (t, yes_same (component T (suc k) a) (component T (suc k) b) (kept a b (same_yes (component T k a) (component T k b) t))))
        (λ f.
        let u = same_no (component T k a) (component T k b) f in
        rw (f, no_same (component T (suc k) a) (component T (suc k) b) (λ e. not_across u (joined T k a b e))))

  module _ (apart : component T k (first_bus T k) ≡ component T k (second_bus T k) → ⊥) where
    sides : (d : Bool) → component T k (from T (hop k d)) ≡ component T k (to T (hop k d)) → ⊥
    sides true e = apart e
    sides false e = apart (sym e)

    side : (d : Bool) (a : Bus) → component T k a ≡ component T k (from T (hop k d)) → d ≡ same_bus (component T k a) (component T k (first_bus T k))
    side true a p = sym (yes_same (component T k a) (component T k (first_bus T k)) p)
    side false a p = sym (no_same (component T k a) (component T k (first_bus T k)) (λ q. apart (sym q ∙ p)))

    -- over bridge k: by the first channel to its near end, or by its own
    module _ (d : Bool) (a b : Bus) (o : Over d a b) where
      first_over : cond (eqb a.0 (from T (hop k d)).0) (channel_of T (hop k d)).0 (place_number (first_place T (way_over T k a (from T (hop k d))))) ≡ place_number (first_place T (way_over T (suc k) a b))
      first_over =
          let c = from T (hop k d) in
          let rest = way_over T k (to T (hop k d)) b in
          let u = no_same (component T k a) (component T k b) (λ e. sides d (sym o.0 ∙ e ∙ sym o.1)) in
          let w : way_over T (suc k) a b ≡ way_over T k a c ++ (hop k d ∷ rest) = over T k a b u d (side d a o.0) in
          split (eqb a.0 c.0)
          (λ t. rw t (ap place_number (place_here T k a c (hop k d) rest (bus_path (eqb-true a.0 c.0 t)) ∙ ap (first_place T) (sym w))))
          (λ f. rw f (ap place_number (place_before T k a c (hop k d) rest o.0 (λ q. eqb-false a.0 c.0 f (ap (λ (x : Bus). x.0) q)) ∙ ap (first_place T) (sym w))))

      hop_crosses : cond (eqb a.0 (from T (hop k d)).0) (channel_of T (hop k d)).0 (hop_over T k a.0 (from T (hop k d)).0) ≡ hop_over T (suc k) a.0 b.0
      hop_crosses =
          let s = yes_same (component T k a) (component T k (from T (hop k d))) o.0 in
          let t = yes_same (component T (suc k) a) (component T (suc k) b) (met d a b o) in
          rw (s, t) first_over

    module _ (a b : ℕ) where
      abbrev A : Bus
      A = component T k (bus a)

      abbrev B : Bus
      B = component T k (bus b)

      abbrev P : Bus
      P = component T k (first_bus T k)

      abbrev Q : Bus
      Q = component T k (second_bus T k)

      stays_so : ((d : Bool) → Over d (bus a) (bus b) → ⊥) → hop_over T k a b ≡ hop_over T (suc k) a b
      stays_so n = hop_stays (bus a) (bus b) n

      -- a is not on the first end's side: the way forth changes nothing in its row
      forth_not : same_bus A P ≡ false → (x : ℕ) → over_bridge true (hop_over T k) a x ≡ hop_over T k a x
      forth_not f x = not_near true (hop_over T k) a x f

      on_first : same_bus A P ≡ true → over_bridge false (over_bridge true (hop_over T k)) a b ≡ hop_over T (suc k) a b
      on_first t =
          let p = same_yes A P t in
          not_near false (over_bridge true (hop_over T k)) a b (no_same A Q (λ q. apart (sym p ∙ q)))
          ∙ split (same_bus B Q)
          (λ u. crosses true (hop_over T k) a b t u ∙ hop_crosses true (bus a) (bus b) (p, sym (same_yes B Q u)))
          (λ u. not_far true (hop_over T k) a b u ∙ stays_so (not u))
        where
          not : same_bus B Q ≡ false → (d : Bool) → Over d (bus a) (bus b) → ⊥
          not u true o = same_no B Q u (sym o.1)
          not u false o = apart (sym (same_yes A P t) ∙ o.0)

      on_second : same_bus A P ≡ false → same_bus A Q ≡ true → over_bridge false (over_bridge true (hop_over T k)) a b ≡ hop_over T (suc k) a b
      on_second f t =
          split (same_bus B P)
          (λ u.
          crosses false (over_bridge true (hop_over T k)) a b t u
          ∙ ap (cond (eqb a (second_bus T k).0) (channel_of T (hop k false)).0) (forth_not f (second_bus T k).0)
          ∙ hop_crosses false (bus a) (bus b) (same_yes A Q t, sym (same_yes B P u)))
          (λ u. not_far false (over_bridge true (hop_over T k)) a b u ∙ forth_not f b ∙ stays_so (not u))
        where
          not : same_bus B P ≡ false → (d : Bool) → Over d (bus a) (bus b) → ⊥
          not u true o = same_no A P f o.0
          not u false o = same_no B P u (sym o.1)

      on_neither : same_bus A P ≡ false → same_bus A Q ≡ false → over_bridge false (over_bridge true (hop_over T k)) a b ≡ hop_over T (suc k) a b
      on_neither f g = not_near false (over_bridge true (hop_over T k)) a b g ∙ forth_not f b ∙ stays_so not
        where
          not : (d : Bool) → Over d (bus a) (bus b) → ⊥
          not true o = same_no A P f o.0
          not false o = same_no A Q g o.0

      pub both_ways : over_bridge false (over_bridge true (hop_over T k)) a b ≡ hop_over T (suc k) a b
      both_ways = split (same_bus A P) on_first (λ f. split (same_bus A Q) (on_second f) (on_neither f))
