-- The first place of a way, found bridge by bridge from the last: where bridge k is crossed, the first place is that of
-- the way to its near end, or bridge k itself where that end is here.
use Prim.Native.Nat.{ℕ, zero, suc, ◌-◌, ◌<◌, ◌≤◌}
use mathlib.Core.Path.{◌≡◌, refl, ap, sym, subst, ◌∙◌}
use mathlib.Core.Bool.{Bool, true, false, cond}
use mathlib.Core.List.{List, [], ◌∷◌, ◌++◌}
use native.Mathlib.Omega.{arith}
use Rattle.chassis.specs.declared.Bus.{Bus}
use Rattle.chassis.specs.declared.Table.{Table}
use Rattle.chassis.specs.declared.NextPlace.{NextPlace}
use Rattle.chassis.specs.declared.NextPlace.TheVariants.{Target, Through}
use Rattle.chassis.specs.Capacities.{most_agents}
use Rattle.chassis.specs.Numbers.{same_bus}
use Rattle.chassis.specs.Channels.{first_bus, second_bus}
use Rattle.chassis.specs.Ways.{Hop, hop, from, to, Way}
use Rattle.chassis.specs.Routes.{component, way_over, channel_of, first_place}
use Rattle.check_tables.specs.Ladders.{InRange, ladder_of, share_label, Reachable}
use Rattle.chassis.proofs.Counts.{counts}
use Rattle.chassis.proofs.Buses.{same_yes, same_no, yes_same}
use Rattle.chassis.proofs.Components.{Joined, within, across, joined}
use Rattle.chassis.proofs.Trees.{way_right}
use Rattle.check_tables.proofs.Levels.{first_low, second_low, shares}

module _ (T : Table) where
  pub near_is : (g : ℕ) (d : Bool) → cond d (first_bus T g) (second_bus T g) ≡ from T (hop g d)
  near_is g true = refl
  near_is g false = refl

  pub way_none : (k : ℕ) (a : Bus) → way_over T k a a ≡ []
  unfolding way_over
  way_none zero a = refl
  way_none (suc k) a = rw (yes_same (component T k a) (component T k a) refl) (way_none k a)

  -- ---- the first place of a way that begins with another

  before : (us vs : List Hop) → (us ≡ [] → ⊥) → first_place T us ≡ first_place T (us ++ vs)
  before [] vs n = absurd (n refl)
  before (u ∷ us) vs n = refl

  module _ (k : ℕ) (a c : Bus) (h : Hop) (hops : List Hop) where
    pub place_here : a ≡ c → Through (channel_of T h) ≡ first_place T (way_over T k a c ++ (h ∷ hops))
    place_here p =
        subst (λ (x : Bus). Through (channel_of T h) ≡ first_place T (way_over T k a x ++ (h ∷ hops))) p (rw (way_none k a))

    pub place_before : component T k a ≡ component T k c → (a ≡ c → ⊥) → first_place T (way_over T k a c) ≡ first_place T (way_over T k a c ++ (h ∷ hops))
    place_before e n =
        before (way_over T k a c) (h ∷ hops) (λ p. n (subst (Way T k a c) p (way_right T k a c e)))

  -- ---- over bridge k, from the end that is joined to a

  module _ (k : ℕ) (a b : Bus) (apart : same_bus (component T k a) (component T k b) ≡ false) where
    pub over : (d : Bool) → d ≡ same_bus (component T k a) (component T k (first_bus T k)) → way_over T (suc k) a b ≡ way_over T k a (from T (hop k d)) ++ (hop k d ∷ way_over T k (to T (hop k d)) b)
    unfolding way_over
    over true s = rw (apart, sym s)
    over false s = rw (apart, sym s)

    near : (d : Bool) → d ≡ same_bus (component T k a) (component T k (first_bus T k)) → component T (suc k) a ≡ component T (suc k) b → component T k a ≡ component T k (from T (hop k d))
    near true s e = same_yes (component T k a) (component T k (first_bus T k)) (sym s)
    near false s e = go (joined T k a b e)
      where
        go : Joined T k a b → component T k a ≡ component T k (second_bus T k)
        go (within p) = absurd (same_no (component T k a) (component T k b) apart p)
        go (across true p q) = absurd (same_no (component T k a) (component T k (first_bus T k)) (sym s) p)
        go (across false p q) = p

-- ---- as the code has it: k bridges are left, by labels

-- the first place towards b over the bridges left is the one asked for
pub record Toward (T : Table) (a : Bus) (asked : NextPlace) (k : ℕ) (b : Bus) : Type 0 where
  pub reach : Reachable T k a b
  pub place : first_place T (way_over T k a b) ≡ asked

-- how much there may be, as the calls ask for it
pub few_bridges : (T : Table) → InRange T → T.bridges ≤ 15
few_bridges T ok = omega (arith, counts T ok.counts)

pub few_agents : (T : Table) → InRange T → T.agents ≤ most_agents
few_agents T ok = omega (arith, counts T ok.counts)

module _ (T : Table) (ok : InRange T) (l : List ℕ) (e : l ≡ ladder_of T) {a : Bus} {asked : NextPlace} where
  pub none_left : {k : ℕ} {b : Bus} → k ≤ 0 → Toward T a asked k b → Target ≡ asked
  unfolding way_over
  none_left {k} {b} h w = let z : k ≡ 0 = omega arith in subst (λ (m : ℕ). first_place T (way_over T m a b) ≡ asked) z w.place

  module _ {k : ℕ} {b : Bus} (w : Toward T a asked k b) (n : 0 < k) where
    one_more : k ≡ suc (k - 1)
    one_more = omega arith

    bridge : k - 1 < T.bridges
    bridge = omega (arith, w.reach.few)

    way_over_last : way_over T k a b ≡ way_over T (suc (k - 1)) a b
    way_over_last = ap (λ (m : ℕ). way_over T m a b) one_more

    said : (c : Bus) → c.0 < 16 → share_label l (k - 1) a c ≡ same_bus (component T (k - 1) a) (component T (k - 1) c)
    said c h = shares T ok l (k - 1) a c e (omega (arith, bridge)) w.reach.start h

    -- the two are joined without the last bridge
    pub go_below : share_label l (k - 1) a b ≡ true → Toward T a asked (k - 1) b
    unfolding way_over
    go_below s =
        let t : same_bus (component T (k - 1) a) (component T (k - 1) b) ≡ true = sym (said b w.reach.goal) ∙ s in
        let q : way_over T (suc (k - 1)) a b ≡ way_over T (k - 1) a b = rw t in record {
          reach = record {
            few = omega (arith, bridge);
            start = w.reach.start;
            goal = w.reach.goal;
            joined = same_yes (component T (k - 1) a) (component T (k - 1) b) t;
          };
          place = ap (first_place T) (sym (way_over_last ∙ q)) ∙ w.place;
        }

    -- the last bridge parts them
    module _ (s : share_label l (k - 1) a b ≡ false) (d : Bool) (f : d ≡ share_label l (k - 1) a (first_bus T (k - 1))) where
      apart : same_bus (component T (k - 1) a) (component T (k - 1) b) ≡ false
      apart = sym (said b w.reach.goal) ∙ s

      side : d ≡ same_bus (component T (k - 1) a) (component T (k - 1) (first_bus T (k - 1)))
      side = f ∙ said (first_bus T (k - 1)) (first_low T ok (k - 1) bridge)

      near_low : (d : Bool) → (from T (hop (k - 1) d)).0 < 16
      near_low true = first_low T ok (k - 1) bridge
      near_low false = second_low T ok (k - 1) bridge

      near_reach : Reachable T (k - 1) a (from T (hop (k - 1) d))
      near_reach = record {
        few = omega (arith, bridge);
        start = w.reach.start;
        goal = near_low d;
        joined = near T (k - 1) a b apart d side (subst (λ (m : ℕ). component T m a ≡ component T m b) one_more w.reach.joined);
      }

      over_last : first_place T (way_over T (k - 1) a (from T (hop (k - 1) d)) ++ (hop (k - 1) d ∷ way_over T (k - 1) (to T (hop (k - 1) d)) b)) ≡ asked
      over_last = ap (first_place T) (sym (way_over_last ∙ over T (k - 1) a b apart d side)) ∙ w.place

      -- by the near end x, as the code has it
      module _ (x : Bus) (g : x ≡ cond d (first_bus T (k - 1)) (second_bus T (k - 1))) where
        is_near : x ≡ from T (hop (k - 1) d)
        is_near = g ∙ near_is T (k - 1) d

        pub go_through : same_bus a x ≡ true → Through (channel_of T (hop (k - 1) d)) ≡ asked
        go_through p =
            place_here T (k - 1) a (from T (hop (k - 1) d)) (hop (k - 1) d) (way_over T (k - 1) (to T (hop (k - 1) d)) b) (same_yes a x p ∙ is_near) ∙ over_last

        pub go_near : same_bus a x ≡ false → Toward T a asked (k - 1) x
        go_near p = rw is_near record {
          reach = near_reach;
          place = place_before T (k - 1) a (from T (hop (k - 1) d)) (hop (k - 1) d) (way_over T (k - 1) (to T (hop (k - 1) d)) b) near_reach.joined (λ q. same_no a x p (q ∙ sym is_near)) ∙ over_last;
        }
