-- The test for ground 27 says what document 01 says: `one_way` holds exactly where there is exactly one way between any
-- two buses, of any length; and `way` is that way.
use Prim.Native.Nat.{ℕ, zero, suc, ◌+◌, ◌<◌, ◌≤◌}
use mathlib.Core.Path.{◌≡◌, refl, sym, subst, ◌∙◌}
use mathlib.Core.Bool.{Bool, true, false}
use mathlib.Core.Logic.{◌⊎◌, inl, inr, ⊎_elim, ◌↔◌}
use mathlib.Core.List.{List, [], ◌∷◌}
use native.Mathlib.Omega.{arith}
use Rattle.base.specs.Lists.{all, from_to}
use Rattle.base.proofs.Logic.{split, true_false, and_true, true_and, equal?}
use Rattle.chassis.specs.declared.Bus.{Bus}
use Rattle.chassis.specs.declared.Table.{Table}
use Rattle.chassis.specs.Numbers.{bus, same_bus}
use Rattle.chassis.specs.Channels.{first_bus, second_bus}
use Rattle.chassis.specs.Ways.{Hop, hop, Onward, Way, OneWay, ExactlyOneWay}
use Rattle.chassis.specs.Routes.{component, closes_a_loop, loop_free, all_joined, one_way, way_over, way}
use Rattle.chassis.proofs.Buses.{same_yes, yes_same, no_same, same?}
use Rattle.chassis.proofs.Components.{Joined, within, across, joined, stays, lift, join, onward}
use Rattle.chassis.proofs.Unique.{unique_in}

-- ---- `way` is a way

module _ (T : Table) where
  abbrev Right : ℕ → Type 0
  Right k = (a b : Bus) → component T k a ≡ component T k b → Way T k a b (way_over T k a b)

  right_more : (k : ℕ) → Right k → (a b : Bus) → Joined T k a b → Way T (suc k) a b (way_over T (suc k) a b)
  unfolding way_over
  right_more k ih a b (within h) =
      rw (yes_same (component T k a) (component T k b) h) (lift T k (suc k) a b (way_over T k a b) (omega arith) (ih a b h))
  right_more k ih a b (across true h i) =
      ⊎_elim
      (λ s. rw (yes_same (component T k a) (component T k b) s) (lift T k (suc k) a b (way_over T k a b) (omega arith) (ih a b s)))
      (λ n. rw (no_same (component T k a) (component T k b) n, yes_same (component T k a) (component T k (first_bus T k)) h)
      (join T k a b true (way_over T k a (first_bus T k)) (way_over T k (second_bus T k) b) (ih a (first_bus T k) h) (ih (second_bus T k) b i)))
      (same? (component T k a) (component T k b))
  right_more k ih a b (across false h i) =
      ⊎_elim
      (λ s. rw (yes_same (component T k a) (component T k b) s) (lift T k (suc k) a b (way_over T k a b) (omega arith) (ih a b s)))
      (λ n. rw (no_same (component T k a) (component T k b) n, no_same (component T k a) (component T k (first_bus T k)) (λ q. n (q ∙ i)))
      (join T k a b false (way_over T k a (second_bus T k)) (way_over T k (first_bus T k) b) (ih a (second_bus T k) h) (ih (first_bus T k) b i)))
      (same? (component T k a) (component T k b))

  pub way_right : (k : ℕ) → Right k
  unfolding component way_over
  way_right zero a b e = e
  way_right (suc k) a b e = right_more k (way_right k) a b (joined T k a b e)

-- ---- all buses below n

first_or_later : (i a : ℕ) → i ≤ a → (i ≡ a) ⊎ (suc i ≤ a)
first_or_later i a l = ⊎_elim (λ e. inl e) (λ n. inr (omega arith)) (equal? i a)

pub all_below : (p : ℕ → Bool) (i n : ℕ) → all p (from_to i n) ≡ true → (a : ℕ) → i ≤ a → a < i + n → p a ≡ true
unfolding all from_to
all_below p i zero h a l k = absurd (omega arith)
all_below p i (suc n) h a l k =
    let r = and_true (p i) (all p (from_to (suc i) n)) h in
    ⊎_elim (λ e. subst (λ (j : ℕ). p j ≡ true) e r.0) (λ m. all_below p (suc i) n r.1 a m (omega arith)) (first_or_later i a l)

pub below_all : (p : ℕ → Bool) (i n : ℕ) → ((a : ℕ) → i ≤ a → a < i + n → p a ≡ true) → all p (from_to i n) ≡ true
unfolding all from_to
below_all p i zero h = refl
below_all p i (suc n) h =
    true_and (p i) (all p (from_to (suc i) n)) (h i (omega arith) (omega arith)) (below_all p (suc i) n (λ a l k. h a (omega arith) (omega arith)))

-- ---- the test is right

module _ (T : Table) where
  -- the bridges' buses are there
  abbrev pub Ends : Type 0
  Ends = (g : ℕ) → g < T.bridges → ((first_bus T g).0 < T.buses) × ((second_bus T g).0 < T.buses)

  -- all in one component
  to_zero : all_joined T ≡ true → (a : Bus) → a.0 < T.buses → component T T.bridges a ≡ component T T.bridges (bus 0)
  unfolding all_joined
  to_zero h a l =
      let c = component T T.bridges in
      same_yes (c a) (c (bus 0))
      (all_below (λ n. same_bus (c (bus n)) (c (bus 0))) 0 T.buses h a.0 (omega arith) (omega arith))

  pub joined_in : one_way T ≡ true → (a b : Bus) → a.0 < T.buses → b.0 < T.buses → component T T.bridges a ≡ component T T.bridges b
  unfolding one_way
  joined_in h a b l m =
      let r = and_true (loop_free T T.bridges) (all_joined T) h in
      to_zero r.1 a l ∙ sym (to_zero r.1 b m)

  -- the way is a way, and the only one
  pub the_way : one_way T ≡ true → (a b : Bus) → a.0 < T.buses → b.0 < T.buses → Way T T.bridges a b (way T a b)
  the_way h a b l m = way_right T T.bridges a b (joined_in h a b l m)

  pub only_way : one_way T ≡ true → (a b : Bus) (us vs : List Hop) → Way T T.bridges a b us → Way T T.bridges a b vs → us ≡ vs
  unfolding one_way
  only_way h = unique_in T T.bridges (and_true (loop_free T T.bridges) (all_joined T) h).0

  pub one_way_is_one : one_way T ≡ true → ExactlyOneWay T
  one_way_is_one h a b l m = record {
    hops = way T a b;
    leads = the_way h a b l m;
    only = λ others w. only_way h a b others (way T a b) w (the_way h a b l m);
  }

  -- a bridge between buses that are joined already makes a second way
  second : (k : ℕ) → k < T.bridges → component T k (first_bus T k) ≡ component T k (second_bus T k) → OneWay T T.bridges (first_bus T k) (second_bus T k) → ⊥
  second k h e o =
      let w = way_over T k (first_bus T k) (second_bus T k) in
      let r = way_right T k (first_bus T k) (second_bus T k) e in
      let q : w ≡ hop k true ∷ [] = o.only w (lift T k T.bridges (first_bus T k) (second_bus T k) w (omega arith) r) ∙ sym (o.only (hop k true ∷ []) (h, refl, tt, refl)) in
      subst (Onward k) q (onward T k (first_bus T k) (second_bus T k) w r) refl

  closed : (m : ℕ) → loop_free T m ≡ false → (k : ℕ) × (k < m) × (component T k (first_bus T k) ≡ component T k (second_bus T k))
  unfolding loop_free
  closed zero f = absurd (true_false f)
  closed (suc m) f =
      split (closes_a_loop T m)
      (λ e. (m, omega arith, same_yes (component T m (first_bus T m)) (component T m (second_bus T m)) e))
      (λ e. let r = closed m (rw e at f) in (r.0, omega (arith, r.1), r.2))

  one_is_loop_free : Ends → ExactlyOneWay T → loop_free T T.bridges ≡ true
  one_is_loop_free ends o =
      split (loop_free T T.bridges) (λ e. e)
      (λ e.
      let r = closed T.bridges e in
      let i = ends r.0 r.1 in
      absurd (second r.0 r.1 r.2 (o (first_bus T r.0) (second_bus T r.0) i.0 i.1)))

  one_is_joined : ExactlyOneWay T → all_joined T ≡ true
  unfolding all_joined
  one_is_joined o =
      let c = component T T.bridges in
      below_all (λ n. same_bus (c (bus n)) (c (bus 0))) 0 T.buses
      (λ a l k.
      let r = o (bus a) (bus 0) (omega arith) (omega arith) in
      yes_same (c (bus a)) (c (bus 0)) (stays T T.bridges (bus a) (bus 0) r.hops r.leads))

  pub one_is_one_way : Ends → ExactlyOneWay T → one_way T ≡ true
  unfolding one_way
  one_is_one_way ends o = true_and (loop_free T T.bridges) (all_joined T) (one_is_loop_free ends o) (one_is_joined o)

  -- both ways
  pub one_way_is_exactly_one_way : Ends → (one_way T ≡ true) ↔ ExactlyOneWay T
  one_way_is_exactly_one_way ends = (one_way_is_one, one_is_one_way ends)
