-- The hop table over the first k bridges, with the labels beside it: as it begins, over one bridge more, and at the end.
use Prim.Native.Nat.{ℕ, zero, suc, ◌+◌, ◌/◌, ◌%◌, ◌<◌, ◌≤◌}
use mathlib.Core.Path.{◌≡◌, refl, ap, sym, ◌∙◌}
use mathlib.Core.Bool.{Bool, true, false, cond}
use mathlib.Core.List.{List, [], ◌∷◌}
use native.Mathlib.Numerals.{add-one}
use native.Mathlib.Omega.{arith}
use borrow.Author.Tests.{ltb-true, ltb-false}
use lib.ListN.{length, get_or, replicate, length-replicate, get_or-replicate}
use lib.Dec.{ltb}
use Rattle.base.specs.Lists.{from_to}
use Rattle.base.proofs.Logic.{split}
use Rattle.base.proofs.Made.{made}
use Rattle.chassis.specs.declared.Bus.{Bus}
use Rattle.chassis.specs.declared.Table.{Table}
use Rattle.chassis.specs.Numbers.{bus, same_bus}
use Rattle.chassis.specs.Channels.{first_bus, second_bus}
use Rattle.chassis.specs.Ways.{Hop, hop, from, to}
use Rattle.chassis.specs.Routes.{component, way_over, channel_of, first_place}
use Rattle.chassis.specs.Tables.{table_passes}
use Rattle.chassis.proofs.Buses.{same_yes, no_same, yes_same}
use Rattle.chassis.proofs.Numbering.{few}
use Rattle.chassis.proofs.Passing.{passed}
use Rattle.chassis.proofs.Steps.{ends_of}
use Rattle.chassis.proofs.Trees.{joined_in}
use Rattle.find_routes.specs.Hops.{place_number, hop_at, hops_of}
use Rattle.find_routes.specs.Crossings.{at, tabled, crossed, labelled, relabelled, label_over, hop_over}
use Rattle.find_routes.proofs.Places.{here}
use Rattle.find_routes.proofs.Filled.{is_labelled, labelled_size, labelled_at, is_tabled, tabled_long, tabled_at, at_tabled, at_place}
use Rattle.find_routes.proofs.OneMore.{ends_apart, over_bridge, both_ways}

-- ---- over no bridge

module _ (T : Table) where
  no_way : (b : Bool) → ◌≡◌ {A = ℕ} 255 (cond b 255 255)
  no_way true = refl
  no_way false = refl

  pub table_begins : replicate 256 255 ≡ tabled (hop_over T 0)
  unfolding way_over
  table_begins =
      is_tabled (hop_over T 0) (replicate 256 255) (length-replicate {A = ℕ} 256 255)
      (λ i h. get_or-replicate {A = ℕ} 256 i 255 0 h ∙ no_way (same_bus (component T 0 (bus (i / 16))) (component T 0 (bus (i % 16)))))

  pub labels_begin : 0 ∷ 1 ∷ 2 ∷ 3 ∷ 4 ∷ 5 ∷ 6 ∷ 7 ∷ 8 ∷ 9 ∷ 10 ∷ 11 ∷ 12 ∷ 13 ∷ 14 ∷ 15 ∷ [] ≡ labelled (label_over T 0)
  unfolding labelled from_to component
  labels_begin = refl

chosen_number : (b : Bool) (p c : Bus) → cond b p.0 c.0 ≡ (cond b p c).0
chosen_number true p c = refl
chosen_number false p c = refl

module _ (T : Table) (ok : table_passes T ≡ true) where
  -- the ends of a bridge are among the 16 buses
  pub near_low : (k : ℕ) → k < T.bridges → (d : Bool) → (from T (hop k d)).0 < 16
  near_low k h true = omega (arith, (ends_of T ok k h).0, few T ok)
  near_low k h false = omega (arith, (ends_of T ok k h).1, few T ok)

  pub first_low : (k : ℕ) → k < T.bridges → (first_bus T k).0 < 16
  first_low k h = near_low k h true

  pub second_low : (k : ℕ) → k < T.bridges → (second_bus T k).0 < 16
  second_low k h = near_low k h false

  pub ruleset ends_low = (first_low, second_low)

  far_low : (k : ℕ) → k < T.bridges → (d : Bool) → (to T (hop k d)).0 < 16
  far_low k h true = near_low k h false
  far_low k h false = near_low k h true

  -- ---- one bridge more

  module _ (k : ℕ) (h : k < T.bridges) (m : List ℕ) (e : m ≡ labelled (label_over T k)) where
    label : (a : Bus) → a.0 < 16 → get_or m a.0 0 ≡ (component T k a).0
    label a i = ap (λ (l : List ℕ). get_or l a.0 0) e ∙ labelled_at (label_over T k) a.0 i

    next_label : (a : Bus) → cond (same_bus (component T k a) (component T k (second_bus T k))) (component T k (first_bus T k)).0 (component T k a).0 ≡ (component T (suc k) a).0
    unfolding component
    next_label a = chosen_number (same_bus (component T k a) (component T k (second_bus T k))) (component T k (first_bus T k)) (component T k a)

    pub labels_next : (r : List ℕ) → r ≡ labelled (relabelled m (get_or m (first_bus T k).0 0) (get_or m (second_bus T k).0 0)) → r ≡ labelled (label_over T (k + 1))
    labels_next r f =
        let p = get_or m (first_bus T k).0 0 in
        let q = get_or m (second_bus T k).0 0 in
        is_labelled (label_over T (suc k)) r (ap length f ∙ labelled_size (relabelled m p q))
        (λ a i.
        ap (λ (l : List ℕ). get_or l a 0) f
        ∙ labelled_at (relabelled m p q) a i
        ∙ rw (label (bus a) i, label (first_bus T k) (near_low k h true), label (second_bus T k) (near_low k h false))
        (next_label (bus a)))
        ∙ ap (λ (j : ℕ). labelled (label_over T j)) (sym (add-one k))

    -- a crossing by labels is one by components
    by_labels : (d : Bool) (f g : ℕ → ℕ → ℕ) (a b : ℕ) → a < 16 → b < 16 → f a (from T (hop k d)).0 ≡ g a (from T (hop k d)).0 → f a b ≡ g a b
        → crossed m (from T (hop k d)) (to T (hop k d)) (channel_of T (hop k d)) f a b ≡ over_bridge T k d g a b
    by_labels d f g a b i j u v =
        rw (label (bus a) i, label (bus b) j, label (from T (hop k d)) (near_low k h d), label (to T (hop k d)) (far_low k h d), u, v)

    crossing : (d : Bool) (l r : List ℕ) (f : ℕ → ℕ → ℕ) → ((a b : ℕ) → a < 16 → b < 16 → at l a b ≡ f a b)
        → r ≡ tabled (crossed m (from T (hop k d)) (to T (hop k d)) (channel_of T (hop k d)) (at l))
        → (a b : ℕ) → a < 16 → b < 16 → at r a b ≡ over_bridge T k d f a b
    crossing d l r f w g a b i j =
        ap (λ (x : List ℕ). at x a b) g
        ∙ at_tabled (crossed m (from T (hop k d)) (to T (hop k d)) (channel_of T (hop k d)) (at l)) a b i j
        ∙ by_labels d (at l) f a b i j (w a (from T (hop k d)).0 i (near_low k h d)) (w a b i j)

    pub table_next : (l r s : List ℕ) → l ≡ tabled (hop_over T k)
        → r ≡ tabled (crossed m (first_bus T k) (second_bus T k) (channel_of T (hop k true)) (at l))
        → s ≡ tabled (crossed m (second_bus T k) (first_bus T k) (channel_of T (hop k false)) (at r))
        → s ≡ tabled (hop_over T (k + 1))
    table_next l r s u f g =
        let now : (a b : ℕ) → a < 16 → b < 16 → at l a b ≡ hop_over T k a b = λ a b i j. ap (λ (x : List ℕ). at x a b) u ∙ at_tabled (hop_over T k) a b i j in
        is_tabled (hop_over T (suc k)) s (tabled_long (crossed m (second_bus T k) (first_bus T k) (channel_of T (hop k false)) (at r)) g)
        (λ i b.
        sym (at_place s i)
        ∙ crossing false r s (over_bridge T k true (hop_over T k)) (crossing true l r (hop_over T k) now f) g (i / 16) (i % 16) (omega arith) (omega arith)
        ∙ both_ways T k (ends_apart T (passed T ok).ways k h) (i / 16) (i % 16))
        ∙ ap (λ (j : ℕ). tabled (hop_over T j)) (sym (add-one k))

  -- ---- over all bridges

  -- a bus that is there is joined only to such, and one that is not there to none
  inside : (k : ℕ) → k ≤ T.bridges → (a : Bus) → a.0 < T.buses → (component T k a).0 < T.buses
  unfolding component
  inside zero h a i = i
  inside (suc k) h a i =
      split (same_bus (component T k a) (component T k (second_bus T k)))
      (λ t. rw t (inside k (omega arith) (first_bus T k) (ends_of T ok k (omega arith)).0))
      (λ f. rw f (inside k (omega arith) a i))

  outside : (k : ℕ) → k ≤ T.bridges → (a : Bus) → T.buses ≤ a.0 → component T k a ≡ a
  unfolding component
  outside zero h a i = refl
  outside (suc k) h a i =
      let q = component T k (second_bus T k) in
      let l = inside k (omega arith) (second_bus T k) (ends_of T ok k (omega arith)).1 in
      let e = outside k (omega arith) a i in
      let n = no_same (component T k a) q (λ p. let z = ap (λ (x : Bus). x.0) (sym e ∙ p) in omega arith) in
      rw n e

  strangers : (k : ℕ) → k ≤ T.bridges → (a b : Bus) → (a.0 < T.buses → b.0 < T.buses → ⊥) → component T k a ≡ component T k b → a ≡ b
  strangers k h a b n e =
      split (ltb a.0 T.buses)
      (λ t.
      let i = ltb-true a.0 T.buses t in
      split (ltb b.0 T.buses)
      (λ u. absurd (n i (ltb-true b.0 T.buses u)))
      (λ u.
      let l = inside k h a i in
      let j = ltb-false b.0 T.buses u in
      let z = ap (λ (x : Bus). x.0) (e ∙ outside k h b j) in
      absurd (omega arith)))
      (λ t.
      let i = ltb-false a.0 T.buses t in
      split (ltb b.0 T.buses)
      (λ u.
      let l = inside k h b (ltb-true b.0 T.buses u) in
      let z = ap (λ (x : Bus). x.0) (sym (outside k h a i) ∙ e) in
      absurd (omega arith))
      (λ u. sym (outside k h a i) ∙ e ∙ outside k h b (ltb-false b.0 T.buses u)))

  hop_none : (a b : Bus) → (a.0 < T.buses → b.0 < T.buses → ⊥) → hop_over T T.bridges a.0 b.0 ≡ 255
  hop_none a b n =
      let A = component T T.bridges a in
      let B = component T T.bridges b in
      split (same_bus A B)
      (λ t.
      let p = strangers T.bridges (omega arith) a b n (same_yes A B t) in
      rw t (ap (λ (w : List Hop). place_number (first_place T w)) (here T a b p)))
      (λ f. rw f)

  over_all : (i : ℕ) → hop_over T T.bridges (i / 16) (i % 16) ≡ hop_at T i
  over_all i =
      let a = bus (i / 16) in
      let b = bus (i % 16) in
      split (ltb (i / 16) T.buses)
      (λ t.
      split (ltb (i % 16) T.buses)
      (λ u. let j = joined_in T (passed T ok).ways a b (ltb-true (i / 16) T.buses t) (ltb-true (i % 16) T.buses u) in
      rw (t, u, yes_same (component T T.bridges a) (component T T.bridges b) j))
      (λ u. let l = ltb-false (i % 16) T.buses u in rw (t, u) (hop_none a b (λ _ m. omega arith))))
      (λ t. let l = ltb-false (i / 16) T.buses t in rw t (hop_none a b (λ m _. omega arith)))

  pub table_ends : (l : List ℕ) → l ≡ tabled (hop_over T T.bridges) → l ≡ hops_of T
  unfolding hops_of
  table_ends l e =
      made (hop_at T) 256 0 l (tabled_long (hop_over T T.bridges) e)
      (λ i b. ap (λ (x : List ℕ). get_or x i 0) e ∙ tabled_at (hop_over T T.bridges) i b ∙ over_all i)

pub ruleset turns = (labels_begin, table_begins, labels_next, table_next, table_ends)
