-- The ladder holds the components: place 16k + a has the label of bus a over the first k bridges.
-- A place is taken apart by / 16 and % 16; one level up is one bridge more.
use Prim.Native.Nat.{ℕ, zero, suc, ◌+◌, ◌-◌, ◌*◌, ◌/◌, ◌%◌, ◌<◌, ◌≤◌}
use mathlib.Core.Path.{◌≡◌, refl, ap, sym, ◌∙◌}
use mathlib.Core.Bool.{Bool, true, false, cond}
use mathlib.Core.Logic.{⊎_elim}
use mathlib.Core.List.{List}
use native.Mathlib.Numerals.{add-one}
use native.Mathlib.Omega.{arith}
use borrow.Author.Tests.{lt-ltb, ltb-true, ltb-false}
use lib.ListN.{length, get_or}
use lib.Dec.{ltb}
use Rattle.base.specs.Lists.{all, from_to}
use Rattle.base.proofs.Logic.{split, less_or_same}
use Rattle.base.proofs.Loops.{all_same}
use Rattle.base.proofs.Made.{made, made_at}
use Rattle.chassis.specs.declared.Bus.{Bus}
use Rattle.chassis.specs.declared.Table.{Table}
use Rattle.chassis.specs.Numbers.{bus, same_bus}
use Rattle.chassis.specs.Channels.{first_bus, second_bus}
use Rattle.chassis.specs.Routes.{relabel, component, closes_a_loop, loop_free, all_joined}
use Rattle.check_tables.specs.Ladders.{InRange, places, label_at, ladder_of, share_label}
use Rattle.chassis.proofs.Counts.{counts}
use Rattle.chassis.proofs.Passing.{ends}

-- a loop closed stays, whatever bridges follow
loop_stays : (T : Table) (k n : ℕ) → k ≤ n → loop_free T k ≡ false → loop_free T n ≡ false
unfolding loop_free
loop_stays T k zero h f = let e : k ≡ 0 = omega arith in rw e at f
loop_stays T k (suc n) h f =
    ⊎_elim
    (λ (l : k < suc n). split (closes_a_loop T n) (λ c. rw c) (λ c. rw c (loop_stays T k n (omega arith) f)))
    (λ (e : k ≡ suc n). rw e at f)
    (less_or_same k (suc n) h)

module _ (T : Table) where
  label_by : (i k a : ℕ) → i / 16 ≡ k → i % 16 ≡ a → label_at T i ≡ (component T k (bus a)).0
  label_by i k a e f =
      ap (λ (j : ℕ). (component T j (bus (i % 16))).0) e ∙ ap (λ (b : ℕ). (component T k (bus b)).0) f

  pub label_of : (k : ℕ) (a : Bus) → a.0 < 16 → label_at T (16 * k + a.0) ≡ (component T k a).0
  label_of k a h = label_by (16 * k + a.0) k a.0 (omega arith) (omega arith)

  pub first_level : (i : ℕ) → i < 16 → i ≡ label_at T i
  unfolding component
  first_level i h = sym (label_by i 0 i (omega arith) (omega arith))

  -- one level up, from the level below
  next_level : (i : ℕ) (p q c : ℕ) → 16 ≤ i
      → p ≡ (component T ((i - 16) / 16) (first_bus T ((i - 16) / 16))).0
      → q ≡ (component T ((i - 16) / 16) (second_bus T ((i - 16) / 16))).0
      → c ≡ label_at T (i - 16)
      → (relabel (bus p) (bus q) (bus c)).0 ≡ label_at T i
  unfolding component
  next_level i p q c h e f g =
      rw (e, f, g) (sym (label_by i (suc ((i - 16) / 16)) ((i - 16) % 16) (omega arith) (omega arith)))

module _ (T : Table) (ok : InRange T) where
  pub first_low : (k : ℕ) → k < T.bridges → (first_bus T k).0 < 16
  first_low k h = omega (arith, (ends T ok.counts ok.buses k h).0, counts T ok.counts)

  pub second_low : (k : ℕ) → k < T.bridges → (second_bus T k).0 < 16
  second_low k h = omega (arith, (ends T ok.counts ok.buses k h).1, counts T ok.counts)

  pub few_places : places T ≤ 256
  few_places = omega (arith, counts T ok.counts)

  -- what a place above the first level is made of: places before it
  module _ (i : ℕ) (h : 16 ≤ i) (b : i < places T) where
    pub bridge_below : (i - 16) / 16 < T.bridges
    bridge_below = omega arith

    pub first_before : 16 * ((i - 16) / 16) + (first_bus T ((i - 16) / 16)).0 < i
    first_before = omega (arith, first_low ((i - 16) / 16) bridge_below)

    pub second_before : 16 * ((i - 16) / 16) + (second_bus T ((i - 16) / 16)).0 < i
    second_before = omega (arith, second_low ((i - 16) / 16) bridge_below)

    pub label_made : (l : List ℕ) → ((j : ℕ) → j < i → get_or l j 0 ≡ label_at T j)
        → (relabel
        (bus (get_or l (16 * ((i - 16) / 16) + (first_bus T ((i - 16) / 16)).0) 0))
        (bus (get_or l (16 * ((i - 16) / 16) + (second_bus T ((i - 16) / 16)).0) 0))
        (bus (get_or l (i - 16) 0))).0
        ≡ label_at T i
    label_made l e =
        let k = (i - 16) / 16 in
        next_level T i _ _ _ h
        (e _ first_before ∙ label_of T k (first_bus T k) (first_low k bridge_below))
        (e _ second_before ∙ label_of T k (second_bus T k) (second_low k bridge_below))
        (e (i - 16) (omega arith))

  -- the ladder is known by its places
  pub is_ladder : (l : List ℕ) → length l ≡ 256 → ((i : ℕ) → i < places T → get_or l i 0 ≡ label_at T i) → ((i : ℕ) → places T ≤ i → get_or l i 0 ≡ 0) → l ≡ ladder_of T
  unfolding ladder_of
  is_ladder l n h z =
      made (λ i. cond (ltb i (places T)) (label_at T i) 0) 256 0 l n (λ i k. by i (ltb i (places T)) refl)
    where
      by : (i : ℕ) (b : Bool) → ltb i (places T) ≡ b → get_or l i 0 ≡ cond b (label_at T i) 0
      by i true e = h i (ltb-true i (places T) e)
      by i false e = z i (ltb-false i (places T) e)

  pub rung : (k : ℕ) (a : Bus) → k ≤ T.bridges → a.0 < 16 → get_or (ladder_of T) (16 * k + a.0) 0 ≡ (component T k a).0
  unfolding ladder_of
  rung k a h i =
      let b : 16 * k + a.0 < places T = omega arith in
      let c : 16 * k + a.0 < 256 = omega (arith, counts T ok.counts) in
      made_at (λ i. cond (ltb i (places T)) (label_at T i) 0) 256 (16 * k + a.0) 0 c ∙ rw (lt-ltb (16 * k + a.0) (places T) b) (label_of T k a i)

  pub shares : (l : List ℕ) (k : ℕ) (a b : Bus) → l ≡ ladder_of T → k ≤ T.bridges → a.0 < 16 → b.0 < 16 → share_label l k a b ≡ same_bus (component T k a) (component T k b)
  shares l k a b e h i j = rw (e, rung k a h i, rung k b h j)

  -- ---- the test for ground 27, by labels

  module _ (l : List ℕ) (e : l ≡ ladder_of T) where
    module _ (k : ℕ) (b : k < T.bridges) where
      by_last : loop_free T (k + 1) ≡ cond (share_label l k (first_bus T k) (second_bus T k)) false (loop_free T k)
      unfolding loop_free
      by_last = rw add-one (rw (shares l k (first_bus T k) (second_bus T k) e (omega arith) (first_low k b) (second_low k b)))

      -- a loop that bridge k closes
      pub closes : share_label l k (first_bus T k) (second_bus T k) ≡ true → false ≡ loop_free T (k + 1)
      closes h = rw (by_last, h)

      -- it stays
      pub closes_for_good : share_label l k (first_bus T k) (second_bus T k) ≡ true → false ≡ loop_free T T.bridges
      closes_for_good h = sym (loop_stays T (k + 1) T.bridges (omega arith) (sym (closes h)))

      pub closes_not : share_label l k (first_bus T k) (second_bus T k) ≡ false → loop_free T k ≡ loop_free T (k + 1)
      closes_not h = rw (by_last, h)

    pub joined_by_labels : all (λ a. share_label l T.bridges (bus a) (bus 0)) (from_to 0 T.buses) ≡ all_joined T
    unfolding all_joined
    joined_by_labels =
        all_same (λ a. share_label l T.bridges (bus a) (bus 0)) (λ a. same_bus (component T T.bridges (bus a)) (component T T.bridges (bus 0))) 0 T.buses
        (λ a h. shares l T.bridges (bus a) (bus 0) e (omega arith) (omega (arith, counts T ok.counts)) (omega arith))
