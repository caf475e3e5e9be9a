-- The search for the lowest conflicting pair, turn by turn of its two loops.
-- What is left to compare, compared from here, finds what the whole search finds.
use Prim.Native.Nat.{ℕ, suc, ◌+◌, ◌<◌, ◌≤◌}
use mathlib.Core.Path.{◌≡◌, refl, sym, ap, ◌∙◌}
use mathlib.Core.Bool.{Bool, true, false, cond}
use mathlib.Core.List.{List, [], ◌∷◌, map}
use Rattle.std.specs.Prelude.{Option, None, Some, Ok, Err}
use native.Mathlib.Omega.{arith}
use lib.ListN.{length, get_or, take, drop, length-take}
use native.Mathlib.Numerals.{add-one}
use Rattle.base.proofs.Logic.{split, there}
use Rattle.base.proofs.Walks.{walk_on, walk_over}
use Rattle.network.specs.Nets.{Net}
use Rattle.events.specs.declared.Event.{Event}
use Rattle.ticks.specs.declared.TickRefusal.TheVariants.{Conflict}
use Rattle.ticks.specs.Footings.{Footing, footing}
use Rattle.ticks.specs.Conflicts.{clash, conflict}
use Rattle.ticks.specs.Ticks.{partner, first_pair}
use Rattle.compare_events.specs.declared.Foot.{Foot}
use Rattle.play_ticks.specs.declared.Turn.{Turn}
use Rattle.compare_events.specs.Feet.{footing_of}
use Rattle.play_ticks.specs.Turns.{answer_by, clash_partner, pair_or, clash_pair, footings}

module _ (all : List Turn) (n : ℕ) where
  abbrev left : ℕ → List Footing
  left i = footings (drop i (take n all))

  -- none of the first i has a partner
  pub record Seeking (i : ℕ) : Type 0 where
    pub within : i ≤ n
    pub long : n ≤ length all
    pub same : clash_pair i (left i) ≡ clash_pair 0 (left 0)

  -- e has no partner from place k to before place j
  pub record Comparing (e : Foot) (k j : ℕ) : Type 0 where
    pub from : k ≤ j
    pub to : j ≤ n
    pub long : n ≤ length all
    pub same : clash_partner (footing_of e) j (left j) ≡ clash_partner (footing_of e) k (left k)

  pub seek_first : n ≤ length all → Seeking 0
  seek_first h = record { within = omega arith; long = h; same = refl }

  one_less : (i : ℕ) (d : Turn) → i < n → n ≤ length all → left i ≡ footing_of (get_or all i d).foot ∷ left (i + 1)
  one_less i d h k = ap footings (walk_on all n i d h (omega arith))

  module _ (e : Foot) (k : ℕ) where
    pub compare_first : k ≤ n → n ≤ length all → Comparing e k k
    compare_first h l = record { from = omega arith; to = h; long = l; same = refl }

    module _ (j : ℕ) (c : Comparing e k j) where
      module _ (d : Turn) (h : j < n) where
        one_partner : (b : Bool) → clash (footing_of e) (footing_of (get_or all j d).foot) ≡ b
            → clash_partner (footing_of e) j (left j) ≡ cond b (Some j) (clash_partner (footing_of e) (j + 1) (left (j + 1)))
        unfolding clash_partner
        one_partner b x = ap (clash_partner (footing_of e) j) (one_less j d h c.long) ∙ rw (x, sym (add-one j))

        pub compare_on : clash (footing_of e) (footing_of (get_or all j d).foot) ≡ false → Comparing e k (j + 1)
        compare_on x = record {
          from = let f = c.from in omega arith;
          to = omega arith;
          long = c.long;
          same = sym (one_partner false x) ∙ c.same;
        }

        pub partner_found : clash (footing_of e) (footing_of (get_or all j d).foot) ≡ true → clash_partner (footing_of e) k (left k) ≡ Some j
        partner_found x = sym c.same ∙ one_partner true x

      pub no_partner : n ≤ j → clash_partner (footing_of e) k (left k) ≡ None
      unfolding clash_partner
      no_partner h =
          let z : drop j (take n all) ≡ [] = walk_over all n j (simp length-take (omega arith)) in
          sym c.same ∙ ap (λ (l : List Turn). clash_partner (footing_of e) j (footings l)) z

  -- what the partner of the one at place i decides
  module _ (i : ℕ) (d : Turn) (s : Seeking i) (h : i < n) where
    abbrev its_partner : Option ℕ
    its_partner = clash_partner (footing_of (get_or all i d).foot) (i + 1) (left (i + 1))

    here : clash_pair i (left i) ≡ pair_or i its_partner (clash_pair (i + 1) (left (i + 1)))
    unfolding clash_pair
    here = ap (clash_pair i) (one_less i d h s.long) ∙ rw (sym (add-one i))

    pub pair_found : (j : ℕ) → its_partner ≡ Some j → Err (Conflict i j) ≡ answer_by (clash_pair 0 (footings (take n all)))
    pair_found j p =
        let q : clash_pair 0 (left 0) ≡ Some (Conflict i j) = sym s.same ∙ here ∙ rw p in
        sym (ap answer_by q)

    pub seek_on : its_partner ≡ None → Seeking (i + 1)
    seek_on p = record { within = omega arith; long = s.long; same = sym (here ∙ rw p) ∙ s.same }

  pub seek_done : (i : ℕ) → Seeking i → n ≤ i → Ok tt ≡ answer_by (clash_pair 0 (footings (take n all)))
  unfolding clash_pair
  seek_done i s h =
      let z : drop i (take n all) ≡ [] = walk_over all n i (simp length-take (omega arith)) in
      ap answer_by (sym (ap (λ (l : List Turn). clash_pair i (footings l)) z) ∙ s.same)

-- ---- on the footings of events it is the search of the definition

conflict_is : (s : Net) (e f : Event) → clash (footing s e) (footing s f) ≡ conflict s e f
unfolding conflict
conflict_is s e f = refl

partner_of : (s : Net) (e : Event) (j : ℕ) (es : List Event) → clash_partner (footing s e) j (map (footing s) es) ≡ partner s e j es
unfolding clash_partner partner
partner_of s e j [] = refl
partner_of s e j (f ∷ es) =
    rw (conflict_is s e f)
    (split (conflict s e f) (λ h. rw (h, partner)) (λ h. rw (h, partner) (partner_of s e (suc j) es)))

pub pair_of : (s : Net) (i : ℕ) (es : List Event) → clash_pair i (map (footing s) es) ≡ first_pair s i es
unfolding clash_pair first_pair
pair_of s i [] = refl
pair_of s i (e ∷ es) =
    rw (partner_of s e (suc i) es)
    (there (partner s e (suc i) es) (λ h. rw (h, first_pair) (pair_of s (suc i) es)) (λ j h. rw (h, first_pair)))
