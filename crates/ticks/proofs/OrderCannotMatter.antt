-- Demand 3: events that are accepted alone and of which no two conflict are accepted in every order, each with its own value, and end in one state.
-- After any one of them the others are as they were; so neighbours can be turned about, and that makes every order. Any number of events.
use Prim.Native.Nat.{ℕ}
use mathlib.Core.Path.{◌≡◌, refl, sym, ap, subst, ◌∙◌}
use mathlib.Core.Bool.{true, false}
use mathlib.Core.List.{List, [], ◌∷◌, map}
use Rattle.base.proofs.Orders.{All, Pairwise, all_map, all_both, Order, done, keep, turn, then, all_order, pairwise_order}
use Rattle.chassis.specs.Tables.{table_passes}
use Rattle.network.specs.Nets.{Net}
use Rattle.events.specs.declared.Event.{Event}
use Rattle.events.specs.Grounds.{Accepted}
use Rattle.events.specs.Effects.{value, after}
use Rattle.events.specs.Reached.{Reached}
use Rattle.events.proofs.SoundStays.{reached_is_good}
use Rattle.ticks.specs.Conflicts.{conflict}
use Rattle.ticks.specs.Ticks.{end_of}
use Rattle.ticks.proofs.Begins.{Again}
use Rattle.ticks.proofs.Diamond.{Peaceful, peaceful_back, diamond, still_passes, still_peaceful}
use Rattle.ticks.proofs.Reordered.{Reordered, reordered_is_order}

-- one after the other: each event is accepted in the state that those before it reach, with these values, and the last leaves this state
pub data Played : Net → List Event → List ℕ → Net → Type 0 where
  at_end : {s : Net} → Played s [] [] s
  one_more : {s u : Net} {e : Event} {es : List Event} {vs : List ℕ} → Accepted s e → Played (after s e) es vs u → Played s (e ∷ es) (value s e ∷ vs) u

-- each is accepted alone in s, and no two conflict there
pub record Agreeing (s : Net) (es : List Event) : Type 0 where
  pub alone : All (Accepted s) es
  pub apart : Pairwise (λ e f. conflict s e f ≡ false) es

-- ---- after the first, the others are as they were

pub rest_stands : (s : Net) → table_passes s.table ≡ true → (e : Event) (es : List Event) → Agreeing s (e ∷ es) → All (Again s (after s e)) es
rest_stands s h e es g =
    all_both (Accepted s) (Peaceful s e) (Again s (after s e)) es (λ f a n. (diamond s h e f g.alone.0 a n).still) g.alone.1 g.apart.0

still_apart : (s u : Net) (es : List Event) → All (Again s u) es → Pairwise (Peaceful s) es → Pairwise (Peaceful u) es
still_apart s u [] a n = tt
still_apart s u (e ∷ es) a n = (
  all_both (Again s u) (Peaceful s e) (Peaceful u e) es (λ f b m. still_peaceful s u e f a.0 b m) a.1 n.0,
  still_apart s u es a.1 n.1,
)

pub rest_agrees : (s : Net) → table_passes s.table ≡ true → (e : Event) (es : List Event) → Agreeing s (e ∷ es) → Agreeing (after s e) es
rest_agrees s h e es g =
    let r = rest_stands s h e es g in
    record {
      alone = all_map (Again s (after s e)) (Accepted (after s e)) es (λ f a. a.accepted) r;
      apart = still_apart s (after s e) es r g.apart.1;
    }

same_values : (s u : Net) (es : List Event) → All (Again s u) es → map (value u) es ≡ map (value s) es
same_values s u [] a = refl
same_values s u (e ∷ es) a = rw (a.0.says, same_values s u es a.1)

-- ---- in listed order

pub in_listed_order : (s : Net) → table_passes s.table ≡ true → (es : List Event) → Agreeing s es → Played s es (map (value s) es) (end_of s es)
unfolding end_of
in_listed_order s h [] g = at_end
in_listed_order s h (e ∷ es) g =
    one_more g.alone.0
    (subst (λ (vs : List ℕ). Played (after s e) es vs (end_of (after s e) es)) (same_values s (after s e) es (rest_stands s h e es g))
    (in_listed_order (after s e) (still_passes s e h) es (rest_agrees s h e es g)))

-- ---- in every order

pub agrees_too : (s : Net) {es fs : List Event} → Order es fs → Agreeing s es → Agreeing s fs
agrees_too s o g = record {
  alone = all_order (Accepted s) o g.alone;
  apart = pairwise_order (Peaceful s) (peaceful_back s) o g.apart;
}

pub same_end : (s : Net) → table_passes s.table ≡ true → {es fs : List Event} → Order es fs → Agreeing s es → end_of s fs ≡ end_of s es
unfolding end_of
same_end s h done g = refl
same_end s h (keep {a = e} {l = es} o) g = same_end (after s e) (still_passes s e h) o (rest_agrees s h e es g)
same_end s h (turn {a = e} {b = f} {l = es}) g =
    ap (λ (u : Net). end_of u es) (sym (diamond s h e f g.alone.0 g.alone.1.0 g.apart.0.0).end)
same_end s h (then o p) g = same_end s h p (agrees_too s o g) ∙ same_end s h o g

-- in every state whose table passes, reached or not
pub order_cannot_matter : (s : Net) → table_passes s.table ≡ true → (es fs : List Event) → Agreeing s es → Reordered es fs
    → Played s fs (map (value s) fs) (end_of s es)
order_cannot_matter s h es fs g r =
    let o = (reordered_is_order es fs).0 r in
    subst (Played s fs (map (value s) fs)) (same_end s h o g) (in_listed_order s h fs (agrees_too s o g))

-- in a reached state
pub reached_order_cannot_matter : (s : Net) → Reached s → (es fs : List Event) → Agreeing s es → Reordered es fs → Played s fs (map (value s) fs) (end_of s es)
reached_order_cannot_matter s r = order_cannot_matter s (reached_is_good s r).rules.passes

-- what is played has one end and one list of values
pub played_once : (s : Net) (es : List Event) (vs ws : List ℕ) (u v : Net) → Played s es vs u → Played s es ws v → (vs ≡ ws) × (u ≡ v)
played_once s [] _ _ _ _ at_end at_end = (refl, refl)
played_once s (e ∷ es) _ _ u v (one_more {vs = vs} a p) (one_more {vs = ws} b q) =
    let r = played_once (after s e) es vs ws u v p q in
    (rw r.0, r.1)
