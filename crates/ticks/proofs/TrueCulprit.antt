-- A refused tick names the true culprit: 16, 18 or 17 of the tick itself, else the lowest record refused alone, else the lowest conflicting pair.
-- Read off the verdict.
use Prim.Native.Nat.{ℕ}
use native.Mathlib.Omega.{arith}
use mathlib.Core.Path.{◌≡◌, sym, ap, subst, ◌∙◌}
use mathlib.Core.Logic.{◌⊎◌, inl, inr}
use mathlib.Core.List.{List}
use Rattle.std.specs.Prelude.{None, Some, Err}
use Rattle.base.specs.Grounds.{refusal}
use Rattle.base.specs.declared.Refusal.{Refusal}
use Rattle.network.specs.declared.State.{State}
use Rattle.network.specs.Nets.{view}
use Rattle.events.specs.Records.{records}
use Rattle.events.specs.declared.Event.{Event}
use Rattle.ticks.specs.declared.TickRefusal.{TickRefusal}
use Rattle.ticks.specs.declared.TickRefusal.TheVariants.{Refused, Conflict}
use Rattle.ticks.specs.Ticks.{tick_grounds, tick, TickAnswer}
use Rattle.ticks.proofs.Searches.{LowestRefused, LowestPair}
use Rattle.ticks.proofs.Verdicts.{AllAlone, Verdict, at_once, refused, conflicts, accepted, same_pair, verdict}

-- ---- a ground other than 15

of_err : {a c : TickRefusal} → ◌≡◌ {A = TickAnswer} (Err a) (Err c) → a ≡ c
of_err e = cc

-- of the tick itself, or of its lowest record refused alone
abbrev pub Culprit : State → List ℕ → List ℕ → Refusal → ℕ → Type 0
Culprit s b out n i =
    ((refusal (tick_grounds s b out) ≡ Some n) × (i ≡ 0))
    ⊎ ((refusal (tick_grounds s b out) ≡ None) × LowestRefused (view s) (records b) n i)

same_refusal : {k m : Refusal} {l n : ℕ} → Refused k l ≡ Refused m n → (k ≡ m) × (l ≡ n)
same_refusal e = ((cc), (cc))

refused_is : (s : State) (b out : List ℕ) (a : TickAnswer) (n : Refusal) (i : ℕ) → Verdict s b out a → a ≡ Err (Refused n i) → Culprit s b out n i
refused_is s b out _ n i (at_once m g) e = let q = same_refusal (of_err e) in inl (g ∙ ap Some q.0, sym q.1)
refused_is s b out _ n i (refused m k g r) e =
    let q = same_refusal (of_err e) in
    inr (g, subst (LowestRefused (view s) (records b) n) q.1 (subst (λ (j : Refusal). LowestRefused (view s) (records b) j k) q.0 r))
refused_is s b out _ n i (conflicts j k es g w r) e = let z : ◌≡◌ {A = ℕ} 0 1 = cc in absurd (omega arith)
refused_is s b out _ n i (accepted es g w p) e = let z : ◌≡◌ {A = ℕ} 0 1 = cc in absurd (omega arith)

pub true_culprit : (s : State) (b out : List ℕ) (n : Refusal) (i : ℕ) → (tick s b out).answer ≡ Err (Refused n i) → Culprit s b out n i
true_culprit s b out n i h = refused_is s b out (tick s b out).answer n i (verdict s b out) h

-- ---- 15

-- nothing is wrong with the tick itself or with one record alone, but two conflict
pub record CulpritPair (s : State) (b out : List ℕ) (i j : ℕ) : Type 0 where
  -- neither 16 nor 18 nor 17 holds
  pub no_ground : refusal (tick_grounds s b out) ≡ None
  -- the records are these events, and each is accepted alone
  pub events : List Event
  pub all_alone : AllAlone (view s) (records b) events
  -- those at i and j are the lowest pair in conflict
  pub pair : (d : Event) → LowestPair (view s) d events i j

conflict_is : (s : State) (b out : List ℕ) (a : TickAnswer) (i j : ℕ) → Verdict s b out a → a ≡ Err (Conflict i j) → CulpritPair s b out i j
conflict_is s b out _ i j (at_once m g) e = let z : ◌≡◌ {A = ℕ} 0 1 = cc in absurd (omega arith)
conflict_is s b out _ i j (refused n k g r) e = let z : ◌≡◌ {A = ℕ} 0 1 = cc in absurd (omega arith)
conflict_is s b out _ i j (conflicts k l es g w r) e =
    let q = same_pair (of_err e) in
    record {
      no_ground = g;
      events = es;
      all_alone = w;
      pair = λ d. subst (LowestPair (view s) d es i) q.1 (subst (λ (m : ℕ). LowestPair (view s) d es m l) q.0 (r d));
    }
conflict_is s b out _ i j (accepted es g w p) e = let z : ◌≡◌ {A = ℕ} 0 1 = cc in absurd (omega arith)

pub true_conflict : (s : State) (b out : List ℕ) (i j : ℕ) → (tick s b out).answer ≡ Err (Conflict i j) → CulpritPair s b out i j
true_conflict s b out i j h = conflict_is s b out (tick s b out).answer i j (verdict s b out) h
