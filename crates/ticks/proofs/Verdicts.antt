-- What a tick answers is a verdict: 16, 18 or 17 of the tick itself, the lowest record refused alone, the lowest conflicting pair, or accepted.
-- It is what its searches found, one after the other; the tick is written once more with how it judges and how it plays left open.
use Prim.Native.Nat.{ℕ, ◌+◌}
use native.Mathlib.Omega.{arith}
use mathlib.Core.Path.{◌≡◌, refl, sym, ap, subst, subst⁻¹, ◌∙◌}
use mathlib.Core.Bool.{false}
use mathlib.Core.List.{List, map}
use Rattle.std.specs.Prelude.{Option, None, Some, Ok, Err}
use Rattle.base.specs.Grounds.{refusal}
use Rattle.base.specs.declared.Refusal.{Refusal}
use Rattle.base.proofs.Logic.{there}
use Rattle.base.proofs.Orders.{All, Pairwise}
use Rattle.chassis.specs.Numbers.{agent}
use Rattle.network.specs.declared.State.{State}
use Rattle.network.specs.Nets.{Net, view}
use Rattle.events.specs.Records.{records, Decoded}
use Rattle.events.specs.declared.Event.{Event}
use Rattle.events.specs.declared.Event.TheVariants.{BeginRead}
use Rattle.events.specs.Grounds.{Accepted}
use Rattle.ticks.specs.declared.TickRefusal.{TickRefusal}
use Rattle.ticks.specs.declared.TickRefusal.TheVariants.{Refused, Conflict}
use Rattle.ticks.specs.Conflicts.{conflict}
use Rattle.ticks.specs.Ticks.{known, first_refused, first_pair, Ticked, held, ticked, tick_grounds, judged, tick, TickAnswer}
use Rattle.ticks.proofs.Judged.{none_refused}
use Rattle.ticks.proofs.Searches.{known_all, each_known, pair_none, LowestRefused, finds_refused, LowestPair, finds_pair}

-- ---- the tick, with how it judges and how it plays left open

abbrev pub Tick : Type 0
Tick = State → List ℕ → List ℕ → Ticked

unfoldable pub tick_by : (Net → List Decoded → Option TickRefusal) → (State → List ℕ → List Event → Ticked) → Tick
tick_by judges plays s b out =
    elim (refusal (tick_grounds s b out)) [
      | Some n ↦ held s out (Refused n 0)
      | None ↦ elim (judges (view s) (records b)) [
        | Some a ↦ held s out a
        | None ↦ elim (first_pair (view s) 0 (known (records b))) [
          | Some a ↦ held s out a
          | None ↦ plays s out (known (records b))
        ]
      ]
    ]

-- each record judged alone in the starting state
abbrev pub alone : Net → List Decoded → Option TickRefusal
alone s ds = first_refused s 0 ds

pub tick_is_by : (s : State) (b out : List ℕ) → tick s b out ≡ tick_by alone ticked s b out
unfolding tick judged tick_by
tick_is_by s b out = refl

-- where neither grounds nor judges nor pairs object, it plays
pub plays_by : (judges : Net → List Decoded → Option TickRefusal) (plays : State → List ℕ → List Event → Ticked) (s : State) (b out : List ℕ) (es : List Event)
    → refusal (tick_grounds s b out) ≡ None → records b ≡ map Some es → judges (view s) (map Some es) ≡ None
    → Pairwise (λ e f. conflict (view s) e f ≡ false) es → tick_by judges plays s b out ≡ plays s out es
unfolding tick_by
plays_by judges plays s b out es h k j n =
    let q : known (records b) ≡ es = ap known k ∙ known_all es in
    rw (h, tick_by) (rw k (rw j (rw q (rw ((pair_none (view s) 0 es).1 n) (ap (plays s out) q)))))

-- ---- the verdict

-- records that are all known and each accepted alone
pub record AllAlone (s : Net) (ds : List Decoded) (es : List Event) : Type 0 where
  pub known : ds ≡ map Some es
  pub alone : All (Accepted s) es

pub data Verdict (s : State) (b out : List ℕ) : TickAnswer → Type 0 where
  at_once : (n : Refusal) → refusal (tick_grounds s b out) ≡ Some n → Verdict s b out (Err (Refused n 0))
  refused : (n : Refusal) (i : ℕ) → refusal (tick_grounds s b out) ≡ None → LowestRefused (view s) (records b) n i → Verdict s b out (Err (Refused n i))
  conflicts : (i j : ℕ) (es : List Event) → refusal (tick_grounds s b out) ≡ None → AllAlone (view s) (records b) es → ((d : Event) → LowestPair (view s) d es i j)
      → Verdict s b out (Err (Conflict i j))
  accepted : (es : List Event) → refusal (tick_grounds s b out) ≡ None → AllAlone (view s) (records b) es → Pairwise (λ e f. conflict (view s) e f ≡ false) es
      → Verdict s b out (Ok tt)

-- where no record is refused alone
none_found : (s : Net) (ds : List Decoded) → first_refused s 0 ds ≡ None → (es : List Event) × AllAlone s ds es × (known ds ≡ es)
none_found s ds h =
    let w = each_known s ds (none_refused s 0 ds h) in
    (w.0, record { known = w.1; alone = w.2 }, ap known w.1 ∙ known_all w.0)

pub same_pair : {k l m n : ℕ} → Conflict k l ≡ Conflict m n → (k ≡ m) × (l ≡ n)
same_pair e = ((cc), (cc))

-- the pair is the same, whatever is read where no event is
pair_found : (s : Net) (es : List Event) (a : TickRefusal) → first_pair s 0 es ≡ Some a → (i j : ℕ) × (a ≡ Conflict i j) × ((d : Event) → LowestPair s d es i j)
pair_found s es a h =
    let r = finds_pair s (BeginRead (agent 0) (agent 0)) 0 es a h in
    (0 + r.0, 0 + r.1, r.2, λ d. same_one (0 + r.0) (0 + r.1) d r.2)
  where
    same_one : (i j : ℕ) (d : Event) → a ≡ Conflict i j → LowestPair s d es i j
    same_one i j d q =
        let p = finds_pair s d 0 es a h in
        let e = same_pair (sym p.2 ∙ q) in
        subst (LowestPair s d es i) (omega (arith, e.1)) (subst (λ (k : ℕ). LowestPair s d es k p.1) (omega (arith, e.0)) p.3)

module _ (s : State) (b out : List ℕ) where
  refused_found : (a : TickRefusal) → refusal (tick_grounds s b out) ≡ None → first_refused (view s) 0 (records b) ≡ Some a → Verdict s b out (Err a)
  refused_found a g h =
      let r = finds_refused (view s) 0 (records b) a h in
      subst⁻¹ (λ c. Verdict s b out (Err c)) (r.2 ∙ ap (Refused r.0) (omega arith)) (refused r.0 r.1 g r.3)

  conflict_found : (a : TickRefusal) → refusal (tick_grounds s b out) ≡ None → first_refused (view s) 0 (records b) ≡ None
      → first_pair (view s) 0 (known (records b)) ≡ Some a → Verdict s b out (Err a)
  conflict_found a g n h =
      let w = none_found (view s) (records b) n in
      let r = pair_found (view s) w.0 a (rw w.2 at h) in
      subst⁻¹ (λ c. Verdict s b out (Err c)) r.2 (conflicts r.0 r.1 w.0 g w.1 r.3)

  nothing_found : refusal (tick_grounds s b out) ≡ None → first_refused (view s) 0 (records b) ≡ None → first_pair (view s) 0 (known (records b)) ≡ None
      → Verdict s b out (Ok tt)
  nothing_found g n h =
      let w = none_found (view s) (records b) n in
      accepted w.0 g w.1 ((pair_none (view s) 0 w.0).0 (rw w.2 at h))

  pub verdict : Verdict s b out (tick s b out).answer
  unfolding tick_by
  verdict =
      rw (tick_is_by s b out)
      (there (refusal (tick_grounds s b out))
      (λ g. there (first_refused (view s) 0 (records b))
      (λ n. there (first_pair (view s) 0 (known (records b)))
      (λ m. rw (g, tick_by) (rw n (rw m (nothing_found g n m))))
      (λ a m. rw (g, tick_by) (rw n (rw m (conflict_found a g n m)))))
      (λ a n. rw (g, tick_by) (rw n (refused_found a g n))))
      (λ m g. rw (g, tick_by) (at_once m g)))
