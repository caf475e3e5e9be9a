-- A tick's records are judged against the state it starts in: where it is accepted, each is accepted alone there.
use Prim.Native.Nat.{ℕ, suc}
use mathlib.Core.Path.{◌≡◌}
use mathlib.Core.List.{List, [], ◌∷◌}
use Rattle.std.specs.Prelude.{None, Ok, Err}
use native.Mathlib.Omega.{arith}
use Rattle.base.specs.Grounds.{refusal}
use Rattle.base.proofs.Logic.{there, none_some}
use Rattle.base.proofs.Orders.{All}
use Rattle.network.specs.declared.State.{State}
use Rattle.network.specs.Nets.{Net, view}
use Rattle.events.specs.Records.{records, Decoded}
use Rattle.events.specs.Steps.{record_grounds}
use Rattle.ticks.specs.declared.TickRefusal.{TickRefusal}
use Rattle.ticks.specs.declared.TickRefusal.TheVariants.{Refused}
use Rattle.ticks.specs.Ticks.{first_refused, tick_grounds, judged, tick, TickAnswer}

-- each is accepted alone in s
abbrev pub EachAlone : Net → List Decoded → Type 0
EachAlone s = All (λ d. refusal (record_grounds s d) ≡ None)

pub none_refused : (s : Net) (i : ℕ) (ds : List Decoded) → first_refused s i ds ≡ None → EachAlone s ds
unfolding first_refused
none_refused s i [] h = tt
none_refused s i (d ∷ ds) h =
    there (refusal (record_grounds s d))
    (λ n. (n, none_refused s (suc i) ds (rw (n, first_refused) at h)))
    (λ g e. absurd (none_some {a = Refused g i} h (rw (e, first_refused))))

-- a refusal is no acceptance
pub never : (a : TickRefusal) → ◌≡◌ {A = TickAnswer} (Err a) (Ok tt) → ⊥
never a k = let z : ◌≡◌ {A = ℕ} 0 1 = cc in omega arith

pub judged_at_the_start : (s : State) (b out : List ℕ) → (tick s b out).answer ≡ Ok tt → EachAlone (view s) (records b)
unfolding tick judged
judged_at_the_start s b out h =
    there (refusal (tick_grounds s b out))
    (λ k. there (first_refused (view s) 0 (records b))
    (λ n. none_refused (view s) 0 (records b) n)
    (λ a e. absurd (never a (rw (k, tick, e, judged) at h))))
    (λ g k. absurd (never (Refused g 0) (rw (k, tick) at h)))
