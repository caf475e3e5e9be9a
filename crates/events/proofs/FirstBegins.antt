-- On no chassis does a model refuse everything: in the empty network of any accepted table each begin between two of its agents is accepted, with
-- number 1. Its four grounds fail one by one: both are there and differ, nothing has begun, and no limit is 0.
use Prim.Native.Nat.{ℕ, zero, suc, ◌+◌, ◌-◌, ◌<◌, ◌≤◌}
use native.Mathlib.Omega.{arith}
use mathlib.Core.Path.{◌≡◌, ap, subst⁻¹, ◌∙◌}
use mathlib.Core.Bool.{Bool, true, false}
use mathlib.Core.List.{List, [], ◌∷◌}
use Rattle.std.specs.Prelude.{None, Some, Ok}
use borrow.Author.Tests.{leb-true, lt-leb}
use lib.ListN.{length, get_or}
use lib.Dec.{ltb, leb}
use Rattle.base.specs.Lists.{all, count}
use Rattle.base.specs.Grounds.{refusal}
use Rattle.base.proofs.Logic.{and_true}
use Rattle.base.proofs.Grounds.{unclear}
use Rattle.chassis.specs.declared.Agent.{Agent}
use Rattle.chassis.specs.declared.Table.{Table}
use Rattle.chassis.specs.Numbers.{same_agent}
use Rattle.chassis.specs.Channels.{has_agent, limit, master_channel}
use Rattle.chassis.specs.Tables.{table_passes, within}
use Rattle.chassis.proofs.Counts.{counts}
use Rattle.chassis.proofs.Passing.{passed}
use Rattle.queue.specs.Entries.{P, R}
use Rattle.network.specs.Rooms.{room_for, is_full}
use Rattle.network.specs.Nets.{Net, view, pack, empty_net, full}
use Rattle.network.proofs.Packing.{view_pack, empty_waits, empty_begun}
use Rattle.network.proofs.Good.{Arrays, empty_is_sound, empty_is_shaped}
use Rattle.events.specs.declared.Event.{Event}
use Rattle.events.specs.declared.Outcome.{Outcome}
use Rattle.events.specs.Records.{decoded}
use Rattle.events.specs.Grounds.{begin_grounds, grounds, Accepted}
use Rattle.events.specs.Effects.{value}
use Rattle.events.specs.Steps.{record_step}
use Rattle.events.proofs.WrongModels.{Model, MeetsStep}
use Rattle.events.proofs.TakenSteps.{inner_is}
use Rattle.events.proofs.BeginNumbers.{BeginOf, posted, read, written}
use Rattle.events.proofs.SoundStays.{step_is}

-- each of the first n
each : (p : ℕ → Bool) (l : List ℕ) (i : ℕ) → i < length l → all p l ≡ true → p (get_or l i 0) ≡ true
unfolding all
each p [] i k h = absurd (omega arith)
each p (x ∷ l) zero k h = (and_true (p x) (all p l) h).0
each p (x ∷ l) (suc i) k h = each p l i (omega arith) (and_true (p x) (all p l) h).1

module _ (T : Table) (w : Arrays T) (passes : table_passes T ≡ true) where
  at_least_1 : (k : ℕ) → k - 1 < 3 → 1 ≤ limit T k
  at_least_1 k h =
      let c = (counts T (passed T passes).counts).limits in
      leb-true 1 (limit T k) (and_true (leb 1 (limit T k)) (leb (limit T k) 8) (each (within 1 8) T.limits (k - 1) (omega (arith, w.limits)) c)).0

  room : (k : ℕ) (m : Agent) → k - 1 < 3 → full (empty_net T) k m (master_channel m) ≡ false
  unfolding count empty_net room_for
  room k m h = ap (is_full (room_for T k m)) (empty_waits T (master_channel m)) ∙ lt-leb (limit T k) 0 (omega (arith, at_least_1 k h))

  module _ (m a : Agent) (hm : has_agent T m ≡ true) (ha : has_agent T a ≡ true) (d : same_agent m a ≡ false) where
    no_ground : (k : ℕ) → k - 1 < 3 → refusal (begin_grounds (empty_net T) k m a) ≡ None
    unfolding begin_grounds empty_net
    no_ground k h =
        unclear (begin_grounds (empty_net T) k m a)
        (rw (hm, ha), (d, (ap (leb 65535) (empty_begun T m), (room k m h, tt))))

    pub first_accepted : (e : Event) → BeginOf m a e → Accepted (empty_net T) e
    unfolding grounds
    first_accepted _ posted = no_ground P (omega arith)
    first_accepted _ read = no_ground R (omega arith)
    first_accepted _ written = no_ground R (omega arith)

    pub first_number : (e : Event) → BeginOf m a e → value (empty_net T) e ≡ 1
    unfolding value
    first_number _ posted = ap (λ (n : ℕ). n + 1) (empty_begun T m)
    first_number _ read = ap (λ (n : ℕ). n + 1) (empty_begun T m)
    first_number _ written = ap (λ (n : ℕ). n + 1) (empty_begun T m)

    pub first_begins_are_accepted : (f : Model) → MeetsStep f → (b : List ℕ) (e : Event) → all (λ n. ltb n 256) b ≡ true → length b ≡ 8 → decoded b ≡ Some e → BeginOf m a e
        → (f (pack (empty_net T)) b).answer ≡ Ok 1
    first_begins_are_accepted f meets b e bytes l k begin =
        let s = pack (empty_net T) in
        let v = view_pack (empty_net T) in
        let ok : Accepted (view s) e = subst⁻¹ (λ (n : Net). Accepted n e) v (first_accepted e begin) in
        let n : value (view s) e ≡ 1 = ap (λ (n : Net). value n e) v ∙ first_number e begin in
        let r = meets s b (record { shaped = empty_is_shaped T w passes; bytes = bytes })
        ∙ step_is s b (empty_is_sound T passes) l ∙ ap (record_step s) k ∙ inner_is s e ok in
        ap (λ (o : Outcome). o.answer) r ∙ ap (λ (n : ℕ). Ok n) n
