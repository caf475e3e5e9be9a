-- A partner stands among those that are looked through.
use Prim.Native.Nat.{ℕ, suc, ◌+◌, ◌<◌, ◌≤◌}
use mathlib.Core.Path.{◌≡◌, refl}
use mathlib.Core.List.{List, [], ◌∷◌}
use Rattle.std.specs.Prelude.{Some}
use native.Mathlib.Omega.{arith}
use lib.ListN.{length, take, drop, length-take, length-drop, length-map}
use Rattle.base.proofs.Logic.{split, none_some, some_same}
use Rattle.ticks.specs.Footings.{Footing}
use Rattle.ticks.specs.Conflicts.{clash}
use Rattle.compare_events.specs.declared.Foot.{Foot}
use Rattle.compare_events.specs.Feet.{footing_of}
use Rattle.play_ticks.specs.declared.Turn.{Turn}
use Rattle.play_ticks.specs.Turns.{clash_partner, footings}
use Rattle.lent_ticks.specs.Places.{partner_place}

some_below : (e : Footing) (j : ℕ) (fs : List Footing) (k : ℕ) → clash_partner e j fs ≡ Some k → k < j + length fs
unfolding clash_partner
some_below e j [] k h = absurd (none_some {a = k} refl h)
some_below e j (f ∷ fs) k h =
    split (clash e f)
    (λ c. let z : j ≡ k = some_same j k (rw c at h) in omega arith)
    (λ c. let b = some_below e (suc j) fs k (rw c at h) in omega arith)

pub below : (ts : List Turn) (e : Foot) (j n : ℕ) → j ≤ n → n ≤ length ts → (k : ℕ) → partner_place ts e j n ≡ Some k → k < n
unfolding partner_place
below ts e j n h l k p =
    let b = some_below (footing_of e) j (footings (drop j (take n ts))) k p in
    let m = length-map (drop j (take n ts)) (λ (t : Turn). footing_of t.foot) in
    omega (arith, length-take n ts, length-drop j (take n ts))
