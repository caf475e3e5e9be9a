-- Every value of the declared type is shaped: the arrays have their places, which the checker knows of a parameter's type,
-- for each channel too.
use Prim.Native.Nat.{ℕ, zero, suc, ◌<◌}
use mathlib.Core.Path.{◌≡◌}
use mathlib.Core.List.{List, [], ◌∷◌}
use native.Mathlib.Omega.{arith}
use borrow.Author.Rules.{rules}
use mir.Val.{Val, Fits}
use mir.Syntax.{w16}
use base.Fml.{Fml}
use denote.Array.{each}
use denote.Shadow.{shadow}
use denote.Laws.{Is}
use lib.ListN.{length, get_or}
use Rattle.base.proofs.Walks.{owned}
use Rattle.chassis.specs.Capacities.{most_channels}
use Rattle.queue.specs.Packing.{channel_places}
use Rattle.queue.specs.contracts.Channel as C
use Rattle.network.specs.contracts.State as S
use Rattle.network.specs.declared.State.{State}
use Rattle.network.specs.Shapes.{Shaped, no_channel}

-- what holds of each element of an array, one by one
each_is : {A : Type 0} (f : A → List Val → Fml) (Q : A → Type 0) → ((x : A) (vs : List Val) → shadow (f x vs) → Q x)
    → (xs : List A) (us : List Val) → shadow (each A f xs us) → (i : ℕ) → i < length xs → (z : A) → Q (get_or xs i z)
each_is f Q h [] us k i l z = absurd (omega arith)
each_is f Q h (x ∷ xs) [] k i l z = absurd k
each_is f Q h (x ∷ xs) (u ∷ us) k zero l z = h x (u ∷ []) k.0
each_is f Q h (x ∷ xs) (u ∷ us) k (suc i) l z = each_is f Q h xs us k.1 i (omega arith) z

pub of_type : (s : State) (vs : List Val) → Is S.the_row s vs → Shaped s
of_type s vs h = record {
  channels = search owned;
  begins = search owned;
  entries = λ i l. each_is (C.the_row).own_val (λ c. length c.entries ≡ channel_places) (λ x us k. search owned) s.channels h.1.1.1.0.0 h.1.1.1.0.1.1 i (let n : length s.channels ≡ most_channels = search owned in omega arith) no_channel;
  counts = λ a l. let f : Fits w16 (get_or s.begins a 0) = search rules in omega arith;
  limits = search owned;
  pairs = search owned;
  homes = search owned;
}
