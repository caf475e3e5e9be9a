-- The entries in all channels, channel by channel; and that whatever adds up the counts is `held`.
use Prim.Native.Nat.{ℕ, zero, suc, ◌+◌, ◌*◌, ◌≤◌}
use native.Mathlib.Omega.{arith}
use native.Mathlib.Numerals.{add-one}
use mathlib.Core.Path.{◌≡◌, refl, ap, ◌∙◌}
use mathlib.Core.List.{List, [], ◌∷◌}
use lib.ListN.{length, get_or, drop, drop_of_length-le}
use Rattle.queue.specs.Packing.{channel_places}
use Rattle.queue.specs.declared.Channel.{Channel}
use Rattle.network.specs.Shapes.{no_channel}
use Rattle.lent_states.specs.Held.{held}

held_turn : (l : List Channel) (i : ℕ) → held (drop i l) ≡ (get_or l i no_channel).count + held (drop (suc i) l)
unfolding held
held_turn [] zero = refl
held_turn [] (suc i) = refl
held_turn (c ∷ l) zero = refl
held_turn (c ∷ l) (suc i) = held_turn l i

held_none : (l : List Channel) (i : ℕ) → length l ≤ i → held (drop i l) ≡ 0
unfolding held
held_none l i h = rw (drop_of_length-le l h)

module _ (f : List Channel → ℕ) (none : f [] ≡ 0) (one : (c : Channel) (cs : List Channel) → f (c ∷ cs) ≡ c.count + f cs) where
  pub is_held : (l : List Channel) → f l ≡ held l
  unfolding held
  is_held [] = none
  is_held (c ∷ cs) = one c cs ∙ ap (λ (n : ℕ). c.count + n) (is_held cs)

-- before place i: what was added up and what is left make up all
pub record Added (l : List Channel) (sum i : ℕ) : Type 0 where
  pub few : sum ≤ channel_places * i
  pub rest : sum + held (drop i l) ≡ held l

module _ {l : List Channel} {sum i : ℕ} where
  pub added_one : Added l sum i → (get_or l i no_channel).count ≤ channel_places → Added l (sum + (get_or l i no_channel).count) (i + 1)
  added_one r h =
      let turn : held (drop i l) ≡ (get_or l i no_channel).count + held (drop (i + 1) l) = rw add-one (held_turn l i) in
      let few = r.few in
      let rest = r.rest in
      record { few = omega arith; rest = omega arith }

  pub added_all : Added l sum i → length l ≤ i → sum ≡ held l
  added_all r h =
      let none = held_none l i h in
      let rest = r.rest in
      omega arith
