-- 16, 18 and 17 of a tick in plain words: which of them holds first, and what is so where none holds.
-- One of the five cases is always so, and each says what the list of grounds gives.
use Prim.Native.Nat.{ℕ, ◌/◌, ◌%◌, ◌<◌, ◌≤◌}
use mathlib.Core.Path.{◌≡◌, sym, subst, ◌∙◌}
use mathlib.Core.Logic.{◌⊎◌, inl, inr, ◌↔◌}
use mathlib.Core.Bool.{true, false}
use mathlib.Core.List.{List}
use Rattle.std.specs.Prelude.{None, Some}
use borrow.Author.Tests.{eqb-true, eqb-false, eq-eqb, ne_eqb, ltb-true, ltb-false, lt-ltb, le-ltb}
use lib.Dec.{eqb, ltb}
use lib.ListN.{length}
use Rattle.base.specs.Grounds.{refusal}
use Rattle.base.specs.declared.Refusal.{Refusal}
use Rattle.base.specs.declared.Refusal.TheVariants.{NotSound, ShortList, NotRecords}
use Rattle.base.proofs.Logic.{split, none_some, some_same}
use Rattle.chassis.specs.Capacities.{most_record_bytes}
use Rattle.network.specs.declared.State.{State}
use Rattle.network.specs.Soundness.{sound}
use Rattle.ticks.specs.Ticks.{tick_grounds}

-- the first that holds
pub data TickGround (s : State) (b out : List ℕ) : Refusal → Type 0 where
  -- 16: the state is not sound
  not_sound : sound s ≡ false → TickGround s b out NotSound
  -- 18: the bytes are not whole records, or those of more than 63
  not_eights : sound s ≡ true → (length b % 8 ≡ 0 → ⊥) → TickGround s b out NotRecords
  too_many : sound s ≡ true → length b % 8 ≡ 0 → most_record_bytes < length b → TickGround s b out NotRecords
  -- 17: the answer list is shorter than the number of records
  too_short : sound s ≡ true → length b % 8 ≡ 0 → length b ≤ most_record_bytes → length out < length b / 8 → TickGround s b out ShortList

-- none holds
pub record Admitted (s : State) (b out : List ℕ) : Type 0 where
  pub is_sound : sound s ≡ true
  pub whole : length b % 8 ≡ 0
  pub few : length b ≤ most_record_bytes
  pub places : length b / 8 ≤ length out

module _ (s : State) (b out : List ℕ) where
  holds : (n : Refusal) → TickGround s b out n → refusal (tick_grounds s b out) ≡ Some n
  unfolding tick_grounds
  holds _ (not_sound h) = rw h
  holds _ (not_eights h k) = rw (h, ne_eqb (length b % 8) 0 k)
  holds _ (too_many h k l) = rw (h, eq-eqb (length b % 8) 0 k, lt-ltb most_record_bytes (length b) l)
  holds _ (too_short h k l m) = rw (h, eq-eqb (length b % 8) 0 k, le-ltb most_record_bytes (length b) l, lt-ltb (length out) (length b / 8) m)

  none_holds : Admitted s b out → refusal (tick_grounds s b out) ≡ None
  unfolding tick_grounds
  none_holds a =
      rw (a.is_sound, eq-eqb (length b % 8) 0 a.whole, le-ltb most_record_bytes (length b) a.few, le-ltb (length out) (length b / 8) a.places)

  one_or_none : ((n : Refusal) × TickGround s b out n) ⊎ Admitted s b out
  one_or_none =
      split (sound s)
      (λ h. split (eqb (length b % 8) 0)
      (λ k. let w = eqb-true (length b % 8) 0 k in split (ltb most_record_bytes (length b))
      (λ l. inl (NotRecords, too_many h w (ltb-true most_record_bytes (length b) l)))
      (λ l. let f = ltb-false most_record_bytes (length b) l in split (ltb (length out) (length b / 8))
      (λ m. inl (ShortList, too_short h w f (ltb-true (length out) (length b / 8) m)))
      (λ m. inr (record { is_sound = h; whole = w; few = f; places = ltb-false (length out) (length b / 8) m }))))
      (λ k. inl (NotRecords, not_eights h (eqb-false (length b % 8) 0 k))))
      (λ h. inl (NotSound, not_sound h))

  pub first_tick_ground : (n : Refusal) → (refusal (tick_grounds s b out) ≡ Some n) ↔ TickGround s b out n
  first_tick_ground n = (λ g. by g one_or_none, holds n)
    where
      by : refusal (tick_grounds s b out) ≡ Some n → ((m : Refusal) × TickGround s b out m) ⊎ Admitted s b out → TickGround s b out n
      by g (inl c) = let e = some_same c.0 n (sym (holds c.0 c.1) ∙ g) in subst (TickGround s b out) e c.1
      by g (inr a) = absurd (none_some {a = n} (none_holds a) g)

  pub no_tick_ground : (refusal (tick_grounds s b out) ≡ None) ↔ Admitted s b out
  no_tick_ground = (λ g. by g one_or_none, none_holds)
    where
      by : refusal (tick_grounds s b out) ≡ None → ((m : Refusal) × TickGround s b out m) ⊎ Admitted s b out → Admitted s b out
      by g (inl c) = absurd (none_some {a = c.0} g (holds c.0 c.1))
      by g (inr a) = a
