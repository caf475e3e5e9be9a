-- Demand 3 on bytes: the records of an accepted tick, in any order, are an accepted tick from the same state and end in the same state, with the values
-- moved along; so are they as single steps. A record's value is the one it has alone, and its event goes with it; the rest is said of events.
use Rattle.std.specs.Prelude.{Some, Ok}
use Prim.Native.Nat.{ℕ, ◌/◌, ◌%◌, ◌≤◌}
use native.Mathlib.Omega.{arith}
use mathlib.Core.Path.{◌≡◌, refl, sym, ap, subst, subst⁻¹, ◌∙◌}
use mathlib.Core.Bool.{true}
use mathlib.Core.List.{List, [], ◌∷◌, ◌++◌, map}
use lib.ListN.{length, take, drop, length-map}
use lib.Seq.{take_at, drop_at}
use Rattle.base.specs.Lists.{parts}
use Rattle.base.proofs.Orders.{All, Order, order_length, order_map, order_unmap, paired, paired_map}
use Rattle.base.proofs.Writing.{length_parts}
use Rattle.chassis.specs.Capacities.{most_record_bytes}
use Rattle.network.specs.declared.State.{State}
use Rattle.network.specs.Nets.{view, pack}
use Rattle.network.specs.Shapes.{Shaped}
use Rattle.network.specs.Soundness.{sound}
use Rattle.network.proofs.Good.{sound_is_good}
use Rattle.events.specs.declared.Event.{Event}
use Rattle.events.specs.declared.Outcome.{Outcome}
use Rattle.events.specs.Records.{decoded, records}
use Rattle.events.specs.Grounds.{Accepted}
use Rattle.events.specs.Effects.{value}
use Rattle.events.specs.Steps.{answer_value, step}
use Rattle.events.proofs.TakenSteps.{inner_is}
use Rattle.ticks.specs.Ticks.{tick}
use Rattle.ticks.proofs.OrderCannotMatter.{agrees_too, same_end}
use Rattle.ticks.proofs.TickGrounds.{Admitted, no_tick_ground}
use Rattle.ticks.proofs.TickAcceptsExactly.{Stepped, StepLike, bytes_like, eight_each, Orderly, Ends, was_acceptable, tick_accepts_exactly, tick_ends}

-- the records, eight bytes each
abbrev pub eights : List ℕ → List (List ℕ)
eights b = parts (length b / 8) 8 b

-- the value that a record has alone in s, as a single step
abbrev pub own_value : State → List ℕ → ℕ
own_value s r = answer_value (step s r).answer

-- what the tick of c is, where c holds the records of b in another order
pub record InAnyOrder (s : State) (b c out other : List ℕ) : Type 0 where
  -- it is accepted
  pub accepted : (tick s c other).answer ≡ Ok tt
  -- it ends in the same state
  pub state : (tick s c other).state ≡ (tick s b out).state
  -- each record has the value that it has there: records and values side by side are in that other order too
  pub values : Order (paired (eights b) (tick s b out).answers) (paired (eights c) (tick s c other).answers)
  -- later places of its answer list stay
  pub later : drop (length c / 8) (tick s c other).answers ≡ drop (length c / 8) other
  -- one after the other as single steps, in this order, all are accepted, each with its value, and end in that state
  pub steps : Stepped step s (eights c) (take (length c / 8) (tick s c other).answers) (tick s b out).state

-- ---- an accepted tick's values

like_values : (s : State) → sound s ≡ true → (rs : List (List ℕ)) (es : List Event) → StepLike step rs es → All (Accepted (view s)) es
    → map (value (view s)) es ≡ map (own_value s) rs
like_values s h [] [] k ok = refl
like_values s h [] (e ∷ es) k ok = absurd k
like_values s h (r ∷ rs) [] k ok = absurd k
like_values s h (r ∷ rs) (e ∷ es) k ok =
    let v = ap (λ (o : Outcome). answer_value o.answer) (k.0 s h ∙ inner_is s e ok.0) in
    λ i. sym v i ∷ like_values s h rs es k.1 ok.1 i

module _ (s : State) (w : Shaped s) (b out : List ℕ) (ok : (tick s b out).answer ≡ Ok tt) where
  abbrev admitted : Admitted s b out
  admitted = (no_tick_ground s b out).0 (was_acceptable s b out ok).no_ground

  ends : (o : Orderly (view s) b) → Ends s b out o.events
  ends = tick_ends s w admitted.is_sound b out admitted.whole admitted.few admitted.places

  own_values : (o : Orderly (view s) b) → map (value (view s)) o.events ≡ map (own_value s) (eights b)
  unfolding records
  own_values o =
      like_values s admitted.is_sound (eights b) o.events
      (bytes_like (eights b) o.events (eight_each (length b / 8) b (omega arith)) o.known) o.agreeing.alone

  -- each record's own value at its place; later places as they stood
  pub each_its_own_value : (tick s b out).answers ≡ map (own_value s) (eights b) ++ drop (length b / 8) out
  each_its_own_value =
      let o = (was_acceptable s b out ok).orderly in
      let v = own_values o in
      let n : length o.events ≡ length b / 8 =
      sym (length-map o.events (value (view s))) ∙ ap length v ∙ length-map (eights b) (own_value s) ∙ length_parts (length b / 8) 8 b in
      (ends o).answers ∙ (λ i. v i ++ drop (n i) out)

  -- so are they side by side
  with_values : paired (eights b) (tick s b out).answers ≡ map (λ r. (r, own_value s r)) (eights b)
  with_values = ap (paired (eights b)) each_its_own_value ∙ paired_map (own_value s) (eights b) (drop (length b / 8) out)

  how_many : length (map (own_value s) (eights b)) ≡ length b / 8
  how_many = length-map (eights b) (own_value s) ∙ length_parts (length b / 8) 8 b

  later_stay : drop (length b / 8) (tick s b out).answers ≡ drop (length b / 8) out
  later_stay = ap (drop (length b / 8)) each_its_own_value ∙ drop_at (map (own_value s) (eights b)) (drop (length b / 8) out) (length b / 8) how_many

  in_steps : Stepped step s (eights b) (take (length b / 8) (tick s b out).answers) (tick s b out).state
  in_steps =
      let o = (was_acceptable s b out ok).orderly in
      let t : take (length b / 8) (tick s b out).answers ≡ map (own_value s) (eights b) =
      ap (take (length b / 8)) each_its_own_value ∙ take_at (map (own_value s) (eights b)) (drop (length b / 8) out) (length b / 8) how_many in
      subst (λ (vs : List ℕ). Stepped step s (eights b) vs (tick s b out).state) (own_values o ∙ sym t) (ends o).by_bytes

-- ---- in any order

-- the tick of b is accepted, so s is sound; c is whole records, with a place for each
module _ (s : State) (w : Shaped s) (b c out other : List ℕ) (ok : (tick s b out).answer ≡ Ok tt)
    (whole : length c % 8 ≡ 0) (places : length c / 8 ≤ length other) where
  pub in_any_order : Order (eights b) (eights c) → InAnyOrder s b c out other
  unfolding records
  in_any_order same =
      let o = (was_acceptable s b out ok).orderly in
      let a = admitted s w b out ok in
      let r = order_unmap Some (order_map decoded same) o.events o.known in
      let p : Orderly (view s) c = record { events = r.0; known = r.1; agreeing = agrees_too (view s) r.2 o.agreeing } in
      let n : length b / 8 ≡ length c / 8 = sym (length_parts (length b / 8) 8 b) ∙ order_length same ∙ length_parts (length c / 8) 8 c in
      let few : length c ≤ most_record_bytes = omega (arith, n, whole, a.few) in
      let yes = (tick_accepts_exactly s w a.is_sound c other whole few places).1 p in
      let end = same_end (view s) (sound_is_good s w a.is_sound).rules.passes r.2 o.agreeing in
      let u : (tick s c other).state ≡ (tick s b out).state =
      (tick_ends s w a.is_sound c other whole few places p).state ∙ ap pack end ∙ sym (ends s w b out ok o).state in
      record {
        accepted = yes;
        state = u;
        values = subst⁻¹ (λ l. Order l (paired (eights c) (tick s c other).answers)) (with_values s w b out ok)
            (subst⁻¹ (Order (map (λ r. (r, own_value s r)) (eights b))) (with_values s w c other yes) (order_map (λ r. (r, own_value s r)) same));
        later = later_stay s w c other yes;
        steps = subst (Stepped step s (eights c) (take (length c / 8) (tick s c other).answers)) u (in_steps s w c other yes);
      }
