-- From a sound state the tick accepts exactly the records that are known, accepted alone and without conflict, and ends where single steps lead.
-- Its searches find nothing exactly there; and in listed order, one of the orders that cannot matter, no step is refused and each value is its own.
use Prim.Native.Nat.{ℕ, zero, suc, ◌*◌, ◌/◌, ◌%◌, ◌≤◌}
use native.Mathlib.Omega.{arith}
use mathlib.Core.Path.{◌≡◌, refl, sym, ap, subst, subst⁻¹, ◌∙◌}
use mathlib.Core.Logic.{◌↔◌}
use mathlib.Core.Bool.{true}
use mathlib.Core.List.{List, [], ◌∷◌, ◌++◌, map}
use Rattle.std.specs.Prelude.{None, Some, Ok}
use lib.ListN.{length, drop, length-take, length-drop}
use Rattle.base.specs.Lists.{parts}
use Rattle.base.specs.Grounds.{refusal}
use Rattle.base.proofs.Orders.{All}
use Rattle.chassis.specs.Capacities.{most_record_bytes}
use Rattle.network.specs.declared.State.{State}
use Rattle.network.specs.Nets.{Net, view, pack}
use Rattle.network.specs.Soundness.{sound}
use Rattle.network.specs.Shapes.{Shaped}
use Rattle.network.proofs.Good.{sound_is_good}
use Rattle.network.proofs.Packing.{sound_is_packed, view_pack}
use Rattle.events.specs.declared.Event.{Event}
use Rattle.events.specs.declared.Outcome.{Outcome}
use Rattle.events.specs.Records.{decoded, records}
use Rattle.events.specs.Effects.{value, after}
use Rattle.events.specs.Steps.{inner_step, record_step, step}
use Rattle.events.proofs.TakenSteps.{inner_is}
use Rattle.events.proofs.SoundStays.{Right, sound_stays_sound, shaped_stays_shaped, step_is}
use Rattle.ticks.specs.declared.TickRefusal.TheVariants.{Refused, Conflict}
use Rattle.ticks.specs.Ticks.{end_of, values_of, Ticked, ticked, tick_grounds, tick, TickAnswer}
use Rattle.ticks.proofs.Judged.{never}
use Rattle.ticks.proofs.OrderCannotMatter.{Played, at_end, one_more, Agreeing, in_listed_order, order_cannot_matter}
use Rattle.ticks.proofs.Reordered.{Reordered}
use Rattle.ticks.proofs.Searches.{refuses_none}
use Rattle.ticks.proofs.TickGrounds.{no_tick_ground}
use Rattle.ticks.proofs.Verdicts.{alone, tick_is_by, plays_by, Verdict, at_once, refused, conflicts, accepted, verdict}

-- ---- single steps, one after the other

-- each of these inputs is accepted in the state that the one before it hands back, with these values, and the last hands back this state
pub data Stepped {A : Type 0} (by : State → A → Outcome) : State → List A → List ℕ → State → Type 0 where
  no_step : {s : State} → Stepped by s [] [] s
  a_step : {s u : State} {a : A} {l : List A} {v : ℕ} {vs : List ℕ} → (by s a).answer ≡ Ok v
      → Stepped by (by s a).state l vs u → Stepped by s (a ∷ l) (v ∷ vs) u

-- in a sound state each input steps as its event does
abbrev pub StepLike : {A : Type 0} → (State → A → Outcome) → List A → List Event → Type 0
StepLike by [] [] = Unit {0}
StepLike by [] (e ∷ es) = ⊥
StepLike by (a ∷ l) [] = ⊥
StepLike by (a ∷ l) (e ∷ es) = ((s : State) → sound s ≡ true → by s a ≡ inner_step s e) × StepLike by l es

module _ {A : Type 0} (by : State → A → Outcome) where
  -- what is played on the lists is stepped on the states
  played_is_stepped : (s : State) → Shaped s → sound s ≡ true → (l : List A) (es : List Event) (vs : List ℕ) (u : Net) → StepLike by l es
      → Played (view s) es vs u → Stepped by s l vs (pack u)
  played_is_stepped s w h [] [] _ _ k at_end = subst (Stepped by s [] []) (sound_is_packed s w h) no_step
  played_is_stepped s w h [] (e ∷ es) vs u k p = absurd k
  played_is_stepped s w h (a ∷ l) [] vs u k p = absurd k
  played_is_stepped s w h (a ∷ l) (e ∷ es) _ u k (one_more {vs = vs} ok p) =
      let q = k.0 s h ∙ inner_is s e ok in
      let t = pack (after (view s) e) in
      a_step (ap (λ (o : Outcome). o.answer) q)
      (subst⁻¹ (λ (o : Outcome). Stepped by o.state l vs (pack u)) q
      (played_is_stepped t (shaped_stays_shaped s w h e ok) (sound_stays_sound s w h e ok) l es vs u k.1
      (subst⁻¹ (λ (n : Net). Played n es vs u) (view_pack (after (view s) e)) p)))

-- an event steps as itself; eight bytes step as the event that they are
inner_like : (es : List Event) → StepLike inner_step es es
inner_like [] = tt
inner_like (e ∷ es) = (λ s h. refl, inner_like es)

pub bytes_like : (rs : List (List ℕ)) (es : List Event) → All (λ r. length r ≡ 8) rs → map decoded rs ≡ map Some es → StepLike step rs es
bytes_like [] [] a q = tt
bytes_like [] (e ∷ es) a q = let z : ◌≡◌ {A = ℕ} 0 1 = cc in omega arith
bytes_like (r ∷ rs) [] a q = let z : ◌≡◌ {A = ℕ} 0 1 = cc in omega arith
bytes_like (r ∷ rs) (e ∷ es) a q =
    let d : decoded r ≡ Some e = cc in
    let k : map decoded rs ≡ map Some es = cc in
    (λ s h. step_is s r h a.0 ∙ ap (record_step s) d, bytes_like rs es a.1 k)

-- where what is played leads, the state is right again
pub stays_right : (s : State) → Shaped s → sound s ≡ true → (es : List Event) (vs : List ℕ) (u : Net) → Played (view s) es vs u → Right (pack u)
stays_right s w h [] _ _ at_end = subst Right (sound_is_packed s w h) (record { shaped = w; is_sound = h })
stays_right s w h (e ∷ es) _ u (one_more {vs = vs} ok p) =
    stays_right (pack (after (view s) e)) (shaped_stays_shaped s w h e ok) (sound_stays_sound s w h e ok) es vs u
    (subst⁻¹ (λ (n : Net). Played n es vs u) (view_pack (after (view s) e)) p)

-- ---- the tick

-- eight bytes each
pub eight_each : (k : ℕ) (b : List ℕ) → 8 * k ≤ length b → All (λ r. length r ≡ 8) (parts k 8 b)
unfolding parts
eight_each zero b h = tt
eight_each (suc k) b h = (simp length-take (omega arith), eight_each k (drop 8 b) (simp length-drop (omega arith)))

-- the values in listed order
played_values : (s u : Net) (es : List Event) (vs : List ℕ) → Played s es vs u → values_of s es ≡ vs
unfolding values_of
played_values s _ [] _ at_end = refl
played_values s u (e ∷ es) _ (one_more {vs = vs} ok p) = ap (value s e ∷◌) (played_values (after s e) u es vs p)

-- the records of the bytes are these events: all are known, each is accepted alone, no two conflict
pub record Orderly (s : Net) (b : List ℕ) : Type 0 where
  pub events : List Event
  pub known : records b ≡ map Some events
  pub agreeing : Agreeing s events

-- nothing stands against the tick
pub record Acceptable (s : State) (b out : List ℕ) : Type 0 where
  -- neither 16 nor 18 nor 17 holds
  pub no_ground : refusal (tick_grounds s b out) ≡ None
  -- the records are known events, each is accepted alone and no two conflict
  pub orderly : Orderly (view s) b

-- where an accepted tick ends
pub record Ends (s : State) (b out : List ℕ) (es : List Event) : Type 0 where
  -- the values that the events have alone, each at its place; later places as they stood
  pub answers : (tick s b out).answers ≡ map (value (view s)) es ++ drop (length es) out
  pub state : (tick s b out).state ≡ pack (end_of (view s) es)
  -- one after the other none is refused, and each has the value that it has alone
  pub played : Played (view s) es (map (value (view s)) es) (end_of (view s) es)
  -- and in every other order, to the same end
  pub in_any_order : (fs : List Event) → Reordered es fs → Played (view s) fs (map (value (view s)) fs) (end_of (view s) es)
  -- so by single steps, of the events and of the record bytes
  pub by_events : Stepped inner_step s es (map (value (view s)) es) (tick s b out).state
  pub by_bytes : Stepped step s (parts (length b / 8) 8 b) (map (value (view s)) es) (tick s b out).state
  pub right : Right (tick s b out).state

module _ (s : State) (b out : List ℕ) where
  pub is_ticked : (a : Acceptable s b out) → tick s b out ≡ ticked s out a.orderly.events
  is_ticked a =
      let o = a.orderly in
      tick_is_by s b out
      ∙ plays_by alone ticked s b out o.events a.no_ground o.known (refuses_none (view s) 0 o.events o.agreeing.alone) o.agreeing.apart

  pub was_acceptable : (tick s b out).answer ≡ Ok tt → Acceptable s b out
  was_acceptable = by (tick s b out).answer (verdict s b out)
    where
      by : (a : TickAnswer) → Verdict s b out a → a ≡ Ok tt → Acceptable s b out
      by _ (at_once n g) e = absurd (never (Refused n 0) e)
      by _ (refused n i g r) e = absurd (never (Refused n i) e)
      by _ (conflicts i j es g w r) e = absurd (never (Conflict i j) e)
      by _ (accepted es g w p) e = record { no_ground = g; orderly = record { events = es; known = w.known; agreeing = record { alone = w.alone; apart = p } } }

module _ (s : State) (w : Shaped s) (h : sound s ≡ true) (b out : List ℕ)
    (whole : length b % 8 ≡ 0) (few : length b ≤ most_record_bytes) (places : length b / 8 ≤ length out) where
  abbrev so : Orderly (view s) b → Acceptable s b out
  so o = record { no_ground = (no_tick_ground s b out).1 (record { is_sound = h; whole = whole; few = few; places = places }); orderly = o }

  pub tick_accepts_exactly : ((tick s b out).answer ≡ Ok tt) ↔ Orderly (view s) b
  tick_accepts_exactly = (λ k. (was_acceptable s b out k).orderly, λ o. ap (λ (t : Ticked). t.answer) (is_ticked s b out (so o)))

  pub tick_ends : (o : Orderly (view s) b) → Ends s b out o.events
  unfolding records
  tick_ends o =
      let es = o.events in
      let t = is_ticked s b out (so o) in
      let vs = map (value (view s)) es in
      let u = end_of (view s) es in
      let passed = (sound_is_good s w h).rules.passes in
      let p = in_listed_order (view s) passed es o.agreeing in
      let back = sym (ap (λ (r : Ticked). r.state) t) in
      record {
        answers = ap (λ (r : Ticked). r.answers) t ∙ ap (λ (l : List ℕ). l ++ drop (length es) out) (played_values (view s) u es vs p);
        state = ap (λ (r : Ticked). r.state) t;
        played = p;
        in_any_order = λ fs r. order_cannot_matter (view s) passed es fs o.agreeing r;
        by_events = subst (Stepped inner_step s es vs) back (played_is_stepped inner_step s w h es es vs u (inner_like es) p);
        by_bytes = subst (Stepped step s (parts (length b / 8) 8 b) vs) back
            (played_is_stepped step s w h (parts (length b / 8) 8 b) es vs u
            (bytes_like (parts (length b / 8) 8 b) es (eight_each (length b / 8) b (omega arith)) o.known) p);
        right = subst Right back (stays_right s w h es vs u p);
      }
