-- Turns that agree, all judged in the starting state, are carried out one after the other as single steps would be.
-- Each is, after those before it, as it was at the start (`Again`): it does the same and says the same, so its first plan still is its plan.
use Prim.Native.Nat.{ℕ, ◌+◌}
use mathlib.Core.Path.{◌≡◌, refl, sym, ap, subst, subst⁻¹, ◌∙◌}
use mathlib.Core.Bool.{true, cond}
use mathlib.Core.List.{List, [], ◌∷◌, map}
use lib.ListN.{get_or}
use Rattle.base.proofs.Logic.{split}
use Rattle.base.proofs.Orders.{All, all_map, all_both}
use Rattle.chassis.specs.declared.Agent.{Agent}
use Rattle.network.specs.declared.State.{State}
use Rattle.network.specs.Nets.{Net, view, pack}
use Rattle.network.specs.Edits.{Edit, edits}
use Rattle.network.specs.code.Acts.{acted_on, counted}
use Rattle.network.proofs.Good.{Good, sound_is_good}
use Rattle.network.proofs.Packing.{sound_is_packed, view_pack}
use Rattle.events.specs.declared.Event.{Event}
use Rattle.events.specs.Grounds.{Accepted}
use Rattle.events.specs.Effects.{effects, after, value}
use Rattle.events.specs.Accounts.{account}
use Rattle.events.proofs.SoundStays.{Right, sound_stays_sound, shaped_stays_shaped}
use Rattle.judge_events.specs.declared.Plan.{Plan}
use Rattle.judge_events.specs.Plans.{accepted_plan, carried_out}
use Rattle.play_events.proofs.CarriedOut.{Small, small, small_after, done_elsewhere}
use Rattle.play_events.proofs.Carried.{accepted_value, accepted_raises, raised_value}
use Rattle.ticks.specs.Ticks.{end_of}
use Rattle.ticks.proofs.Begins.{Again}
use Rattle.ticks.proofs.OrderCannotMatter.{Agreeing, rest_stands, rest_agrees}
use Rattle.play_ticks.specs.Turns.{turn, turned, all_turned, turn_values}

-- ---- one turn

-- judged in s, carried out in u, where it is as it was
module _ (s : Net) (u : State) (right : Right u) (e : Event) (ok : Accepted s e) (again : Again s (view u) e) where
  good : Good (view u)
  good = sound_is_good u right.shaped right.is_sound

  packs : u ≡ pack (view u)
  packs = sound_is_packed u right.shaped right.is_sound

  -- the count that it raises is the one that it raised at the start
  same_count : (accepted_plan s e).raises ≡ true → (accepted_plan s e).value ≡ get_or u.begins (account e).name.master.0 0 + 1
  unfolding view
  same_count h =
      let n = view u in
      accepted_value s e
      ∙ sym again.says
      ∙ sym (accepted_value n e)
      ∙ raised_value n e (accepted_raises n e ∙ sym (accepted_raises s e) ∙ h)

  abbrev m : Agent
  m = (account e).name.master

  same_raised : cond (accepted_plan s e).raises (accepted_plan s e).value (get_or u.begins m.0 0)
      ≡ cond (accepted_plan s e).raises (get_or u.begins m.0 0 + 1) (get_or u.begins m.0 0)
  same_raised =
      split (accepted_plan s e).raises
      (λ h. rw h (same_count h))
      (λ h. rw h)

  abbrev carries : Plan → ℕ → State
  carries p n = counted (acted_on (acted_on (acted_on u p.first) p.second) p.third) m n

  fits : Small (edits (effects s e) (view u))
  unfolding after
  fits = subst (λ (ds : List Edit). Small (edits ds (view u))) again.does (small_after (view u) good e again.accepted)

  pub turned_is : turned u (turn s e) ≡ pack (after (view u) e)
  unfolding turned turn carried_out after
  turned_is =
      ap (carries (accepted_plan s e)) same_raised
      ∙ subst (λ (x : State). carried_out x m (accepted_plan s e) ≡ pack (edits (effects s e) (view u))) (sym packs) (done_elsewhere s (view u) (small (view u) good) e ok fits)
      ∙ ap (λ (ds : List Edit). pack (edits ds (view u))) (sym again.does)

-- ---- all of them

again_then : (s u v : Net) (f : Event) → Again s u f → Again u v f → Again s v f
again_then s u v f a b = record { accepted = b.accepted; does = b.does ∙ a.does; says = b.says ∙ a.says; stands = b.stands ∙ a.stands }

again_first : (s : Net) (f : Event) → Accepted s f → Again s s f
again_first s f ok = record { accepted = ok; does = refl; says = refl; stands = refl }

carried_along : (s : Net) (u : State) → Right u → (es : List Event) → All (Accepted s) es → All (Again s (view u)) es → Agreeing (view u) es
    → all_turned u (map (turn s) es) ≡ pack (end_of (view u) es)
unfolding all_turned end_of
carried_along s u right [] ok again g = sound_is_packed u right.shaped right.is_sound
carried_along s u right (e ∷ es) ok again g =
    let passes = (sound_is_good u right.shaped right.is_sound).rules.passes in
    let v = pack (after (view u) e) in
    let back = view_pack (after (view u) e) in
    let k = g.alone.0 in
    let then = all_both (Again s (view u)) (Again (view u) (after (view u) e)) (Again s (after (view u) e)) es (λ f a b. again_then s (view u) (after (view u) e) f a b) again.1 (rest_stands (view u) passes e es g) in
    ap (λ (x : State). all_turned x (map (turn s) es)) (turned_is s u right e ok.0 again.0)
    ∙ carried_along s v (record { shaped = shaped_stays_shaped u right.shaped right.is_sound e k; is_sound = sound_stays_sound u right.shaped right.is_sound e k }) es ok.1
    (subst⁻¹ (λ (n : Net). All (Again s n) es) back then)
    (subst⁻¹ (λ (n : Net). Agreeing n es) back (rest_agrees (view u) passes e es g))
    ∙ ap (λ (n : Net). pack (end_of n es)) back

pub carried_together : (s : State) → Right s → (es : List Event) → Agreeing (view s) es → all_turned s (map (turn (view s)) es) ≡ pack (end_of (view s) es)
carried_together s right es g = carried_along (view s) s right es g.alone (all_map (Accepted (view s)) (Again (view s) (view s)) es (again_first (view s)) g.alone) g

-- each value is the one that the event has alone
pub values_together : (s : Net) (es : List Event) → turn_values (map (turn s) es) ≡ map (value s) es
unfolding turn
values_together s [] = refl
values_together s (e ∷ es) = rw (accepted_value s e, values_together s es)
