-- On a sound state an event's plan carried out is its step, with the step's own value.
use Rattle.std.specs.Prelude.{Some, None, Result, Ok, Err}
use Prim.Native.Nat.{ℕ, ◌+◌}
use mathlib.Core.Path.{◌≡◌, refl, ap, sym, subst, ◌∙◌}
use mathlib.Core.Bool.{true, cond}
use Rattle.base.specs.Grounds.{refusal}
use lib.ListN.{get_or}
use Rattle.base.specs.declared.Refusal.{Refusal}
use Rattle.base.specs.declared.Refusal.TheVariants.{UnfitRecord}
use Rattle.base.proofs.Logic.{split, there, and_true, some_same}
use Rattle.base.proofs.Grounds.{told, answered_ok, answered_err, ok_same, by_result}
use Rattle.base.proofs.Cells.{find_in}
use Rattle.chassis.specs.declared.Agent.{Agent}
use Rattle.chassis.specs.declared.Chan.{Chan}
use Rattle.chassis.specs.Tables.{table_passes}
use Rattle.queue.specs.declared.Transaction.{Transaction}
use Rattle.queue.specs.code.Changes.{look_of}
use Rattle.queue.specs.Packing.{live}
use Rattle.queue.specs.Entries.{is_named}
use Rattle.queue.specs.Queues.{oldest}
use Rattle.network.specs.declared.State.{State}
use Rattle.network.specs.Nets.{Net, view, pack, waiting, begun}
use Rattle.network.specs.Soundness.{sound, keeps_the_rules}
use Rattle.network.specs.code.Acts.{channel_at, acted_on, counted}
use Rattle.network.proofs.Packing.{sound_is_packed}
use Rattle.network.proofs.Good.{Good, sound_is_good}
use Rattle.events.specs.Records.{Decoded}
use Rattle.events.specs.declared.Event.{Event}
use Rattle.judge_events.specs.declared.Plan.{Plan}
use Rattle.events.specs.Grounds.{grounds, Accepted}
use Rattle.events.specs.Effects.{after, value}
use Rattle.judge_events.specs.Plans.{accepted_plan, plan, record_plan, carried_out}
use Rattle.events.specs.Steps.{inner_step, record_step}
use Rattle.events.specs.Accounts.{account, is_begin}
use Rattle.events.specs.declared.Outcome.{Outcome}
use Rattle.events.proofs.SoundStays.{Right}
use Rattle.events.proofs.TakenSteps.{inner_is}
use Rattle.play_events.specs.Notices.{Aimed}
use Rattle.play_events.proofs.Shown.{shows}
use Rattle.play_events.proofs.CarriedOut.{accepted_done}

-- a sound state's table passes
pub passes_of : (s : State) → sound s ≡ true → table_passes s.table ≡ true
unfolding sound keeps_the_rules view
passes_of s h = (and_true _ _ (and_true _ _ (and_true _ _ (and_true _ _ h).0).1).0).0

module _ (s : State) (r : Right s) where
  good : Good (view s)
  good = sound_is_good s r.shaped r.is_sound

  packs : s ≡ pack (view s)
  packs = sound_is_packed s r.shaped r.is_sound

  pub table_of : table_passes s.table ≡ true
  unfolding view
  table_of = good.rules.passes

  pub carried_event : (e : Event) → Accepted (view s) e → carried_out s (account e).name.master (accepted_plan (view s) e) ≡ pack (after (view s) e)
  unfolding view
  carried_event e ok =
      subst (λ (x : State). carried_out x (account e).name.master (accepted_plan (view s) e) ≡ pack (after (view s) e)) (sym packs) (accepted_done (view s) good e ok)

-- an accepted plan has the event's value, and only a begin's raises
module _ (n : Net) (e : Event) where
  pub accepted_value : (accepted_plan n e).value ≡ value n e
  unfolding accepted_plan
  accepted_value = refl

  pub accepted_raises : (accepted_plan n e).raises ≡ is_begin e
  unfolding accepted_plan
  accepted_raises = refl

  -- a begin's value is the count that its master then has
  pub raised_value : (accepted_plan n e).raises ≡ true → (accepted_plan n e).value ≡ begun n (account e).name.master + 1
  unfolding accepted_plan value
  raised_value h = rw h

  -- where a plan is accepted no ground holds, and it is the event's own
  pub planned_accepted : {p : Plan} → plan n e ≡ Ok p → Accepted n e
  unfolding plan
  planned_accepted h = answered_ok (accepted_plan n e) (refusal (grounds n e)) h

  pub planned_is : {p : Plan} → plan n e ≡ Ok p → p ≡ accepted_plan n e
  unfolding plan
  planned_is {p} h = let ok = planned_accepted h in sym (ok_same (accepted_plan n e) p (rw ok at h))

-- what the holder of the state has stored is the plan carried out, and so the step
pub stored : (s : State) (r : Right s) (e : Event) (p : Plan) → plan (view s) e ≡ Ok p → (m : Agent) → m ≡ (account e).name.master → (count : ℕ) → count ≡ get_or s.begins m.0 0
    → counted (acted_on (acted_on (acted_on s p.first) p.second) p.third) m (cond p.raises p.value count) ≡ (inner_step s e).state
unfolding carried_out view inner_step
stored s r e p isp m ism count isc =
    let ok = planned_accepted (view s) e isp in
    let is = planned_is (view s) e isp in
    ap (counted (acted_on (acted_on (acted_on s p.first) p.second) p.third) m) (same is)
    ∙ ap (λ (x : Plan). carried_out s m x) is
    ∙ ap (λ (x : Agent). carried_out s x (accepted_plan (view s) e)) ism
    ∙ carried_event s r e ok
    ∙ rw ok
  where
    same : p ≡ accepted_plan (view s) e → cond p.raises p.value count ≡ cond p.raises (get_or s.begins m.0 0 + 1) (get_or s.begins m.0 0)
    same is =
        split p.raises
        (λ h. rw h (ap (λ (x : Plan). x.value) is ∙ raised_value (view s) e (sym (ap (λ (x : Plan). x.raises) is) ∙ h) ∙ rw (← ism)))
        (λ h. rw h isc)

-- and its value the step's
pub answered : (s : State) (e : Event) (p : Plan) → plan (view s) e ≡ Ok p → (inner_step s e).answer ≡ Ok p.value
unfolding inner_step
answered s e p isp =
    rw (planned_accepted (view s) e isp) (ap Ok (sym (ap (λ (x : Plan). x.value) (planned_is (view s) e isp) ∙ accepted_value (view s) e)))

-- a refused one leaves the state
pub refused : (s : State) (e : Event) {n : Refusal} → plan (view s) e ≡ Err n → inner_step s e ≡ record { answer = Err n; state = s }
unfolding inner_step plan
refused s e h = rw (answered_err (accepted_plan (view s) e) (refusal (grounds (view s) e)) h)

-- and so does a record that has none
pub record_refused : (s : State) (d : Decoded) {n : Refusal} → record_plan (view s) d ≡ Err n → record_step s d ≡ record { answer = Err n; state = s }
unfolding record_plan
record_refused s None {n} h = ap (λ (k : Refusal). record { answer = Err k; state = s }) (some_same UnfitRecord n (ap told h))
record_refused s (Some e) h = refused s e h

-- a record's plan carried out is its step, and a record without a plan leaves the state
abbrev pub Carries : State → Decoded → Result Plan Refusal → Type 0
Carries s d (Ok p) = (e : Event) × (d ≡ Some e) × (carried_out s (account e).name.master p ≡ (record_step s d).state)
Carries s d (Err n) = record_step s d ≡ record { answer = Err n; state = s }

pub carried_step : (s : State) (r : Right s) (d : Decoded) → Carries s d (record_plan (view s) d)
unfolding record_plan
carried_step s r None = refl
carried_step s r (Some e) =
    by_result (Carries s (Some e)) (plan (view s) e) (λ n h. refused s e h)
    (λ p h.
    let is = planned_is (view s) e h in
    let ok = planned_accepted (view s) e h in
    (e, refl, ap (carried_out s (account e).name.master) is ∙ carried_event s r e ok ∙ ap (λ (o : Outcome). o.state) (sym (inner_is s e ok))))

-- the entry that is found is bound for an agent of the table
pub target_is : (s : State) (r : Right s) (N : Chan) (k : ℕ) (t : Transaction) → Aimed s.table (look_of k t (live (channel_at s N)))
unfolding look_of view
target_is s r N k t =
    subst (Aimed s.table) (sym (ap (look_of k t) (shows s N)))
    (there (oldest k t (waiting (view s) N)) (λ h. rw h tt) (λ x h. rw h (let f = (good s r).rules.fits N x (find_in (is_named k t) (waiting (view s) N) h) in f.target)))
