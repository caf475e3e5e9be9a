-- What was judged of a record is what its definition says; and a record refused, or its plan settled, is its step.
use Rattle.std.specs.Prelude.{Option, Some, None, Result, Ok, Err}
use Prim.Native.Nat.{ℕ, ◌<◌}
use mathlib.Core.Path.{◌≡◌, refl, ap, sym, subst, ◌∙◌}
use mathlib.Core.Bool.{true, false}
use mathlib.Core.List.{List}
use native.Mathlib.Omega.{arith}
use lib.ListN.{get_or, length}
use borrow.Author.Tests.{ne_eqb}
use Rattle.base.specs.declared.Refusal.{Refusal}
use Rattle.base.specs.declared.Refusal.TheVariants.{UnfitRecord, NotSound, NotRecords}
use Rattle.base.specs.Grounds.{refusal}
use Rattle.base.proofs.Logic.{some_same}
use Rattle.base.proofs.Grounds.{told, refused_not, ok_same, answered_ok, answered_err, by_result}
use Rattle.chassis.specs.declared.NextPlace.{NextPlace}
use Rattle.chassis.specs.declared.Table.{Table}
use Rattle.chassis.specs.Capacities.{most_agents, most_channels}
use Rattle.chassis.specs.Channels.{has_chan}
use Rattle.queue.specs.declared.Look.{Look}
use Rattle.queue.specs.Packing.{live}
use Rattle.lent_channels.specs.Looks.{look_asked}
use Rattle.network.specs.declared.State.{State}
use Rattle.network.specs.Nets.{Net, view}
use Rattle.network.specs.Soundness.{sound}
use Rattle.network.specs.code.Acts.{channel_at, acted_on}
use Rattle.events.specs.declared.Event.{Event}
use Rattle.events.specs.declared.Outcome.{Outcome}
use Rattle.events.specs.Records.{Decoded, decoded}
use Rattle.events.specs.Accounts.{account}
use Rattle.events.specs.Grounds.{grounds, Accepted}
use Rattle.events.specs.Steps.{inner_step, record_step, step_grounds, step, step_on, Answer}
use Rattle.events.proofs.SoundStays.{Right, step_is}
use Rattle.read_events.specs.declared.Frame.{Frame}
use Rattle.read_events.specs.Frames.{frame, own_frame, next_of}
use Rattle.read_events.specs.Sights.{small, next_told}
use Rattle.judge_events.specs.declared.Plan.{Plan}
use Rattle.judge_events.specs.Verdicts.{Verdict}
use Rattle.play_events.specs.declared.Notice.{Notice}
use Rattle.play_events.specs.Notices.{Aimed, beside}
use Rattle.judge_events.specs.Plans.{accepted_plan, plan, record_plan}
use Rattle.play_events.proofs.Told.{unframed}
use Rattle.play_events.proofs.Carried.{planned_accepted, planned_is, stored, answered, record_refused}
use Rattle.play_events.proofs.Reading.{planned, mastered}
use Rattle.lent_plays.specs.declared.Judged.{Judged}
use Rattle.lent_plays.specs.Asks.{sought_for, plan_seen, InPlace, Stored, settled}
use Rattle.lent_plays.specs.Judged.{judged_of}
use Rattle.lent_plays.proofs.Answered as seen

-- ---- what was judged

-- a frame that was read off the state's table
pub frame_is : (s : State) (d : Decoded) {T : Table} {x f : Result Frame Refusal} → x ≡ frame T d → T ≡ s.table → x ≡ f → frame s.table d ≡ f
frame_is s d isx ist isf = ap (λ (T : Table). frame T d) (sym ist) ∙ sym isx ∙ isf

pub below : {n : ℕ} → n < most_channels → n < 255
below h = omega arith

-- a plan that is refused, and one that is not
module _ (n : Net) (e : Event) where
  judged_err : {k : Refusal} → plan n e ≡ Err k → judged_of n (Some e) ≡ Err k
  unfolding plan judged_of
  judged_err h = rw (answered_err (accepted_plan n e) (refusal (grounds n e)) h)

  judged_ok : Accepted n e → judged_of n (Some e) ≡ Ok (record { frame = own_frame e; next = next_of n e; plan = accepted_plan n e })
  unfolding judged_of
  judged_ok h = rw h

plan_unframed : (s : State) (e : Event) {k : Refusal} → frame s.table (Some e) ≡ Err k → plan (view s) e ≡ Err k
unfolding record_plan view
plan_unframed s e h = unframed (view s) (Some e) h

pub judged_unframed : (s : State) (d : Decoded) {k : Refusal} → frame s.table d ≡ Err k → Err k ≡ judged_of (view s) d
unfolding judged_of
judged_unframed s None {k} h = ap Err (sym (some_same UnfitRecord k (ap told h)))
judged_unframed s (Some e) h = sym (judged_err (view s) e (plan_unframed s e h))

module _ (s : State) (r : Right s) (d : Decoded) (f : Frame) (isf : frame s.table d ≡ Ok f) where
  is : d ≡ Some f.event
  is = (seen.frames s r d f isf).is

  pub judged_refused : {k : Refusal} → plan_seen s s.table f (seen.n s r d f isf) ≡ Err k → Err k ≡ judged_of (view s) d
  judged_refused h = sym (ap (judged_of (view s)) is ∙ judged_err (view s) f.event (sym ((seen.answered s r d f isf).0) ∙ h))

  pub judged_planned : (p : Plan) → plan_seen s s.table f (seen.n s r d f isf) ≡ Ok p → (x : NextPlace) → x ≡ seen.on s f
      → Ok (record { frame = f; next = x; plan = p }) ≡ judged_of (view s) d
  judged_planned p h x isx =
      let own = sym ((seen.answered s r d f isf).0) ∙ h in
      rw (planned_is (view s) f.event own, isx, seen.next_seen s r d f isf)
      (ap (λ (g : Frame). Ok (record { frame = g; next = next_of (view s) f.event; plan = accepted_plan (view s) f.event })) (seen.frames s r d f isf).own)
      ∙ sym (ap (judged_of (view s)) is ∙ judged_ok (view s) f.event (planned_accepted (view s) f.event own))

-- step by step, as the code goes: the look, the next place, the notice and the plan are those of the frame
module _ (s : State) (r : Right s) (d : Decoded) (f : Frame) (isf : frame s.table d ≡ Ok f) {T : Table} (ist : T ≡ s.table) {l : Option Look} (isl : l ≡ look_asked (sought_for f) (live (channel_at s f.at))) where
  pub there_and_aimed : (has_chan T f.at ≡ true) × Aimed T l
  there_and_aimed = rw (ist, isl) ((seen.frames s r d f isf).has_at, seen.aims s r d f isf)

  pub low : f.at.0 < 255
  low = below (seen.frames s r d f isf).at

  module _ {x : NextPlace} (isx : x ≡ next_told T f.event f.at l) where
    next_is : x ≡ seen.on s f
    next_is = isx ∙ rw (ist, isl)

    pub next_small : small x
    next_small = rw next_is (seen.next_small s r d f isf)

    module _ {n : Notice} (isn : n ≡ beside T f l x) where
      beside_is : n ≡ seen.n s r d f isf
      beside_is = isn ∙ rw (ist, isl, next_is)

      pub in_place : InPlace f n
      in_place = subst (InPlace f) (sym beside_is) (seen.in_place s r d f isf)

      module _ {a : Verdict} (isa : a ≡ plan_seen s T f n) where
        plan_is : a ≡ plan_seen s s.table f (seen.n s r d f isf)
        plan_is = isa ∙ ap (λ (t : Table). plan_seen s t f n) ist ∙ ap (plan_seen s s.table f) beside_is

        pub was_refused : {k : Refusal} → a ≡ Err k → Err k ≡ judged_of (view s) d
        was_refused h = judged_refused s r d f isf (sym plan_is ∙ h)

        pub was_planned : (p : Plan) → a ≡ Ok p → Ok (record { frame = f; next = x; plan = p }) ≡ judged_of (view s) d
        was_planned p h = judged_planned s r d f isf p (sym plan_is ∙ h) x next_is

-- ---- and what it makes of the state

-- the state and the answer of a step
abbrev pub Stepped : Outcome → Answer → State → Type 0
Stepped o a z = (z ≡ o.state) × (a ≡ o.answer)

as_stepped : (o p : Outcome) → o ≡ p → Stepped p o.answer o.state
as_stepped o p e = (ap (λ (x : Outcome). x.state) e, ap (λ (x : Outcome). x.answer) e)

plan_refused : (n : Net) (d : Decoded) {k : Refusal} → judged_of n d ≡ Err k → record_plan n d ≡ Err k
unfolding judged_of record_plan plan
plan_refused n None {k} h = ap Err (some_same UnfitRecord k (ap told h))
plan_refused n (Some e) h = rw (answered_err _ (refusal (grounds n e)) h)

pub refused_step : (s : State) (d : Decoded) {k : Refusal} → judged_of (view s) d ≡ Err k → Stepped (record_step s d) (Err k) s
refused_step s d {k} h = as_stepped (record { answer = Err k; state = s }) (record_step s d) (sym (record_refused s d (plan_refused (view s) d h)))

-- an accepted record is an event, judged by its own plan
pub record Own (n : Net) (d : Decoded) (j : Judged) : Type 0 where
  pub event : Event
  pub is : d ≡ Some event
  pub accepted : plan n event ≡ Ok j.plan
  pub framed : j.frame ≡ own_frame event
  pub next : j.next ≡ next_of n event

own : (n : Net) (d : Decoded) (j : Judged) → judged_of n d ≡ Ok j → Own n d j
unfolding judged_of plan
own n None j h = absurd (refused_not UnfitRecord j h)
own n (Some e) j h =
    let told : Judged = record { frame = own_frame e; next = next_of n e; plan = accepted_plan n e } in
    let o = answered_ok told (refusal (grounds n e)) h in
    let q : ◌≡◌ {A = Result Judged Refusal} (Ok told) (Ok j) = rw o at h in
    let same : told ≡ j = ok_same told j q in
    record { event = e; is = refl; accepted = rw o (ap (λ (x : Judged). Ok x.plan) same); framed = sym (ap (λ (x : Judged). x.frame) same); next = sym (ap (λ (x : Judged). x.next) same) }

module _ (s : State) (r : Right s) (d : Decoded) (j : Judged) (h : judged_of (view s) d ≡ Ok j) where
  its : Own (view s) d j
  its = own (view s) d j h

  -- every place that is stored to is there
  pub storing : Stored j.frame.master j.plan
  storing =
      let p = planned s r its.event its.accepted in
      record { first = p.first; second = p.second; third = p.third; master = subst (λ (f : Frame). f.master.0 < most_agents) (sym its.framed) (mastered s r its.event its.accepted) }

  -- so is the channel that its event names, and its next place is a channel of the table or the target
  pub foot_there : (has_chan s.table (account j.frame.event).channel ≡ true) × small j.next
  unfolding own
  foot_there =
      by_result (λ _. (has_chan s.table (account j.frame.event).channel ≡ true) × small j.next) (frame s.table d)
      (λ k q. absurd (refused_not k j (judged_unframed s d q ∙ h)))
      (λ f q.
      let k = seen.frames s r d f q in
      let o = own (view s) (Some f.event) j (ap (judged_of (view s)) (sym k.is) ∙ h) in (
        subst (λ (x : Frame). has_chan s.table (account x.event).channel ≡ true) (sym o.framed) k.named,
        subst small (sym o.next) (subst small (seen.next_seen s r d f q) (seen.next_small s r d f q)),
      ))

  pub settled_step : Stepped (record_step s d) (Ok j.plan.value) (settled s j.frame.master j.plan)
  unfolding settled acted_on
  settled_step =
      let step : inner_step s its.event ≡ record_step s d = sym (ap (record_step s) its.is) in (
        stored s r its.event j.plan its.accepted j.frame.master (ap (λ (x : Frame). x.master) its.framed) (get_or s.begins j.frame.master.0 0) refl ∙ ap (λ (o : Outcome). o.state) step,
        sym (answered s its.event j.plan its.accepted) ∙ ap (λ (o : Outcome). o.answer) step,
      )

-- ---- the step on its own: 16 and 18 in front

module _ (s : State) (b : List ℕ) where
  pub unsound_step : sound s ≡ false → Stepped (step s b) (Err NotSound) s
  unfolding step step_grounds
  unsound_step h = rw h (refl, refl)

  pub unfit_step : sound s ≡ true → (length b ≡ 8 → ⊥) → Stepped (step s b) (Err NotRecords) s
  unfolding step step_grounds
  unfit_step h l = rw (h, ne_eqb (length b) 8 l) (refl, refl)

  -- then the record
  pub as_record : {a : Answer} {z : State} → sound s ≡ true → length b ≡ 8 → Stepped (record_step s (decoded b)) a z → Stepped (step s b) a z
  as_record {a} {z} h l p = subst (λ (o : Outcome). Stepped o a z) (sym (step_is s b h l)) p

-- on a step record
pub unsound_on : (s : State) (e : Event) → sound s ≡ false → record { answer = Err NotSound; state = s } ≡ step_on s e
unfolding step_on
unsound_on s e h = rw h

pub sound_on : (s : State) (e : Event) → sound s ≡ true → inner_step s e ≡ step_on s e
unfolding step_on
sound_on s e h = rw h
