-- The turn that a record leaves is that of what was judged of it.
use mathlib.Core.Path.{◌≡◌, refl, sym, ap, ◌∙◌}
use Rattle.std.specs.Prelude.{Some, None, Result, Ok, Err}
use Rattle.base.specs.declared.Refusal.{Refusal}
use Rattle.base.specs.declared.Refusal.TheVariants.{UnfitRecord}
use Rattle.base.specs.Grounds.{refusal, answer}
use Rattle.base.proofs.Grounds.{told, refused_not, ok_same, answered_ok, answered_err}
use Rattle.base.proofs.Logic.{some_same}
use Rattle.network.specs.Nets.{Net}
use Rattle.events.specs.Records.{Decoded}
use Rattle.events.specs.declared.Event.{Event}
use Rattle.events.specs.Grounds.{grounds, Accepted}
use Rattle.events.specs.Steps.{record_grounds}
use Rattle.read_events.specs.Frames.{own_frame, next_of}
use Rattle.judge_events.specs.Plans.{accepted_plan}
use Rattle.compare_events.specs.Feet.{foot}
use Rattle.play_ticks.specs.declared.Turn.{Turn}
use Rattle.play_ticks.specs.Turns.{turn}
use Rattle.lent_plays.specs.declared.Judged.{Judged}
use Rattle.lent_plays.specs.Judged.{judged_of}
use Rattle.lent_ticks.specs.Judged.{turn_told}

-- ---- what is told of a record

abbrev seen : Net → Event → Judged
seen s e = record { frame = own_frame e; next = next_of s e; plan = accepted_plan s e }

module _ (s : Net) where
  -- a turn is that of an accepted event
  pub record Left (d : Decoded) (x : Turn) : Type 0 where
    pub event : Event
    pub is : d ≡ Some event
    pub accepted : Accepted s event
    pub own : x ≡ turn s event

  pub left : (d : Decoded) (x : Turn) → turn_told s d ≡ Ok x → Left d x
  unfolding turn_told
  left None x h = absurd (refused_not UnfitRecord x h)
  left (Some e) x h =
      let ok = answered_ok (turn s e) (refusal (grounds s e)) h in
      record { event = e; is = refl; accepted = ok; own = sym (ok_same (turn s e) x (sym (ap (λ o. answer o (turn s e)) ok) ∙ h)) }

  -- a refusal names the first ground that holds
  pub refused_by : (d : Decoded) {n : Refusal} → turn_told s d ≡ Err n → refusal (record_grounds s d) ≡ Some n
  unfolding turn_told record_grounds
  refused_by None h = ap told h
  refused_by (Some e) h = answered_err (turn s e) (refusal (grounds s e)) h

  -- as it was judged
  pub no_turn : (d : Decoded) {n : Refusal} → judged_of s d ≡ Err n → turn_told s d ≡ Err n
  unfolding judged_of turn_told
  no_turn None {n} h = ap Err (some_same UnfitRecord n (ap told h))
  no_turn (Some e) {n} h = ap (λ o. answer o (turn s e)) (answered_err _ (refusal (grounds s e)) h)

  pub its_turn : (d : Decoded) (j : Judged) → judged_of s d ≡ Ok j
      → turn_told s d ≡ Ok (record { plan = j.plan; master = j.frame.master; foot = foot s.table j.frame.event j.next })
  unfolding judged_of turn_told turn
  its_turn None j h = absurd (refused_not UnfitRecord j h)
  its_turn (Some e) j h =
      let ok = answered_ok (seen s e) (refusal (grounds s e)) h in
      let q : ◌≡◌ {A = Result Judged Refusal} (Ok (seen s e)) (Ok j) = sym (ap (λ o. answer o (seen s e)) ok) ∙ h in
      ap (λ o. answer o (turn s e)) ok ∙ ap (λ (x : Judged). Ok (record { plan = x.plan; master = x.frame.master; foot = foot s.table x.frame.event x.next })) (ok_same (seen s e) j q)
