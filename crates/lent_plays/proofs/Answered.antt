-- What the channels of a lent state answer makes the event's own plan.
-- A question that is not put is one whose answer no ground reads: of a begin no entry is looked for, and where the entry is not there
-- nothing else decides.
use Rattle.std.specs.Prelude.{Option, Some, None, Ok, IfOk}
use Rattle.std.specs.Option.{option_map}
use Prim.Native.Nat.{ℕ}
use mathlib.Core.Path.{◌≡◌, refl, ap, sym, subst, ◌∙◌}
use mathlib.Core.List.{List}
use mathlib.Core.Bool.{Bool}
use lib.ListN.{get_or}
use Rattle.base.specs.Lists.{is_some}
use Rattle.base.proofs.Logic.{split}
use Rattle.base.proofs.Grounds.{by_result}
use Rattle.chassis.specs.declared.Chan.{Chan}
use Rattle.chassis.specs.declared.NextPlace.{NextPlace}
use Rattle.chassis.specs.declared.NextPlace.TheVariants.{Target, Through}
use Rattle.chassis.specs.declared.Table.{Table}
use Rattle.chassis.specs.Channels.{is_master}
use Rattle.queue.specs.declared.Transaction.{Transaction}
use Rattle.queue.specs.declared.Entry.{Entry}
use Rattle.queue.specs.declared.Look.{Look}
use Rattle.queue.specs.Entries.{R, C}
use Rattle.queue.specs.Queues.{has_matching}
use Rattle.queue.specs.Packing.{live}
use Rattle.queue.specs.code.Changes.{look_by, look_of, match_of}
use Rattle.queue.proofs.Matching.{matches_its_name}
use Rattle.lent_channels.specs.Looks.{look_asked, filling_asked, first_asked}
use Rattle.network.specs.declared.State.{State}
use Rattle.network.specs.Nets.{view}
use Rattle.network.specs.code.Acts.{channel_at}
use Rattle.events.specs.Records.{Decoded}
use Rattle.events.specs.declared.Event.{Event}
use Rattle.events.specs.declared.Event.TheVariants.{BeginPosted, BeginRead, BeginWrite, Commit, Post, Latch, Complete, DropRequest, DropCompletion}
use Rattle.events.specs.Accounts.{account, is_begin}
use Rattle.events.proofs.SoundStays.{Right}
use Rattle.read_events.specs.declared.Frame.{Frame}
use Rattle.read_events.specs.declared.Sight.{Sight}
use Rattle.read_events.specs.Frames.{own_frame, event_frame, frame, next_of, ahead_or, answer_or, back_or}
use Rattle.read_events.specs.Sights.{small, entry_in, next_told, sight_told}
use Rattle.read_events.proofs.Onward.{Onward, told_onward}
use Rattle.judge_events.specs.Plans.{plan}
use Rattle.judge_events.specs.Verdicts.{Verdict, verdict}
use Rattle.play_events.specs.declared.Notice.{Notice}
use Rattle.play_events.specs.Notices.{look_told, Aimed, beside}
use Rattle.play_events.proofs.Told.{by_test}
use Rattle.play_events.proofs.Shown.{next_right}
use Rattle.play_events.proofs.Reading.{Framed, framed, Noticed, beside_there, Planned, planned, by_verdict, own_plan}
use Rattle.lent_plays.specs.Asks.{sought_for, asks_for, fills, plan_seen, InPlace}

-- ---- the sight that the answers make, against the one that a judge is told

mapped : {A B : Type 0} (f : A → B) (o : Option A) → is_some (option_map f o) ≡ is_some o
mapped f None = refl
mapped f (Some a) = refl

-- what goes with a request is found by the request's transaction
by_name : (k : ℕ) (r : Entry) (l : List Entry) → look_of k r.transaction l ≡ match_of k r l
unfolding look_of match_of
by_name k r l = ap (λ (p : Entry → Bool). look_by p l) (sym (matches_its_name k r))

sight_path : {f g w x : Bool} {a b : Option Look} {o : Bool} → f ≡ g → w ≡ x → a ≡ b → ◌≡◌ {A = Sight} (record { full = f; waits = w; answer = a; oldest = o }) (record { full = g; waits = x; answer = b; oldest = o })
sight_path {o = o} p q r = λ i. record { full = p i; waits = q i; answer = r i; oldest = o }

module _ (s : State) (f : Frame) (count : ℕ) where
  abbrev T : Table
  T = s.table

  abbrev at : Chan → List Entry
  at N = live (channel_at s N)

  -- what the answers make, and what is told
  abbrev answers : Option Look → NextPlace → Event → Sight
  answers l next e =
      let n = beside T f l next in
      record {
        full = fills T (asks_for T f n e).counted (filling_asked (asks_for T f n e).counted (at (asks_for T f n e).room));
        waits = is_some (look_asked (asks_for T f n e).waits (at n.ahead));
        answer = look_asked (asks_for T f n e).answers (at n.answer);
        oldest = first_asked (asks_for T f n e).oldest (at f.at);
      }

  abbrev told : Option Look → NextPlace → Event → Sight
  told l next e = sight_told T next (entry_in l) (at f.at) (at (ahead_or f.at next)) (at (answer_or T f.at next)) (at (back_or T f.at)) e

  abbrev Same : Event → NextPlace → Option Look → Type 0
  Same e next l = verdict T e count l next (answers l next e) ≡ verdict T e count l next (told l next e)

  module _ (N : Chan) (t : Transaction) (w : Look) where
    has_matched : (l : List Entry) → is_some (look_of R w.entry.transaction l) ≡ has_matching R w.entry l
    unfolding match_of
    has_matched l = ap is_some (by_name R w.entry l) ∙ mapped _ _

    latch_told : (next : NextPlace) → answers (Some w) next (Latch N t) ≡ told (Some w) next (Latch N t)
    latch_told Target = refl
    latch_told (Through X) = sight_path refl (has_matched (at X)) (by_name C w.entry (at (answer_or T f.at (Through X))))

    complete_answer : (next : NextPlace) → (answers (Some w) next (Complete N t)).answer ≡ (told (Some w) next (Complete N t)).answer
    complete_answer Target = refl
    complete_answer (Through X) = by_name C w.entry (at (answer_or T f.at (Through X)))

    complete_told : (next : NextPlace) → answers (Some w) next (Complete N t) ≡ told (Some w) next (Complete N t)
    complete_told next = sight_path (split (is_master T N) (λ m. rw m) (λ m. rw m)) refl (complete_answer next)

  -- whatever look is handed over: where the entry is not there, nothing else decides
  same_verdict : (e : Event) (next : NextPlace) (l : Option Look) → Same e next l
  unfolding verdict
  same_verdict (BeginPosted m a) next l = refl
  same_verdict (BeginRead m a) next l = refl
  same_verdict (BeginWrite m a) next l = refl
  same_verdict (Commit N t) next l = refl
  same_verdict (Post N t) Target l = refl
  same_verdict (Post N t) (Through X) l = refl
  same_verdict (Latch N t) next None = refl
  same_verdict (Latch N t) next (Some w) = ap (λ (g : Sight). verdict T (Latch N t) count (Some w) next g) (latch_told N t w next)
  same_verdict (Complete N t) next None = refl
  same_verdict (Complete N t) next (Some w) = ap (λ (g : Sight). verdict T (Complete N t) count (Some w) next g) (complete_told N t w next)
  same_verdict (DropRequest N t) next l = refl
  same_verdict (DropCompletion N t) next l = refl

-- ---- what is noticed of a record, and its plan

abbrev pub seen : State → Frame → Option Look
seen s f = look_asked (sought_for f) (live (channel_at s f.at))

abbrev pub on : State → Frame → NextPlace
on s f = next_told s.table f.event f.at (seen s f)

module _ (s : State) where
  abbrev here : Frame → Option Look
  here x = look_told x (live (channel_at s x.at))

  abbrev next : Frame → NextPlace
  next x = next_told s.table x.event x.at (here x)

  -- the plan that is seen, against the verdict of what is told
  abbrev Judged : Frame → Type 0
  Judged x =
      plan_seen s s.table x (beside s.table x (seen s x) (on s x))
      ≡ verdict s.table x.event (get_or s.begins x.master.0 0) (here x) (next x) (told s x (get_or s.begins x.master.0 0) (here x) (next x) x.event)

  abbrev same_frame : (e : Event) → Same s (own_frame e) (get_or s.begins (account e).name.master.0 0) e (next (own_frame e)) (here (own_frame e))
  same_frame e = same_verdict s (own_frame e) (get_or s.begins (account e).name.master.0 0) e (next (own_frame e)) (here (own_frame e))

  judged : (e : Event) → Judged (own_frame e)
  unfolding plan_seen verdict
  judged (BeginPosted m a) = refl
  judged (BeginRead m a) = refl
  judged (BeginWrite m a) = refl
  judged (Commit N t) = same_frame (Commit N t)
  judged (Post N t) = same_frame (Post N t)
  judged (Latch N t) = same_frame (Latch N t)
  judged (Complete N t) = same_frame (Complete N t)
  judged (DropRequest N t) = same_frame (DropRequest N t)
  judged (DropCompletion N t) = same_frame (DropCompletion N t)

next_own : (s : State) (e : Event) → on s (own_frame e) ≡ next_of (view s) e
unfolding next_of
next_own s (BeginPosted m a) = refl
next_own s (BeginRead m a) = refl
next_own s (BeginWrite m a) = refl
next_own s (Commit N t) = next_right s (Commit N t) _ refl _ refl
next_own s (Post N t) = next_right s (Post N t) _ refl _ refl
next_own s (Latch N t) = next_right s (Latch N t) _ refl _ refl
next_own s (Complete N t) = next_right s (Complete N t) _ refl _ refl
next_own s (DropRequest N t) = next_right s (DropRequest N t) _ refl _ refl
next_own s (DropCompletion N t) = next_right s (DropCompletion N t) _ refl _ refl

module _ (s : State) (r : Right s) (d : Decoded) (f : Frame) (isf : frame s.table d ≡ Ok f) where
  abbrev pub n : Notice
  n = beside s.table f (seen s f) (on s f)

  pub frames : Framed s d f
  frames = framed s r d f isf

  its_frame : event_frame s.table f.event ≡ Ok f
  its_frame = subst (λ (x : Decoded). frame s.table x ≡ Ok f) frames.is isf

  own : plan_seen s s.table f n ≡ plan (view s) f.event
  own = subst (Judged s) (sym frames.own) (judged s f.event) ∙ sym (by_verdict s f) ∙ own_plan s f frames.own its_frame

  -- the plan that is seen is the event's own, and changes channels that are there
  pub answered : (plan_seen s s.table f n ≡ plan (view s) f.event) × IfOk (plan_seen s s.table f n) Planned
  answered = (
    own,
    by_result (λ (a : Verdict). IfOk a Planned) (plan_seen s s.table f n) (λ k h. tt) (λ p h. planned s r f.event (sym own ∙ h)),
  )

  -- and the next place is the event's own, also where no entry was looked for: a begin moves nothing
  pub next_seen : on s f ≡ next_of (view s) f.event
  next_seen = subst (λ (x : Frame). on s x ≡ next_of (view s) x.event) (sym frames.own) (next_own s f.event)

  onward : Onward s.table frames.passes (on s f)
  onward = told_onward s.table frames.passes f.event f.at (seen s f) frames.has_at

  besides : Noticed n
  besides = beside_there s r f.at frames.has_at f refl (seen s f) (on s f) onward

  -- every place that is looked at is there
  pub in_place : InPlace f n
  in_place = record {
    at = frames.at;
    ahead = besides.ahead;
    answer = besides.answer;
    back = besides.back;
    master = frames.master;
    number = frames.number;
    next = besides.next;
  }

  -- an entry that was found is bound for an agent of the table
  pub aims : Aimed s.table (seen s f)
  aims = by_test (λ q. Aimed s.table (look_asked q (live (channel_at s f.at)))) (is_begin f.event) (λ b. tt) (λ b. frames.aimed)

  pub next_small : small (on s f)
  next_small = besides.next
