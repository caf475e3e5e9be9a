-- A judge that is told what a state shows gives the state's own plan: the frame has asked 1, 2 and 3, the verdict the rest.
use Prim.Native.Nat.{ℕ}
use mathlib.Core.Path.{◌≡◌, refl, sym, ap, subst, ◌∙◌}
use mathlib.Core.Bool.{Bool, true, false, cond, not, ◌||◌}
use mathlib.Core.List.{List}
use Rattle.std.specs.Prelude.{Option, Some, None, Result, Ok, Err}
use Rattle.std.specs.Option.{option_map}
use Rattle.base.specs.Lists.{is_some}
use Rattle.base.specs.Grounds.{Ground, refusal, answer}
use Rattle.base.specs.declared.Refusal.{Refusal}
use Rattle.base.specs.declared.Refusal.TheVariants.{UnfitRecord}
use Rattle.base.proofs.Grounds.{told as said}
use Rattle.base.proofs.Logic.{there, some_same}
use Rattle.chassis.specs.declared.Agent.{Agent}
use Rattle.chassis.specs.declared.Chan.{Chan}
use Rattle.chassis.specs.Numbers.{same_agent}
use Rattle.chassis.specs.Channels.{has_agent, has_chan, master_channel, opposite}
use Rattle.queue.specs.declared.Transaction.{Transaction}
use Rattle.queue.specs.declared.Entry.{Entry}
use Rattle.queue.specs.Entries.{P, R, C}
use Rattle.queue.specs.Queues.{oldest, matching}
use Rattle.queue.specs.code.Changes.{look_of, match_of}
use Rattle.network.specs.Nets.{Net, waiting, begun, full}
use Rattle.events.specs.Records.{Decoded}
use Rattle.events.specs.declared.Event.{Event}
use Rattle.events.specs.declared.Event.TheVariants.{BeginPosted, BeginRead, BeginWrite, Commit, Post, Latch, Complete, DropRequest, DropCompletion}
use Rattle.read_events.specs.declared.Frame.{Frame}
use Rattle.judge_events.specs.declared.Plan.{Plan}
use Rattle.events.specs.Tests.{ahead}
use Rattle.events.specs.Grounds.{begin_grounds, named_grounds, grounds}
use Rattle.events.specs.Effects.{new_entry, value}
use Rattle.events.specs.Accounts.{account}
use Rattle.read_events.specs.Frames.{frame, event_frame, begin_frame, named_frame, look_at, next_of, sight}
use Rattle.judge_events.specs.Plans.{begin_plan, accepted_plan, plan, record_plan, acts_of}
use Rattle.read_events.proofs.Onward.{by_place}
use Rattle.judge_events.specs.Verdicts.{Verdict, begin_verdict, verdict}

-- the first ground that holds decides, test by test
decided : (b : Bool) (n : Refusal) (o : Option Refusal) (p : Plan) → answer (cond b (Some n) o) p ≡ cond b (Err n) (answer o p)
decided true n o p = refl
decided false n o p = refl

flipped : (b : Bool) (x y : Verdict) → cond (not b) x y ≡ cond b y x
flipped true x y = refl
flipped false x y = refl

either : (a b : Bool) (x y : Verdict) → cond (a || b) x y ≡ cond a x (cond b x y)
either true b x y = refl
either false b x y = refl

pub by_test : {A : Type 0} (Q : A → Type 0) (b : Bool) {x y : A} → (b ≡ true → Q x) → (b ≡ false → Q y) → Q (cond b x y)
by_test Q true f g = f refl
by_test Q false f g = g refl

mapped : {A B : Type 0} (f : A → B) (o : Option A) → is_some (option_map f o) ≡ is_some o
mapped f None = refl
mapped f (Some a) = refl

module _ (s : Net) where
  -- what is told of an event
  abbrev pub told : Event → Verdict
  told e = verdict s.table e (begun s (account e).name.master) (look_at s e) (next_of s e) (sight s e)

  -- ground 2, which the frame has asked
  abbrev pub Named : Chan → Transaction → Type 0
  Named N t = (has_chan s.table N ≡ true) × (has_agent s.table t.master ≡ true)

  module _ (m a : Agent) (h : has_agent s.table m ≡ true) (i : has_agent s.table a ≡ true) (j : same_agent m a ≡ false) where
    told_begin : (k : ℕ) (write : Bool) → begin_verdict (begun s m) (full s k m (master_channel m)) k write m a ≡ answer (refusal (begin_grounds s k m a)) (begin_plan s k write m a)
    unfolding begin_grounds new_entry
    told_begin k write = simp (decided, h, i, j)

  module _ (N : Chan) (t : Transaction) (h : Named N t) where
    told_commit : told (Commit N t) ≡ plan s (Commit N t)
    unfolding verdict plan grounds named_grounds accepted_plan acts_of value look_at look_of
    told_commit =
        there (oldest R t (waiting s N))
        (λ f. rw f (simp (decided, h.0, h.1)))
        (λ x f. rw f (simp (decided, h.0, h.1)))

    -- where the entry is there the next place is asked
    next_there : (e : Event) → (account e).moves ≡ true → {x : Entry} → oldest (account e).kind (account e).name (waiting s (account e).channel) ≡ Some x → next_of s e ≡ ahead s (account e).kind (account e).channel (account e).name
    unfolding next_of
    next_there e m f = rw (m, f)

    told_post : told (Post N t) ≡ plan s (Post N t)
    unfolding verdict plan grounds named_grounds accepted_plan acts_of value look_at look_of sight
    told_post =
        there (oldest P t (waiting s N))
        (λ f. rw f (simp (decided, h.0, h.1)))
        (λ x f. rw (next_there (Post N t) refl f) (rw f (simp (decided, h.0, h.1))))

    told_latch : told (Latch N t) ≡ plan s (Latch N t)
    unfolding verdict plan grounds named_grounds accepted_plan acts_of value look_at look_of match_of sight
    told_latch =
        there (oldest R t (waiting s N))
        (λ f. rw f (simp (decided, h.0, h.1)))
        (λ x f.
        rw (next_there (Latch N t) refl f)
        (by_place (ahead s R N t) (λ p. rw p (rw f (simp (decided, h.0, h.1)))) (λ X p. rw p (rw f (simp (decided, either, mapped, h.0, h.1))))))

    told_complete : told (Complete N t) ≡ plan s (Complete N t)
    unfolding verdict plan grounds named_grounds accepted_plan acts_of value look_at look_of match_of sight
    told_complete =
        there (oldest R t (waiting s N))
        (λ f. rw f (simp (decided, h.0, h.1)))
        (λ x f.
        rw (next_there (Complete N t) refl f)
        (by_place (ahead s R N t) (λ p. rw p (rw f (simp (decided, h.0, h.1)))) (λ X p.
        rw p
        (rw f
        (there (matching C x (waiting s (opposite s.table X))) (λ g. rw g (simp (decided, h.0, h.1))) (λ y g. rw g (simp (decided, h.0, h.1))))))))

    told_drop_request : told (DropRequest N t) ≡ plan s (DropRequest N t)
    unfolding verdict plan grounds named_grounds accepted_plan acts_of value look_at look_of
    told_drop_request =
        there (oldest R t (waiting s N))
        (λ f. rw f (simp (decided, h.0, h.1)))
        (λ x f. rw f (simp (decided, h.0, h.1)))

    told_drop_completion : told (DropCompletion N t) ≡ plan s (DropCompletion N t)
    unfolding verdict plan grounds named_grounds accepted_plan acts_of value look_at look_of sight
    told_drop_completion =
        there (oldest C t (waiting s N))
        (λ f. rw f (simp (decided, h.0, h.1)))
        (λ x f. rw f (simp (decided, h.0, h.1)))

  -- ---- the frame in front: 2, 3

  -- what a frame, or its refusal, says of the plan
  abbrev pub Says : Event → Result Frame Refusal → Type 0
  Says e (Ok f) = told e ≡ plan s e
  Says e (Err n) = plan s e ≡ Err n

  module _ (e : Event) (m a : Agent) (k : ℕ) (write : Bool)
      (own : plan s e ≡ answer (refusal (begin_grounds s k m a)) (begin_plan s k write m a))
      (tells : told e ≡ begin_verdict (begun s m) (full s k m (master_channel m)) k write m a) where
    begin_says : Says e (begin_frame s.table e m a)
    unfolding begin_grounds
    begin_says =
        by_test (Says e) (has_agent s.table m)
        (λ p. by_test (Says e) (has_agent s.table a)
        (λ q. by_test (Says e) (same_agent m a)
        (λ r. own ∙ simp (decided, p, q, r))
        (λ r. tells ∙ told_begin m a p q r k write ∙ sym own))
        (λ q. own ∙ simp (decided, p, q)))
        (λ p. own ∙ simp (decided, p))

  module _ (e : Event) (N : Chan) (t : Transaction) (k : ℕ) (more : List Ground)
      (own : plan s e ≡ answer (refusal (named_grounds s k N t more)) (accepted_plan s e))
      (tells : Named N t → told e ≡ plan s e) where
    named_says : Says e (named_frame s.table e N t)
    unfolding named_grounds
    named_says =
        by_test (Says e) (has_chan s.table N)
        (λ p. by_test (Says e) (has_agent s.table t.master)
        (λ q. tells (p, q))
        (λ q. own ∙ simp (decided, p, q)))
        (λ p. own ∙ simp (decided, p))

  pub frame_says : (e : Event) → Says e (event_frame s.table e)
  unfolding plan grounds verdict sight accepted_plan acts_of value
  frame_says (BeginPosted m a) = begin_says (BeginPosted m a) m a P true refl refl
  frame_says (BeginRead m a) = begin_says (BeginRead m a) m a R false refl refl
  frame_says (BeginWrite m a) = begin_says (BeginWrite m a) m a R true refl refl
  frame_says (Commit N t) = named_says (Commit N t) N t R _ refl (told_commit N t)
  frame_says (Post N t) = named_says (Post N t) N t P _ refl (told_post N t)
  frame_says (Latch N t) = named_says (Latch N t) N t R _ refl (told_latch N t)
  frame_says (Complete N t) = named_says (Complete N t) N t R _ refl (told_complete N t)
  frame_says (DropRequest N t) = named_says (DropRequest N t) N t R _ refl (told_drop_request N t)
  frame_says (DropCompletion N t) = named_says (DropCompletion N t) N t C _ refl (told_drop_completion N t)

  -- a record without a frame has no plan
  pub unframed : (d : Decoded) {n : Refusal} → frame s.table d ≡ Err n → record_plan s d ≡ Err n
  unfolding record_plan
  unframed None {n} h = ap Err (some_same UnfitRecord n (ap said h))
  unframed (Some e) h = subst (Says e) h (frame_says e)

  pub framed_plan : (e : Event) {f : Frame} → event_frame s.table e ≡ Ok f → told e ≡ plan s e
  framed_plan e h = subst (Says e) h (frame_says e)
