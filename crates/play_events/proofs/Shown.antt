-- What is read off the declared channels is what the state shows; so a judge that was told it gives the record's own plan.
use Rattle.std.specs.Prelude.{Option, Some, None, Result, Ok, Err}
use Prim.Native.Nat.{ℕ}
use native.Mathlib.Omega.{arith}
use borrow.Author.Tests.{ltb-true, lt-ltb}
use mathlib.Core.Path.{◌≡◌, refl, ap, sym, subst, ◌∙◌}
use mathlib.Core.Bool.{Bool, true}
use mathlib.Core.List.{List, []}
use lib.ListN.{get_or, get_or-map}
use Rattle.base.specs.declared.Refusal.{Refusal}
use Rattle.base.specs.declared.Refusal.TheVariants.{UnfitRecord}
use Rattle.base.proofs.Grounds.{refused_not}
use Rattle.base.proofs.Logic.{split, there}
use Rattle.chassis.specs.declared.Agent.{Agent}
use Rattle.chassis.specs.declared.Chan.{Chan}
use Rattle.chassis.specs.declared.Table.{Table}
use Rattle.chassis.specs.declared.NextPlace.{NextPlace}
use Rattle.chassis.specs.declared.NextPlace.TheVariants.{Target, Through}
use Rattle.chassis.specs.Numbers.{same_agent}
use Rattle.chassis.specs.Channels.{has_agent, has_chan, chan_count, is_master, master_channel}
use Rattle.queue.specs.declared.Transaction.{Transaction}
use Rattle.queue.specs.declared.Entry.{Entry}
use Rattle.queue.specs.declared.Look.{Look}
use Rattle.queue.specs.Entries.{P, R, C}
use Rattle.queue.specs.Queues.{oldest, the, has_matching}
use Rattle.queue.specs.code.Changes.{look_of, match_of}
use Rattle.queue.specs.Packing.{live}
use Rattle.network.specs.declared.State.{State}
use Rattle.network.specs.Nets.{Net, view, waiting}
use Rattle.network.specs.Rooms.{room_for}
use Rattle.network.specs.code.Acts.{channel_at}
use Rattle.events.specs.Records.{Decoded}
use Rattle.events.specs.declared.Event.{Event}
use Rattle.events.specs.declared.Event.TheVariants.{BeginPosted, BeginRead, BeginWrite, Commit, Post, Latch, Complete, DropRequest, DropCompletion}
use Rattle.read_events.specs.declared.Frame.{Frame}
use Rattle.read_events.specs.declared.Sight.{Sight}
use Rattle.events.specs.Tests.{entry_at, full_ahead, answer_full, is_channel_with}
use Rattle.events.specs.Accounts.{account}
use Rattle.read_events.specs.Frames.{own_frame, event_frame, begin_frame, named_frame, frame, look_at, next_of, look_back, sight, ahead_or, answer_or, back_or}
use Rattle.judge_events.specs.Plans.{plan}
use Rattle.judge_events.specs.Verdicts.{verdict}
use Rattle.read_events.specs.Sights.{entry_in, next_told, if_channel, look_if, full_in, full_back, sight_told}
use Rattle.play_events.proofs.Told.{by_test, framed_plan}

-- ---- a declared channel shows what waits

pub shows : (s : State) (N : Chan) → live (channel_at s N) ≡ waiting (view s) N
unfolding view
shows s N = sym (get_or-map live s.channels N.0 (record { entries = []; count = 0 }))

-- ---- what is told is what is seen

module _ (n : Net) (N : Chan) where
  told_full : (k : ℕ) (m : Agent) (next : NextPlace) → if_channel next (full_in n.table k (waiting n (ahead_or N next))) ≡ full_ahead n k m next
  unfolding room_for
  told_full k m Target = refl
  told_full k m (Through X) = refl

  told_waits : (r : Entry) (next : NextPlace) → if_channel next (has_matching R r (waiting n (ahead_or N next))) ≡ is_channel_with (λ X. has_matching R r (waiting n X)) next
  told_waits r Target = refl
  told_waits r (Through X) = refl

  told_back : (r : Entry) (next : NextPlace) → look_if next (match_of C r (waiting n (answer_or n.table N next))) ≡ look_back n r next
  told_back r Target = refl
  told_back r (Through X) = refl

  told_answer_full : (m : Agent) → full_back n.table N (waiting n (back_or n.table N)) ≡ answer_full n m N
  unfolding back_or room_for
  told_answer_full m = split (is_master n.table N) (λ h. rw h) (λ h. rw h)

module _ (n : Net) where
  entry_looked : (k : ℕ) (t : Transaction) (l : List Entry) → entry_in (look_of k t l) ≡ the k t l
  unfolding look_of
  entry_looked k t l = there (oldest k t l) (λ h. rw h) (λ x h. rw h)

  -- the entry that it names and all four lists, at an event's own channel
  abbrev told_sight : Event → NextPlace → Sight
  told_sight e next =
      let N = (account e).channel in
      sight_told n.table next (entry_in (look_at n e)) (waiting n N) (waiting n (ahead_or N next)) (waiting n (answer_or n.table N next)) (waiting n (back_or n.table N)) e

  sight_path : {f g w x : Bool} {a b : Option Look} {o : Bool} → f ≡ g → w ≡ x → a ≡ b → ◌≡◌ {A = Sight} (record { full = f; waits = w; answer = a; oldest = o }) (record { full = g; waits = x; answer = b; oldest = o })
  sight_path {o = o} p q r = λ i. record { full = p i; waits = q i; answer = r i; oldest = o }

  pub sight_shown : (e : Event) → told_sight e (next_of n e) ≡ sight n e
  unfolding sight look_at room_for
  sight_shown (BeginPosted m a) = refl
  sight_shown (BeginRead m a) = refl
  sight_shown (BeginWrite m a) = refl
  sight_shown (Commit N t) = refl
  sight_shown (Post N t) = sight_path (told_full n N P t.master (next_of n (Post N t))) refl refl
  sight_shown (Latch N t) =
      let next = next_of n (Latch N t) in
      rw (entry_looked R t (waiting n N)) (sight_path (told_full n N R t.master next) (told_waits n N (entry_at n R N t) next) (told_back n N (entry_at n R N t) next))
  sight_shown (Complete N t) =
      rw (entry_looked R t (waiting n N)) (sight_path (told_answer_full n N t.master) refl (told_back n N (entry_at n R N t) (next_of n (Complete N t))))
  sight_shown (DropRequest N t) = refl
  sight_shown (DropCompletion N t) = refl

  pub next_shown : (e : Event) → next_told n.table e (account e).channel (look_at n e) ≡ next_of n e
  unfolding look_at look_of next_of
  next_shown e =
      split (account e).moves
      (λ h. there (oldest (account e).kind (account e).name (waiting n (account e).channel)) (λ f. rw (h, f)) (λ x f. rw (h, f)))
      (λ h. rw h)

-- ---- an event's frame points to its own channel and master, and to such as are there

pub record Pointed (T : Table) (e : Event) (f : Frame) : Type 0 where
  pub own : f ≡ own_frame e
  pub has_at : has_chan T (account e).channel ≡ true
  pub has_master : has_agent T (account e).name.master ≡ true

abbrev Points : Table → Event → Result Frame Refusal → Type 0
Points T e (Ok f) = Pointed T e f
Points T e (Err n) = Unit {0}

module _ (T : Table) where
  module _ (e : Event) (m a : Agent) (at : (account e).channel ≡ master_channel m) (master : (account e).name.master ≡ m) where
    pointed_begin : Points T e (begin_frame T e m a)
    pointed_begin =
        by_test (Points T e) (has_agent T m)
        (λ h. by_test (Points T e) (has_agent T a)
        (λ i. by_test (Points T e) (same_agent m a) (λ j. tt)
        (λ j. record {
          own = rw (at, master);
          has_at = let k = ltb-true m.0 T.agents h in rw at (lt-ltb m.0 (chan_count T) (omega arith));
          has_master = rw master h;
        }))
        (λ i. tt))
        (λ h. tt)

  module _ (e : Event) (N : Chan) (t : Transaction) (at : (account e).channel ≡ N) (master : (account e).name.master ≡ t.master) where
    pointed_named : Points T e (named_frame T e N t)
    pointed_named =
        by_test (Points T e) (has_chan T N)
        (λ h. by_test (Points T e) (has_agent T t.master)
        (λ i. record { own = rw (at, master); has_at = rw at h; has_master = rw master i })
        (λ i. tt))
        (λ h. tt)

  points : (e : Event) → Points T e (event_frame T e)
  points (BeginPosted m a) = pointed_begin (BeginPosted m a) m a refl refl
  points (BeginRead m a) = pointed_begin (BeginRead m a) m a refl refl
  points (BeginWrite m a) = pointed_begin (BeginWrite m a) m a refl refl
  points (Commit N t) = pointed_named (Commit N t) N t refl refl
  points (Post N t) = pointed_named (Post N t) N t refl refl
  points (Latch N t) = pointed_named (Latch N t) N t refl refl
  points (Complete N t) = pointed_named (Complete N t) N t refl refl
  points (DropRequest N t) = pointed_named (DropRequest N t) N t refl refl
  points (DropCompletion N t) = pointed_named (DropCompletion N t) N t refl refl

  -- a record with a frame is an event
  pub record Known (d : Decoded) (f : Frame) : Type 0 where
    pub is : d ≡ Some f.event
    pub pointed : Pointed T f.event f

  known : (e : Event) (f : Frame) → Pointed T e f → Known (Some e) f
  known e f p = let q : e ≡ f.event = sym (ap (λ (x : Frame). x.event) p.own) in record { is = ap Some q; pointed = subst (λ (x : Event). Pointed T x f) q p }

  pub knows : (d : Decoded) (f : Frame) → frame T d ≡ Ok f → Known d f
  knows None f h = absurd (refused_not UnfitRecord f h)
  knows (Some e) f h = known e f (subst (Points T e) h (points e))

-- ---- a judge that was told what the channels show gives the event's plan

module _ (s : State) (e : Event) where
  abbrev T : Table
  T = s.table

  abbrev n : Net
  n = view s

  abbrev N : Chan
  N = (account e).channel

  -- what is looked at
  module _ (l : Option Look) (isl : l ≡ look_of (account e).kind (account e).name (live (channel_at s N))) where
    look_right : l ≡ look_at n e
    unfolding look_at
    look_right = isl ∙ ap (look_of (account e).kind (account e).name) (shows s N)

    module _ (next : NextPlace) (isn : next ≡ next_told T e N l) where
      pub next_right : next ≡ next_of n e
      unfolding view
      next_right = isn ∙ ap (next_told T e N) look_right ∙ next_shown n e

      module _ (g : Sight) (isg : g ≡ sight_told T next (entry_in l) (live (channel_at s N)) (live (channel_at s (ahead_or N next))) (live (channel_at s (answer_or T N next))) (live (channel_at s (back_or T N))) e) where
        sight_right : g ≡ sight n e
        unfolding view
        sight_right =
            isg
            ∙ rw (shows s N, shows s (ahead_or N next), shows s (answer_or T N next), shows s (back_or T N), next_right, look_right)
            (sight_shown n e)

        pub plan_right : {f : Frame} → event_frame T e ≡ Ok f → verdict T e (get_or s.begins (account e).name.master.0 0) l next g ≡ plan n e
        unfolding view
        plan_right h = rw (look_right, next_right, sight_right) (framed_plan n e h)
