-- Every transaction of a state reached is on a course, and every accepted event moves its own transaction on and leaves the others.
-- By the event: a begin finds its number unbegun; the other kinds move as the table of moves says; then over the events that reach the state.
use Prim.Native.Nat.{ℕ, ◌+◌}
use native.Mathlib.Omega.{arith}
use mathlib.Core.Path.{◌≡◌, refl, sym, ap, subst, subst⁻¹, ◌∙◌}
use mathlib.Core.Bool.{Bool, true, false, ◌&&◌}
use Rattle.std.specs.Prelude.{None}
use mathlib.Core.List.{List, [], ◌∷◌}
use borrow.Author.Tests.{le-leb, lt-leb, leb-true, not-false, ltb-true}
use lib.Dec.{leb}
use Rattle.base.specs.Lists.{only}
use Rattle.base.specs.Grounds.{refusal}
use Rattle.base.proofs.Logic.{split, both, and_true}
use Rattle.base.proofs.Grounds.{clear}
use Rattle.chassis.specs.declared.Agent.{Agent}
use Rattle.chassis.specs.declared.Chan.{Chan}
use Rattle.chassis.specs.declared.Table.{Table}
use Rattle.chassis.specs.Numbers.{agent}
use Rattle.chassis.specs.Channels.{has_agent, master_channel}
use Rattle.chassis.specs.Routes.{bridges_between}
use Rattle.chassis.specs.Tables.{within}
use Rattle.chassis.proofs.Counts.{counts}
use Rattle.chassis.proofs.Passing.{passed}
use Rattle.queue.specs.declared.Transaction.{Transaction}
use Rattle.queue.specs.Entries.{P, R, same_transaction}
use Rattle.queue.proofs.Plainly.{same_is_one}
use Rattle.queue.proofs.Names.{one_is_same}
use Rattle.network.specs.Nets.{Net, begun, empty_net}
use Rattle.network.specs.Edits.{Edit, add, edit, edits}
use Rattle.network.proofs.Good.{Good}
use Rattle.network.proofs.Packing.{empty_waits, empty_begun}
use Rattle.events.specs.declared.Event.{Event}
use Rattle.events.specs.declared.Event.TheVariants.{BeginPosted, BeginRead, BeginWrite, Commit, Post, Latch, Complete, DropRequest, DropCompletion}
use Rattle.events.specs.Grounds.{begin_grounds, named_grounds, grounds, Accepted}
use Rattle.events.specs.Effects.{next_number, new_entry, begins, effects, after}
use Rattle.events.specs.Reached.{Reached, at_first, and_then}
use Rattle.events.proofs.SoundStays.{reached_is_good}
use Rattle.events.proofs.BeginNumbers as numbers
use Rattle.events.proofs.BeginNumbers.{BeginOf, its_number}
use Rattle.courses.specs.Pieces.{piece, held_in}
use Rattle.courses.specs.Stages.{Stage, unbegun, posted, asked, answered, ended, has_begun, Fits, Moves, posts_on, arrives, commits, latches, reaches, returns, drops_request, drops_completion}
use Rattle.courses.specs.Courses.{pieces, Course, course, entry_of, standing, OnCourse, transaction_of, Advances, begins_posted, begins_read, begins_write, moves, Follows, stays, goes}
use Rattle.courses.proofs.Edited.{Shows, At, shows_add}
use Rattle.courses.proofs.Others.{quiet_stays, on_course, others_stay}
use Rattle.courses.proofs.Own.{Moved, own_commit, own_post, own_latch, own_complete, own_drop_request, own_drop_completion}

-- ---- begins

pub not_begun : (h : Stage) → has_begun h ≡ false → h ≡ unbegun
not_begun unbegun e = refl
not_begun (posted i) e = absurd (both true refl e)
not_begun (asked j b) e = absurd (both true refl e)
not_begun (answered j) e = absurd (both true refl e)
not_begun ended e = absurd (both true refl e)

pub next_is_not : (n : ℕ) → within 1 n (n + 1) ≡ false
next_is_not n = rw (le-leb 1 (n + 1) (omega arith), lt-leb (n + 1) n (omega arith))

next_is : (n : ℕ) → within 1 (n + 1) (n + 1) ≡ true
next_is n = rw (le-leb 1 (n + 1) (omega arith), le-leb (n + 1) (n + 1) (omega arith))

module _ (s : Net) (g : Good s) (m a : Agent) where
  abbrev T : Table
  T = s.table

  -- the transaction that a begin of m begins
  abbrev new : Transaction
  new = record { master = m; number = next_number s m }

  is_unbegun : (c : Course) → OnCourse s new c → c.stage ≡ unbegun
  is_unbegun c o = not_begun c.stage (sym o.number ∙ next_is_not (begun s m))

  nothing_before : (c : Course) → OnCourse s new c → Shows s new []
  unfolding pieces
  nothing_before c o = subst (At T new c.target c.write s) (is_unbegun c o) o.stands

  module _ (k : ℕ) (write : Bool) (h : Stage) (ends : standing T new (course a write h) ≡ piece (master_channel m) (entry_of new a write k false) ∷ [])
      (fits : Fits (bridges_between T m a) h) (begun-now : has_begun h ≡ true) where
    begun_shows : (c : Course) → OnCourse s new c → refusal (begin_grounds s k m a) ≡ None
        → Shows (edits (begins s k write m a) s) new (standing T new (course a write h))
    unfolding begin_grounds edits edit new_entry
    begun_shows c o ok =
        let r = clear (begin_grounds s k m a) ok in
        let q = and_true (has_agent T m) (has_agent T a) (not-false (has_agent T m && has_agent T a) r.0) in
        let l = ltb-true m.0 T.agents q.0 in
        let b = (counts T (passed T g.rules.passes).counts).agents.1 in
        let y = entry_of new a write k false in
        subst⁻¹ (Shows (edit (add (master_channel m) y) s) new) ends
        (shows_add s new [] (nothing_before c o) (master_channel m) y (omega (arith, g.channels)) (one_is_same {t = new} refl))

    begins_course : (c : Course) → OnCourse s new c → (e : Event) → BeginOf m a e → Accepted s e
        → refusal (begin_grounds s k m a) ≡ None → effects s e ≡ begins s k write m a → OnCourse (after s e) new (course a write h)
    unfolding after
    begins_course c o e b ok ok' same =
        let n = its_number s g m a e b ok in
        on_course s new (course a write h) e
        (subst⁻¹ (λ (ds : List Edit). Shows (edits ds s) new (standing T new (course a write h))) same (begun_shows c o ok'))
        fits
        (ap (λ (n : ℕ). within 1 n (next_number s m)) (n.count ∙ n.number) ∙ next_is (begun s m) ∙ sym begun-now)

-- ---- its own transaction

was_begun : {T : Table} {w : List Chan} {k : ℕ} {t : Transaction} {h i : Stage} {e : Event} → Moves T w k t h e i → has_begun h ≡ true
was_begun (posts_on N i p l) = refl
was_begun (arrives N p) = refl
was_begun (commits N j p) = refl
was_begun (latches N j b p l) = refl
was_begun (reaches N b p) = refl
was_begun (returns N j p) = refl
was_begun (drops_request N j p) = refl
was_begun (drops_completion N j p) = refl

module _ (s : Net) (g : Good s) where
  record Next (t : Transaction) (c : Course) (e : Event) : Type 0 where
    to : Course
    on : OnCourse (after s e) t to
    by : Advances s.table t c e to

  moved_on : (t : Transaction) (c : Course) → OnCourse s t c → (e : Event) → Accepted s e
      → ((m a : Agent) → BeginOf m a e → ⊥) → Moved s t c.target c.write e c.stage → Next t c e
  moved_on t c o e ok n r = record {
    to = course c.target c.write r.to;
    on = on_course s t (course c.target c.write r.to) e r.now r.fits
        (quiet_stays s t e ok n ∙ o.number ∙ was_begun r.by ∙ sym r.begun);
    by = moves c.target c.write c.stage r.to e r.by;
  }

  own_goes : (e : Event) (c : Course) → OnCourse s (transaction_of s e) c → Accepted s e → Next (transaction_of s e) c e
  unfolding grounds named_grounds effects pieces
  own_goes (BeginPosted m a) c o ok = record {
    to = course a true (posted 0);
    on = begins_course s g m a P true (posted 0) refl (omega arith) refl c o (BeginPosted m a) numbers.posted ok ok refl;
    by = begins_posted c a (is_unbegun s g m a c o);
  }
  own_goes (BeginRead m a) c o ok = record {
    to = course a false (asked 0 false);
    on = begins_course s g m a R false (asked 0 false) refl (omega arith) refl c o (BeginRead m a) numbers.read ok ok refl;
    by = begins_read c a (is_unbegun s g m a c o);
  }
  own_goes (BeginWrite m a) c o ok = record {
    to = course a true (asked 0 false);
    on = begins_course s g m a R true (asked 0 false) refl (omega arith) refl c o (BeginWrite m a) numbers.written ok ok refl;
    by = begins_write c a (is_unbegun s g m a c o);
  }
  own_goes (Commit N t) c o ok = moved_on t c o (Commit N t) ok (λ m a b. elim b [ ]) (own_commit s g t c.target c.write c.stage o.stands o.fits N ok)
  own_goes (Post N t) c o ok = moved_on t c o (Post N t) ok (λ m a b. elim b [ ]) (own_post s g t c.target c.write c.stage o.stands o.fits N ok)
  own_goes (Latch N t) c o ok = moved_on t c o (Latch N t) ok (λ m a b. elim b [ ]) (own_latch s g t c.target c.write c.stage o.stands o.fits N ok)
  own_goes (Complete N t) c o ok = moved_on t c o (Complete N t) ok (λ m a b. elim b [ ]) (own_complete s g t c.target c.write c.stage o.stands o.fits N ok)
  own_goes (DropRequest N t) c o ok = moved_on t c o (DropRequest N t) ok (λ m a b. elim b [ ]) (own_drop_request s g t c.target c.write c.stage o.stands o.fits N ok)
  own_goes (DropCompletion N t) c o ok = moved_on t c o (DropCompletion N t) ok (λ m a b. elim b [ ]) (own_drop_completion s g t c.target c.write c.stage o.stands o.fits N ok)

  -- ---- every transaction

  pub each_follows : (t : Transaction) (c : Course) → OnCourse s t c → (e : Event) → Accepted s e → (d : Course) × OnCourse (after s e) t d × Follows s t c e d
  each_follows t c o e ok =
      split (same_transaction (transaction_of s e) t)
      (λ y.
      let p : transaction_of s e ≡ t = same_is_one (transaction_of s e) t y in
      let r = subst (λ (u : Transaction). OnCourse s u c → Next u c e) p (λ o. own_goes e c o ok) o in
      (r.to, r.on, goes p r.by))
      (λ n.
      let f : transaction_of s e ≡ t → ⊥ = λ p. both (same_transaction (transaction_of s e) t) (one_is_same p) n in
      (c, others_stay s t g c o e ok f, stays f refl))

-- ---- in every state reached

nothing_begun : (n : ℕ) → within 1 0 n ≡ false
nothing_begun n = split (leb 1 n) (λ t. rw (t, lt-leb n 0 (omega (arith, leb-true 1 n t)))) (λ f. rw f)

pub empty_course : (T : Table) (t : Transaction) → OnCourse (empty_net T) t (course (agent 0) false unbegun)
unfolding pieces only held_in
empty_course T t = record {
  stands = λ N. rw (empty_waits T N);
  fits = tt;
  number = rw (empty_begun T t.master) (nothing_begun t.number);
}

pub every_transaction_is_on_course : (s : Net) → Reached s → (t : Transaction) → (c : Course) × OnCourse s t c
every_transaction_is_on_course _ (at_first T h) t = (course (agent 0) false unbegun, empty_course T t)
every_transaction_is_on_course _ (and_then s e r ok) t =
    let c = every_transaction_is_on_course s r t in
    let d = each_follows s (reached_is_good s r) t c.0 c.1 e ok in
    (d.0, d.1)

-- ---- a transaction that has begun has a master

pub begun_there : (s : Net) → Good s → (t : Transaction) (c : Course) → OnCourse s t c → has_begun c.stage ≡ true → has_agent s.table t.master ≡ true
begun_there s g t c o h =
    split (has_agent s.table t.master) (λ y. y)
    (λ n. absurd (both true refl (sym h ∙ sym o.number ∙ ap (λ (n : ℕ). within 1 n t.number) (g.absent t.master n) ∙ nothing_begun t.number)))
