-- Every edit of an accepted event is of its own transaction's entries, or raises the count of a begin's master; so what a test of entries shuts out of its
-- transaction stays as it is in every channel, and no other count changes. One law over what is asked of the edits serves both.
use Prim.Native.Nat.{ℕ}
use mathlib.Core.Path.{◌≡◌, refl, ap, subst⁻¹, ◌∙◌}
use mathlib.Core.Bool.{Bool, true, false, cond}
use mathlib.Core.Logic.{◌⊎◌, inl, inr}
use Rattle.std.specs.Prelude.{Option}
use mathlib.Core.List.{List, [], ◌∷◌, ◌++◌}
use borrow.Author.Tests.{not-false}
use lib.ListN.{get_or}
use Rattle.base.specs.Lists.{alter, only, modify, or_else}
use Rattle.base.proofs.Grounds.{clear}
use Rattle.base.proofs.Lists.{found_passes, is_there}
use Rattle.base.proofs.Cells.{modify_every}
use Rattle.base.proofs.Orders.{All, all_append}
use Rattle.base.proofs.Sifted.{only_no, only_add, only_past}
use Rattle.chassis.specs.declared.Agent.{Agent}
use Rattle.chassis.specs.declared.Chan.{Chan}
use Rattle.chassis.specs.declared.Table.{Table}
use Rattle.chassis.specs.declared.NextPlace.{NextPlace}
use Rattle.chassis.specs.declared.NextPlace.TheVariants.{Target, Through}
use Rattle.chassis.specs.Channels.{is_master, master_channel, opposite}
use Rattle.queue.specs.declared.Transaction.{Transaction}
use Rattle.queue.specs.declared.Entry.{Entry}
use Rattle.queue.specs.Entries.{P, R, C, is_named, as_kind, marked, zero_entry, gone}
use Rattle.queue.specs.Queues.{stands, oldest}
use Rattle.queue.proofs.Plainly.{named_is_its_own}
use Rattle.queue.proofs.Matching.{matches_its_name}
use Rattle.network.specs.Nets.{Net, waiting}
use Rattle.network.specs.Edits.{Edit, add, change, raise, edit, edits}
use Rattle.events.specs.declared.Event.{Event}
use Rattle.events.specs.declared.Event.TheVariants.{BeginPosted, BeginRead, BeginWrite, Commit, Post, Latch, Complete, DropRequest, DropCompletion}
use Rattle.events.specs.Tests.{entry_at, ahead, no_such_entry}
use Rattle.events.specs.Grounds.{named_grounds, grounds, Accepted}
use Rattle.events.specs.Effects.{new_entry, leaves, is_marked, enters, answer_taken, answer_given, effects, after}
use Rattle.events.proofs.BeginNumbers.{BeginOf, posted, read, written}
use Rattle.courses.specs.Courses.{transaction_of}

-- the named entry has that name
entry_named : (s : Net) (k : ℕ) (N : Chan) (t : Transaction) → no_such_entry s k N t ≡ false → (entry_at s k N t).transaction ≡ t
entry_named s k N t h =
    let o = is_there (oldest k t (waiting s N)) (not-false (stands k t (waiting s N)) h) in
    subst⁻¹ (λ (e : Option Entry). (or_else zero_entry e).transaction ≡ t) o.1
    (named_is_its_own k t o.0 (found_passes (is_named k t) (waiting s N) o.1)).1

-- F of every edit of t's entries
record OfIts (F : Edit → Type 0) (t : Transaction) : Type 0 where
  leaving : (k : ℕ) (N : Chan) → F (leaves k N t)
  marking : (N : Chan) → F (is_marked N t)
  entering : (N : Chan) (x : Entry) → x.transaction ≡ t → F (add N x)

module _ (F : Edit → Type 0) (s : Net) where
  module _ (t : Transaction) (f : OfIts F t) where
    each_enters : (N1 : NextPlace) (x : Entry) → x.transaction ≡ t → All F (enters N1 x)
    each_enters Target x e = tt
    each_enters (Through X) x e = (f.entering X x e, tt)

    -- what matches the request has the request's name
    each_taken : (T : Table) (N1 : NextPlace) (x : Entry) → x.transaction ≡ t → All F (answer_taken T N1 x)
    each_taken T Target x e = tt
    each_taken T (Through X) x e =
        (subst⁻¹ (λ (q : Entry → Bool). F (change (opposite T X) q gone)) (matches_its_name C x ∙ ap (is_named C) e) (f.leaving C (opposite T X)), tt)

    each_given : (master : Bool) (N : Chan) (x : Entry) → x.transaction ≡ t → All F (cond master [] (add N x ∷ []))
    each_given true N x e = tt
    each_given false N x e = (f.entering N x e, tt)

  each_edit : (e : Event) → Accepted s e → OfIts F (transaction_of s e) → ((m a : Agent) → BeginOf m a e → F (raise m)) → All F (effects s e)
  unfolding effects new_entry grounds named_grounds as_kind
  each_edit (BeginPosted m a) ok f r = (f.entering (master_channel m) (new_entry s P true m a) refl, (r m a posted, tt))
  each_edit (BeginRead m a) ok f r = (f.entering (master_channel m) (new_entry s R false m a) refl, (r m a read, tt))
  each_edit (BeginWrite m a) ok f r = (f.entering (master_channel m) (new_entry s R true m a) refl, (r m a written, tt))
  each_edit (Commit N t) ok f r = (f.marking N, tt)
  each_edit (Post N t) ok f r =
      (f.leaving P N, each_enters t f (ahead s P N t) (entry_at s P N t) (entry_named s P N t (clear (grounds s (Post N t)) ok).1.0))
  each_edit (Latch N t) ok f r =
      (f.marking N, each_enters t f (ahead s R N t) (as_kind R (entry_at s R N t)) (entry_named s R N t (clear (grounds s (Latch N t)) ok).1.0))
  each_edit (Complete N t) ok f r = (
    f.leaving R N,
    all_append F (answer_taken s.table (ahead s R N t) (entry_at s R N t)) (answer_given s.table N (entry_at s R N t))
        (each_taken t f s.table (ahead s R N t) (entry_at s R N t) (entry_named s R N t (clear (grounds s (Complete N t)) ok).1.0))
        (each_given t f (is_master s.table N) (opposite s.table N) (as_kind C (entry_at s R N t)) (entry_named s R N t (clear (grounds s (Complete N t)) ok).1.0)),
  )
  each_edit (DropRequest N t) ok f r = (f.leaving R N, tt)
  each_edit (DropCompletion N t) ok f r = (f.leaving C N, tt)

-- ---- what a test shuts out of the edits

module _ (p : Entry → Bool) where
  abbrev Past : Edit → Type 0
  Past (add N x) = p x ≡ false
  Past (change N q f) = ((x : Entry) → q x ≡ true → p x ≡ false) × ((x : Entry) → q x ≡ true → only p (f x) ≡ [])
  Past (raise a) = Unit {0}

  one_channel : (s : Net) (N M : Chan) (f : List Entry → List Entry) → only p (f (waiting s N)) ≡ only p (waiting s N)
      → only p (get_or (modify s.chans N.0 f) M.0 []) ≡ only p (waiting s M)
  one_channel s N M f h = modify_every (λ j l. only p l ≡ only p (get_or s.chans j [])) s.chans N.0 f [] (λ _. h) (λ j. refl) M.0

  past_edit : (d : Edit) (s : Net) → Past d → (M : Chan) → only p (waiting (edit d s) M) ≡ only p (waiting s M)
  unfolding edit
  past_edit (add N x) s h M = one_channel s N M (λ l. l ++ (x ∷ [])) (only_add p (waiting s N) x h)
  past_edit (change N q f) s h M = one_channel s N M (alter q f) (only_past p q f h.0 h.1 (waiting s N))
  past_edit (raise a) s h M = refl

  past_edits : (ds : List Edit) (s : Net) → All Past ds → (M : Chan) → only p (waiting (edits ds s) M) ≡ only p (waiting s M)
  unfolding edits
  past_edits [] s h M = refl
  past_edits (d ∷ ds) s h M = past_edits ds (edit d s) h.1 M ∙ past_edit d s h.0 M

  past_its : (t : Transaction) → ((x : Entry) → x.transaction ≡ t → p x ≡ false) → OfIts Past t
  unfolding only marked
  past_its t n =
      let out : (k : ℕ) (x : Entry) → is_named k t x ≡ true → p x ≡ false = λ k x h. n x (named_is_its_own k t x h).1 in
      record {
        leaving = λ k N. (out k, λ x h. refl);
        marking = λ N. (out R, λ x h. only_no p (marked x) (n (marked x) (named_is_its_own R t x h).1));
        entering = λ N x e. n x e;
      }

  -- those that pass, where none of the event's transaction does
  pub untouched : (s : Net) (e : Event) → Accepted s e → ((x : Entry) → x.transaction ≡ transaction_of s e → p x ≡ false)
      → (N : Chan) → only p (waiting (after s e) N) ≡ only p (waiting s N)
  unfolding after
  untouched s e ok n = past_edits (effects s e) s (each_edit Past s e ok (past_its (transaction_of s e) n) (λ m a b. tt))

-- ---- counts

abbrev Quiet : Edit → Type 0
Quiet (add N x) = Unit {0}
Quiet (change N p f) = Unit {0}
Quiet (raise a) = ⊥

quiet_edits : (ds : List Edit) (s : Net) → All Quiet ds → (edits ds s).begins ≡ s.begins
unfolding edits edit
quiet_edits [] s h = refl
quiet_edits (add N x ∷ ds) s h = quiet_edits ds (edit (add N x) s) h.1
quiet_edits (change N p f ∷ ds) s h = quiet_edits ds (edit (change N p f) s) h.1
quiet_edits (raise a ∷ ds) s h = absurd h.0

-- but at a begin they stay
pub counts_stay : (s : Net) (e : Event) → Accepted s e → ((m a : Agent) → BeginOf m a e → ⊥) → (after s e).begins ≡ s.begins
unfolding after
counts_stay s e ok n =
    quiet_edits (effects s e) s
    (each_edit Quiet s e ok (record { leaving = λ k N. tt; marking = λ N. tt; entering = λ N x p. tt }) n)

pub begin? : (e : Event) → ((m : Agent) × (a : Agent) × BeginOf m a e) ⊎ ((m a : Agent) → BeginOf m a e → ⊥)
begin? (BeginPosted m a) = inl (m, a, posted)
begin? (BeginRead m a) = inl (m, a, read)
begin? (BeginWrite m a) = inl (m, a, written)
begin? (Commit N t) = inr (λ m a b. elim b [ ])
begin? (Post N t) = inr (λ m a b. elim b [ ])
begin? (Latch N t) = inr (λ m a b. elim b [ ])
begin? (Complete N t) = inr (λ m a b. elim b [ ])
begin? (DropRequest N t) = inr (λ m a b. elim b [ ])
begin? (DropCompletion N t) = inr (λ m a b. elim b [ ])
