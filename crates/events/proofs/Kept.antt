-- An accepted event keeps the rules: good stays good, for each of the nine kinds.
-- Each kind's edits are taken one by one; what its grounds have found says that what is added fits and has room.
use Prim.Native.Nat.{ℕ, ◌+◌}
use mathlib.Core.Path.{◌≡◌, refl, sym, subst⁻¹, ◌∙◌}
use mathlib.Core.Bool.{Bool, true, false, cond, not, ◌&&◌, ◌||◌}
use Rattle.std.specs.Prelude.{Option, None}
use mathlib.Core.List.{List, [], ◌∷◌, ◌++◌}
use native.Mathlib.Omega.{arith}
use borrow.Author.Tests.{ltb-true, le-leb, leb-false, not-false, ne_eqb}
use lib.Dec.{leb, eqb}
use Rattle.base.specs.Lists.{modify, or_else}
use Rattle.base.specs.Grounds.{refusal}
use Rattle.base.proofs.Logic.{and_true, true_and}
use Rattle.base.proofs.Grounds.{clear}
use Rattle.base.proofs.Lists.{found_passes, is_there}
use Rattle.base.proofs.Cells.{true_or, find_in, modify_here}
use Rattle.chassis.specs.declared.Agent.{Agent}
use Rattle.chassis.specs.declared.Chan.{Chan}
use Rattle.chassis.specs.declared.NextPlace.{NextPlace}
use Rattle.chassis.specs.declared.NextPlace.TheVariants.{Target, Through}
use Rattle.chassis.specs.Numbers.{same_agent}
use Rattle.chassis.specs.Channels.{has_agent, is_master, master_channel, opposite}
use Rattle.chassis.specs.Tables.{within}
use Rattle.chassis.proofs.Counts.{counts}
use Rattle.chassis.proofs.Passing.{passed}
use Rattle.chassis.proofs.OnTheWay.{start_on_way}
use Rattle.queue.specs.declared.Transaction.{Transaction}
use Rattle.queue.specs.declared.Entry.{Entry}
use Rattle.queue.specs.Entries.{P, R, C, is_kind, is_named, matches, as_kind, zero_entry, gone, marking}
use Rattle.queue.specs.Queues.{stands, oldest}
use Rattle.queue.proofs.Plainly.{named_is_its_own}
use Rattle.network.specs.Nets.{Net, waiting, begun}
use Rattle.network.specs.Edits.{add, change, raise, edit, edits}
use Rattle.network.specs.Soundness.{stands_right}
use Rattle.network.proofs.Rules.{Fit}
use Rattle.network.proofs.Fits.{fit_next, fit_copy, fit_answer}
use Rattle.network.proofs.Good.{Good}
use Rattle.network.proofs.Kept.{HasRoom, not_full, good_add, Tame, good_change, room_stays, tame_gone, tame_marking, good_raise}
use Rattle.events.specs.declared.Event.{Event}
use Rattle.events.specs.declared.Event.TheVariants.{BeginPosted, BeginRead, BeginWrite, Commit, Post, Latch, Complete, DropRequest, DropCompletion}
use Rattle.events.specs.Tests.{entry_at, ahead, full_ahead, answer_full, no_such_entry}
use Rattle.events.specs.Grounds.{begin_grounds, named_grounds, grounds, Accepted}
use Rattle.events.specs.Effects.{next_number, new_entry, begins, leaves, enters, answer_taken, answer_given, effects, after}

-- ---- what is added

-- x may be added to N
record Addable (s : Net) (N : Chan) (x : Entry) : Type 0 where
  space : HasRoom s x.kind x.transaction.master N
  fits : Fit s.table s.begins N x

added : (s : Net) (N : Chan) (x : Entry) → Good s → Addable s N x → Good (edit (add N x) s)
added s N x g a = good_add s N x g a.space a.fits

-- at N1, if that is a channel
added_ahead : (s : Net) (N1 : NextPlace) (x : Entry) → Good s → ((X : Chan) → N1 ≡ Through X → Addable s X x) → Good (edits (enters N1 x) s)
unfolding edits
added_ahead s Target x g a = g
added_ahead s (Through X) x g a = added s X x g (a X refl)

-- in the opposite of N, if N is a bridge channel
added_behind : (s : Net) (N : Chan) (x : Entry) (master : Bool) → Good s → (master ≡ false → Addable s (opposite s.table N) (as_kind C x))
    → Good (edits (cond master [] (add (opposite s.table N) (as_kind C x) ∷ [])) s)
unfolding edits
added_behind s N x true g a = g
added_behind s N x false g a = added s (opposite s.table N) (as_kind C x) g (a refl)

answer_keeps : (s : Net) (N : Chan) (x : Entry) → Good s → is_kind C x ≡ false → Fit s.table s.begins N x
    → (is_master s.table N ≡ false → HasRoom s C x.transaction.master (opposite s.table N)) → Good (edits (answer_given s.table N x) s)
unfolding as_kind
answer_keeps s N x g c f r =
    added_behind s N x (is_master s.table N) g
    (λ m. record { space = r m; fits = fit_answer s.table s.begins N x f g.rules.passes c m })

module _ (s : Net) (g : Good s) where
  -- ---- begins: 1, 2, 3

  module _ (k : ℕ) (write : Bool) (m a : Agent) (known : within P C k ≡ true) (request : eqb k C ≡ false) (posted : (not (eqb k P) || write) ≡ true) where
    fit_new : has_agent s.table m ≡ true → has_agent s.table a ≡ true → same_agent m a ≡ false
        → Fit s.table (modify s.begins m.0 (λ n. n + 1)) (master_channel m) (new_entry s k write m a)
    unfolding new_entry stands_right
    fit_new hm ha d =
        let l = ltb-true m.0 s.table.agents hm in
        let w = (counts s.table (passed s.table g.rules.passes).counts).agents.1 in
        let e = modify_here s.begins m.0 (λ n. n + 1) 0 (omega (arith, g.counts)) in
        record {
          known = known;
          posted = posted;
          master = hm;
          target = ha;
          differ = rw d;
          number = rw e (true_and (leb 1 (next_number s m)) (leb (next_number s m) (next_number s m))
              (le-leb 1 (next_number s m) (omega arith)) (le-leb (next_number s m) (next_number s m) (omega arith)));
          place = rw request (start_on_way s.table g.rules.passes m a);
          mark = true_or (eqb k R) true refl;
        }

    begin_keeps : refusal (begin_grounds s k m a) ≡ None → Good (edits (begins s k write m a) s)
    unfolding begin_grounds edits edit new_entry
    begin_keeps ok =
        let r = clear (begin_grounds s k m a) ok in
        let q = and_true (has_agent s.table m) (has_agent s.table a) (not-false (has_agent s.table m && has_agent s.table a) r.0) in
        added (edit (raise m) s) (master_channel m) (new_entry s k write m a)
        (good_raise s m g q.0 (leb-false 65535 (begun s m) r.1.1.0))
        (record {
          space = not_full s k m (master_channel m) r.1.1.1.0;
          fits = fit_new q.0 q.1 r.1.0;
        })

  -- ---- the named entry

  record Named (k : ℕ) (t : Transaction) (x : Entry) (N : Chan) : Type 0 where
    fits : Fit s.table s.begins N x
    kind : x.kind ≡ k
    transaction : x.transaction ≡ t

  -- 6 does not hold: it is there, so it fits
  named : (k : ℕ) (N : Chan) (t : Transaction) → no_such_entry s k N t ≡ false → Named k t (entry_at s k N t) N
  named k N t h =
      let o = is_there (oldest k t (waiting s N)) (not-false (stands k t (waiting s N)) h) in
      let own = named_is_its_own k t o.0 (found_passes (is_named k t) (waiting s N) o.1) in
      subst⁻¹ (λ (e : Option Entry). Named k t (or_else zero_entry e) N) o.1
      (record {
        fits = g.rules.fits N o.0 (find_in (is_named k t) (waiting s N) o.1);
        kind = own.0;
        transaction = own.1;
      })

  -- P and R are no C
  no_C : (k : ℕ) (t : Transaction) (x : Entry) (N : Chan) → (k ≡ C → ⊥) → Named k t x N → is_kind C x ≡ false
  no_C k t x N n h = ne_eqb x.kind C (λ (e : x.kind ≡ C). n (sym h.kind ∙ e))

  -- ---- an entry goes on to N1: post and latch

  -- it gives way in N, and y of its kind is added at N1
  goes_on : (k : ℕ) (N : Chan) (t : Transaction) (f : Entry → List Entry) (y : Entry) → Tame (is_named k t) f → y.kind ≡ k → y.transaction ≡ t
      → full_ahead s k t.master (ahead s k N t) ≡ false
      → ((X : Chan) → ahead s k N t ≡ Through X → Fit s.table s.begins X y)
      → Good (edits (change N (is_named k t) f ∷ enters (ahead s k N t) y) s)
  unfolding edits edit
  goes_on k N t f y tame e o h fit =
      added_ahead (edit (change N (is_named k t) f) s) (ahead s k N t) y (good_change s N (is_named k t) f tame g)
      (λ X p. record {
        space = subst⁻¹ (λ (j : ℕ). HasRoom (edit (change N (is_named k t) f) s) j y.transaction.master X) e
            (subst⁻¹ (λ (u : Transaction). HasRoom (edit (change N (is_named k t) f) s) k u.master X) o
            (room_stays s N (is_named k t) f tame k t.master X (not_full s k t.master X (rw p at h))));
        fits = fit X p;
      })

  post_keeps : (N : Chan) (t : Transaction) → Accepted s (Post N t) → Good (after s (Post N t))
  unfolding grounds named_grounds after effects
  post_keeps N t ok =
      let r = clear (grounds s (Post N t)) ok in
      let x = entry_at s P N t in
      let n = named P N t r.1.0 in
      let c = no_C P t x N (λ (e : P ≡ C). omega arith) n in
      goes_on P N t gone x (tame_gone (is_named P t)) n.kind n.transaction r.1.1.1.0
      (fit_next s.table s.begins N x n.fits g.rules.passes c)

  latch_keeps : (N : Chan) (t : Transaction) → Accepted s (Latch N t) → Good (after s (Latch N t))
  unfolding grounds named_grounds after effects as_kind
  latch_keeps N t ok =
      let r = clear (grounds s (Latch N t)) ok in
      let x = entry_at s R N t in
      let n = named R N t r.1.0 in
      let c = no_C R t x N (λ (e : R ≡ C). omega arith) n in
      goes_on R N t marking (as_kind R x) (tame_marking t) refl n.transaction r.1.1.1.1.1.0
      (fit_copy s.table s.begins N x n.fits g.rules.passes c)

  -- ---- complete

  -- the R has left N, and then its C the opposite of N1
  module _ (N : Chan) (t : Transaction) where
    abbrev left : Net
    left = edit (leaves R N t) s

    left_good : Good left
    left_good = good_change s N (is_named R t) gone (tame_gone (is_named R t)) g

    taken_keeps : (N1 : NextPlace) (x : Entry) → is_kind C x ≡ false → Fit s.table s.begins N x
        → (is_master s.table N ≡ false → HasRoom left C x.transaction.master (opposite s.table N))
        → Good (edits (answer_taken s.table N1 x ++ answer_given s.table N x) left)
    unfolding edits edit
    taken_keeps Target x c f r = answer_keeps left N x left_good c f r
    taken_keeps (Through X) x c f r =
        let Y = opposite s.table X in
        let q = tame_gone (matches C x) in
        answer_keeps (edit (change Y (matches C x) gone) left) N x (good_change left Y (matches C x) gone q left_good) c f
        (λ m. room_stays left Y (matches C x) gone q C x.transaction.master (opposite s.table N) (r m))

    complete_keeps : Accepted s (Complete N t) → Good (after s (Complete N t))
    unfolding grounds named_grounds after effects edits
    complete_keeps ok =
        let r = clear (grounds s (Complete N t)) ok in
        let n = named R N t r.1.0 in
        taken_keeps (ahead s R N t) (entry_at s R N t) (no_C R t (entry_at s R N t) N (λ (e : R ≡ C). omega arith) n) n.fits
        (λ m.
        let h : answer_full s t.master N ≡ false = r.1.1.1.1.1.0 in
        subst⁻¹ (λ (u : Transaction). HasRoom left C u.master (opposite s.table N)) n.transaction
        (room_stays s N (is_named R t) gone (tame_gone (is_named R t)) C t.master (opposite s.table N) (not_full s C t.master (opposite s.table N) (rw m at h))))

  pub rules_stay : (e : Event) → Accepted s e → Good (after s e)
  unfolding after effects grounds edits
  rules_stay (BeginPosted m a) ok = begin_keeps P true m a refl refl refl ok
  rules_stay (BeginRead m a) ok = begin_keeps R false m a refl refl refl ok
  rules_stay (BeginWrite m a) ok = begin_keeps R true m a refl refl refl ok
  rules_stay (Commit N t) ok = good_change s N (is_named R t) marking (tame_marking t) g
  rules_stay (Post N t) ok = post_keeps N t ok
  rules_stay (Latch N t) ok = latch_keeps N t ok
  rules_stay (Complete N t) ok = complete_keeps N t ok
  rules_stay (DropRequest N t) ok = good_change s N (is_named R t) gone (tame_gone (is_named R t)) g
  rules_stay (DropCompletion N t) ok = good_change s N (is_named C t) gone (tame_gone (is_named C t)) g
