-- Every accepted event has an account: its guards and deeds, each with its right; where its guards hold again, so does all that is said of it.
-- One account a kind, put together from pieces in the order of its grounds.
use Prim.Native.Nat.{ℕ}
use native.Mathlib.Omega.{arith}
use mathlib.Core.Path.{◌≡◌, refl, sym, ap, subst, subst⁻¹, ◌∙◌}
use mathlib.Core.Logic.{inl, inr}
use mathlib.Core.List.{List, [], ◌∷◌, ◌++◌}
use mathlib.Core.Bool.{Bool, true, false, not, ◌&&◌}
use Rattle.std.specs.Prelude.{Option, None, Some}
use borrow.Author.Tests.{eq-eqb, not-false}
use Rattle.base.specs.Lists.{find, passes, or_else}
use Rattle.base.specs.Grounds.{Ground}
use Rattle.base.proofs.Logic.{split, there, both, and_true, none_some}
use Rattle.base.proofs.Lists.{is_there}
use Rattle.base.proofs.Grounds.{Clear, clear, unclear}
use Rattle.chassis.specs.declared.Chan.{Chan}
use Rattle.chassis.specs.declared.Table.{Table}
use Rattle.chassis.specs.declared.NextPlace.{NextPlace}
use Rattle.chassis.specs.declared.NextPlace.TheVariants.{Target, Through}
use Rattle.chassis.specs.Channels.{has_agent, has_chan, is_master, out_bus, opposite}
use Rattle.chassis.specs.Routes.{next_place}
use Rattle.chassis.specs.Tables.{table_passes}
use Rattle.queue.specs.declared.Transaction.{Transaction}
use Rattle.queue.specs.declared.Entry.{Entry}
use Rattle.queue.specs.Entries.{P, R, C, is_kind, is_named, matches, as_kind, zero_entry, gone, marking}
use Rattle.queue.specs.Queues.{oldest, first_C}
use Rattle.queue.proofs.Plainly.{named_is_its_own}
use Rattle.queue.proofs.Marks.{named_blind, matches_blind}
use Rattle.queue.proofs.Matching.{matching_kind}
use Rattle.network.specs.Nets.{Net, waiting}
use Rattle.network.specs.Edits.{change}
use Rattle.events.specs.declared.Event.{Event}
use Rattle.events.specs.declared.Event.TheVariants.{BeginPosted, BeginRead, BeginWrite, Commit, Post, Latch, Complete, DropRequest, DropCompletion}
use Rattle.events.specs.Tests.{entry_at, ahead, is_target, answer_full, no_such_entry, latched_already, unanswered, is_oldest_C, read_answer_behind_P}
use Rattle.events.specs.Grounds.{named_grounds, grounds, Accepted}
use Rattle.events.specs.Effects.{leaves, is_marked, enters, answer_taken, answer_given, effects, value}
use Rattle.ticks.specs.Footings.{Footing, occurs_on, drops_the, the_R, taken_from, footing}
use Rattle.ticks.specs.Footings as Foot
use Rattle.ticks.proofs.Guards.{has, Apart, Inwards, edits_of}
use Rattle.ticks.proofs.Rights.{takes_out, marks, quiet, Uses, on_bus, by_drop, Younger, of_oldest}
use Rattle.ticks.proofs.Begins.{Again, Account, begin_account}
use Rattle.ticks.proofs.Pieces.{P≢C, R≢C, bringing_deeds, Brings, bringing, Piece, joined, so, Named, not_behind, still_not_behind, named_piece, found_piece, adding, adding_piece, entering, entering_piece, no_answers, giving, free_piece, gives_ahead, ahead_and_back, uses_answer, giving_piece}

-- ---- kinds that name an entry

module _ (s : Net) (N : Chan) (t : Transaction) where
  -- 2 and 6 of another state, with the same table, where the entry is there
  named_clear : (k : ℕ) (u : Net) (x : Entry) (more less : List Ground) → u.table ≡ s.table → oldest k t (waiting u N) ≡ Some x
      → Clear (named_grounds s k N t more) → Clear less → Clear (named_grounds u k N t less)
  unfolding named_grounds
  named_clear k u x more less q h c d =
      (subst⁻¹ (λ (T : Table). not (has_chan T N && has_agent T t.master) ≡ false) q c.0, (rw h, d))

  named_there : (k : ℕ) (more : List Ground) → Clear (named_grounds s k N t more) → has_chan s.table N ≡ true
  unfolding named_grounds
  named_there k more c =
      (and_true (has_chan s.table N) (has_agent s.table t.master)
      (not-false (has_chan s.table N && has_agent s.table t.master) c.0)).0

  named_more : (k : ℕ) (more : List Ground) → Clear (named_grounds s k N t more) → Clear more
  unfolding named_grounds
  named_more k more c = c.1.1

  -- 6 does not hold
  named_six : (k : ℕ) (more : List Ground) → Clear (named_grounds s k N t more) → no_such_entry s k N t ≡ false
  unfolding named_grounds
  named_six k more c = c.1.0

  named_found : (k : ℕ) (more : List Ground) → Clear (named_grounds s k N t more) → (x : Entry) × (oldest k t (waiting s N) ≡ Some x)
  named_found k more c = is_there (oldest k t (waiting s N)) (not-false _ (named_six k more c))

  -- the next place is the entry's
  ahead_is : (k : ℕ) (u : Net) (x : Entry) → u.table ≡ s.table → oldest k t (waiting u N) ≡ Some x → ahead u k N t ≡ next_place s.table N x.target
  ahead_is k u x q h =
      ap (λ (o : Option Entry). next_place u.table N (or_else zero_entry o).target) h ∙ ap (λ (T : Table). next_place T N x.target) q

  -- and so is all that is made of the two
  moved_is : {B : Type 0} (k : ℕ) (u : Net) (x : Entry) (f : Entry → NextPlace → B) → u.table ≡ s.table → oldest k t (waiting u N) ≡ Some x
      → f (entry_at u k N t) (ahead u k N t) ≡ f x (next_place s.table N x.target)
  moved_is k u x f q h =
      ap (f (entry_at u k N t)) (ahead_is k u x q h) ∙ ap (λ (o : Option Entry). f (or_else zero_entry o) (next_place s.table N x.target)) h

  -- what is made of the entry enters there
  enters_is : (k : ℕ) (u : Net) (x : Entry) (g : Entry → Entry) → u.table ≡ s.table → oldest k t (waiting u N) ≡ Some x
      → enters (ahead u k N t) (g (entry_at u k N t)) ≡ enters (next_place s.table N x.target) (g x)
  enters_is k u x g q h = moved_is k u x (λ y N1. enters N1 (g y)) q h

  entering_is : (N1 : NextPlace) (x : Entry) → edits_of (entering N1 x) ≡ enters N1 x
  entering_is Target x = refl
  entering_is (Through X) x = refl

  entering_inwards : (p : Entry → Bool) (f : Entry → List Entry) (x y : Entry) (N1 : NextPlace) → Inwards ((change N p f, x) ∷ entering N1 y)
  entering_inwards p f x y Target = (tt, tt)
  entering_inwards p f x y (Through X) = ((tt, tt), (tt, tt))

  -- ---- commit

  abbrev tries_R : Option Chan → Footing
  tries_R takes = occurs_on (out_bus s.table N) (Some (the_R N t)) takes

  -- kinds 4, 6 and 7 use the R that they try
  uses_R : (takes : Option Chan) → Uses s (tries_R takes) (the_R N t)
  uses_R takes = on_bus refl (λ _. refl) (λ h. absurd (R≢C h))

  commit_account : Accepted s (Commit N t) → Account s (Commit N t)
  unfolding grounds effects value footing
  commit_account ok =
      let c = clear (grounds s (Commit N t)) ok in
      let d = named_more R _ c in
      let r = not_behind R N t s (named_six R _ c) d.1.0 in
      let x = r.0 in
      record {
        deeds = (is_marked N t, x) ∷ [];
        piece = so s (tries_R None) (named_piece R N t s (tries_R None) marking x marks (uses_R None) r.1)
            (λ u q b. record {
              accepted = unclear (grounds u (Commit N t))
                  (named_clear R u x _ _ q b.found c (rw b.found (rw r.1.found at d.0), (still_not_behind R N t u x b, tt)));
              does = refl;
              says = refl;
              stands = ap (λ (T : Table). occurs_on (out_bus T N) (Some (the_R N t)) None) q;
            });
        inwards = (tt, tt);
        done = refl;
      }

  -- ---- post

  module _ (passed : table_passes s.table ≡ true) where
    post_account : Accepted s (Post N t) → Account s (Post N t)
    unfolding grounds effects value footing
    post_account ok =
        let c = clear (grounds s (Post N t)) ok in
        let d = named_more P _ c in
        let r = not_behind P N t s (named_six P _ c) d.0 in
        let x = r.0 in
        let N1 = next_place s.table N x.target in
        let e = occurs_on (out_bus s.table N) None None in
        record {
          deeds = (leaves P N t, x) ∷ entering N1 x;
          piece = so s e
              (joined s e ((leaves P N t, x) ∷ []) (entering N1 x)
              (named_piece P N t s e gone x takes_out (on_bus refl (λ (h : P ≡ R). absurd (omega arith)) (λ h. absurd (P≢C h))) r.1)
              (entering_piece s e P t.master N1 x (gives_ahead s passed e N (named_there P _ c) refl x.target) (named_is_its_own P t x r.1.named).0 P≢C
              (rw (ahead_is P s x refl r.1.found) at d.1.0)))
              (λ u q b. record {
                accepted = unclear (grounds u (Post N t))
                    (named_clear P u x _ _ q b.0.found c (still_not_behind P N t u x b.0, (rw (ahead_is P u x q b.0.found) b.1, tt)));
                does = ap (leaves P N t ∷◌) (enters_is P u x (λ y. y) q b.0.found ∙ sym (enters_is P s x (λ y. y) refl r.1.found));
                says = refl;
                stands = ap (λ (T : Table). occurs_on (out_bus T N) None None) q;
              });
          inwards = entering_inwards (is_named P t) gone x x N1;
          done = ap (leaves P N t ∷◌) (entering_is N1 x ∙ sym (enters_is P s x (λ y. y) refl r.1.found));
        }

    -- ---- latch

    latch_account : Accepted s (Latch N t) → Account s (Latch N t)
    unfolding grounds effects value footing as_kind
    latch_account ok =
        let c = clear (grounds s (Latch N t)) ok in
        let d = named_more R _ c in
        let r = not_behind R N t s (named_six R _ c) d.1.0 in
        let x = r.0 in
        let n = goes_through (next_place s.table N x.target) (rw (ahead_is R s x refl r.1.found) at d.0) in
        let X = n.0 in
        let here : (u : Net) → u.table ≡ s.table → oldest R t (waiting u N) ≡ Some x → ahead u R N t ≡ Through X = λ u q h. ahead_is R u x q h ∙ n.1 in
        let already : (u : Net) → u.table ≡ s.table → oldest R t (waiting u N) ≡ Some x
        → latched_already u (entry_at u R N t) (ahead u R N t) ≡ latched_already u x (Through X)
        = λ u q h. moved_is R u x (latched_already u) q h ∙ ap (latched_already u x) n.1 in
        let e = tries_R None in
        let v = gives_ahead s passed e N (named_there R _ c) refl x.target X n.1 in
        record {
          deeds = (is_marked N t, x) ∷ adding X (as_kind R x);
          piece = so s e
              (joined s e ((is_marked N t, x) ∷ []) (adding X (as_kind R x))
              (named_piece R N t s e marking x marks (uses_R None) r.1)
              (joined s e [] (adding X (as_kind R x))
              (free_piece s e x X v (ahead_and_back s passed e N (named_there R _ c) refl x.target X n.1) (sym (already s refl r.1.found) ∙ d.1.1.0))
              (adding_piece s e R t.master X (as_kind R x) v (no_answers s X (as_kind R x) R refl R≢C) (rw (here s refl r.1.found) at d.1.1.1.0))))
              (λ u q b. record {
                accepted = unclear (grounds u (Latch N t))
                    (named_clear R u x _ _ q b.0.found c (
                      rw (here u q b.0.found),
                      (still_not_behind R N t u x b.0, (already u q b.0.found ∙ b.1.0, (rw (here u q b.0.found) b.1.1, tt))),
                    ));
                does = ap (is_marked N t ∷◌) (enters_is R u x (as_kind R) q b.0.found ∙ sym (enters_is R s x (as_kind R) refl r.1.found));
                says = refl;
                stands = ap (λ (T : Table). occurs_on (out_bus T N) (Some (the_R N t)) None) q;
              });
          inwards = entering_inwards (is_named R t) marking x (as_kind R x) (Through X);
          done = ap (is_marked N t ∷◌) (ap (λ (N1 : NextPlace). enters N1 (as_kind R x)) (sym n.1) ∙ sym (enters_is R s x (as_kind R) refl r.1.found));
        }
      where
        goes_through : (N1 : NextPlace) → is_target N1 ≡ false → (X : Chan) × (N1 ≡ Through X)
        goes_through Target h = absurd (both true refl h)
        goes_through (Through X) h = (X, refl)

    -- ---- complete

    -- its footing and effects, where the R is the same
    complete_stands : (u : Net) (x : Entry) → u.table ≡ s.table → oldest R t (waiting u N) ≡ Some x
        → footing u (Complete N t) ≡ tries_R (taken_from s.table (next_place s.table N x.target))
    unfolding footing
    complete_stands u x q h =
        ap (λ (N1 : NextPlace). occurs_on (out_bus u.table N) (Some (the_R N t)) (taken_from u.table N1)) (ahead_is R u x q h)
        ∙ ap (λ (T : Table). occurs_on (out_bus T N) (Some (the_R N t)) (taken_from T (next_place s.table N x.target))) q

    complete_effects : (u : Net) (x : Entry) → u.table ≡ s.table → oldest R t (waiting u N) ≡ Some x
        → effects u (Complete N t) ≡ leaves R N t ∷ (answer_taken s.table (next_place s.table N x.target) x ++ answer_given s.table N x)
    unfolding effects
    complete_effects u x q h =
        moved_is R u x (λ y N1. leaves R N t ∷ (answer_taken u.table N1 y ++ answer_given u.table N y)) q h
        ∙ ap (λ (T : Table). leaves R N t ∷ (answer_taken T (next_place s.table N x.target) x ++ answer_given T N x)) q

    complete_edits : (N1 : NextPlace) (b : Bool) (x c : Entry) → is_master s.table N ≡ b
        → edits_of (bringing_deeds s.table N1 x c ++ giving s.table b N x) ≡ answer_taken s.table N1 x ++ answer_given s.table N x
    complete_edits Target true x c m = rw m
    complete_edits Target false x c m = rw m
    complete_edits (Through X) true x c m = rw m
    complete_edits (Through X) false x c m = rw m

    -- the R and the C are two entries
    two_entries : (Y : Chan) (x c : Entry) → is_named R t x ≡ true → matches C x c ≡ true → Apart (leaves R N t, x) (change Y (matches C x) gone, c)
    two_entries Y x c h k =
        let request = (named_is_its_own R t x h).0 in
        let answer = matching_kind C x c k in (
          quiet (is_named R t) (named_blind R t) takes_out,
          quiet (matches C x) (matches_blind C x) takes_out,
          inr (
            split (matches C x x) (λ v. absurd (R≢C (sym request ∙ matching_kind C x x v))) (λ v. v),
            split (is_named R t c) (λ v. absurd (R≢C (sym (named_is_its_own R t c v).0 ∙ answer))) (λ v. v),
          ),
        )

    complete_inwards : (N1 : NextPlace) (b : Bool) (x c : Entry) → is_named R t x ≡ true → ((X : Chan) → N1 ≡ Through X → matches C x c ≡ true)
        → Inwards ((leaves R N t, x) ∷ (bringing_deeds s.table N1 x c ++ giving s.table b N x))
    complete_inwards Target true x c h k = (tt, tt)
    complete_inwards Target false x c h k = ((tt, tt), (tt, tt))
    complete_inwards (Through X) true x c h k = ((two_entries (opposite s.table X) x c h (k X refl), tt), (tt, tt))
    complete_inwards (Through X) false x c h k = ((two_entries (opposite s.table X) x c h (k X refl), (tt, tt)), ((tt, tt), (tt, tt)))

    complete_again : (u : Net) (x : Entry) → u.table ≡ s.table → Named s R N t x → Named u R N t x → Brings u x (next_place s.table N x.target)
        → answer_full u t.master N ≡ false → Clear (grounds s (Complete N t)) → Again s u (Complete N t)
    unfolding grounds value
    complete_again u x q a b k f c =
        record {
          accepted = unclear (grounds u (Complete N t))
              (named_clear R u x _ _ q b.found c (still_not_behind R N t u x b, (moved_is R u x (unanswered u) q b.found ∙ k.there, (moved_is R u x (read_answer_behind_P u) q b.found ∙ k.in_turn, (f, tt)))));
          does = complete_effects u x q b.found ∙ sym (complete_effects s x refl a.found);
          says = refl;
          stands = complete_stands u x q b.found ∙ sym (complete_stands s x refl a.found);
        }

    complete_account : Accepted s (Complete N t) → Account s (Complete N t)
    unfolding grounds effects value footing
    complete_account ok =
        let c = clear (grounds s (Complete N t)) ok in
        let d = named_more R _ c in
        let r = not_behind R N t s (named_six R _ c) d.0 in
        let x = r.0 in
        let N1 = next_place s.table N x.target in
        let b = is_master s.table N in
        let e = tries_R (taken_from s.table (ahead s R N t)) in
        let here = ahead_is R s x refl r.1.found in
        let there = named_there R _ c in
        let own = named_is_its_own R t x r.1.named in
        let w = bringing s e x N1
        (λ X h. uses_answer s passed e N there refl x.target X x.transaction h (ap (taken_from s.table) (here ∙ h)))
        (sym (moved_is R s x (unanswered s) refl r.1.found) ∙ d.1.0) (sym (moved_is R s x (read_answer_behind_P s) refl r.1.found) ∙ d.1.1.0) in
        let gives = giving s.table b N x in
        record {
          deeds = (leaves R N t, x) ∷ (bringing_deeds s.table N1 x w.entry ++ gives);
          piece = so s e
              (joined s e ((leaves R N t, x) ∷ []) (bringing_deeds s.table N1 x w.entry ++ gives)
              (named_piece R N t s e gone x takes_out (uses_R (taken_from s.table (ahead s R N t))) r.1)
              (joined s e (bringing_deeds s.table N1 x w.entry) gives w.piece
              (giving_piece s passed e N there refl b t.master x refl
              (subst⁻¹ (λ (u : Transaction). oldest R u (waiting s N) ≡ Some x) own.1 r.1.found) d.1.1.1.0)))
              (λ u q k. complete_again u x q r.1 k.0 k.1.0 k.1.1 c);
          inwards = complete_inwards N1 b x w.entry r.1.named w.matched;
          done = ap (leaves R N t ∷◌) (complete_edits N1 b x w.entry refl) ∙ sym (complete_effects s x refl r.1.found);
        }

  -- ---- drops

  drop_request_account : Accepted s (DropRequest N t) → Account s (DropRequest N t)
  unfolding grounds effects value footing
  drop_request_account ok =
      let c = clear (grounds s (DropRequest N t)) ok in
      let d = named_more R _ c in
      let r = named_found R _ c in
      let e = drops_the (the_R N t) in
      record {
        deeds = (leaves R N t, r.0) ∷ [];
        piece = so s e (found_piece R N t s e r.0 (by_drop refl (inl refl)) r.1)
            (λ u q b. record {
              accepted = unclear (grounds u (DropRequest N t))
                  (named_clear R u r.0 _ _ q b c (subst⁻¹ (λ (T : Table). is_master T N ≡ false) q d.0, (rw b (rw r.1 at d.1.0), tt)));
              does = refl;
              says = refl;
              stands = refl;
            });
        inwards = (tt, tt);
        done = refl;
      }

  -- where no C is found, none of that name is
  no_C_named : (l : List Entry) → find (is_kind C) l ≡ None → find (is_named C t) l ≡ None
  unfolding find
  no_C_named [] h = refl
  no_C_named (y ∷ l) h =
      split (is_kind C y)
      (λ k. absurd (none_some {a = y} h (rw k)))
      (λ k. split (is_named C t y)
      (λ n. absurd (both (is_kind C y) (eq-eqb y.kind C (named_is_its_own C t y n).0) k))
      (λ n. rw n (no_C_named l (rw k at h))))

  -- where a C is found, so is the oldest C, and it is another
  older_C : is_oldest_C s N t ≡ false → (x : Entry) → oldest C t (waiting s N) ≡ Some x → Younger s (Foot.the_C N t)
  unfolding first_C
  older_C h x k =
      there (find (is_kind C) (waiting s N))
      (λ n. absurd (none_some (no_C_named (waiting s N) n) k))
      (λ c n. record { is_C = refl; oldest = c; there = n; other = subst (λ (o : Option Entry). passes (is_named C t) o ≡ false) n h })

  -- the oldest C is another than the one dropped
  oldest_piece : (y : Younger s (Foot.the_C N t)) → Piece s (drops_the (Foot.the_C N t)) [] (λ u. is_oldest_C u N t ≡ false)
  unfolding first_C
  oldest_piece y = record {
    guards = has N (is_kind C) y.oldest ∷ [];
    held = (y.there, tt);
    own = (of_oldest (Foot.the_C N t) refl refl y.there, tt);
    ready = tt;
    mine = tt;
    again = λ u q g. rw g.0 y.other;
  }

  drop_completion_account : Accepted s (DropCompletion N t) → Account s (DropCompletion N t)
  unfolding grounds effects value footing
  drop_completion_account ok =
      let c = clear (grounds s (DropCompletion N t)) ok in
      let d = named_more C _ c in
      let r = named_found C _ c in
      let y = older_C d.0 r.0 r.1 in
      let e = drops_the (Foot.the_C N t) in
      record {
        deeds = (leaves C N t, r.0) ∷ [];
        piece = so s e (joined s e ((leaves C N t, r.0) ∷ []) [] (found_piece C N t s e r.0 (by_drop refl (inr y)) r.1) (oldest_piece y))
            (λ u q b. record {
              accepted = unclear (grounds u (DropCompletion N t)) (named_clear C u r.0 _ _ q b.0 c (b.1, tt));
              does = refl;
              says = refl;
              stands = refl;
            });
        inwards = (tt, tt);
        done = refl;
      }

-- ---- every kind

pub account : (s : Net) → table_passes s.table ≡ true → (e : Event) → Accepted s e → Account s e
unfolding grounds effects value footing
account s h (BeginPosted m a) = begin_account (BeginPosted m a) P true m a P≢C (λ _. refl) (λ _. refl) (λ _. refl) (λ _. refl) s
account s h (BeginRead m a) = begin_account (BeginRead m a) R false m a R≢C (λ _. refl) (λ _. refl) (λ _. refl) (λ _. refl) s
account s h (BeginWrite m a) = begin_account (BeginWrite m a) R true m a R≢C (λ _. refl) (λ _. refl) (λ _. refl) (λ _. refl) s
account s h (Commit N t) = commit_account s N t
account s h (Post N t) = post_account s N t h
account s h (Latch N t) = latch_account s N t h
account s h (Complete N t) = complete_account s N t h
account s h (DropRequest N t) = drop_request_account s N t
account s h (DropCompletion N t) = drop_completion_account s N t
