-- A plan carried out is the step: its changes of channels are the event's effects, and every list on the way fits its
-- places, since changes that come before the last only take out or mark.
use Prim.Native.Nat.{ℕ, zero, suc, ◌+◌, ◌≤◌}
use mathlib.Core.Path.{◌≡◌, refl, ap, sym, subst, ◌∙◌}
use mathlib.Core.Bool.{Bool, true, false, cond}
use mathlib.Core.List.{List, [], ◌∷◌, ◌++◌}
use native.Mathlib.Omega.{arith}
use native.Mathlib.Nat.{le_trans}
use borrow.Author.Tests.{ltb-true, ltb-false, not-false}
use lib.Dec.{ltb}
use lib.ListN.{length, get_or, set, get_or-eq_default}
use Rattle.base.specs.Lists.{modify}
use Rattle.base.specs.Grounds.{Ground}
use Rattle.base.proofs.Logic.{split}
use Rattle.base.proofs.Grounds.{Clear, clear}
use Rattle.base.proofs.Cells.{modify_every, modify_here}
use Rattle.chassis.specs.declared.Agent.{Agent}
use Rattle.chassis.specs.declared.Chan.{Chan}
use Rattle.chassis.specs.declared.Table.{Table}
use Rattle.chassis.specs.declared.NextPlace.{NextPlace}
use Rattle.chassis.specs.declared.NextPlace.TheVariants.{Target, Through}
use Rattle.chassis.specs.Channels.{is_master, master_channel, opposite}
use Rattle.chassis.specs.Numbers.{chan}
use Rattle.queue.specs.declared.Transaction.{Transaction}
use Rattle.queue.specs.declared.Entry.{Entry}
use Rattle.queue.specs.declared.Change.TheVariants.{Nothing, Add, TakeOut, Mark}
use Rattle.queue.specs.Entries.{P, R, C, is_named, as_kind, gone, marking}
use Rattle.queue.specs.Queues.{stands}
use Rattle.queue.specs.code.Changes.{changes}
use Rattle.queue.specs.Packing.{channel_places}
use Rattle.queue.proofs.Matching.{found_by_its_name}
use Rattle.queue.proofs.Lengths.{changes_length, nothing_length, take_out_length, take_matching_length, mark_length}
use Rattle.network.specs.declared.State.{State}
use Rattle.network.specs.declared.Act.{Act}
use Rattle.network.specs.Nets.{Net, pack, waiting}
use Rattle.network.specs.code.Acts.{act, acted_on, counted}
use Rattle.network.specs.Edits.{Edit, add, change, raise, edit, edits}
use Rattle.network.proofs.Acts.{acted_packed, counted_same}
use Rattle.network.proofs.Good.{Good}
use Rattle.network.proofs.Rules.{within_its_places}
use Rattle.events.specs.declared.Event.{Event}
use Rattle.events.specs.declared.Event.TheVariants.{BeginPosted, BeginRead, BeginWrite, Commit, Post, Latch, Complete, DropRequest, DropCompletion}
use Rattle.judge_events.specs.declared.Plan.{Plan}
use Rattle.events.specs.Tests.{entry_at, ahead}
use Rattle.events.specs.Effects.{leaves, is_marked, enters, answer_taken, answer_given, begins, new_entry, effects, after, value}
use Rattle.events.specs.Grounds.{named_grounds, grounds, Accepted}
use Rattle.events.specs.Accounts.{account}
use Rattle.judge_events.specs.Plans.{at_channel, no_act, does, begin_plan, entering, answer_leaving, answer_entering, accepted_plan, carried_out, acts_of}
use Rattle.events.proofs.Kept.{rules_stay}

-- ---- the entry that a change names is found under its own name

module _ (N : Chan) (x : Entry) (n : Net) {k : ℕ} {t : Transaction} (p : x.kind ≡ k) (q : x.transaction ≡ t) where
  take_named : act (at_channel N (TakeOut x)) n ≡ edit (change N (is_named k t) gone) n
  unfolding act changes edit
  take_named = λ i. edit (change N (is_named (p i) (q i)) gone) n

  mark_named : act (at_channel N (Mark x)) n ≡ edit (change N (is_named k t) marking) n
  unfolding act changes edit
  mark_named = λ i. edit (change N (is_named (p i) (q i)) marking) n

module _ (s : Net) (k : ℕ) (N : Chan) (t : Transaction) (h : stands k t (waiting s N) ≡ true) (n : Net) where
  taken_out : act (at_channel N (TakeOut (entry_at s k N t))) n ≡ edit (leaves k N t) n
  taken_out = let e = found_by_its_name k t (waiting s N) h in take_named N (entry_at s k N t) n e.0 e.1

  got_its_mark : act (at_channel N (Mark (entry_at s k N t))) n ≡ edit (change N (is_named k t) marking) n
  got_its_mark = let e = found_by_its_name k t (waiting s N) h in mark_named N (entry_at s k N t) n e.0 e.1

modify_none : {A : Type 0} (l : List A) (i : ℕ) (f : A → A) → ((x : A) → f x ≡ x) → modify l i f ≡ l
unfolding modify
modify_none [] i f h = refl
modify_none (x ∷ l) zero f h = rw (h x)
modify_none (x ∷ l) (suc i) f h = ap (x ∷◌) (modify_none l i f h)

nothing_done : (n : Net) → act no_act n ≡ n
unfolding act changes
nothing_done n = rw (modify_none n.chans 0 (changes Nothing) (λ l. refl))

added : (N : Chan) (x : Entry) (n : Net) → act (at_channel N (Add x)) n ≡ edit (add N x) n
unfolding act changes edit
added N x n = refl

-- ---- lists that fit

abbrev pub Small : Net → Type 0
Small n = (N : Chan) → length (waiting n N) ≤ channel_places

-- a change that makes no list longer keeps them so
shrunk : (n : Net) (a : Act) → ((l : List Entry) → length (changes a.change l) ≤ length l) → Small n → Small (act a n)
unfolding act
shrunk n a h small N =
    modify_every (λ j l. length l ≤ channel_places) n.chans a.at.0 (changes a.change) []
    (λ k. le_trans (h (waiting n a.at)) k) (λ j. small (chan j)) N.0

-- where the lists fit after a change, the changed one does
fits_after : (n : Net) (a : Act) → Small (act a n) → length (changes a.change (waiting n a.at)) ≤ channel_places
unfolding act
fits_after n a small =
    split (ltb a.at.0 (length n.chans))
    (λ h. subst (λ (l : List Entry). length l ≤ channel_places) (modify_here n.chans a.at.0 (changes a.change) [] (ltb-true a.at.0 (length n.chans) h)) (small a.at))
    (λ h.
    let e : waiting n a.at ≡ [] = get_or-eq_default n.chans [] (ltb-false a.at.0 (length n.chans) h) in
    let k = changes_length a.change (waiting n a.at) in
    let z : length (waiting n a.at) ≡ 0 = ap length e in
    omega arith)

-- ---- carried out, on lists

abbrev pub all_acts : Plan → Net → Net
all_acts p n = act p.third (act p.second (act p.first n))

pub record Fitting (n : Net) (p : Plan) : Type 0 where
  pub now : Small n
  pub first : Small (act p.first n)
  pub second : Small (act p.second (act p.first n))
  pub third : Small (all_acts p n)

acts_packed : (n : Net) (p : Plan) → Fitting n p → acted_on (acted_on (acted_on (pack n) p.first) p.second) p.third ≡ pack (all_acts p n)
acts_packed n p f =
    let n₁ = act p.first n in
    let n₂ = act p.second n₁ in
    ap (λ (s : State). acted_on (acted_on s p.second) p.third) (acted_packed n p.first (f.now p.first.at) (fits_after n p.first f.first))
    ∙ ap (λ (s : State). acted_on s p.third) (acted_packed n₁ p.second (f.first p.second.at) (fits_after n₁ p.second f.second))
    ∙ acted_packed n₂ p.third (f.second p.third.at) (fits_after n₂ p.third f.third)

-- ---- the counts

set_is_modify : (l : List ℕ) (i : ℕ) → set l i (get_or l i 0 + 1) ≡ modify l i (λ n. n + 1)
unfolding modify
set_is_modify [] i = refl
set_is_modify (x ∷ l) zero = refl
set_is_modify (x ∷ l) (suc i) = ap (x ∷◌) (set_is_modify l i)

-- a count that is not raised stays
not_raised : (n : Net) (m : Agent) → counted (pack n) m (get_or n.begins m.0 0) ≡ pack n
unfolding pack
not_raised n m = counted_same (pack n) m

raised : (n : Net) (m : Agent) → counted (pack n) m (get_or n.begins m.0 0 + 1) ≡ pack (edit (raise m) n)
unfolding pack counted edit
raised n m = rw (set_is_modify n.begins m.0)

-- ---- lists that fit, all along a plan

abbrev Shrinks : Act → Type 0
Shrinks a = (l : List Entry) → length (changes a.change l) ≤ length l

-- the last change alone may add
fit_three : (s : Net) (p : Plan) → Shrinks p.first → Shrinks p.second → Small s → Small (all_acts p s) → Fitting s p
fit_three s p a b small end =
    let n = shrunk s p.first a small in
    record { now = small; first = n; second = shrunk (act p.first s) p.second b n; third = end }

-- or the second, and the third does nothing
fit_two : (s : Net) (p : Plan) → Shrinks p.first → p.third ≡ no_act → Small s → Small (all_acts p s) → Fitting s p
fit_two s p a c small end =
    let e : all_acts p s ≡ act p.second (act p.first s) = ap (λ (x : Act). act x (act p.second (act p.first s))) c ∙ nothing_done (act p.second (act p.first s)) in
    record { now = small; first = shrunk s p.first a small; second = subst Small e end; third = end }

-- or the first, and the others do nothing
fit_one : (s : Net) (p : Plan) → p.second ≡ no_act → p.third ≡ no_act → Small s → Small (all_acts p s) → Fitting s p
fit_one s p b c small end =
    let n = act p.first s in
    let e : act p.second n ≡ n = ap (λ (x : Act). act x n) b ∙ nothing_done n in
    let f : all_acts p s ≡ act p.second n = ap (λ (x : Act). act x (act p.second n)) c ∙ nothing_done (act p.second n) in
    record { now = small; first = subst Small (f ∙ e) end; second = subst Small f end; third = end }

-- ---- changes and effects

edits_append : (ds es : List Edit) (n : Net) → edits (ds ++ es) n ≡ edits es (edits ds n)
unfolding edits
edits_append [] es n = refl
edits_append (d ∷ ds) es n = edits_append ds es (edit d n)

entered : (N1 : NextPlace) (x : Entry) (n : Net) → act (entering N1 x) n ≡ edits (enters N1 x) n
unfolding edits
entered Target x n = nothing_done n
entered (Through X) x n = added X x n

answered_out : (T : Table) (N1 : NextPlace) (r : Entry) (n : Net) → act (answer_leaving T N1 r) n ≡ edits (answer_taken T N1 r) n
unfolding act changes edits edit
answered_out T Target r n = nothing_done n
answered_out T (Through X) r n = refl

given : (T : Table) (N : Chan) (x : Entry) (n : Net) → act (answer_entering T N x) n ≡ edits (answer_given T N x) n
unfolding edits
given T N x n = split (is_master T N) (λ h. rw h (nothing_done n)) (λ h. rw h (added (opposite T N) (as_kind C x) n))

leaving_shrinks : (T : Table) (N1 : NextPlace) (r : Entry) → Shrinks (answer_leaving T N1 r)
leaving_shrinks T Target r l = nothing_length l
leaving_shrinks T (Through X) r l = take_matching_length r l

-- ---- an accepted event

-- the event is judged in s, and its plan is carried out in u: in s itself, or in a state where the event does the same
module _ (s u : Net) (small : Small u) where
  abbrev then : Event → Net
  then e = edits (effects s e) u

  -- the changes are the effects, and everything fits; a begin's count is raised besides
  pub record Done (e : Event) (m : Agent) (p : Plan) : Type 0 where
    pub fitting : Fitting u p
    pub counts : counted (pack (all_acts p u)) m (cond p.raises (get_or u.begins m.0 0 + 1) (get_or u.begins m.0 0)) ≡ pack (then e)

  -- the kinds that begin nothing
  unraised : (e : Event) (m : Agent) (p : Plan) → p.raises ≡ false → all_acts p u ≡ then e
      → counted (pack (all_acts p u)) m (cond p.raises (get_or u.begins m.0 0 + 1) (get_or u.begins m.0 0)) ≡ pack (then e)
  unfolding act
  unraised e m p r a = rw r (not_raised (all_acts p u) m ∙ ap pack a)

  module _ (e : Event) (k : ℕ) (write : Bool) (m a : Agent) (end : Small (then e))
      (plans : accepted_plan s e ≡ begin_plan s k write m a) (effs : effects s e ≡ begins s k write m a) where
    begun_so : then e ≡ edit (raise m) (edit (add (master_channel m) (new_entry s k write m a)) u)
    unfolding edits
    begun_so = rw effs

    acts_so : all_acts (begin_plan s k write m a) u ≡ edit (add (master_channel m) (new_entry s k write m a)) u
    acts_so =
        let n = edit (add (master_channel m) (new_entry s k write m a)) u in
        ap (λ (x : Net). act no_act (act no_act x)) (added (master_channel m) (new_entry s k write m a) u)
        ∙ ap (act no_act) (nothing_done n) ∙ nothing_done n

    small_begun : Small (edit (add (master_channel m) (new_entry s k write m a)) u)
    unfolding edit
    small_begun = subst Small begun_so end

    done_begin : Done e m (accepted_plan s e)
    unfolding edit
    done_begin = subst (Done e m) (sym plans) (record {
      fitting = fit_one u (begin_plan s k write m a) refl refl small (subst Small (sym acts_so) small_begun);
      counts = ap (λ (n : Net). counted (pack n) m (get_or u.begins m.0 0 + 1)) acts_so ∙ raised (edit (add (master_channel m) (new_entry s k write m a)) u) m ∙ ap pack (sym begun_so);
    })

  -- a plan of three changes that come to the event's effects
  module _ (e : Event) (m : Agent) (end : Small (then e)) (p : Plan) (still : p.raises ≡ false) (comes : all_acts p u ≡ then e) where
    end_small : Small (all_acts p u)
    end_small = subst Small (sym comes) end

    done_three : Shrinks p.first → Shrinks p.second → Done e m p
    done_three a b = record { fitting = fit_three u p a b small end_small; counts = unraised e m p still comes }

    done_two : Shrinks p.first → p.third ≡ no_act → Done e m p
    done_two a c = record { fitting = fit_two u p a c small end_small; counts = unraised e m p still comes }

  -- where nothing follows the first change
  alone : (a : Act) → act no_act (act no_act (act a u)) ≡ act a u
  alone a = ap (act no_act) (nothing_done (act a u)) ∙ nothing_done (act a u)

  module _ (N : Chan) (t : Transaction) where
    there : (k : ℕ) (more : List Ground) → Clear (named_grounds s k N t more) → stands k t (waiting s N) ≡ true
    unfolding named_grounds
    there k more c = not-false (stands k t (waiting s N)) c.1.0

    -- commit, and the two drops
    done_commit : Accepted s (Commit N t) → Small (then (Commit N t)) → Done (Commit N t) t.master (accepted_plan s (Commit N t))
    unfolding accepted_plan acts_of value effects edits grounds
    done_commit ok end =
        let h = there R _ (clear (grounds s (Commit N t)) ok) in
        done_three (Commit N t) t.master end (accepted_plan s (Commit N t)) refl (alone (at_channel N (Mark (entry_at s R N t))) ∙ got_its_mark s R N t h u)
        (mark_length (entry_at s R N t)) nothing_length

    done_drop : (e : Event) (k : ℕ) → Small (then e) → stands k t (waiting s N) ≡ true
        → accepted_plan s e ≡ does (at_channel N (TakeOut (entry_at s k N t))) no_act no_act → effects s e ≡ leaves k N t ∷ []
        → Done e t.master (accepted_plan s e)
    unfolding edits
    done_drop e k end h plans effs =
        subst (Done e t.master) (sym plans)
        (done_three e t.master end (does (at_channel N (TakeOut (entry_at s k N t))) no_act no_act) refl
        (alone (at_channel N (TakeOut (entry_at s k N t))) ∙ taken_out s k N t h u ∙ rw effs)
        (take_out_length (entry_at s k N t)) nothing_length)

    -- post
    done_post : Accepted s (Post N t) → Small (then (Post N t)) → Done (Post N t) t.master (accepted_plan s (Post N t))
    unfolding accepted_plan acts_of value effects edits grounds
    done_post ok end =
        let h = there P _ (clear (grounds s (Post N t)) ok) in
        let x = entry_at s P N t in
        let n = edit (leaves P N t) u in
        done_two (Post N t) t.master end (accepted_plan s (Post N t)) refl
        (nothing_done _ ∙ ap (act (entering (ahead s P N t) x)) (taken_out s P N t h u) ∙ entered (ahead s P N t) x n)
        (take_out_length x) refl

    -- latch
    done_latch : Accepted s (Latch N t) → Small (then (Latch N t)) → Done (Latch N t) t.master (accepted_plan s (Latch N t))
    unfolding accepted_plan acts_of value effects edits grounds
    done_latch ok end =
        let h = there R _ (clear (grounds s (Latch N t)) ok) in
        let x = entry_at s R N t in
        let n = edit (is_marked N t) u in
        done_two (Latch N t) t.master end (accepted_plan s (Latch N t)) refl
        (nothing_done _ ∙ ap (act (entering (ahead s R N t) (as_kind R x))) (got_its_mark s R N t h u) ∙ entered (ahead s R N t) (as_kind R x) n)
        (mark_length x) refl

    -- complete
    done_complete : Accepted s (Complete N t) → Small (then (Complete N t)) → Done (Complete N t) t.master (accepted_plan s (Complete N t))
    unfolding accepted_plan acts_of value effects edits grounds
    done_complete ok end =
        let h = there R _ (clear (grounds s (Complete N t)) ok) in
        let x = entry_at s R N t in
        let n = edit (leaves R N t) u in
        let N1 = ahead s R N t in
        done_three (Complete N t) t.master end (accepted_plan s (Complete N t)) refl
        (ap (λ (y : Net). act (answer_entering s.table N x) (act (answer_leaving s.table N1 x) y)) (taken_out s R N t h u)
        ∙ ap (act (answer_entering s.table N x)) (answered_out s.table N1 x n)
        ∙ given s.table N x (edits (answer_taken s.table N1 x) n)
        ∙ sym (edits_append (answer_taken s.table N1 x) (answer_given s.table N x) n))
        (take_out_length x) (leaving_shrinks s.table N1 x)

    done_drop_request : Accepted s (DropRequest N t) → Small (then (DropRequest N t)) → Done (DropRequest N t) t.master (accepted_plan s (DropRequest N t))
    unfolding accepted_plan acts_of value effects grounds
    done_drop_request ok end = done_drop (DropRequest N t) R end (there R _ (clear (grounds s (DropRequest N t)) ok)) refl refl

    done_drop_completion : Accepted s (DropCompletion N t) → Small (then (DropCompletion N t)) → Done (DropCompletion N t) t.master (accepted_plan s (DropCompletion N t))
    unfolding accepted_plan acts_of value effects grounds
    done_drop_completion ok end = done_drop (DropCompletion N t) C end (there C _ (clear (grounds s (DropCompletion N t)) ok)) refl refl

  done : (e : Event) → Accepted s e → Small (then e) → Done e (account e).name.master (accepted_plan s e)
  unfolding accepted_plan acts_of value effects
  done (BeginPosted m a) ok end = done_begin (BeginPosted m a) P true m a end refl refl
  done (BeginRead m a) ok end = done_begin (BeginRead m a) R false m a end refl refl
  done (BeginWrite m a) ok end = done_begin (BeginWrite m a) R true m a end refl refl
  done (Commit N t) ok end = done_commit N t ok end
  done (Post N t) ok end = done_post N t ok end
  done (Latch N t) ok end = done_latch N t ok end
  done (Complete N t) ok end = done_complete N t ok end
  done (DropRequest N t) ok end = done_drop_request N t ok end
  done (DropCompletion N t) ok end = done_drop_completion N t ok end

-- ---- on a state that keeps the rules

module _ (s : Net) (g : Good s) where
  pub small : Small s
  small N = within_its_places s g.rules N

  pub small_after : (e : Event) → Accepted s e → Small (after s e)
  small_after e ok N = within_its_places (after s e) (rules_stay s g e ok).rules N

-- judged in s and carried out in u
pub done_elsewhere : (s u : Net) → Small u → (e : Event) → Accepted s e → Small (edits (effects s e) u)
    → carried_out (pack u) (account e).name.master (accepted_plan s e) ≡ pack (edits (effects s e) u)
unfolding carried_out pack
done_elsewhere s u small e ok end =
    let p = accepted_plan s e in
    let m = (account e).name.master in
    let r = done s u small e ok end in
    ap (λ (x : State). counted x m (cond p.raises (get_or u.begins m.0 0 + 1) (get_or u.begins m.0 0))) (acts_packed u p r.fitting)
    ∙ r.counts

pub accepted_done : (s : Net) → Good s → (e : Event) → Accepted s e → carried_out (pack s) (account e).name.master (accepted_plan s e) ≡ pack (after s e)
unfolding after
accepted_done s g e ok = done_elsewhere s s (small s g) e ok (small_after s g e ok)
