-- Every accepted step moves something: no model accepts a record and leaves the state as it was.
-- A begin raises a count. A commit leaves one uncommitted entry fewer in N; post, complete and the drops one of the entry's kind; a latch one more in N1.
use Prim.Native.Nat.{ℕ, suc, ◌+◌}
use native.Mathlib.Omega.{arith}
use mathlib.Core.Path.{◌≡◌, refl, sym, ap, subst⁻¹, ◌∙◌}
use mathlib.Core.Bool.{Bool, true, false, cond, not, ◌&&◌}
use mathlib.Core.List.{List, [], ◌∷◌, ◌++◌}
use Rattle.std.specs.Prelude.{Some, Ok}
use borrow.Author.Tests.{ltb-true, eq-eqb, ne_eqb, not-false}
use lib.ListN.{length, get_or, length-append}
use Rattle.base.specs.Lists.{find, alter, count, modify, or_else}
use Rattle.base.proofs.Logic.{split, and_true, both, none_some}
use Rattle.base.proofs.Grounds.{clear}
use Rattle.base.proofs.Lists.{found_passes, is_there}
use Rattle.base.proofs.Cells.{modify_every, modify_here, modify_any, none_altered, length_modify}
use Rattle.base.proofs.Queues.{count_add, getD_modify_other}
use Rattle.chassis.specs.declared.Agent.{Agent}
use Rattle.chassis.specs.declared.Chan.{Chan}
use Rattle.chassis.specs.declared.Table.{Table}
use Rattle.chassis.specs.declared.NextPlace.{NextPlace}
use Rattle.chassis.specs.declared.NextPlace.TheVariants.{Target, Through}
use Rattle.chassis.specs.Channels.{home, has_agent, has_chan, chan_count, is_master, out_bus, opposite}
use Rattle.chassis.specs.Routes.{way}
use Rattle.chassis.proofs.Counts.{counts}
use Rattle.chassis.proofs.Passing.{passed}
use Rattle.chassis.proofs.OnTheWay.{next, one_bridge_nearer}
use Rattle.queue.specs.declared.Transaction.{Transaction}
use Rattle.queue.specs.declared.Entry.{Entry}
use Rattle.queue.specs.Entries.{P, R, C, is_kind, is_named, matches, marked, as_kind, zero_entry, gone, marking}
use Rattle.queue.specs.Queues.{stands, oldest}
use Rattle.queue.proofs.Plainly.{named_is_its_own}
use Rattle.queue.proofs.Matching.{matching_kind}
use Rattle.network.specs.declared.State.{State}
use Rattle.network.specs.Nets.{Net, view, waiting, begun}
use Rattle.network.specs.Edits.{Edit, add, change, edit, edits}
use Rattle.network.proofs.Packing.{view_pack}
use Rattle.network.proofs.Good.{Good, sound_is_good}
use Rattle.events.specs.declared.Event.{Event}
use Rattle.events.specs.declared.Event.TheVariants.{BeginPosted, BeginRead, BeginWrite, Commit, Post, Latch, Complete, DropRequest, DropCompletion}
use Rattle.events.specs.declared.Outcome.{Outcome}
use Rattle.events.specs.Tests.{entry_at, ahead, is_target, no_such_entry}
use Rattle.events.specs.Grounds.{named_grounds, grounds, Accepted}
use Rattle.events.specs.Effects.{leaves, enters, answer_taken, answer_given, effects, after}
use Rattle.events.proofs.WrongModels.{Model, Handed, MeetsStep}
use Rattle.events.proofs.TakenSteps.{taken}
use Rattle.events.proofs.BeginNumbers.{BeginOf, posted, read, written, its_number}

-- ---- laws of lists

module _ {A : Type 0} (p : A → Bool) where
  -- the one that gives way passed, and what it gives way to does not
  one_fewer : (q : A → Bool) (f : A → List A) (l : List A) {x : A} → find q l ≡ Some x → p x ≡ true → count p (f x) ≡ 0 → suc (count p (alter q f l)) ≡ count p l
  unfolding find alter count
  one_fewer q f [] {x} h y z = absurd (none_some {a = x} refl h)
  one_fewer q f (a ∷ l) {x} h y z =
      split (q a)
      (λ t.
      let e : a ≡ x = cc (rw t at h) in
      let ya : p a ≡ true = subst⁻¹ (λ (b : A). p b ≡ true) e y in
      let za : count p (f a) ≡ 0 = subst⁻¹ (λ (b : A). count p (f b) ≡ 0) e z in
      rw (t, ya) (omega (arith, count_add p (f a) l)))
      (λ n.
      let k = one_fewer q f l (rw n at h) y z in
      split (p a) (λ t. rw (n, t) (ap suc k)) (λ m. rw (n, m) k))

  -- what does not pass is taken out, or added
  none_fewer : (q : A → Bool) (l : List A) → ((x : A) → q x ≡ true → p x ≡ false) → count p (alter q (λ _. []) l) ≡ count p l
  unfolding alter count
  none_fewer q [] h = refl
  none_fewer q (a ∷ l) h = split (q a) (λ t. rw (t, h a t)) (λ n. rw n (split (p a) (λ t. rw t (ap suc (none_fewer q l h))) (λ m. rw m (none_fewer q l h))))

  none_more : (l : List A) (x : A) → p x ≡ false → count p (l ++ (x ∷ [])) ≡ count p l
  unfolding count
  none_more l x h = let e = rw h at (count_add p l (x ∷ [])) in omega arith

-- ---- how many in N pass

abbrev passing : (Entry → Bool) → Chan → Net → ℕ
passing p N u = count p (waiting u N)

module _ (s : Net) (N : Chan) (t : Transaction) where
  named : (k : ℕ) → no_such_entry s k N t ≡ false → (x : Entry) × (oldest k t (waiting s N) ≡ Some x) × (is_kind k x ≡ true)
  named k h =
      let o = is_there (oldest k t (waiting s N)) (not-false (stands k t (waiting s N)) h) in
      (o.0, o.1, eq-eqb o.0.kind k (named_is_its_own k t o.0 (found_passes (is_named k t) (waiting s N) o.1)).0)

  changed : (p : Entry → Bool) (k : ℕ) (f : Entry → List Entry) (x : Entry) → oldest k t (waiting s N) ≡ Some x → p x ≡ true → count p (f x) ≡ 0
      → suc (passing p N (edit (change N (is_named k t) f) s)) ≡ passing p N s
  unfolding edit
  changed p k f x o y z =
      ap (λ (l : List Entry). suc (count p l)) (modify_any s.chans N.0 (alter (is_named k t) f) [] (none_altered (is_named k t) f))
      ∙ one_fewer p (is_named k t) f (waiting s N) o y z

  -- the named entry leaves
  left : (k : ℕ) → no_such_entry s k N t ≡ false → suc (passing (is_kind k) N (edit (leaves k N t) s)) ≡ passing (is_kind k) N s
  unfolding count
  left k h = let x = named k h in changed (is_kind k) k gone x.0 x.1 x.2 refl

  -- or gets its mark
  marks : no_such_entry s R N t ≡ false → (entry_at s R N t).committed ≡ false → suc (passing (λ x. not x.committed) N (edit (change N (is_named R t) marking) s)) ≡ passing (λ x. not x.committed) N s
  unfolding count marked
  marks h c =
      let x = named R h in
      let u : x.0.committed ≡ false = sym (ap (λ o. (or_else zero_entry o).committed) x.1) ∙ c in
      changed (λ x. not x.committed) R marking x.0 x.1 (rw u) refl

-- ---- the other edits leave that number

module _ (p : Entry → Bool) (N : Chan) where
  spares : (M : Chan) (f : List Entry → List Entry) (u : Net) → count p (f (waiting u M)) ≡ count p (waiting u M)
      → count p (get_or (modify u.chans M.0 f) N.0 []) ≡ passing p N u
  spares M f u h =
      modify_every (λ j l. count p l ≡ count p (get_or u.chans j [])) u.chans M.0 f [] (λ _. h) (λ j. refl) N.0

  spares_taken : (T : Table) (N1 : NextPlace) (r : Entry) (ds : List Edit) (u : Net) → ((x : Entry) → matches C r x ≡ true → p x ≡ false)
      → ((w : Net) → passing p N (edits ds w) ≡ passing p N w) → passing p N (edits (answer_taken T N1 r ++ ds) u) ≡ passing p N u
  unfolding edits edit
  spares_taken T Target r ds u c h = h u
  spares_taken T (Through X) r ds u c h =
      h (edit (change (opposite T X) (matches C r) gone) u) ∙ spares (opposite T X) (alter (matches C r) gone) u (none_fewer p (matches C r) (waiting u (opposite T X)) c)

  spares_given : (master : Bool) (M : Chan) (x : Entry) (u : Net) → p x ≡ false → passing p N (edits (cond master [] (add M x ∷ [])) u) ≡ passing p N u
  unfolding edits edit
  spares_given true M x u h = refl
  spares_given false M x u h = spares M (λ l. l ++ (x ∷ [])) u (none_more p (waiting u M) x h)

-- ---- each kind

fewer : (p : Entry → Bool) (N : Chan) (s u : Net) → suc (passing p N u) ≡ passing p N s → u ≡ s → ⊥
fewer p N s u h e = let k = ap (passing p N) e in omega arith

more : (N : Chan) (s u : Net) → length (waiting u N) ≡ length (waiting s N) + 1 → u ≡ s → ⊥
more N s u h e = let k = ap (λ (w : Net). length (waiting w N)) e in omega arith

no_C_is_R : (r : Entry) (x : Entry) → matches C r x ≡ true → is_kind R x ≡ false
no_C_is_R r x h = let e = matching_kind C r x h in ne_eqb x.kind R (λ (k : x.kind ≡ R). omega arith)

through : (N1 : NextPlace) → is_target N1 ≡ false → (X : Chan) × (N1 ≡ Through X)
through Target h = absurd (both true refl h)
through (Through X) h = (X, refl)

module _ (s : Net) (g : Good s) where
  begun_more : (m a : Agent) (e : Event) → BeginOf m a e → Accepted s e → after s e ≡ s → ⊥
  begun_more m a e b ok h =
      let n = its_number s g m a e b ok in
      let k = ap (λ (u : Net). begun u m) h in
      omega (arith, n.number, n.count)

  module _ (N : Chan) (t : Transaction) where
    -- N1 is another channel, and the table has it
    away : (k : ℕ) (X : Chan) → has_chan s.table N ≡ true → ahead s k N t ≡ Through X → X.0 ≡ N.0 → ⊥
    away k X h p e =
        let n = one_bridge_nearer s.table g.rules.passes N (entry_at s k N t).target X h p in
        let c : X ≡ N = λ i. record { 0 = e i } in
        let l = ap (λ (c : Chan). length (way s.table (out_bus s.table c) (home s.table (entry_at s k N t).target))) c in
        omega arith

    there : (h : not (has_chan s.table N && has_agent s.table t.master) ≡ false) → has_chan s.table N ≡ true
    there h = (and_true (has_chan s.table N) (has_agent s.table t.master) (not-false (has_chan s.table N && has_agent s.table t.master) h)).0

    posts_away : (N1 : NextPlace) (x : Entry) (u : Net) → ((X : Chan) → N1 ≡ Through X → X.0 ≡ N.0 → ⊥) → waiting (edits (enters N1 x) u) N ≡ waiting u N
    unfolding edits edit
    posts_away Target x u n = refl
    posts_away (Through X) x u n = getD_modify_other u.chans X.0 N.0 (λ l. l ++ (x ∷ [])) [] (n X refl)

    post_moves : Accepted s (Post N t) → after s (Post N t) ≡ s → ⊥
    unfolding grounds named_grounds after effects edits
    post_moves ok =
        let r = clear (grounds s (Post N t)) ok in
        fewer (is_kind P) N s (after s (Post N t))
        (ap (λ (l : List Entry). suc (count (is_kind P) l))
        (posts_away (ahead s P N t) (entry_at s P N t) (edit (leaves P N t) s) (λ X p. away P X (there r.0) p))
        ∙ left s N t P r.1.0)

    complete_moves : Accepted s (Complete N t) → after s (Complete N t) ≡ s → ⊥
    unfolding grounds named_grounds after effects edits as_kind
    complete_moves ok =
        let r = clear (grounds s (Complete N t)) ok in
        let x = entry_at s R N t in
        fewer (is_kind R) N s (after s (Complete N t))
        (ap suc (spares_taken (is_kind R) N s.table (ahead s R N t) x (answer_given s.table N x) (edit (leaves R N t) s) (no_C_is_R x)
        (λ w. spares_given (is_kind R) N (is_master s.table N) (opposite s.table N) (as_kind C x) w refl))
        ∙ left s N t R r.1.0)

    -- one more in N1: what is done in N is done elsewhere
    copied : (X : Chan) (y : Entry) → has_chan s.table X ≡ true → (X.0 ≡ N.0 → ⊥)
        → length (waiting (edits (enters (Through X) y) (edit (change N (is_named R t) marking) s)) X) ≡ length (waiting s X) + 1
    unfolding edits edit
    copied X y h n =
        let f = alter (is_named R t) marking in
        let l = ltb-true X.0 (chan_count s.table) h in
        let c = counts s.table (passed s.table g.rules.passes).counts in
        let o = getD_modify_other s.chans N.0 X.0 f [] (λ e. n (sym e)) in
        ap length (modify_here (modify s.chans N.0 f) X.0 (λ l. l ++ (y ∷ [])) []
        (omega (arith, length_modify s.chans N.0 f, g.channels, c.agents.1, c.bridges)))
        ∙ length-append (get_or (modify s.chans N.0 f) X.0 []) (y ∷ []) ∙ ap (λ (l : List Entry). length l + 1) o

    latch_moves : Accepted s (Latch N t) → after s (Latch N t) ≡ s → ⊥
    unfolding grounds named_grounds after effects edits
    latch_moves ok =
        let r = clear (grounds s (Latch N t)) ok in
        let h = there r.0 in
        let x = through (ahead s R N t) r.1.1.0 in
        let n = next s.table g.rules.passes N (entry_at s R N t).target x.0 h x.1 in
        more x.0 s (after s (Latch N t))
        (ap (λ (N1 : NextPlace). length (waiting (edits (enters N1 (as_kind R (entry_at s R N t))) (edit (change N (is_named R t) marking) s)) x.0)) x.1
        ∙ copied x.0 (as_kind R (entry_at s R N t)) n.there (away R x.0 h x.1))

    commit_moves : Accepted s (Commit N t) → after s (Commit N t) ≡ s → ⊥
    unfolding grounds named_grounds after effects edits
    commit_moves ok =
        let r = clear (grounds s (Commit N t)) ok in
        fewer (λ x. not x.committed) N s (after s (Commit N t)) (marks s N t r.1.0 r.1.1.0)

    drop_moves : (k : ℕ) → no_such_entry s k N t ≡ false → edit (leaves k N t) s ≡ s → ⊥
    drop_moves k h = fewer (is_kind k) N s (edit (leaves k N t) s) (left s N t k h)

  pub accepted_moves : (e : Event) → Accepted s e → after s e ≡ s → ⊥
  unfolding grounds named_grounds after effects edits
  accepted_moves (BeginPosted m a) ok = begun_more m a (BeginPosted m a) posted ok
  accepted_moves (BeginRead m a) ok = begun_more m a (BeginRead m a) read ok
  accepted_moves (BeginWrite m a) ok = begun_more m a (BeginWrite m a) written ok
  accepted_moves (Commit N t) ok = commit_moves N t ok
  accepted_moves (Post N t) ok = post_moves N t ok
  accepted_moves (Latch N t) ok = latch_moves N t ok
  accepted_moves (Complete N t) ok = complete_moves N t ok
  accepted_moves (DropRequest N t) ok = drop_moves N t R (clear (grounds s (DropRequest N t)) ok).1.0
  accepted_moves (DropCompletion N t) ok = drop_moves N t C (clear (grounds s (DropCompletion N t)) ok).1.0

-- ---- of every model

pub every_accepted_step_moves : (f : Model) → MeetsStep f → (s : State) (b : List ℕ) (v : ℕ) → Handed s b → (f s b).answer ≡ Ok v → (f s b).state ≡ s → ⊥
every_accepted_step_moves f meets s b v w h same =
    let p = meets s b w in
    let t = taken s b v (ap (λ (o : Outcome). o.answer) (sym p) ∙ h) in
    let z : after (view s) t.event ≡ view s =
    sym (view_pack (after (view s) t.event)) ∙ ap view (sym t.next) ∙ ap (λ (o : Outcome). view o.state) (sym p) ∙ ap view same in
    accepted_moves (view s) (sound_is_good s w.shaped t.is_sound) t.event t.accepted z
