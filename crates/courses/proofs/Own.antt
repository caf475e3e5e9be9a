-- An accepted event of kinds 4 to 9 moves its own transaction as the table of moves says.
-- The named entry is one of the stage's pieces; the grounds leave one piece, or none.
use Prim.Native.Nat.{ℕ, zero, suc, ◌≤◌, ◌<◌}
use native.Mathlib.Omega.{arith}
use mathlib.Core.Path.{◌≡◌, refl, sym, ap, subst, subst⁻¹, ◌∙◌}
use mathlib.Core.Bool.{Bool, true, false, not, ◌&&◌, ◌||◌}
use Rattle.base.specs.Lists.{find, is_some}
use mathlib.Core.Logic.{◌⊎◌, inl, inr, ⊎_elim}
use mathlib.Core.List.{List}
use borrow.Author.Tests.{not-false}
use Rattle.base.proofs.Logic.{both, and_true, or_false, less_or_same}
use Rattle.base.proofs.Grounds.{clear}
use Rattle.chassis.specs.declared.Agent.{Agent}
use Rattle.chassis.specs.declared.Chan.{Chan}
use Rattle.chassis.specs.declared.Table.{Table}
use Rattle.chassis.specs.declared.NextPlace.TheVariants.{Target, Through}
use Rattle.chassis.specs.Channels.{has_agent, has_chan, is_master, opposite}
use Rattle.chassis.specs.Routes.{bridges_between, way_channels, nth}
use Rattle.chassis.proofs.Along.{opposite_once}
use Rattle.queue.specs.declared.Transaction.{Transaction}
use Rattle.queue.specs.declared.Entry.{Entry}
use Rattle.queue.specs.Entries.{P, R, C}
use Rattle.queue.specs.Queues.{stands}
use Rattle.queue.proofs.Matching.{matches_its_name}
use Rattle.network.specs.Nets.{Net, waiting}
use Rattle.network.proofs.Good.{Good}
use Rattle.events.specs.declared.Event.{Event}
use Rattle.events.specs.declared.Event.TheVariants.{Commit, Post, Latch, Complete, DropRequest, DropCompletion}
use Rattle.events.specs.Tests.{entry_at, ahead, is_target, no_such_entry, is_committed, latched_already, unanswered}
use Rattle.events.specs.Grounds.{named_grounds, grounds, Accepted}
use Rattle.events.specs.Effects.{after}
use Rattle.courses.specs.Stages.{Stage, posted, asked, answered, ended, has_begun, Fits, completed, Moves, posts_on, arrives, commits, latches, reaches, returns, drops_request, drops_completion}
use Rattle.courses.specs.Courses.{entry_of}
use Rattle.courses.proofs.Edited.{At}
use Rattle.courses.proofs.Placed.{AtR, last, before, behind, AtC, back, AtP, only, at_R, at_C, at_P, asked_stands, answered_stands, answer_stands}
use Rattle.courses.proofs.Advanced.{commit_at, post_at, post_last, latch_at, complete_last, complete_at, drop_request_at, drop_completion_at, ahead_on, ahead_last}

completed_fits : (j k : ℕ) → j ≤ k → Fits k (completed j)
completed_fits zero k h = tt
completed_fits (suc j) k h = h

completed_begun : (j : ℕ) → has_begun (completed j) ≡ true
completed_begun zero = refl
completed_begun (suc j) = refl

-- by e the transaction moves from h
pub record Moved (s : Net) (t : Transaction) (a : Agent) (write : Bool) (e : Event) (h : Stage) : Type 0 where
  pub to : Stage
  pub now : At s.table t a write (after s e) to
  pub fits : Fits (bridges_between s.table t.master a) to
  pub by : Moves s.table (way_channels s.table t.master a) (bridges_between s.table t.master a) t h e to
  pub begun : has_begun to ≡ true

module _ (s : Net) (g : Good s) (t : Transaction) (a : Agent) (write : Bool) (has : has_agent s.table t.master ≡ true) where
  abbrev T : Table
  T = s.table

  abbrev w : List Chan
  w = way_channels T t.master a

  abbrev k : ℕ
  k = bridges_between T t.master a

  abbrev x : ℕ → Bool → Entry
  x = entry_of t a write

  -- ---- each kind

  -- its entry there is the entry at channel i
  at_nth : (c : ℕ) (N : Chan) (i : ℕ) {y : Entry} → N ≡ nth w i → entry_at s c N t ≡ y → entry_at s c (nth w i) t ≡ y
  at_nth c N i {y} e h = subst (λ (M : Chan). entry_at s c M t ≡ y) e h

  uncommitted : (N : Chan) (b : Bool) → is_committed s N t ≡ false → entry_at s R N t ≡ x R b → b ≡ false
  uncommitted N b h e = sym (ap (λ (y : Entry). y.committed) e) ∙ h

  committed : {A : Type 0} (N : Chan) → is_committed s N t ≡ false → entry_at s R N t ≡ x R true → A
  committed N h e = absurd (both true refl (uncommitted N true h e))

  to_asked : (e : Event) (h : Stage) (j : ℕ) (b : Bool) → j ≤ k → At T t a write (after s e) (asked j b) → Moves T w k t h e (asked j b) → Moved s t a write e h
  to_asked e h j b l n m = record { to = asked j b; now = n; fits = l; by = m; begun = refl }

  -- commit

  commit_last : (N : Chan) (j : ℕ) (b : Bool) → b ≡ false → N ≡ nth w j → At T t a write s (asked j b) → j ≤ k → Moved s t a write (Commit N t) (asked j b)
  commit_last N j true z e o l = absurd (both true refl z)
  commit_last N j false z e o l =
      to_asked (Commit N t) (asked j false) j true l
      (subst⁻¹ (λ (M : Chan). At T t a write (after s (Commit M t)) (asked j true)) e (commit_at s g t a write has j l o)) (commits N j e)

  commit_by : (N : Chan) (h : Stage) → At T t a write s h → Fits k h → is_committed s N t ≡ false → AtR s t a write N h → Moved s t a write (Commit N t) h
  commit_by N _ o f c (last j b e y) = commit_last N j b (uncommitted N b c y) e o f
  commit_by N _ o f c (before j b i l e y) = committed N c y
  commit_by N _ o f c (behind j i l e y) = committed N c y

  -- post

  post_by : (N : Chan) (h : Stage) → At T t a write s h → Fits k h → AtP s t a write N h → Moved s t a write (Post N t) h
  post_by N _ o f (only i e y) =
      ⊎_elim
      (λ l. record {
        to = posted (suc i);
        now = subst⁻¹ (λ (M : Chan). At T t a write (after s (Post M t)) (posted (suc i))) e (post_at s g t a write has i l (at_nth P N i e y) o);
        fits = l;
        by = posts_on N i e l;
        begun = refl;
      })
      (λ q. subst⁻¹ (λ (i : ℕ). At T t a write s (posted i) → N ≡ nth w i → Moved s t a write (Post N t) (posted i)) q
      (λ o e. record {
        to = ended;
        now = subst⁻¹ (λ (M : Chan). At T t a write (after s (Post M t)) ended) e (post_last s g t a write has (at_nth P N k e y) o);
        fits = tt;
        by = arrives N e;
        begun = refl;
      })
      o e)
      (less_or_same i k f)

  -- latch

  -- what matches its R has its name
  already_by_name : (X : Chan) (b : Bool) → latched_already s (x R b) (Through X) ≡ (stands R t (waiting s X) || stands C t (waiting s (opposite T X)))
  already_by_name X b i = is_some (find (matches_its_name R (x R b) i) (waiting s X)) || is_some (find (matches_its_name C (x R b) i) (waiting s (opposite T X)))

  not_latched : {A : Type 0} (N : Chan) (i : ℕ) → i < k → N ≡ nth w i → (b : Bool) → entry_at s R N t ≡ x R b → latched_already s (entry_at s R N t) (ahead s R N t) ≡ false
      → (stands R t (waiting s (nth w (suc i))) ≡ true) ⊎ (stands C t (waiting s (opposite T (nth w (suc i)))) ≡ true) → A
  not_latched N i l e b y h z =
      let p : ahead s R N t ≡ Through (nth w (suc i)) = ap (λ (M : Chan). ahead s R M t) e ∙ ahead_on s g t a write has i l R b (at_nth R N i e y) in
      let X = nth w (suc i) in
      let c : latched_already s (x R b) (Through X) ≡ latched_already s (entry_at s R N t) (ahead s R N t) = λ i. latched_already s (sym y i) (sym p i) in
      let q = or_false (stands R t (waiting s X)) (stands C t (waiting s (opposite T X))) (sym (already_by_name X b) ∙ c ∙ h) in
      absurd (⊎_elim (λ z. both (stands R t (waiting s X)) z q.0) (λ z. both (stands C t (waiting s (opposite T X))) z q.1) z)

  latch_by : (N : Chan) (h : Stage) → At T t a write s h → Fits k h → is_target (ahead s R N t) ≡ false → latched_already s (entry_at s R N t) (ahead s R N t) ≡ false → AtR s t a write N h → Moved s t a write (Latch N t) h
  latch_by N _ o f d c (last j b e y) =
      ⊎_elim
      (λ l. to_asked (Latch N t) (asked j b) (suc j) false l
      (subst⁻¹ (λ (M : Chan). At T t a write (after s (Latch M t)) (asked (suc j) false)) e (latch_at s g t a write has j l b (at_nth R N j e y) o)) (latches N j b e l))
      (λ q.
      let e' : N ≡ nth w k = e ∙ ap (nth w) q in
      let p : ahead s R N t ≡ Target = ap (λ (M : Chan). ahead s R M t) e' ∙ ahead_last s g t a write has R b (at_nth R N k e' y) in
      absurd (both true refl (sym (ap is_target p) ∙ d)))
      (less_or_same j k f)
  latch_by N _ o f d c (before j b i l e y) =
      not_latched N i (omega arith) e true y c (inl (asked_stands s t a write j (suc i) b o l f))
  latch_by N _ o f d c (behind j i l e y) =
      not_latched N i (omega arith) e true y c
      (⊎_elim (λ h. inl (answered_stands s t a write j (suc i) o h f))
      (λ q. inr (subst⁻¹ (λ (i : ℕ). stands C t (waiting s (opposite T (nth w (suc i)))) ≡ true) q (answer_stands s t a write j o)))
      (less_or_same i j l))

  -- complete

  -- the matching C
  matching : (N : Chan) (i : ℕ) → i < k → N ≡ nth w i → (b : Bool) → entry_at s R N t ≡ x R b → unanswered s (entry_at s R N t) (ahead s R N t) ≡ false
      → no_such_entry s C (opposite T (nth w (suc i))) t ≡ false
  matching N i l e b y h =
      let p : ahead s R N t ≡ Through (nth w (suc i)) = ap (λ (M : Chan). ahead s R M t) e ∙ ahead_on s g t a write has i l R b (at_nth R N i e y) in
      let Z = opposite T (nth w (suc i)) in
      let c : unanswered s (x R b) (Through (nth w (suc i))) ≡ unanswered s (entry_at s R N t) (ahead s R N t) = λ i. unanswered s (sym y i) (sym p i) in
      sym (ap (λ (q : Entry → Bool). not (is_some (find q (waiting s Z)))) (matches_its_name C (x R b))) ∙ c ∙ h

  the_one : (j : ℕ) (Z : Chan) → AtC s t a write Z (answered j) → Z ≡ opposite T (nth w (suc j))
  the_one j Z (back _ e) = e

  complete_by : (N : Chan) (h : Stage) → At T t a write s h → Fits k h → unanswered s (entry_at s R N t) (ahead s R N t) ≡ false → AtR s t a write N h → Moved s t a write (Complete N t) h
  complete_by N _ o f c (last j b e y) =
      ⊎_elim
      (λ l. elim (at_C s t a write (opposite T (nth w (suc j))) (asked j b) o (matching N j l e b y c)) [ ])
      (λ q. subst⁻¹ (λ (j : ℕ). At T t a write s (asked j b) → N ≡ nth w j → Moved s t a write (Complete N t) (asked j b)) q
      (λ o e. record {
        to = completed k;
        now = subst⁻¹ (λ (M : Chan). At T t a write (after s (Complete M t)) (completed k)) e (complete_last s g t a write has b (at_nth R N k e y) o);
        fits = completed_fits k k (omega arith);
        by = reaches N b e;
        begun = completed_begun k;
      })
      o e)
      (less_or_same j k f)
  complete_by N _ o f c (before j b i l e y) =
      elim (at_C s t a write (opposite T (nth w (suc i))) (asked j b) o (matching N i (omega arith) e true y c)) [ ]
  complete_by N _ o f c (behind j i l e y) =
      let i<k : i < k = omega arith in
      let q : i ≡ j = opposite_once T g.rules.passes t.master a has i j i<k f (the_one j (opposite T (nth w (suc i))) (at_C s t a write (opposite T (nth w (suc i))) (answered j) o (matching N i i<k e true y c))) in
      let e' : N ≡ nth w j = e ∙ ap (nth w) q in
      record {
        to = completed j;
        now = subst⁻¹ (λ (M : Chan). At T t a write (after s (Complete M t)) (completed j)) e' (complete_at s g t a write has j f (at_nth R N j e' y) o);
        fits = completed_fits j k (omega arith);
        by = returns N j e';
        begun = completed_begun j;
      }

  -- the drops

  drop_last : (N : Chan) (j : ℕ) (b : Bool) → b ≡ false → N ≡ nth w j → At T t a write s (asked j b) → j ≤ k → is_master T N ≡ false → Moved s t a write (DropRequest N t) (asked j b)
  drop_last N j true z e o l m = absurd (both true refl z)
  drop_last N zero false z e o l m = absurd (both (is_master T (nth w 0)) has (sym (ap (is_master T) e) ∙ m))
  drop_last N (suc j) false z e o l m =
      to_asked (DropRequest N t) (asked (suc j) false) j true (omega arith)
      (subst⁻¹ (λ (M : Chan). At T t a write (after s (DropRequest M t)) (asked j true)) e (drop_request_at s g t a write has j l o)) (drops_request N j e)

  drop_by : (N : Chan) (h : Stage) → At T t a write s h → Fits k h → is_master T N ≡ false → is_committed s N t ≡ false → AtR s t a write N h → Moved s t a write (DropRequest N t) h
  drop_by N _ o f m c (last j b e y) = drop_last N j b (uncommitted N b c y) e o f m
  drop_by N _ o f m c (before j b i l e y) = committed N c y
  drop_by N _ o f m c (behind j i l e y) = committed N c y

  drop_C_by : (N : Chan) (h : Stage) → At T t a write s h → Fits k h → AtC s t a write N h → Moved s t a write (DropCompletion N t) h
  drop_C_by N _ o f (back j e) =
      to_asked (DropCompletion N t) (answered j) j true (omega arith)
      (subst⁻¹ (λ (M : Chan). At T t a write (after s (DropCompletion M t)) (asked j true)) e (drop_completion_at s g t a write has j f o)) (drops_completion N j e)

-- ---- with what the grounds have found

module _ (s : Net) (g : Good s) (t : Transaction) (a : Agent) (write : Bool) (h : Stage) (o : At s.table t a write s h) (f : Fits (bridges_between s.table t.master a) h) (N : Chan) where
  -- ground 2
  has_master : not (has_chan s.table N && has_agent s.table t.master) ≡ false → has_agent s.table t.master ≡ true
  has_master n = (and_true (has_chan s.table N) (has_agent s.table t.master) (not-false (has_chan s.table N && has_agent s.table t.master) n)).1

  pub own_commit : Accepted s (Commit N t) → Moved s t a write (Commit N t) h
  unfolding grounds named_grounds
  own_commit ok =
      let r = clear (grounds s (Commit N t)) ok in
      commit_by s g t a write (has_master r.0) N h o f r.1.1.0 (at_R s t a write N h o r.1.0)

  pub own_post : Accepted s (Post N t) → Moved s t a write (Post N t) h
  unfolding grounds named_grounds
  own_post ok =
      let r = clear (grounds s (Post N t)) ok in
      post_by s g t a write (has_master r.0) N h o f (at_P s t a write N h o r.1.0)

  pub own_latch : Accepted s (Latch N t) → Moved s t a write (Latch N t) h
  unfolding grounds named_grounds
  own_latch ok =
      let r = clear (grounds s (Latch N t)) ok in
      latch_by s g t a write (has_master r.0) N h o f r.1.1.0 r.1.1.1.1.0 (at_R s t a write N h o r.1.0)

  pub own_complete : Accepted s (Complete N t) → Moved s t a write (Complete N t) h
  unfolding grounds named_grounds
  own_complete ok =
      let r = clear (grounds s (Complete N t)) ok in
      complete_by s g t a write (has_master r.0) N h o f r.1.1.1.0 (at_R s t a write N h o r.1.0)

  pub own_drop_request : Accepted s (DropRequest N t) → Moved s t a write (DropRequest N t) h
  unfolding grounds named_grounds
  own_drop_request ok =
      let r = clear (grounds s (DropRequest N t)) ok in
      drop_by s g t a write (has_master r.0) N h o f r.1.1.0 r.1.1.1.0 (at_R s t a write N h o r.1.0)

  pub own_drop_completion : Accepted s (DropCompletion N t) → Moved s t a write (DropCompletion N t) h
  unfolding grounds named_grounds
  own_drop_completion ok =
      let r = clear (grounds s (DropCompletion N t)) ok in
      drop_C_by s g t a write (has_master r.0) N h o f (at_C s t a write N h o r.1.0)
