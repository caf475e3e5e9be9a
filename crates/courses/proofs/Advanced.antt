-- What each kind of event makes of the pieces of its transaction, where it names the piece that its stage lets it name.
-- Its edits are taken one by one: a change is of the last R, of the one C or of the one P, and what is added comes last.
use Prim.Native.Nat.{ℕ, zero, suc, ◌≤◌, ◌<◌}
use native.Mathlib.Omega.{arith}
use native.Mathlib.Nat.{le_refl}
use mathlib.Core.Path.{◌≡◌, refl, ap, subst, subst⁻¹, ◌∙◌}
use mathlib.Core.Bool.{Bool, true, false}
use mathlib.Core.List.{List, [], ◌∷◌, ◌++◌, append-nil, append_assoc}
use borrow.Author.Tests.{ltb-true}
use lib.ListN.{length}
use Rattle.base.proofs.Cells.{In, in_none, length_modify}
use Rattle.chassis.specs.declared.Agent.{Agent}
use Rattle.chassis.specs.declared.Chan.{Chan}
use Rattle.chassis.specs.declared.Table.{Table}
use Rattle.chassis.specs.declared.NextPlace.{NextPlace}
use Rattle.chassis.specs.declared.NextPlace.TheVariants.{Target, Through}
use Rattle.chassis.specs.Channels.{has_agent, has_chan, chan_count, opposite}
use Rattle.chassis.specs.Routes.{next_place, bridges_between, way_channels, nth}
use Rattle.chassis.proofs.Counts.{counts}
use Rattle.chassis.proofs.Hops.{chan_path}
use Rattle.chassis.proofs.Passing.{passed}
use Rattle.chassis.proofs.Along.{nth_there, nth_next, last_next, nth_once, nth_no_master, opposite_there}
use Rattle.queue.specs.declared.Transaction.{Transaction}
use Rattle.queue.specs.declared.Entry.{Entry}
use Rattle.queue.specs.Entries.{P, R, C, is_named, marked, as_kind, gone, marking}
use Rattle.queue.proofs.Names.{named_of, own_gone, own_marking}
use Rattle.queue.proofs.Matching.{matches_its_name}
use Rattle.network.specs.Nets.{Net}
use Rattle.network.specs.Edits.{Edit, add, change, raise, edit, edits}
use Rattle.network.proofs.Good.{Good}
use Rattle.events.specs.declared.Event.TheVariants.{Commit, Post, Latch, Complete, DropRequest, DropCompletion}
use Rattle.events.specs.Tests.{entry_at, ahead}
use Rattle.events.specs.Effects.{leaves, is_marked, enters, answer_taken, answer_given, effects, after}
use Rattle.courses.specs.Pieces.{Piece, piece}
use Rattle.courses.specs.Stages.{posted, asked, answered, ended, completed}
use Rattle.courses.specs.Courses.{requests, pieces, entry_of}
use Rattle.courses.proofs.Held.{meets}
use Rattle.courses.proofs.Edited.{Shows, At, shows_add, shows_change}
use Rattle.courses.proofs.Standing.{changed_there, own_name, meets_own, meets_no_kind, meets_no_place, in_requests, requests_suc}

edit_long : (d : Edit) (u : Net) → length (edit d u).chans ≡ length u.chans
unfolding edit
edit_long (add N x) u = length_modify u.chans N.0 (λ l. l ++ (x ∷ []))
edit_long (change N p f) u = length_modify u.chans N.0 _
edit_long (raise a) u = refl

module _ (s : Net) (g : Good s) (t : Transaction) (a : Agent) (write : Bool) (has : has_agent s.table t.master ≡ true) where
  abbrev T : Table
  T = s.table

  abbrev w : List Chan
  w = way_channels T t.master a

  abbrev k : ℕ
  k = bridges_between T t.master a

  abbrev x : ℕ → Bool → Entry
  x = entry_of t a write

  in_the_net : (u : Net) → length u.chans ≡ length s.chans → (N : Chan) → has_chan T N ≡ true → N.0 < length u.chans
  in_the_net u e N h =
      let l = ltb-true N.0 (chan_count T) h in
      let c = counts T (passed T g.rules.passes).counts in
      omega (arith, g.channels, c.agents.1, c.bridges)

  adds : (u : Net) → length u.chans ≡ length s.chans → (L : List Piece) → Shows u t L → (N : Chan) → has_chan T N ≡ true → (j : ℕ) (mark : Bool)
      → Shows (edit (add N (x j mark)) u) t (L ++ (piece N (x j mark) ∷ []))
  adds u e L h N c j mark = shows_add u t L h N (x j mark) (in_the_net u e N c) (named_of t (x j mark) j (own_name t a write j mark))

  -- ---- the R at the end of the chain

  none_before : (j : ℕ) → j ≤ k → (r : Piece) → In r (requests w x j) → meets (nth w j) (is_named R t) r ≡ false
  none_before j l r i =
      let q = in_requests w x j i in
      subst⁻¹ (λ (r : Piece). meets (nth w j) (is_named R t) r ≡ false) q.2
      (meets_no_place (nth w j) (nth w q.0) (is_named R t) (x R true)
      (λ e.
      let z = nth_once T g.rules.passes t.master a has j q.0 l (omega (arith, q.1)) (chan_path e) in
      omega (arith, q.1)))

  -- it gets its mark
  marks_last : (u : Net) (j : ℕ) → j ≤ k → (b : Bool) → Shows u t (requests w x j ++ (piece (nth w j) (x R b) ∷ []))
      → Shows (edit (is_marked (nth w j) t) u) t (requests w x j ++ (piece (nth w j) (x R true) ∷ []))
  unfolding marked
  marks_last u j l b h =
      subst (Shows (edit (is_marked (nth w j) t) u) t)
      (changed_there (nth w j) (is_named R t) marking (requests w x j) (piece (nth w j) (x R b)) [] (none_before j l) (meets_own t a write (nth w j) R b))
      (shows_change u t (requests w x j ++ (piece (nth w j) (x R b) ∷ [])) h (nth w j) R marking (own_marking t))

  -- it leaves
  loses_last : (u : Net) (j : ℕ) → j ≤ k → (b : Bool) (vs : List Piece) → Shows u t (requests w x j ++ (piece (nth w j) (x R b) ∷ vs))
      → Shows (edit (leaves R (nth w j) t) u) t (requests w x j ++ vs)
  loses_last u j l b vs h =
      subst (Shows (edit (leaves R (nth w j) t) u) t)
      (changed_there (nth w j) (is_named R t) gone (requests w x j) (piece (nth w j) (x R b)) vs (none_before j l) (meets_own t a write (nth w j) R b))
      (shows_change u t (requests w x j ++ (piece (nth w j) (x R b) ∷ vs)) h (nth w j) R gone (own_gone t))

  -- ---- the C

  no_C : (n : ℕ) (Z : Chan) (r : Piece) → In r (requests w x n) → meets Z (is_named C t) r ≡ false
  no_C n Z r i =
      let q = in_requests w x n i in
      subst⁻¹ (λ (r : Piece). meets Z (is_named C t) r ≡ false) q.2 (meets_no_kind t a write Z (nth w q.0) R C true (λ (e : R ≡ C). omega arith))

  loses_C : (u : Net) (n : ℕ) (Z : Chan) → Shows u t (requests w x n ++ (piece Z (x C false) ∷ [])) → Shows (edit (leaves C Z t) u) t (requests w x n)
  loses_C u n Z h =
      subst (Shows (edit (leaves C Z t) u) t)
      (changed_there Z (is_named C t) gone (requests w x n) (piece Z (x C false)) [] (no_C n Z) (meets_own t a write Z C false) ∙ append-nil (requests w x n))
      (shows_change u t (requests w x n ++ (piece Z (x C false) ∷ [])) h Z C gone (own_gone t))

  -- the R of channel j has left: a C goes back, or that is the end
  given : (u : Net) → length u.chans ≡ length s.chans → (j : ℕ) → j ≤ k → (b : Bool) → Shows u t (requests w x j)
      → Shows (edits (answer_given T (nth w j) (x R b)) u) t (pieces T w x (completed j))
  unfolding edits pieces as_kind
  given u e zero l b h = rw has h
  given u e (suc j) l b h =
      rw (nth_no_master T g.rules.passes t.master a has j l)
      (adds u e (requests w x (suc j)) h (opposite T (nth w (suc j))) (opposite_there T g.rules.passes t.master a has j l) C false)

  -- ---- each kind

  longer : (j : ℕ) → j ≤ k → j < length w
  longer j l = omega arith

  marked_all : (j : ℕ) → j ≤ k → requests w x (suc j) ≡ pieces T w x (asked j true)
  unfolding pieces
  marked_all j l = requests_suc w x j (longer j l)

  pub commit_at : (j : ℕ) → j ≤ k → At T t a write s (asked j false) → At T t a write (after s (Commit (nth w j) t)) (asked j true)
  unfolding pieces after effects edits
  commit_at j l h = marks_last s j l false h

  pub drop_request_at : (j : ℕ) → j < k → At T t a write s (asked (suc j) false) → At T t a write (after s (DropRequest (nth w (suc j)) t)) (asked j true)
  unfolding pieces after effects edits
  drop_request_at j l h =
      subst (Shows (after s (DropRequest (nth w (suc j)) t)) t) (append-nil (requests w x (suc j)) ∙ marked_all j (omega arith))
      (loses_last s (suc j) l false [] h)

  pub drop_completion_at : (j : ℕ) → j < k → At T t a write s (answered j) → At T t a write (after s (DropCompletion (opposite T (nth w (suc j))) t)) (asked j true)
  unfolding pieces after effects edits
  drop_completion_at j l h =
      subst (Shows (after s (DropCompletion (opposite T (nth w (suc j))) t)) t) (marked_all j (omega arith))
      (loses_C s (suc j) (opposite T (nth w (suc j))) h)

  -- where an entry of t goes on to
  pub ahead_is : (i : ℕ) (N : Chan) (b : Bool) → entry_at s i N t ≡ x i b → ahead s i N t ≡ next_place T N a
  ahead_is i N b e = ap (λ (y : Entry). next_place T N y.target) e

  pub ahead_on : (i : ℕ) → i < k → (c : ℕ) (b : Bool) → entry_at s c (nth w i) t ≡ x c b → ahead s c (nth w i) t ≡ Through (nth w (suc i))
  ahead_on i l c b e = ahead_is c (nth w i) b e ∙ nth_next T g.rules.passes t.master a has i l

  pub ahead_last : (c : ℕ) (b : Bool) → entry_at s c (nth w k) t ≡ x c b → ahead s c (nth w k) t ≡ Target
  ahead_last c b e = ahead_is c (nth w k) b e ∙ last_next T g.rules.passes t.master a has

  -- what an event does, with the entry and its next place known
  pub post_effects : (N : Chan) (N1 : NextPlace) (y : Entry) → ahead s P N t ≡ N1 → entry_at s P N t ≡ y → effects s (Post N t) ≡ leaves P N t ∷ enters N1 y
  unfolding effects
  post_effects N N1 y p q = λ i. leaves P N t ∷ enters (p i) (q i)

  latch_effects : (N : Chan) (N1 : NextPlace) (y : Entry) → ahead s R N t ≡ N1 → entry_at s R N t ≡ y → effects s (Latch N t) ≡ is_marked N t ∷ enters N1 (as_kind R y)
  unfolding effects
  latch_effects N N1 y p q = λ i. is_marked N t ∷ enters (p i) (as_kind R (q i))

  -- the C that matches its R is its own
  abbrev own_taken : NextPlace → List Edit
  own_taken Target = []
  own_taken (Through X) = leaves C (opposite T X) t ∷ []

  taken_is_own : (N1 : NextPlace) (b : Bool) → answer_taken T N1 (x R b) ≡ own_taken N1
  taken_is_own Target b = refl
  taken_is_own (Through X) b = ap (λ (q : Entry → Bool). change (opposite T X) q gone ∷ []) (matches_its_name C (x R b))

  complete_effects : (N : Chan) (N1 : NextPlace) (b : Bool) → ahead s R N t ≡ N1 → entry_at s R N t ≡ x R b
      → effects s (Complete N t) ≡ leaves R N t ∷ (own_taken N1 ++ answer_given T N (x R b))
  unfolding effects
  complete_effects N N1 b p q =
      (λ i. leaves R N t ∷ (answer_taken T (p i) (q i) ++ answer_given T N (q i)))
      ∙ ap (λ (ds : List Edit). leaves R N t ∷ (ds ++ answer_given T N (x R b))) (taken_is_own N1 b)

  leaves_P : (i : ℕ) → At T t a write s (posted i) → Shows (edit (leaves P (nth w i) t) s) t []
  unfolding pieces
  leaves_P i h =
      subst (Shows (edit (leaves P (nth w i) t) s) t)
      (changed_there (nth w i) (is_named P t) gone [] (piece (nth w i) (x P false)) [] (λ r i. in_none i) (meets_own t a write (nth w i) P false))
      (shows_change s t (piece (nth w i) (x P false) ∷ []) h (nth w i) P gone (own_gone t))

  pub post_at : (i : ℕ) → i < k → entry_at s P (nth w i) t ≡ x P false → At T t a write s (posted i) → At T t a write (after s (Post (nth w i) t)) (posted (suc i))
  unfolding pieces after edits
  post_at i l e h =
      subst⁻¹ (λ (ds : List Edit). Shows (edits ds s) t (pieces T w x (posted (suc i)))) (post_effects (nth w i) (Through (nth w (suc i))) (x P false) (ahead_on i l P false e) e)
      (adds (edit (leaves P (nth w i) t) s) (edit_long (leaves P (nth w i) t) s) [] (leaves_P i h) (nth w (suc i)) (nth_there T g.rules.passes t.master a has (suc i) l) P false)

  pub post_last : entry_at s P (nth w k) t ≡ x P false → At T t a write s (posted k) → At T t a write (after s (Post (nth w k) t)) ended
  unfolding pieces after edits
  post_last e h =
      subst⁻¹ (λ (ds : List Edit). Shows (edits ds s) t (pieces T w x ended)) (post_effects (nth w k) Target (x P false) (ahead_last P false e) e) (leaves_P k h)

  pub latch_at : (j : ℕ) → j < k → (b : Bool) → entry_at s R (nth w j) t ≡ x R b → At T t a write s (asked j b) → At T t a write (after s (Latch (nth w j) t)) (asked (suc j) false)
  unfolding pieces after edits as_kind
  latch_at j l b e h =
      subst⁻¹ (λ (ds : List Edit). Shows (edits ds s) t (pieces T w x (asked (suc j) false))) (latch_effects (nth w j) (Through (nth w (suc j))) (x R b) (ahead_on j l R b e) e)
      (adds (edit (is_marked (nth w j) t) s) (edit_long (is_marked (nth w j) t) s) (requests w x (suc j))
      (subst⁻¹ (Shows (edit (is_marked (nth w j) t) s) t) (marked_all j (omega arith)) (marks_last s j (omega arith) b h))
      (nth w (suc j)) (nth_there T g.rules.passes t.master a has (suc j) l) R false)

  pub complete_last : (b : Bool) → entry_at s R (nth w k) t ≡ x R b → At T t a write s (asked k b) → At T t a write (after s (Complete (nth w k) t)) (completed k)
  unfolding pieces after edits
  complete_last b e h =
      subst⁻¹ (λ (ds : List Edit). Shows (edits ds s) t (pieces T w x (completed k))) (complete_effects (nth w k) Target b (ahead_last R b e) e)
      (given (edit (leaves R (nth w k) t) s) (edit_long (leaves R (nth w k) t) s) k (le_refl k) b
      (subst (Shows (edit (leaves R (nth w k) t) s) t) (append-nil (requests w x k)) (loses_last s k (le_refl k) b [] h)))

  pub complete_at : (j : ℕ) → j < k → entry_at s R (nth w j) t ≡ x R true → At T t a write s (answered j) → At T t a write (after s (Complete (nth w j) t)) (completed j)
  unfolding pieces after edits
  complete_at j l e h =
      let Z = opposite T (nth w (suc j)) in
      let u = edit (leaves R (nth w j) t) s in
      let L = requests w x j ++ (piece (nth w j) (x R true) ∷ (piece Z (x C false) ∷ [])) in
      let q : requests w x (suc j) ++ (piece Z (x C false) ∷ []) ≡ L =
      ap (◌++ (piece Z (x C false) ∷ [])) (requests_suc w x j (longer j (omega arith))) ∙ append_assoc (requests w x j) (piece (nth w j) (x R true) ∷ []) (piece Z (x C false) ∷ []) in
      subst⁻¹ (λ (ds : List Edit). Shows (edits ds s) t (pieces T w x (completed j))) (complete_effects (nth w j) (Through (nth w (suc j))) true (ahead_on j l R true e) e)
      (given (edit (leaves C Z t) u) (edit_long (leaves C Z t) u ∙ edit_long (leaves R (nth w j) t) s) j (omega arith) true
      (loses_C u j Z (loses_last s j (omega arith) true (piece Z (x C false) ∷ []) (subst (Shows s t) q h))))
