-- On a course, of one name: requests and posted writes never both, one P, one C, a C only behind marked requests;
-- and only the last request of a chain can be tried, copied, answered or dropped. Each is read off where the pieces of the stage stand.
use Prim.Native.Nat.{ℕ, zero, suc, ◌≤◌}
use native.Mathlib.Omega.{arith}
use native.Mathlib.Nat.{le_refl}
use mathlib.Core.Path.{◌≡◌, refl, sym, ap, subst, ◌∙◌}
use mathlib.Core.Bool.{Bool, true, false, not}
use mathlib.Core.Logic.{⊎_elim}
use mathlib.Core.List.{List}
use Rattle.base.proofs.Logic.{split, both, less_or_same}
use Rattle.base.proofs.Grounds.{clear}
use Rattle.chassis.specs.declared.Agent.{Agent}
use Rattle.chassis.specs.declared.Chan.{Chan}
use Rattle.chassis.specs.declared.Table.{Table}
use Rattle.chassis.specs.declared.NextPlace.TheVariants.{Target, Through}
use Rattle.chassis.specs.Channels.{has_agent, is_master, opposite}
use Rattle.chassis.specs.Routes.{bridges_between, way_channels, nth}
use Rattle.chassis.proofs.Along.{nth_once, opposite_once}
use Rattle.queue.specs.declared.Transaction.{Transaction}
use Rattle.queue.specs.declared.Entry.{Entry}
use Rattle.queue.specs.Entries.{P, R, C}
use Rattle.queue.specs.Queues.{stands}
use Rattle.network.specs.Nets.{Net, waiting}
use Rattle.network.proofs.Good.{Good}
use Rattle.events.specs.declared.Event.{Event}
use Rattle.events.specs.declared.Event.TheVariants.{Commit, Latch, Complete, DropRequest}
use Rattle.events.specs.Tests.{entry_at, ahead, no_such_entry}
use Rattle.events.specs.Grounds.{named_grounds, grounds, Accepted}
use Rattle.courses.specs.Stages.{Stage, asked, answered, has_begun, Fits, Moves, commits, latches, reaches, returns, drops_request}
use Rattle.courses.specs.Courses.{Course, entry_of, OnCourse, NamesR, commit, latch, complete, drop}
use Rattle.courses.proofs.Placed.{R-is, AtR, last, before, behind, AtC, back, AtP, at_R, at_C, at_P}
use Rattle.courses.proofs.Placed as placed
use Rattle.courses.proofs.Advanced.{ahead_on, ahead_last}
use Rattle.courses.proofs.Own.{own_commit, own_latch, own_complete, own_drop_request}
use Rattle.courses.proofs.Reaching.{begun_there}

-- the chain ends in channel j
data Ends (j : ℕ) : Stage → Type 0 where
  asks : (b : Bool) → Ends j (asked j b)
  answers : Ends j (answered j)

-- the event's own name, and the one that moves, are told apart where the event is matched
module _ {T : Table} {w : List Chan} {k : ℕ} {t : Transaction} where
  commits_there : (N : Chan) (u : Transaction) {h i : Stage} → Moves T w k t h (Commit N u) i → (j : ℕ) × (N ≡ nth w j) × Ends j h
  commits_there _ _ (commits _ j p) = (j, p, asks false)

  latches_there : (N : Chan) (u : Transaction) {h i : Stage} → Moves T w k t h (Latch N u) i → (j : ℕ) × (N ≡ nth w j) × Ends j h
  latches_there _ _ (latches _ j b p l) = (j, p, asks b)

  completes_there : (N : Chan) (u : Transaction) {h i : Stage} → Moves T w k t h (Complete N u) i → (j : ℕ) × (N ≡ nth w j) × Ends j h
  completes_there _ _ (reaches _ b p) = (k, p, asks b)
  completes_there _ _ (returns _ j p) = (j, p, answers)

  drops_there : (N : Chan) (u : Transaction) {h i : Stage} → Moves T w k t h (DropRequest N u) i → (j : ℕ) × (N ≡ nth w j) × Ends j h
  drops_there _ _ (drops_request _ j p) = (suc j, p, asks false)

ends_there : {T : Table} {w : List Chan} {k : ℕ} {t : Transaction} (N : Chan) {h i : Stage} (e : Event) → NamesR N t e → Moves T w k t h e i → (j : ℕ) × (N ≡ nth w j) × Ends j h
ends_there {t = t} N _ commit m = commits_there N t m
ends_there {t = t} N _ latch m = latches_there N t m
ends_there {t = t} N _ complete m = completes_there N t m
ends_there {t = t} N _ drop m = drops_there N t m

through_same : {X Y : Chan} → Through X ≡ Through Y → X ≡ Y
through_same e = cc

target_through : {X : Chan} → Target ≡ Through X → ⊥
target_through e = let z : ◌≡◌ {A = ℕ} 0 1 = cc in omega arith

-- ---- on a course

module _ (s : Net) (g : Good s) (t : Transaction) (c : Course) (o : OnCourse s t c) where
  abbrev T : Table
  T = s.table

  abbrev a : Agent
  a = c.target

  abbrev h : Stage
  h = c.stage

  abbrev w : List Chan
  w = way_channels T t.master a

  abbrev k : ℕ
  k = bridges_between T t.master a

  abbrev x : ℕ → Bool → Entry
  x = entry_of t a c.write

  stood : (i : ℕ) (N : Chan) → stands i t (waiting s N) ≡ true → no_such_entry s i N t ≡ false
  stood i N y = ap not y

  p_here : (N : Chan) → stands P t (waiting s N) ≡ true → AtP s t a c.write N h
  p_here N y = at_P s t a c.write N h o.stands (stood P N y)

  r_here : (N : Chan) → stands R t (waiting s N) ≡ true → AtR s t a c.write N h
  r_here N y = at_R s t a c.write N h o.stands (stood R N y)

  c_here : (N : Chan) → stands C t (waiting s N) ≡ true → AtC s t a c.write N h
  c_here N y = at_C s t a c.write N h o.stands (stood C N y)

  -- ---- kinds

  P-and-R : (N M : Chan) {i : Stage} → AtP s t a c.write N i → AtR s t a c.write M i → ⊥
  P-and-R N M (placed.only i e y) r = elim r [ ]

  P-and-C : (N M : Chan) {i : Stage} → AtP s t a c.write N i → AtC s t a c.write M i → ⊥
  P-and-C N M (placed.only i e y) r = elim r [ ]

  P-once : (N M : Chan) {i : Stage} → AtP s t a c.write N i → AtP s t a c.write M i → N ≡ M
  P-once N M (placed.only i e y) (placed.only _ f z) = e ∙ sym f

  C-once : (N M : Chan) {i : Stage} → AtC s t a c.write N i → AtC s t a c.write M i → N ≡ M
  C-once N M (back j e) (back _ f) = e ∙ sym f

  C-marks : (N M : Chan) {i : Stage} → AtC s t a c.write N i → AtR s t a c.write M i → (entry_at s R M t).committed ≡ true
  C-marks N M (back j e) (behind _ i l f y) = ap (λ (y : Entry). y.committed) y

  C-no-latch : (N M : Chan) {i j : Stage} → AtC s t a c.write N i → Moves T w k t i (Latch M t) j → ⊥
  C-no-latch N M (back j e) m = elim m [ ]

  pub no_P_beside_an_R : (N M : Chan) → stands P t (waiting s N) ≡ true → stands R t (waiting s M) ≡ true → ⊥
  no_P_beside_an_R N M y z = P-and-R N M (p_here N y) (r_here M z)

  pub no_P_beside_a_C : (N M : Chan) → stands P t (waiting s N) ≡ true → stands C t (waiting s M) ≡ true → ⊥
  no_P_beside_a_C N M y z = P-and-C N M (p_here N y) (c_here M z)

  pub one_P : (N M : Chan) → stands P t (waiting s N) ≡ true → stands P t (waiting s M) ≡ true → N ≡ M
  one_P N M y z = P-once N M (p_here N y) (p_here M z)

  pub one_C : (N M : Chan) → stands C t (waiting s N) ≡ true → stands C t (waiting s M) ≡ true → N ≡ M
  one_C N M y z = C-once N M (c_here N y) (c_here M z)

  pub answered_is_marked : (N M : Chan) → stands C t (waiting s N) ≡ true → stands R t (waiting s M) ≡ true → (entry_at s R M t).committed ≡ true
  answered_is_marked N M y z = C-marks N M (c_here N y) (r_here M z)

  -- ---- the last R of the chain

  names_R : (N : Chan) (e : Event) → NamesR N t e → Accepted s e → AtR s t a c.write N h
  unfolding grounds named_grounds
  names_R N _ commit ok = at_R s t a c.write N h o.stands (clear (grounds s (Commit N t)) ok).1.0
  names_R N _ latch ok = at_R s t a c.write N h o.stands (clear (grounds s (Latch N t)) ok).1.0
  names_R N _ complete ok = at_R s t a c.write N h o.stands (clear (grounds s (Complete N t)) ok).1.0
  names_R N _ drop ok = at_R s t a c.write N h o.stands (clear (grounds s (DropRequest N t)) ok).1.0

  moves_R : (N : Chan) (e : Event) → NamesR N t e → Accepted s e → (i : Stage) × Moves T w k t h e i
  moves_R N _ commit ok = let m = own_commit s g t a c.write h o.stands o.fits N ok in (m.to, m.by)
  moves_R N _ latch ok = let m = own_latch s g t a c.write h o.stands o.fits N ok in (m.to, m.by)
  moves_R N _ complete ok = let m = own_complete s g t a c.write h o.stands o.fits N ok in (m.to, m.by)
  moves_R N _ drop ok = let m = own_drop_request s g t a c.write h o.stands o.fits N ok in (m.to, m.by)

  has_master : {N : Chan} → AtR s t a c.write N h → has_agent T t.master ≡ true
  has_master r = begun_there s g t c o (begun_R r)
    where
      begun_R : {N : Chan} {i : Stage} → AtR s t a c.write N i → has_begun i ≡ true
      begun_R (last j b e y) = refl
      begun_R (before j b n l e y) = refl
      begun_R (behind j n l e y) = refl

  R-reach : (j : ℕ) (N : Chan) {i : Stage} → Ends j i → AtR s t a c.write N i → (n : ℕ) × (n ≤ j) × (N ≡ nth w n)
  R-reach j N (asks b) (last _ _ e y) = (j, le_refl j, e)
  R-reach j N (asks b) (before _ _ n l e y) = (n, omega arith, e)
  R-reach j N answers (behind _ n l e y) = (n, l, e)

  ends_fit : (j : ℕ) {i : Stage} → Ends j i → Fits k i → j ≤ k
  ends_fit j (asks b) f = f
  ends_fit j answers f = omega arith

  -- what comes after the last channel of the chain
  beyond : (N X : Chan) (j : ℕ) → N ≡ nth w j → Ends j h → AtR s t a c.write N h → ahead s R N t ≡ Through X → stands R t (waiting s X) ≡ true → ⊥
  beyond N X j e d r p y =
      let has = has_master r in
      let q = R-is s t a c.write N r in
      let q' : entry_at s R (nth w j) t ≡ x R q.0 = subst (λ (M : Chan). entry_at s R M t ≡ x R q.0) e q.1 in
      let p' : ahead s R (nth w j) t ≡ Through X = subst (λ (M : Chan). ahead s R M t ≡ Through X) e p in
      ⊎_elim
      (λ l.
      let z = ahead_on s g t a c.write has j l R q.0 q' in
      let z' : nth w (suc j) ≡ X = through_same (sym z ∙ p') in
      let n = R-reach j X d (r_here X y) in
      let u = nth_once T g.rules.passes t.master a has (suc j) n.0 l (omega (arith, n.1)) (z' ∙ n.2) in
      omega (arith, n.1))
      (λ q''.
      let p'' : ahead s R (nth w k) t ≡ Through X = subst (λ (j : ℕ). ahead s R (nth w j) t ≡ Through X) q'' p' in
      target_through (sym (ahead_last s g t a c.write has R q.0 (subst (λ (j : ℕ). entry_at s R (nth w j) t ≡ x R q.0) q'' q')) ∙ p''))
      (less_or_same j k (ends_fit j d o.fits))

  pub only_the_last_R_moves : (N X : Chan) (e : Event) → NamesR N t e → Accepted s e → ahead s R N t ≡ Through X → stands R t (waiting s X) ≡ false
  only_the_last_R_moves N X e f ok p =
      split (stands R t (waiting s X))
      (λ y.
      let d = ends_there N e f (moves_R N e f ok).1 in
      absurd (beyond N X d.0 d.1 d.2 (names_R N e f ok) p y))
      (λ z. z)

  pub no_latch_while_answered : (N M : Chan) → stands C t (waiting s N) ≡ true → Accepted s (Latch M t) → ⊥
  no_latch_while_answered N M y ok = C-no-latch N M (c_here N y) (moves_R M (Latch M t) latch ok).1

  -- ---- no R opposite its C

  opposite_its_C : (has : has_agent T t.master ≡ true) (N : Chan) {i : Stage} → Fits k i → is_master T N ≡ false → AtR s t a c.write N i → AtC s t a c.write (opposite T N) i → ⊥
  opposite_its_C has N f m (last j b _ _) y = elim y [ ]
  opposite_its_C has N f m (before j b i _ _ _) y = elim y [ ]
  opposite_its_C has N f m (behind j zero l e y) (back _ p) = both (is_master T (nth w 0)) has (sym (ap (is_master T) e) ∙ m)
  opposite_its_C has N f m (behind j (suc n) l e y) (back _ p) =
      let q = opposite_once T g.rules.passes t.master a has n j (omega arith) f (ap (opposite T) (sym e) ∙ p) in
      omega arith

  pub no_R_opposite_its_C : (N : Chan) → is_master T N ≡ false → stands R t (waiting s N) ≡ true → stands C t (waiting s (opposite T N)) ≡ true → ⊥
  no_R_opposite_its_C N m y z = opposite_its_C (has_master (r_here N y)) N o.fits m (r_here N y) (c_here (opposite T N) z)
