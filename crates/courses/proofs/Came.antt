-- How a posted write came to its channel: it stood there before the event, has just begun, or has just been posted on.
-- A step of its course is read backwards; only a begin and a post lead to a posted stage.
use Prim.Native.Nat.{ℕ, zero, suc, ◌<◌}
use mathlib.Core.Path.{◌≡◌, refl, sym, ap, subst, ◌∙◌}
use mathlib.Core.Bool.{Bool, true, false, not}
use borrow.Author.Tests.{eq-eqb}
use Rattle.base.proofs.Logic.{both}
use Rattle.base.proofs.Cells.{In, in_found}
use Rattle.chassis.specs.declared.Agent.{Agent}
use Rattle.chassis.specs.declared.Chan.{Chan}
use Rattle.chassis.specs.Routes.{bridges_between, way_channels, nth}
use Rattle.queue.specs.declared.Transaction.{Transaction}
use Rattle.queue.specs.declared.Entry.{Entry}
use Rattle.queue.specs.Entries.{P, is_named}
use Rattle.queue.proofs.Names.{one_is_same, is_named_so}
use Rattle.network.specs.Nets.{Net, waiting}
use Rattle.network.proofs.Good.{Good}
use Rattle.events.specs.declared.Event.{Event}
use Rattle.events.specs.declared.Event.TheVariants.{BeginPosted, Post}
use Rattle.events.specs.Grounds.{Accepted}
use Rattle.events.specs.Effects.{after}
use Rattle.events.specs.Reached.{Reached}
use Rattle.events.proofs.Kept.{rules_stay}
use Rattle.events.proofs.SoundStays.{reached_is_good}
use Rattle.courses.specs.Stages.{Stage, unbegun, posted, asked, answered, ended, completed, Moves, posts_on, arrives, commits, latches, reaches, returns, drops_request, drops_completion}
use Rattle.courses.specs.Courses.{Course, course, entry_of, OnCourse, transaction_of, Advances, begins_posted, begins_read, begins_write, moves, Follows, stays, goes}
use Rattle.courses.proofs.Placed.{AtP, at_P, P-is, posted_stands}
use Rattle.courses.proofs.Placed as placed
use Rattle.courses.proofs.Reaching.{every_transaction_is_on_course, each_follows}
use Rattle.courses.proofs.Once.{its_target}
use Rattle.courses.proofs.OneStage.{one_stage}

-- ---- posted stages

abbrev is_posted : Stage → Bool
is_posted unbegun = false
is_posted (posted i) = true
is_posted (asked j b) = false
is_posted (answered j) = false
is_posted ended = false

completed_not : (j : ℕ) → is_posted (completed j) ≡ false
completed_not zero = refl
completed_not (suc j) = refl

posted_not : {i : ℕ} (h : Stage) → is_posted h ≡ false → h ≡ posted i → ⊥
posted_not h n e = both (is_posted h) (ap is_posted e) n

-- t's P, to a, is in channel i of its way; it is a write
abbrev pub PostedAt : Net → Transaction → Agent → ℕ → Type 0
PostedAt s t a i = OnCourse s t (course a true (posted i))

abbrev pub the_P : Transaction → Agent → Entry
the_P t a = entry_of t a true P false

module _ (s : Net) (g : Good s) (t : Transaction) where
  -- what stands says its target
  posted_target : (a a' : Agent) (b : Bool) (i : ℕ) → PostedAt s t a i → OnCourse s t (course a' b (posted i)) → (a' ≡ a) × (b ≡ true)
  posted_target a a' b i o o' =
      let N = nth (way_channels s.table t.master a) i in
      let z = ap not (posted_stands s t a true i o.stands) in
      let y = P-is s t a true N (at_P s t a true N (posted i) o.stands z) in
      let y' = P-is s t a' b N (at_P s t a' b N (posted i) o'.stands z) in
      (ap (λ (y : Entry). y.target) (sym y' ∙ y), ap (λ (y : Entry). y.write) (sym y' ∙ y))

  posted_course : (a : Agent) (i : ℕ) (d : Course) → PostedAt s t a i → OnCourse s t d → d ≡ course a true (posted i)
  posted_course a i d o p =
      let e = one_stage s g t d (course a true (posted i)) p o in
      let q = posted_target a d.target d.write i o (subst (λ (h : Stage). OnCourse s t (course d.target d.write h)) e p) in
      λ j. record { target = q.0 j; write = q.1 j; stage = e j }

-- ---- how it came there

-- by e from s, t's P has come to channel i, or stayed there
pub data Came (s : Net) (t : Transaction) (a : Agent) (e : Event) (i : ℕ) : Type 0 where
  stood : (transaction_of s e ≡ t → ⊥) → PostedAt s t a i → Came s t a e i
  began : transaction_of s e ≡ t → i ≡ 0 → e ≡ BeginPosted t.master a → Came s t a e i
  moved : (j : ℕ) (N : Chan) → transaction_of s e ≡ t → i ≡ suc j → e ≡ Post N t → N ≡ nth (way_channels s.table t.master a) j → j < bridges_between s.table t.master a
      → PostedAt s t a j → Came s t a e i

module _ (s : Net) (t : Transaction) where
  by_move : (a : Agent) (e : Event) (i : ℕ) (g h : Stage) → transaction_of s e ≡ t → OnCourse s t (course a true g)
      → Moves s.table (way_channels s.table t.master a) (bridges_between s.table t.master a) t g e h → h ≡ posted i → Came s t a e i
  by_move a _ i _ _ p o (posts_on N j n l) q = moved j N p (let z : suc j ≡ i = cc in sym z) refl n l o
  by_move a _ i _ _ p o (arrives N n) q = absurd (posted_not ended refl q)
  by_move a _ i _ _ p o (commits N j n) q = absurd (posted_not (asked j true) refl q)
  by_move a _ i _ _ p o (latches N j c n l) q = absurd (posted_not (asked (suc j) false) refl q)
  by_move a _ i _ h p o (reaches N c n) q = absurd (posted_not h (completed_not (bridges_between s.table t.master a)) q)
  by_move a _ i _ _ p o (returns N j n) q = absurd (posted_not (completed j) (completed_not j) q)
  by_move a _ i _ _ p o (drops_request N j n) q = absurd (posted_not (asked j true) refl q)
  by_move a _ i _ _ p o (drops_completion N j n) q = absurd (posted_not (asked j true) refl q)

  by_advance : (a : Agent) (e : Event) (i : ℕ) (c d : Course) → transaction_of s e ≡ t → OnCourse s t c → Advances s.table t c e d → d ≡ course a true (posted i) → Came s t a e i
  by_advance a _ i _ _ p o (begins_posted c a' u) q =
      let z : posted 0 ≡ posted i = ap (λ (d : Course). d.stage) q in
      let z' : 0 ≡ i = cc in
      began p (sym z') (ap (λ (d : Course). BeginPosted t.master d.target) q)
  by_advance a _ i _ _ p o (begins_read c a' u) q = absurd (posted_not (asked 0 false) refl (ap (λ (d : Course). d.stage) q))
  by_advance a _ i _ _ p o (begins_write c a' u) q = absurd (posted_not (asked 0 false) refl (ap (λ (d : Course). d.stage) q))
  by_advance a _ i _ _ p o (moves a' b g h e m) q =
      subst (λ (a : Agent). Came s t a e i) (ap (λ (d : Course). d.target) q)
      (by_move a' e i g h p (subst (λ (b : Bool). OnCourse s t (course a' b g)) (ap (λ (d : Course). d.write) q) o) m (ap (λ (d : Course). d.stage) q))

  by_follows : (a : Agent) (e : Event) (i : ℕ) (c d : Course) → OnCourse s t c → Follows s t c e d → d ≡ course a true (posted i) → Came s t a e i
  by_follows a e i c d o (stays n p) q = stood n (subst (OnCourse s t) (p ∙ q) o)
  by_follows a e i c d o (goes p v) q = by_advance a e i c d p o v q

  pub came : Reached s → (a : Agent) (e : Event) (i : ℕ) → Accepted s e → PostedAt (after s e) t a i → Came s t a e i
  came r a e i ok o =
      let g = reached_is_good s r in
      let c = every_transaction_is_on_course s r t in
      let d = each_follows s g t c.0 c.1 e ok in
      by_follows a e i c.0 d.0 c.1 d.2 (posted_course (after s e) (rules_stay s g e ok) t a i d.0 o d.1)

-- ---- said of entries

-- where a P stands, its transaction is posted to that target
pub posted_at : (s : Net) → Reached s → (x : Entry) (N : Chan) → In x (waiting s N) → x.kind ≡ P → (i : ℕ) × PostedAt s x.transaction x.target i
posted_at s r x N i k =
    let g = reached_is_good s r in
    let t = x.transaction in
    let c = every_transaction_is_on_course s r t in
    let written : x.write ≡ true = rw (eq-eqb x.kind P k) at (g.rules.fits N x i).posted in
    let e = its_target s g t c.0 c.1 N x i (one_is_same {t = t} refl) in
    let p = stage_of (at_P s t c.0.target c.0.write N c.0.stage c.1.stands (ap not (in_found (is_named P t) (waiting s N) i (is_named_so t x P k refl)))) in
    (p.0, subst (OnCourse s t) (path (sym e.0) (sym e.1 ∙ written) p.1) c.1)
  where
    stage_of : {a : Agent} {b : Bool} {h : Stage} → AtP s x.transaction a b N h → (i : ℕ) × (h ≡ posted i)
    stage_of (placed.only i e y) = (i, refl)

    path : {c : Course} {a : Agent} {b : Bool} {h : Stage} → c.target ≡ a → c.write ≡ b → c.stage ≡ h → c ≡ course a b h
    path p q v = λ i. record { target = p i; write = q i; stage = v i }
