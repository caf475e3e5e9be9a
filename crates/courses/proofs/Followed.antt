-- While a posted write waits, every later posted write of its master is behind it: in its channel and younger, or where that channel is still ahead
-- on the way to its target. So none reaches the target's bus before it.
use Prim.Native.Nat.{ℕ, zero, suc, ◌+◌, ◌<◌}
use native.Mathlib.Omega.{arith}
use mathlib.Core.Path.{◌≡◌, refl, sym, ap, subst, subst⁻¹, ◌∙◌}
use mathlib.Core.Bool.{true, false}
use mathlib.Core.Logic.{⊎_elim}
use mathlib.Core.List.{List}
use borrow.Author.Tests.{leb-true}
use lib.Dec.{leb}
use Rattle.base.proofs.Logic.{both, and_true}
use Rattle.base.proofs.Grounds.{clear}
use Rattle.base.proofs.Cells.{In}
use Rattle.chassis.specs.declared.Agent.{Agent}
use Rattle.chassis.specs.declared.Chan.{Chan}
use Rattle.chassis.specs.declared.Table.{Table}
use Rattle.chassis.specs.declared.NextPlace.TheVariants.{Target, Through}
use Rattle.chassis.specs.Numbers.{agent}
use Rattle.chassis.specs.Channels.{home, has_agent, has_chan, master_channel, out_bus}
use Rattle.chassis.specs.Routes.{next_place, bridges_between, way_channels, nth}
use Rattle.chassis.specs.Tables.{table_passes}
use Rattle.chassis.proofs.OnTheWay.{out_there, next_is_target}
use Rattle.chassis.proofs.Along.{nth_there, nth_next, nth_no_master, opposite_out}
use Rattle.chassis.proofs.TurnsBack.{StillAhead, all_ahead, none_ahead, entered_or_ahead, next_is_ahead, next_is_ahead_too}
use Rattle.queue.specs.declared.Transaction.{Transaction}
use Rattle.queue.specs.declared.Entry.{Entry}
use Rattle.queue.specs.Entries.{P}
use Rattle.queue.proofs.Plainly.{transaction_path}
use Rattle.queue.proofs.Names.{is_either, of_neither}
use Rattle.network.specs.Nets.{Net, waiting, begun, empty_net}
use Rattle.network.proofs.Good.{Good, empty_is_good}
use Rattle.events.specs.declared.Event.{Event}
use Rattle.events.specs.declared.Event.TheVariants.{BeginPosted, Post}
use Rattle.events.specs.Tests.{entry_at, ahead}
use Rattle.events.specs.Grounds.{named_grounds, grounds, Accepted}
use Rattle.events.specs.Effects.{after}
use Rattle.events.specs.Reached.{Reached, at_first, and_then}
use Rattle.events.proofs.SoundStays.{reached_is_good, table_stays}
use Rattle.courses.specs.Stages.{unbegun, posted, has_begun}
use Rattle.courses.specs.Courses.{course, transaction_of}
use Rattle.courses.proofs.Placed.{AtP, at_P}
use Rattle.courses.proofs.Placed as placed
use Rattle.courses.proofs.Advanced.{ahead_is}
use Rattle.courses.proofs.EachEdit.{untouched}
use Rattle.courses.proofs.Reaching.{empty_course, begun_there}
use Rattle.courses.proofs.OneStage.{one_stage}
use Rattle.courses.proofs.Came.{PostedAt, the_P, Came, stood, began, moved, came, posted_at}
use Rattle.courses.proofs.Lined.{number_of, Behind, blocked, begin_line, post_line}

-- t to a, and a later one of the same master to a'
module _ (t : Transaction) (n : ℕ) (less : t.number < n) (a a' : Agent) where
  abbrev u : Transaction
  u = number_of t n

  abbrev m : Agent
  m = t.master

  two : t ≡ u → ⊥
  two e = let z : t.number ≡ n = ap (λ (t : Transaction). t.number) e in omega arith

  -- t's P is in channel i of its way, u's in channel j of its own
  pub data Trails (T : Table) (s : Net) (i j : ℕ) : Type 0 where
    -- in one channel, and younger
    in_line : nth (way_channels T m a) i ≡ nth (way_channels T m a') j → Behind t u a a' s (nth (way_channels T m a) i) → Trails T s i j
    -- that channel is still ahead
    further_back : StillAhead T a (nth (way_channels T m a) i) (out_bus T (nth (way_channels T m a') j)) → Trails T s i j

  abbrev pub Trailing : Net → Type 0
  Trailing s = (i j : ℕ) → PostedAt s t a i → PostedAt s u a' j → Trails s.table s i j

  module _ (s : Net) (r : Reached s) where
    abbrev T : Table
    T = s.table

    abbrev g : Good s
    g = reached_is_good s r

    abbrev passes : table_passes T ≡ true
    passes = g.rules.passes

    abbrev w : List Chan
    w = way_channels T m a

    abbrev w' : List Chan
    w' = way_channels T m a'

    -- u begins
    at_begin : (e : Event) (i : ℕ) → Accepted s e → transaction_of s e ≡ u → e ≡ BeginPosted m a' → PostedAt s t a i
        → PostedAt (after s e) u a' 0 → Trails T (after s e) i 0
    at_begin e zero ok y f o p =
        in_line refl
        (subst⁻¹ (λ (e : Event). Accepted s e → transaction_of s e ≡ u → PostedAt (after s e) u a' 0 → Behind t u a a' (after s e) (master_channel m)) f
        (λ ok y p. begin_line t n a a' s r ok y o p) ok y p)
    at_begin e (suc i) ok y f o p =
        let has = begun_there s g t (course a true (posted (suc i))) o refl in
        further_back (all_ahead T passes a m has i o.fits)

    -- u is posted on
    at_post : (e : Event) (i k : ℕ) (N : Chan) → Accepted s e → e ≡ Post N u → N ≡ nth w' k → k < bridges_between T m a' → PostedAt s t a i
        → PostedAt s u a' k → Trails T s i k → Trails T (after s e) i (suc k)
    at_post e i k N ok f q l o p (in_line d h) =
        absurd (blocked t u a a' two s (nth w i) (subst⁻¹ (λ (M : Chan). Accepted s (Post M u)) d (subst (λ (M : Chan). Accepted s (Post M u)) q (subst (Accepted s) f ok))) h)
    at_post e i k N ok f q l o p (further_back h) =
        let has = begun_there s g u (course a' true (posted k)) p refl in
        let ok' : Accepted s (Post (nth w' k) u) = subst (λ (M : Chan). Accepted s (Post M u)) q (subst (Accepted s) f ok) in
        ⊎_elim
        (λ d. in_line d
        (subst⁻¹ (λ (e : Event). Behind t u a a' (after s e) (nth w i)) (f ∙ ap (λ (M : Chan). Post M u) q) (post_line t n a a' s g i k l ok' d o p)))
        (λ h. further_back h)
        (entered_or_ahead T passes a (nth w i) (nth w' (suc k)) (nth_there T passes m a' has (suc k) l) (nth_no_master T passes m a' has k l)
        (subst⁻¹ (StillAhead T a (nth w i)) (opposite_out T passes m a' has k l) h))

    -- t is posted on
    at_pass : (e : Event) (k j : ℕ) → k < bridges_between T m a → PostedAt s t a k → PostedAt s u a' j → Trails T s k j → Trails T (after s e) (suc k) j
    at_pass e k j l o p tr =
        let has = begun_there s g t (course a true (posted k)) o refl in
        further_back (past has (nth_there T passes m a has k o.fits) (nth_next T passes m a has k l) tr)
      where
        past : has_agent T m ≡ true → has_chan T (nth w k) ≡ true → next_place T (nth w k) a ≡ Through (nth w (suc k)) → Trails T s k j → StillAhead T a (nth w (suc k)) (out_bus T (nth w' j))
        past has there n (in_line d z) = subst (λ (M : Chan). StillAhead T a (nth w (suc k)) (out_bus T M)) d (next_is_ahead T passes a (nth w k) (nth w (suc k)) there n)
        past has there n (further_back z) =
            next_is_ahead_too T passes a (nth w k) (nth w (suc k)) there n (out_bus T (nth w' j)) (out_there T passes (nth w' j) (nth_there T passes m a' has j p.fits)) z

  stay : (s : Net) (e : Event) → Accepted s e → (transaction_of s e ≡ t → ⊥) → (transaction_of s e ≡ u → ⊥) → (i j : ℕ) → Trails s.table s i j → Trails s.table (after s e) i j
  stay s e ok x y i j (in_line d h) = in_line d (untouched (is_either t u) s e ok (λ z f. of_neither t u z (λ p. x (sym f ∙ p)) (λ p. y (sym f ∙ p))) (nth (way_channels s.table m a) i) ∙ h)
  stay s e ok x y i j (further_back h) = further_back h

  step : (s : Net) → Reached s → (e : Event) → Accepted s e → Trailing s → (i j : ℕ) → PostedAt (after s e) u a' j
      → Came s t a e i → Came s u a' e j → Trails s.table (after s e) i j
  step s r e ok h i j p (stood x o') (stood y p') = stay s e ok x y i j (h i j o' p')
  step s r e ok h i j p (stood x o') (began y z f) =
      subst⁻¹ (λ (j : ℕ). Trails s.table (after s e) i j) z
      (at_begin s r e i ok y f o' (subst (λ (j : ℕ). PostedAt (after s e) u a' j) z p))
  step s r e ok h i j p (stood x o') (moved k N y z f q l p') =
      subst⁻¹ (λ (j : ℕ). Trails s.table (after s e) i j) z (at_post s r e i k N ok f q l o' p' (h i k o' p'))
  step s r e ok h i j p (began x z f) (stood y p') =
      let k : t.number ≡ begun s m + 1 = sym (ap (λ (t : Transaction). t.number) (sym (ap (transaction_of s) f) ∙ x)) in
      let v = leb-true n (begun s m) (and_true (leb 1 n) (leb n (begun s m)) p'.number).1 in
      absurd (omega arith)
  step s r e ok h i j p (moved k N x z f q l o') (stood y p') =
      subst⁻¹ (λ (i : ℕ). Trails s.table (after s e) i j) z (at_pass s r e k j l o' p' (h k j o' p'))
  step s r e ok h i j p (began x z f) (began y z' f') = absurd (two (sym x ∙ y))
  step s r e ok h i j p (began x z f) (moved k N y z' f' q l p') = absurd (two (sym x ∙ y))
  step s r e ok h i j p (moved k N x z f q l o') (began y z' f') = absurd (two (sym x ∙ y))
  step s r e ok h i j p (moved k N x z f q l o') (moved k' N' y z' f' q' l' p') = absurd (two (sym x ∙ y))

  pub trails : (s : Net) → Reached s → Trailing s
  trails _ (at_first T h) i j o p =
      absurd (both true refl (ap has_begun (one_stage (empty_net T) (empty_is_good T h) t (course a true (posted i)) (course (agent 0) false unbegun) o (empty_course T t))))
  trails _ (and_then s e r ok) i j o p =
      subst⁻¹ (λ (T : Table). Trails T (after s e) i j) (table_stays s e)
      (step s r e ok (λ i j o p. trails s r i j o p) i j p (came s t r a e i ok o) (came s u r a' e j ok p))

  -- u does not reach an agent on the bus of t's target while t waits
  pub earlier_ends_first : (s : Net) → Reached s → (i j : ℕ) → PostedAt s t a i → PostedAt s u a' j → home s.table a' ≡ home s.table a
      → (N : Chan) → Accepted s (Post N u) → ahead s P N u ≡ Target → ⊥
  unfolding grounds named_grounds
  earlier_ends_first s r i j o p same N ok h =
      let g = reached_is_good s r in
      go g (begun_there s g u (course a' true (posted j)) p refl) (at_P s u a' true N (posted j) p.stands (clear (grounds s (Post N u)) ok).1.0) (trails s r i j o p)
    where
      go : (g : Good s) (has : has_agent s.table m ≡ true) → AtP s u a' true N (posted j) → Trails s.table s i j → ⊥
      go g has (placed.only _ e y) (in_line d z) =
          blocked t u a a' two s N ok (subst⁻¹ (λ (M : Chan). Behind t u a a' s M) (e ∙ sym d) z)
      go g has (placed.only _ e y) (further_back z) =
          let T = s.table in
          let passes = g.rules.passes in
          let N' = nth (way_channels T m a') j in
          let there = nth_there T passes m a' has j p.fits in
          let q : ahead s P N' u ≡ Target = subst (λ (M : Chan). ahead s P M u ≡ Target) e h in
          let q' = ahead_is s g u a' true has P N' false (subst (λ (M : Chan). entry_at s P M u ≡ the_P u a') e y) in
          let x : out_bus T N' ≡ home T a = (next_is_target T passes N' a' there).0 (sym q' ∙ q) ∙ same in
          none_ahead T passes a (nth (way_channels T m a) i) (subst (StillAhead T a (nth (way_channels T m a) i)) x z)

-- of two posted writes of one master to agents on one bus the one begun first arrives first
pub posted_writes_keep_their_order : (s : Net) → Reached s → (x y : Entry) (N M : Chan) → In x (waiting s N) → In y (waiting s M) → x.kind ≡ P → y.kind ≡ P
    → x.transaction.master ≡ y.transaction.master → x.transaction.number < y.transaction.number → home s.table y.target ≡ home s.table x.target
    → Accepted s (Post M y.transaction) → ahead s P M y.transaction ≡ Target → ⊥
posted_writes_keep_their_order s r x y N M i j k l m less a ok h =
    let p = posted_at s r x N i k in
    let q = posted_at s r y M j l in
    let n = y.transaction.number in
    let e : y.transaction ≡ number_of x.transaction n = transaction_path (ap (λ (a : Agent). a.0) (sym m)) refl in
    earlier_ends_first x.transaction n less x.target y.target s r p.0 q.0 p.1
    (subst (λ (u : Transaction). PostedAt s u y.target q.0) e q.1) a
    M (subst (λ (u : Transaction). Accepted s (Post M u)) e ok) (subst (λ (u : Transaction). ahead s P M u ≡ Target) e h)
