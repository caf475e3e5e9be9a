-- On a course, of one name: one entry in a channel, of whatever kind; one target, read or write in all of them; and none before it has begun.
-- The channels of a way are different, and the way does not turn back, so of a stage's pieces at most one stands in a channel.
use Prim.Native.Nat.{ℕ, zero, suc, ◌≤◌}
use native.Mathlib.Omega.{arith}
use mathlib.Core.Path.{◌≡◌, refl, sym, ap, subst, subst⁻¹, ◌∙◌}
use mathlib.Core.Bool.{Bool, true, false}
use mathlib.Core.Logic.{⊎_elim}
use mathlib.Core.List.{List, [], ◌∷◌, ◌++◌}
use Rattle.base.specs.Lists.{only, count}
use Rattle.base.proofs.Cells.{In, in_none, in_one, in_append}
use Rattle.base.proofs.Sifted.{in_only, count_only}
use Rattle.chassis.specs.declared.Agent.{Agent}
use Rattle.chassis.specs.declared.Chan.{Chan}
use Rattle.chassis.specs.declared.Table.{Table}
use Rattle.chassis.specs.Channels.{has_agent, opposite}
use Rattle.chassis.specs.Tables.{table_passes}
use Rattle.chassis.specs.Routes.{bridges_between, way_channels, nth}
use Rattle.chassis.proofs.Along.{nth_once, never_turned}
use Rattle.queue.specs.declared.Transaction.{Transaction}
use Rattle.queue.specs.declared.Entry.{Entry}
use Rattle.queue.specs.Entries.{P, R, C, is_of}
use Rattle.network.specs.Nets.{Net, waiting}
use Rattle.network.proofs.Good.{Good}
use Rattle.courses.specs.Pieces.{Piece, piece, held_in}
use Rattle.courses.specs.Stages.{Stage, unbegun, posted, asked, answered, ended, has_begun, Fits}
use Rattle.courses.specs.Courses.{requests, pieces, Course, entry_of, course, standing, is_begun, OnCourse}
use Rattle.courses.proofs.Held.{once_more, in_held, none_counted, one_counted}
use Rattle.courses.proofs.Standing.{in_requests, requests_suc}
use Rattle.courses.proofs.Reaching.{not_begun, begun_there}

-- ---- the pieces of a stage

module _ (T : Table) (ok : table_passes T ≡ true) (t : Transaction) (a : Agent) (write : Bool) where
  abbrev w : List Chan
  w = way_channels T t.master a

  abbrev k : ℕ
  k = bridges_between T t.master a

  abbrev x : ℕ → Bool → Entry
  x = entry_of t a write

  -- the R's before channel n stand elsewhere
  apart : has_agent T t.master ≡ true → (n : ℕ) → n ≤ k → (q : Piece) → In q (requests w x n) → q.place ≡ nth w n → ⊥
  apart has n l q i d =
      let r = in_requests w x n i in
      let u = nth_once T ok t.master a has n r.0 l (omega (arith, r.1)) (sym d ∙ ap (λ (q : Piece). q.place) r.2) in
      omega (arith, r.1)

  requests_once : has_agent T t.master ≡ true → (p : Entry → Bool) (N : Chan) (n : ℕ) → n ≤ suc k → count p (held_in N (requests w x n)) ≤ 1
  requests_once has p N zero l = omega (arith, none_counted N p [] (λ q i. in_none i))
  requests_once has p N (suc n) l =
      subst⁻¹ (λ (L : List Piece). count p (held_in N L) ≤ 1) (requests_suc w x n (omega arith))
      (once_more N p (requests w x n) (nth w n) (x R true) (apart has n (omega arith)) (requests_once has p N n (omega arith)))

  pieces_once : (p : Entry → Bool) (N : Chan) (h : Stage) → (has_begun h ≡ true → has_agent T t.master ≡ true) → Fits k h → count p (held_in N (pieces T w x h)) ≤ 1
  unfolding pieces
  pieces_once p N unbegun b f = omega (arith, none_counted N p [] (λ q i. in_none i))
  pieces_once p N (posted i) b f = one_counted N p (piece (nth w i) (x P false))
  pieces_once p N (asked j m) b f =
      once_more N p (requests w x j) (nth w j) (x R m) (apart (b refl) j f) (requests_once (b refl) p N j (omega arith))
  pieces_once p N (answered j) b f =
      once_more N p (requests w x (suc j)) (opposite T (nth w (suc j))) (x C false)
      (λ q i d.
      let r = in_requests w x (suc j) i in
      never_turned T ok t.master a (b refl) r.0 j (omega (arith, r.1)) f (ap (λ (q : Piece). q.place) (sym r.2) ∙ d))
      (requests_once (b refl) p N (suc j) (omega arith))
  pieces_once p N ended b f = omega (arith, none_counted N p [] (λ q i. in_none i))

  -- ---- their target, read or write

  abbrev Like : Piece → Type 0
  Like q = (q.entry.target ≡ a) × (q.entry.write ≡ write)

  like_one : (N : Chan) (c : ℕ) (m : Bool) {q : Piece} → q ≡ piece N (x c m) → Like q
  like_one N c m e = (ap (λ (q : Piece). q.entry.target) e, ap (λ (q : Piece). q.entry.write) e)

  like_requests : (n : ℕ) (Z : Chan) (c : ℕ) (m : Bool) (q : Piece) → In q (requests w x n ++ (piece Z (x c m) ∷ [])) → Like q
  like_requests n Z c m q i =
      ⊎_elim
      (λ i. let r = in_requests w x n i in like_one (nth w r.0) R true r.2)
      (λ i. like_one Z c m (in_one i))
      (in_append (requests w x n) (piece Z (x c m) ∷ []) i)

  pieces_like : (h : Stage) (q : Piece) → In q (pieces T w x h) → Like q
  unfolding pieces
  pieces_like unbegun q i = in_none i
  pieces_like (posted n) q i = like_one (nth w n) P false (in_one i)
  pieces_like (asked n m) q i = like_requests n (nth w n) R m q i
  pieces_like (answered n) q i = like_requests (suc n) (opposite T (nth w (suc n))) C false q i
  pieces_like ended q i = in_none i

-- ---- on a course

module _ (s : Net) (g : Good s) (t : Transaction) (c : Course) (o : OnCourse s t c) where
  pub a_name_stands_once : (N : Chan) → count (is_of t) (waiting s N) ≤ 1
  a_name_stands_once N =
      let e = count_only (is_of t) (is_of t) (λ x h. h) (waiting s N) in
      let f = ap (count (is_of t)) (o.stands N) in
      omega (arith, pieces_once s.table g.rules.passes t c.target c.write (is_of t) N c.stage (begun_there s g t c o) o.fits)

  pub its_target : (N : Chan) (y : Entry) → In y (waiting s N) → is_of t y ≡ true → (y.target ≡ c.target) × (y.write ≡ c.write)
  its_target N y i h' =
      let r = in_held N (standing s.table t c) (subst (In y) (o.stands N) (in_only (is_of t) (waiting s N) i h')) in
      let l = pieces_like s.table g.rules.passes t c.target c.write c.stage r.0 r.1 in
      (ap (λ (y : Entry). y.target) (sym r.2) ∙ l.0, ap (λ (y : Entry). y.write) (sym r.2) ∙ l.1)

  pub nothing_yet : is_begun s t ≡ false → (N : Chan) → only (is_of t) (waiting s N) ≡ []
  unfolding pieces held_in
  nothing_yet n N =
      o.stands N ∙ ap (λ (h : Stage). held_in N (standing s.table t (course c.target c.write h))) (not_begun c.stage (sym o.number ∙ n))
