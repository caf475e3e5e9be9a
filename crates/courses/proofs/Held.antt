-- The entries that pieces put in a channel: what appending, finding, counting and altering make of them.
-- Each by going down the pieces; whether a piece stands in the channel says which case it is.
use Prim.Native.Nat.{◌+◌, ◌≤◌}
use native.Mathlib.Omega.{arith}
use native.Mathlib.Nat.{le_refl}
use mathlib.Core.Path.{◌≡◌, refl, sym, ap, ◌∙◌}
use mathlib.Core.Bool.{Bool, true, false, ◌&&◌}
use mathlib.Core.Logic.{⊎_elim}
use Rattle.std.specs.Prelude.{Some}
use mathlib.Core.List.{List, [], ◌∷◌, ◌++◌, map}
use borrow.Author.Tests.{eqb-true, eq-eqb, ne_eqb}
use Rattle.base.specs.Lists.{find, alter, count, is_some}
use Rattle.base.proofs.Logic.{split, none_some, equal?}
use Rattle.base.proofs.Cells.{In, first, later, in_none, in_cons}
use Rattle.base.proofs.Queues.{count_add}
use Rattle.chassis.specs.declared.Chan.{Chan}
use Rattle.chassis.specs.Numbers.{same_chan}
use Rattle.chassis.proofs.Hops.{chan_path}
use Rattle.queue.specs.declared.Entry.{Entry}
use Rattle.courses.specs.Pieces.{Piece, piece, held_in}

pub held_append : (N : Chan) (L M : List Piece) → held_in N (L ++ M) ≡ held_in N L ++ held_in N M
unfolding held_in
held_append N [] M = refl
held_append N (q ∷ L) M =
    split (same_chan N q.place) (λ t. rw t (ap (q.entry ∷◌) (held_append N L M))) (λ f. rw f (held_append N L M))

pub held_one : (N : Chan) (x : Entry) → held_in N (piece N x ∷ []) ≡ x ∷ []
unfolding held_in
held_one N x = rw (eq-eqb N.0 N.0 refl)

pub held_no : (N M : Chan) (x : Entry) → (N.0 ≡ M.0 → ⊥) → held_in N (piece M x ∷ []) ≡ []
unfolding held_in
held_no N M x h = rw (ne_eqb N.0 M.0 h)

-- what is found in N is a piece's
pub record Found (N : Chan) (L : List Piece) (x : Entry) : Type 0 where
  pub piece : Piece
  pub among : In piece L
  pub here : piece.place ≡ N
  pub is : piece.entry ≡ x

pub found_piece : (N : Chan) (p : Entry → Bool) (L : List Piece) {x : Entry} → find p (held_in N L) ≡ Some x → Found N L x
unfolding held_in find
found_piece N p [] {x} h = absurd (none_some {a = x} refl h)
found_piece N p (q ∷ L) {x} h =
    let on : find p (held_in N L) ≡ Some x → Found N (q ∷ L) x = λ k. let r = found_piece N p L k in record { piece = r.piece; among = later r.among; here = r.here; is = r.is } in
    split (same_chan N q.place)
    (λ t. split (p q.entry)
    (λ y. let e : q.entry ≡ x = cc (rw (t, y) at h) in record { piece = q; among = first; here = chan_path (sym (eqb-true N.0 q.place.0 t)); is = e })
    (λ n. on (rw (t, n) at h)))
    (λ f. on (rw f at h))

-- and a piece's entry is found where it stands
pub piece_found : (p : Entry → Bool) (L : List Piece) (q : Piece) → In q L → p q.entry ≡ true → is_some (find p (held_in q.place L)) ≡ true
unfolding held_in find
piece_found p [] q i h = in_none i
piece_found p (q ∷ L) _ first h = rw (eq-eqb q.place.0 q.place.0 refl, h)
piece_found p (r ∷ L) q (later i) h =
    split (same_chan q.place r.place)
    (λ t. split (p r.entry) (λ y. rw (t, y)) (λ n. rw (t, n) (piece_found p L q i h)))
    (λ f. rw f (piece_found p L q i h))

-- ---- pieces that do not stand there, do not pass, or count once

module _ (N : Chan) where
  pub in_held : (L : List Piece) {x : Entry} → In x (held_in N L) → (q : Piece) × In q L × (q.entry ≡ x)
  unfolding held_in
  in_held [] i = in_none i
  in_held (q ∷ L) {x} i =
      let on : In x (held_in N L) → (r : Piece) × In r (q ∷ L) × (r.entry ≡ x) = λ k. let r = in_held L k in (r.0, later r.1, r.2) in
      split (same_chan N q.place)
      (λ t. ⊎_elim (λ e. (q, first, sym e)) on (in_cons (rw t at i)))
      (λ f. on (rw f at i))

  -- none of them stands in N
  none_held : (L : List Piece) → ((q : Piece) → In q L → N.0 ≡ q.place.0 → ⊥) → held_in N L ≡ []
  unfolding held_in
  none_held [] h = refl
  none_held (q ∷ L) h = rw (ne_eqb N.0 q.place.0 (h q first)) (none_held L (λ r i. h r (later i)))

  pub none_counted : (p : Entry → Bool) (L : List Piece) → ((q : Piece) → In q L → p q.entry ≡ false) → count p (held_in N L) ≡ 0
  unfolding held_in count
  none_counted p [] h = refl
  none_counted p (q ∷ L) h =
      split (same_chan N q.place)
      (λ t. simp (t, h q first) (none_counted p L (λ r i. h r (later i))))
      (λ f. simp f (none_counted p L (λ r i. h r (later i))))

  pub one_counted : (p : Entry → Bool) (q : Piece) → count p (held_in N (q ∷ [])) ≤ 1
  unfolding held_in count
  one_counted p q =
      split (same_chan N q.place)
      (λ t. split (p q.entry) (λ y. simp (t, y) (le_refl 1)) (λ n. simp (t, n) (omega arith)))
      (λ f. simp f (omega arith))

  both_counted : (p : Entry → Bool) (L M : List Piece) → count p (held_in N (L ++ M)) ≡ count p (held_in N L) + count p (held_in N M)
  both_counted p L M = ap (count p) (held_append N L M) ∙ count_add p (held_in N L) (held_in N M)

  -- where at most one counts, and none stands in M, at most one counts with one more in M
  pub once_more : (p : Entry → Bool) (L : List Piece) (M : Chan) (y : Entry) → ((q : Piece) → In q L → q.place ≡ M → ⊥) → count p (held_in N L) ≤ 1
      → count p (held_in N (L ++ (piece M y ∷ []))) ≤ 1
  unfolding count
  once_more p L M y apart l =
      let v = both_counted p L (piece M y ∷ []) in
      ⊎_elim
      (λ e. let z = ap (count p) (none_held L (λ q i d. apart q i (chan_path (sym d ∙ e)))) in omega (arith, one_counted p (piece M y)))
      (λ n. let z = ap (count p) (held_no N M y n) in omega arith)
      (equal? N.0 M.0)

-- ---- pieces changed

-- in N, and passes
abbrev pub meets : Chan → (Entry → Bool) → Piece → Bool
meets N p q = same_chan N q.place && p q.entry

abbrev pub in_its_place : Chan → (Entry → List Entry) → Piece → List Piece
in_its_place N f q = map (piece N) (f q.entry)

-- the first in N that passes gives way there
abbrev pub changed : Chan → (Entry → Bool) → (Entry → List Entry) → List Piece → List Piece
changed N p f L = alter (meets N p) (in_its_place N f) L

held_map : (N : Chan) (l : List Entry) → held_in N (map (piece N) l) ≡ l
unfolding held_in
held_map N [] = refl
held_map N (x ∷ l) = rw (eq-eqb N.0 N.0 refl) (ap (x ∷◌) (held_map N l))

held_map_no : (N M : Chan) → (N.0 ≡ M.0 → ⊥) → (l : List Entry) → held_in N (map (piece M) l) ≡ []
unfolding held_in
held_map_no N M h [] = refl
held_map_no N M h (x ∷ l) = rw (ne_eqb N.0 M.0 h) (held_map_no N M h l)

module _ (N : Chan) (p : Entry → Bool) (f : Entry → List Entry) where
  pub held_changed : (L : List Piece) → held_in N (changed N p f L) ≡ alter p f (held_in N L)
  unfolding held_in alter
  held_changed [] = refl
  held_changed (q ∷ L) =
      split (same_chan N q.place)
      (λ t. split (p q.entry)
      (λ y. rw (t, y) (held_append N (in_its_place N f q) L ∙ ap (◌++ held_in N L) (held_map N (f q.entry))))
      (λ n. simp (t, n) (ap (q.entry ∷◌) (held_changed L))))
      (λ m. simp m (held_changed L))

  pub held_unchanged : (M : Chan) → (M.0 ≡ N.0 → ⊥) → (L : List Piece) → held_in M (changed N p f L) ≡ held_in M L
  unfolding held_in alter
  held_unchanged M h [] = refl
  held_unchanged M h (q ∷ L) =
      split (same_chan N q.place)
      (λ t.
      let e = eqb-true N.0 q.place.0 t in
      let o = ne_eqb M.0 q.place.0 (λ (d : M.0 ≡ q.place.0). h (d ∙ sym e)) in
      split (p q.entry)
      (λ y. simp (t, y, o) (held_append M (in_its_place N f q) L ∙ ap (◌++ held_in M L) (held_map_no M N h (f q.entry))))
      (λ n. simp (t, n, o) (held_unchanged M h L)))
      (λ m. split (same_chan M q.place) (λ y. simp (m, y) (ap (q.entry ∷◌) (held_unchanged M h L))) (λ n. simp (m, n) (held_unchanged M h L)))
