-- Where the entries of a transaction stand at each of its stages, by kind.
-- An entry found is one of the stage's pieces, and its kind says which.
use Prim.Native.Nat.{ℕ, suc, ◌≤◌, ◌<◌}
use native.Mathlib.Omega.{arith}
use mathlib.Core.Path.{◌≡◌, sym, ap, subst⁻¹, ◌∙◌}
use mathlib.Core.Bool.{Bool, true, false}
use mathlib.Core.Logic.{⊎_elim}
use mathlib.Core.List.{List, [], ◌∷◌, ◌++◌}
use Rattle.base.proofs.Logic.{less_or_same}
use Rattle.base.proofs.Cells.{first, in_none, in_one, in_append, in_left, in_right}
use Rattle.chassis.specs.declared.Agent.{Agent}
use Rattle.chassis.specs.declared.Chan.{Chan}
use Rattle.chassis.specs.declared.Table.{Table}
use Rattle.chassis.specs.Channels.{opposite}
use Rattle.chassis.specs.Routes.{bridges_between, way_channels, nth}
use Rattle.queue.specs.declared.Transaction.{Transaction}
use Rattle.queue.specs.declared.Entry.{Entry}
use Rattle.queue.specs.Entries.{P, R, C}
use Rattle.queue.specs.Queues.{stands}
use Rattle.network.specs.Nets.{Net, waiting}
use Rattle.events.specs.Tests.{entry_at, no_such_entry}
use Rattle.courses.specs.Pieces.{Piece, piece}
use Rattle.courses.specs.Stages.{Stage, unbegun, posted, asked, answered, ended}
use Rattle.courses.specs.Courses.{requests, pieces, entry_of}
use Rattle.courses.proofs.Edited.{At}
use Rattle.courses.proofs.Standing.{own_name, in_requests, requests_in}
use Rattle.courses.proofs.Shown.{Here, here_is, shown}

module _ (s : Net) (t : Transaction) (a : Agent) (write : Bool) where
  abbrev T : Table
  T = s.table

  abbrev w : List Chan
  w = way_channels T t.master a

  abbrev k : ℕ
  k = bridges_between T t.master a

  abbrev x : ℕ → Bool → Entry
  x = entry_of t a write

  -- ---- where the named entry stands

  module _ (N : Chan) where
    pub data AtR : Stage → Type 0 where
      last : (j : ℕ) (b : Bool) → N ≡ nth w j → entry_at s R N t ≡ x R b → AtR (asked j b)
      before : (j : ℕ) (b : Bool) (i : ℕ) → i < j → N ≡ nth w i → entry_at s R N t ≡ x R true → AtR (asked j b)
      behind : (j i : ℕ) → i ≤ j → N ≡ nth w i → entry_at s R N t ≡ x R true → AtR (answered j)

    pub data AtC : Stage → Type 0 where
      back : (j : ℕ) → N ≡ opposite T (nth w (suc j)) → AtC (answered j)

    pub data AtP : Stage → Type 0 where
      only : (i : ℕ) → N ≡ nth w i → entry_at s P N t ≡ x P false → AtP (posted i)

    -- an entry of kind c in N is one of these
    data Part (c : ℕ) : Stage → Type 0 where
      a_P : (i : ℕ) → P ≡ c → N ≡ nth w i → entry_at s c N t ≡ x P false → Part c (posted i)
      the_last : (j : ℕ) (b : Bool) → R ≡ c → N ≡ nth w j → entry_at s c N t ≡ x R b → Part c (asked j b)
      one_before : (j : ℕ) (b : Bool) (i : ℕ) → i < j → R ≡ c → N ≡ nth w i → entry_at s c N t ≡ x R true → Part c (asked j b)
      one_behind : (j i : ℕ) → i ≤ j → R ≡ c → N ≡ nth w i → entry_at s c N t ≡ x R true → Part c (answered j)
      a_C : (j : ℕ) → C ≡ c → N ≡ opposite T (nth w (suc j)) → Part c (answered j)

    -- the piece found is that one: its kind, its place, its entry
    kind_is : {c : ℕ} {L : List Piece} {M : Chan} {y : Entry} (r : Here s t L c N) → r.piece ≡ piece M y → y.kind ≡ c
    kind_is r e = sym (ap (λ (q : Piece). q.entry.kind) e) ∙ r.kind

    place_is : {c : ℕ} {L : List Piece} {M : Chan} {y : Entry} (r : Here s t L c N) → r.piece ≡ piece M y → N ≡ M
    place_is r e = sym r.here ∙ ap (λ (q : Piece). q.place) e

    entry_is : {c : ℕ} {L : List Piece} {M : Chan} {y : Entry} (r : Here s t L c N) → r.piece ≡ piece M y → entry_at s c N t ≡ y
    entry_is r e = r.is ∙ ap (λ (q : Piece). q.entry) e

    part : (c : ℕ) (h : Stage) → At T t a write s h → no_such_entry s c N t ≡ false → Part c h
    unfolding pieces
    part c unbegun o n = in_none (here_is s t [] o c N n).among
    part c (posted i) o n =
        let r = here_is s t (piece (nth w i) (x P false) ∷ []) o c N n in
        let e = in_one r.among in
        a_P i (kind_is r e) (place_is r e) (entry_is r e)
    part c (asked j b) o n =
        let r = here_is s t (requests w x j ++ (piece (nth w j) (x R b) ∷ [])) o c N n in
        ⊎_elim
        (λ i. let q = in_requests w x j i in one_before j b q.0 q.1 (kind_is r q.2) (place_is r q.2) (entry_is r q.2))
        (λ i. let e = in_one i in the_last j b (kind_is r e) (place_is r e) (entry_is r e))
        (in_append (requests w x j) (piece (nth w j) (x R b) ∷ []) r.among)
    part c (answered j) o n =
        let r = here_is s t (requests w x (suc j) ++ (piece (opposite T (nth w (suc j))) (x C false) ∷ [])) o c N n in
        ⊎_elim
        (λ i. let q = in_requests w x (suc j) i in one_behind j q.0 (omega (arith, q.1)) (kind_is r q.2) (place_is r q.2) (entry_is r q.2))
        (λ i. let e = in_one i in a_C j (kind_is r e) (place_is r e))
        (in_append (requests w x (suc j)) (piece (opposite T (nth w (suc j))) (x C false) ∷ []) r.among)
    part c ended o n = in_none (here_is s t [] o c N n).among

    as_R : {h : Stage} → Part R h → AtR h
    as_R (a_P i k e y) = absurd (omega arith)
    as_R (the_last j b k e y) = last j b e y
    as_R (one_before j b i l k e y) = before j b i l e y
    as_R (one_behind j i l k e y) = behind j i l e y
    as_R (a_C j k e) = absurd (omega arith)

    as_C : {h : Stage} → Part C h → AtC h
    as_C (a_P i k e y) = absurd (omega arith)
    as_C (the_last j b k e y) = absurd (omega arith)
    as_C (one_before j b i l k e y) = absurd (omega arith)
    as_C (one_behind j i l k e y) = absurd (omega arith)
    as_C (a_C j k e) = back j e

    as_P : {h : Stage} → Part P h → AtP h
    as_P (a_P i k e y) = only i e y
    as_P (the_last j b k e y) = absurd (omega arith)
    as_P (one_before j b i l k e y) = absurd (omega arith)
    as_P (one_behind j i l k e y) = absurd (omega arith)
    as_P (a_C j k e) = absurd (omega arith)

    pub at_R : (h : Stage) → At T t a write s h → no_such_entry s R N t ≡ false → AtR h
    at_R h o n = as_R (part R h o n)

    pub at_C : (h : Stage) → At T t a write s h → no_such_entry s C N t ≡ false → AtC h
    at_C h o n = as_C (part C h o n)

    pub at_P : (h : Stage) → At T t a write s h → no_such_entry s P N t ≡ false → AtP h
    at_P h o n = as_P (part P h o n)

    pub R-is : {h : Stage} → AtR h → (b : Bool) × (entry_at s R N t ≡ x R b)
    R-is (last j b e y) = (b, y)
    R-is (before j b i l e y) = (true, y)
    R-is (behind j i l e y) = (true, y)

    pub P-is : {i : ℕ} → AtP (posted i) → entry_at s P N t ≡ x P false
    P-is (only i e y) = y

  -- ---- what stands where

  pub posted_stands : (i : ℕ) → At T t a write s (posted i) → stands P t (waiting s (nth w i)) ≡ true
  unfolding pieces
  posted_stands i o = let Z = piece (nth w i) (x P false) in shown s t (Z ∷ []) o P Z first (own_name t a write P false)

  pub asked_stands : (j i : ℕ) (b : Bool) → At T t a write s (asked j b) → i ≤ j → j ≤ k → stands R t (waiting s (nth w i)) ≡ true
  unfolding pieces
  asked_stands j i b o l f =
      let L = requests w x j ++ (piece (nth w j) (x R b) ∷ []) in
      ⊎_elim
      (λ h. shown s t L o R (piece (nth w i) (x R true)) (in_left (requests w x j) (piece (nth w j) (x R b) ∷ []) (requests_in w x j i h (omega arith))) (own_name t a write R true))
      (λ e. subst⁻¹ (λ (i : ℕ). stands R t (waiting s (nth w i)) ≡ true) e
      (shown s t L o R (piece (nth w j) (x R b)) (in_right (requests w x j) (piece (nth w j) (x R b) ∷ []) first) (own_name t a write R b)))
      (less_or_same i j l)

  pub answered_stands : (j i : ℕ) → At T t a write s (answered j) → i ≤ j → j < k → stands R t (waiting s (nth w i)) ≡ true
  unfolding pieces
  answered_stands j i o l f =
      let Z = piece (opposite T (nth w (suc j))) (x C false) in
      shown s t (requests w x (suc j) ++ (Z ∷ [])) o R (piece (nth w i) (x R true)) (in_left (requests w x (suc j)) (Z ∷ []) (requests_in w x (suc j) i (omega arith) (omega arith))) (own_name t a write R true)

  pub answer_stands : (j : ℕ) → At T t a write s (answered j) → stands C t (waiting s (opposite T (nth w (suc j)))) ≡ true
  unfolding pieces
  answer_stands j o =
      let Z = piece (opposite T (nth w (suc j))) (x C false) in
      shown s t (requests w x (suc j) ++ (Z ∷ [])) o C Z (in_right (requests w x (suc j)) (Z ∷ []) first) (own_name t a write C false)
