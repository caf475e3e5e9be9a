-- The pieces of a stage: where each of them stands, and what a change of one of them makes of all.
-- Marked R's stand in the first channels of the way; the first piece that is in the channel and has the name is the one that gives way.
use Prim.Native.Nat.{ℕ, suc, ◌<◌}
use mathlib.Core.Path.{◌≡◌, refl, ap, ◌∙◌}
use mathlib.Core.Bool.{Bool, true, false, and-false}
use mathlib.Core.List.{List, [], ◌∷◌, ◌++◌, map}
use borrow.Author.Tests.{eq-eqb, ne_eqb}
use lib.ListN.{length, take}
use lib.Seq.{take-suc}
use Rattle.base.specs.Lists.{alter}
use Rattle.base.proofs.Cells.{In, none_found, cell_in_take, in_take_cell, in_map, of_map, map_append}
use Rattle.base.proofs.Queues.{alter_skip}
use Rattle.chassis.specs.declared.Agent.{Agent}
use Rattle.chassis.specs.declared.Chan.{Chan}
use Rattle.chassis.specs.Numbers.{chan, same_chan}
use Rattle.chassis.specs.Routes.{nth}
use Rattle.queue.specs.declared.Transaction.{Transaction}
use Rattle.queue.specs.declared.Entry.{Entry}
use Rattle.queue.specs.Entries.{R, is_named}
use Rattle.queue.proofs.Names.{is_named_so}
use Rattle.courses.specs.Pieces.{Piece, piece}
use Rattle.courses.specs.Courses.{requests, entry_of}
use Rattle.courses.proofs.Held.{meets, in_its_place, changed}

-- the first that meets it gives way
pub changed_there : (N : Chan) (p : Entry → Bool) (f : Entry → List Entry) (us : List Piece) (q : Piece) (vs : List Piece)
    → ((r : Piece) → In r us → meets N p r ≡ false) → meets N p q ≡ true → changed N p f (us ++ (q ∷ vs)) ≡ us ++ (in_its_place N f q ++ vs)
unfolding alter
changed_there N p f us q vs h y = alter_skip (meets N p) (in_its_place N f) us (q ∷ vs) (none_found (meets N p) us h) ∙ rw y

-- ---- names

module _ (t : Transaction) (a : Agent) (write : Bool) where
  pub own_name : (k : ℕ) (mark : Bool) → is_named k t (entry_of t a write k mark) ≡ true
  own_name k mark = is_named_so t (entry_of t a write k mark) k refl refl

  pub meets_own : (N : Chan) (k : ℕ) (mark : Bool) → meets N (is_named k t) (piece N (entry_of t a write k mark)) ≡ true
  meets_own N k mark = rw (eq-eqb N.0 N.0 refl, own_name k mark)

  pub meets_no_kind : (N M : Chan) (j k : ℕ) (mark : Bool) → (j ≡ k → ⊥) → meets N (is_named k t) (piece M (entry_of t a write j mark)) ≡ false
  unfolding is_named
  meets_no_kind N M j k mark h = rw (ne_eqb j k h) (and-false (same_chan N M))

pub meets_no_place : (N M : Chan) (p : Entry → Bool) (x : Entry) → (N.0 ≡ M.0 → ⊥) → meets N p (piece M x) ≡ false
meets_no_place N M p x h = rw (ne_eqb N.0 M.0 h)

-- ---- requests

module _ (w : List Chan) (x : ℕ → Bool → Entry) where
  abbrev request : Chan → Piece
  request N = piece N (x R true)

  pub in_requests : (n : ℕ) {q : Piece} → In q (requests w x n) → (i : ℕ) × (i < n) × (q ≡ request (nth w i))
  in_requests n i =
      let r = of_map request (take n w) i in
      let k = in_take_cell w (chan 0) n r.1 in
      (k.0, k.1, r.2 ∙ ap request k.2)

  pub requests_in : (n i : ℕ) → i < n → i < length w → In (request (nth w i)) (requests w x n)
  requests_in n i h l = in_map request (cell_in_take w (chan 0) n i h l)

  -- one more
  pub requests_suc : (n : ℕ) → n < length w → requests w x (suc n) ≡ requests w x n ++ (request (nth w n) ∷ [])
  requests_suc n h = ap (map request) (take-suc w n (chan 0) h) ∙ map_append request (take n w) (nth w n ∷ [])
