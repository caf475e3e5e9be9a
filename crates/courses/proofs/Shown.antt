-- An entry of a transaction that is found in a state is one of its pieces, and each of its pieces is found.
-- What is found by kind and name among all that waits is found among the transaction's own.
use Prim.Native.Nat.{ℕ}
use mathlib.Core.Path.{◌≡◌, sym, ap, ◌∙◌}
use mathlib.Core.Bool.{true, false}
use mathlib.Core.List.{List}
use borrow.Author.Tests.{not-false}
use Rattle.base.specs.Lists.{find, is_some, or_else}
use Rattle.base.proofs.Lists.{found_passes, is_there}
use Rattle.base.proofs.Cells.{In}
use Rattle.base.proofs.Sifted.{find_only}
use Rattle.chassis.specs.declared.Chan.{Chan}
use Rattle.queue.specs.declared.Transaction.{Transaction}
use Rattle.queue.specs.declared.Entry.{Entry}
use Rattle.queue.specs.Entries.{is_of, is_named, zero_entry}
use Rattle.queue.specs.Queues.{stands, oldest}
use Rattle.queue.proofs.Plainly.{named_is_its_own}
use Rattle.queue.proofs.Names.{named_of}
use Rattle.network.specs.Nets.{Net, waiting}
use Rattle.events.specs.Tests.{entry_at, no_such_entry}
use Rattle.courses.specs.Pieces.{Piece, held_in}
use Rattle.courses.proofs.Held.{found_piece, piece_found}
use Rattle.courses.proofs.Edited.{Shows}

-- t's entry of kind k in N is one of these
pub record Here (s : Net) (t : Transaction) (L : List Piece) (k : ℕ) (N : Chan) : Type 0 where
  pub piece : Piece
  pub among : In piece L
  pub here : piece.place ≡ N
  pub is : entry_at s k N t ≡ piece.entry
  pub kind : piece.entry.kind ≡ k

module _ (s : Net) (t : Transaction) (L : List Piece) (w : Shows s t L) where
  find_shown : (k : ℕ) (N : Chan) → find (is_named k t) (held_in N L) ≡ oldest k t (waiting s N)
  find_shown k N = ap (find (is_named k t)) (sym (w N)) ∙ find_only (is_of t) (is_named k t) (λ x. named_of t x k) (waiting s N)

  pub here_is : (k : ℕ) (N : Chan) → no_such_entry s k N t ≡ false → Here s t L k N
  here_is k N h =
      let o = is_there (oldest k t (waiting s N)) (not-false (stands k t (waiting s N)) h) in
      let r = found_piece N (is_named k t) L (find_shown k N ∙ o.1) in
      record {
        piece = r.piece;
        among = r.among;
        here = r.here;
        is = ap (or_else zero_entry) o.1 ∙ sym r.is;
        kind = ap (λ (x : Entry). x.kind) r.is ∙ (named_is_its_own k t o.0 (found_passes (is_named k t) (waiting s N) o.1)).0;
      }

  pub shown : (k : ℕ) (q : Piece) → In q L → is_named k t q.entry ≡ true → stands k t (waiting s q.place) ≡ true
  shown k q i h = ap is_some (sym (find_shown k q.place)) ∙ piece_found (is_named k t) L q i h
