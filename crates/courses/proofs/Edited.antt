-- What an edit of a transaction's own entries does to what stands of it: the same to its pieces.
-- In the edited channel the list of its entries is edited alike; in every other nothing changes.
use Prim.Native.Nat.{ℕ, ◌<◌}
use mathlib.Core.Path.{◌≡◌, sym, ap, subst⁻¹, ◌∙◌}
use mathlib.Core.Bool.{Bool, true}
use mathlib.Core.Logic.{⊎_elim}
use mathlib.Core.List.{List, [], ◌∷◌, ◌++◌, append-nil}
use lib.ListN.{length, get_or}
use Rattle.base.specs.Lists.{alter, only, modify}
use Rattle.base.proofs.Logic.{equal?}
use Rattle.base.proofs.Cells.{modify_here, modify_any, none_altered}
use Rattle.base.proofs.Queues.{getD_modify_other}
use Rattle.base.proofs.Sifted.{only_append, only_one, only_alter}
use Rattle.chassis.specs.declared.Agent.{Agent}
use Rattle.chassis.specs.declared.Chan.{Chan}
use Rattle.chassis.specs.declared.Table.{Table}
use Rattle.chassis.proofs.Hops.{chan_path}
use Rattle.queue.specs.declared.Transaction.{Transaction}
use Rattle.queue.specs.declared.Entry.{Entry}
use Rattle.queue.specs.Entries.{is_of, is_named}
use Rattle.queue.proofs.Names.{named_of}
use Rattle.network.specs.Nets.{Net, waiting}
use Rattle.network.specs.Edits.{add, change, edit}
use Rattle.courses.specs.Pieces.{Piece, piece, held_in}
use Rattle.courses.specs.Stages.{Stage}
use Rattle.courses.specs.Courses.{course, standing}
use Rattle.courses.proofs.Held.{held_append, held_one, held_no, changed, held_changed, held_unchanged}

-- just these pieces stand of t
abbrev pub Shows : Net → Transaction → List Piece → Type 0
Shows s t L = (N : Chan) → only (is_of t) (waiting s N) ≡ held_in N L

-- just those that stage h says, for a target a on the ways of T
abbrev pub At : Table → Transaction → Agent → Bool → Net → Stage → Type 0
At T t a write s h = Shows s t (standing T t (course a write h))

module _ (s : Net) (t : Transaction) (L : List Piece) (w : Shows s t L) (N : Chan) where
  -- what a change of N by f makes of N, and of every other channel
  by_channel : (f : List Entry → List Entry) (K : List Piece) → only (is_of t) (get_or (modify s.chans N.0 f) N.0 []) ≡ held_in N K
      → ((M : Chan) → (M.0 ≡ N.0 → ⊥) → held_in M K ≡ held_in M L)
      → (M : Chan) → only (is_of t) (get_or (modify s.chans N.0 f) M.0 []) ≡ held_in M K
  by_channel f K here elsewhere M =
      ⊎_elim
      (λ e. subst⁻¹ (λ (M : Chan). only (is_of t) (get_or (modify s.chans N.0 f) M.0 []) ≡ held_in M K) (chan_path {M = M} {N = N} e) here)
      (λ n. ap (only (is_of t)) (getD_modify_other s.chans N.0 M.0 f [] (λ e. n (sym e))) ∙ w M ∙ sym (elsewhere M n))
      (equal? M.0 N.0)

  pub shows_add : (x : Entry) → N.0 < length s.chans → is_of t x ≡ true → Shows (edit (add N x) s) t (L ++ (piece N x ∷ []))
  unfolding edit
  shows_add x l h =
      let f : List Entry → List Entry = λ r. r ++ (x ∷ []) in
      by_channel f (L ++ (piece N x ∷ []))
      (ap (only (is_of t)) (modify_here s.chans N.0 f [] l)
      ∙ only_append (is_of t) (waiting s N) (x ∷ [])
      ∙ rw (w N, only_one (is_of t) x h) (sym (held_append N L (piece N x ∷ []) ∙ ap (held_in N L ++◌) (held_one N x))))
      (λ M n. held_append M L (piece N x ∷ []) ∙ ap (held_in M L ++◌) (held_no M N x n) ∙ append-nil (held_in M L))

  -- where its own entries give way to its own
  pub shows_change : (k : ℕ) (f : Entry → List Entry) → ((x : Entry) → is_of t x ≡ true → only (is_of t) (f x) ≡ f x)
      → Shows (edit (change N (is_named k t) f) s) t (changed N (is_named k t) f L)
  unfolding edit
  shows_change k f own =
      let p = is_named k t in
      by_channel (alter p f) (changed N p f L)
      (ap (only (is_of t)) (modify_any s.chans N.0 (alter p f) [] (none_altered p f))
      ∙ only_alter (is_of t) p (λ x. named_of t x k) f (λ x h. own x (named_of t x k h)) (waiting s N)
      ∙ ap (alter p f) (w N)
      ∙ sym (held_changed N p f L))
      (λ M n. held_unchanged N p f M n L)
