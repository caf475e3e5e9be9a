-- Matching, said plainly: what a request is matched by, and that it is its own name.
-- Where the request stands it bears the name that it is found by, so to match it is to name what goes with it.
use Prim.Native.Nat.{ℕ}
use mathlib.Core.Path.{◌≡◌, refl, ap, subst, ◌∙◌}
use mathlib.Core.Bool.{Bool, true}
use mathlib.Core.List.{List}
use borrow.Author.Tests.{eqb-true}
use Rattle.base.proofs.Logic.{and_true}
use Rattle.base.proofs.Lists.{found_passes, is_there}
use Rattle.queue.specs.declared.Transaction.{Transaction}
use Rattle.queue.specs.declared.Entry.{Entry}
use Rattle.queue.specs.Entries.{R, is_kind, is_named, matches}
use Rattle.queue.specs.Queues.{oldest, stands, the}
use Rattle.queue.proofs.Plainly.{named_is_its_own}

-- an entry that is found by a name bears it
pub found_by_its_name : (k : ℕ) (t : Transaction) (l : List Entry) → stands k t l ≡ true → ((the k t l).kind ≡ k) × ((the k t l).transaction ≡ t)
found_by_its_name k t l h =
    let r = is_there (oldest k t l) h in
    let n = named_is_its_own k t r.0 (found_passes (is_named k t) l r.1) in
    rw r.1 n

module _ (k : ℕ) (r : Entry) where
  -- what matches is of the kind that is asked for
  pub matching_kind : (x : Entry) → matches k r x ≡ true → x.kind ≡ k
  unfolding matches
  matching_kind x h = eqb-true x.kind k (and_true (is_kind k x) _ h).0

  -- to match a request is to name its transaction: no other master's, whatever the target
  pub matches_its_name : matches k r ≡ is_named k r.transaction
  unfolding matches is_named
  matches_its_name = refl

  pub matching_is_its_own : (x : Entry) → matches k r x ≡ true → (x.kind ≡ k) × (x.transaction ≡ r.transaction)
  matching_is_its_own x h = named_is_its_own k r.transaction x (subst (λ (p : Entry → Bool). p x ≡ true) matches_its_name h)

-- where the request named t stands, to match it is to name t
pub matching_is_naming : (k : ℕ) (t : Transaction) (l : List Entry) → stands R t l ≡ true → matches k (the R t l) ≡ is_named k t
matching_is_naming k t l h = matches_its_name k (the R t l) ∙ ap (is_named k) (found_by_its_name R t l h).1
