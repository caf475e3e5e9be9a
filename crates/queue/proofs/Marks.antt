-- Tests that do not look at the mark: those of kinds, names and matches; and what taking out or marking an entry leaves to be counted.
-- Marking changes the mark alone, so what passed such a test passes it still.
use Prim.Native.Nat.{ℕ, ◌≤◌}
use native.Mathlib.Omega.{arith}
use mathlib.Core.Path.{◌≡◌, refl}
use mathlib.Core.Bool.{Bool}
use mathlib.Core.List.{[], ◌∷◌}
use Rattle.base.specs.Lists.{count}
use Rattle.queue.specs.declared.Transaction.{Transaction}
use Rattle.queue.specs.declared.Entry.{Entry}
use Rattle.queue.specs.Entries.{is_kind, is_named, matches, marked, gone, marking}
use Rattle.queue.specs.Queues.{filling}

-- it does not look at the mark
abbrev pub Blind : (Entry → Bool) → Type 0
Blind p = (x : Entry) → p (marked x) ≡ p x

pub kind_blind : (k : ℕ) → Blind (is_kind k)
unfolding marked
kind_blind k x = refl

pub named_blind : (k : ℕ) (t : Transaction) → Blind (is_named k t)
unfolding marked is_named
named_blind k t x = refl

pub matches_blind : (k : ℕ) (r : Entry) → Blind (matches k r)
unfolding marked matches
matches_blind k r x = refl

-- nothing is left of an entry that is taken out, and a marked one counts as it did
module _ (p : Entry → Bool) (x : Entry) where
  pub gone_counts_less : filling p (gone x) ≤ filling p (x ∷ [])
  unfolding count
  gone_counts_less = omega arith

  pub marked_counts_alike : Blind p → filling p (marking x) ≤ filling p (x ∷ [])
  unfolding count
  marked_counts_alike b = rw (b x) (omega arith)
