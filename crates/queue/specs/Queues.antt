-- The entries of a channel, oldest first.
use Rattle.std.specs.Prelude.{ℕ, Bool, not, ◌&&◌, ◌||◌, List, Option}
use Rattle.base.specs.Lists.{find, count, is_some, passes, or_else}
use Rattle.queue.specs.declared.Transaction.{Transaction}
use Rattle.queue.specs.declared.Entry.{Entry}
use Rattle.queue.specs.Entries.{P, C, is_kind, is_named, matches, zero_entry}

-- an event that names an entry means the oldest one in that channel of that kind and transaction
abbrev pub oldest : ℕ → Transaction → List Entry → Option Entry
oldest k t l = find (is_named k t) l

abbrev pub stands : ℕ → Transaction → List Entry → Bool
stands k t l = is_some (oldest k t l)

-- that entry; a zero entry where there is none
abbrev pub the : ℕ → Transaction → List Entry → Entry
the k t l = or_else zero_entry (oldest k t l)

-- the oldest one of kind k that matches the request r
abbrev pub matching : ℕ → Entry → List Entry → Option Entry
matching k r l = find (matches k r) l

abbrev pub has_matching : ℕ → Entry → List Entry → Bool
has_matching k r l = is_some (matching k r l)

-- that one; a zero entry where there is none
abbrev pub the_matching : ℕ → Entry → List Entry → Entry
the_matching k r l = or_else zero_entry (matching k r l)

-- an older P stands before the oldest that passes: one passes and, going from the oldest, a P that does not comes first
unfoldable pub behind_P : (Entry → Bool) → List Entry → Bool
behind_P p l = is_some (find p l) && not (passes p (find (λ x. is_kind P x || p x) l))

-- it is the oldest C of all
unfoldable pub first_C : Transaction → List Entry → Bool
first_C t l = passes (is_named C t) (find (is_kind C) l)

-- how many pass a test; each kind, by its test, is counted by itself
abbrev pub filling : (Entry → Bool) → List Entry → ℕ
filling p l = count p l
