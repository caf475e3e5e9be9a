-- How long a change makes a channel's list.
-- What is altered gives way to at most one entry, and one is added at most.
use Prim.Native.Nat.{◌+◌, ◌≤◌}
use native.Mathlib.Omega.{arith}
use mathlib.Core.Path.{◌≡◌}
use mathlib.Core.List.{List}
use lib.ListN.{length, length-append}
use Rattle.base.proofs.Queues.{length_alter}
use Rattle.queue.specs.declared.Entry.{Entry}
use Rattle.queue.specs.declared.Change.{Change}
use Rattle.queue.specs.declared.Change.TheVariants.{Nothing, Add, TakeOut, TakeMatching, Mark}
use Rattle.queue.specs.Entries.{C, is_named, matches, gone, marking}
use Rattle.queue.specs.code.Changes.{changes}

pub nothing_length : (l : List Entry) → length (changes Nothing l) ≤ length l
unfolding changes
nothing_length l = omega arith

pub take_out_length : (x : Entry) (l : List Entry) → length (changes (TakeOut x) l) ≤ length l
unfolding changes
take_out_length x l = length_alter (is_named x.kind x.transaction) gone (λ y. omega arith) l

pub take_matching_length : (r : Entry) (l : List Entry) → length (changes (TakeMatching r) l) ≤ length l
unfolding changes
take_matching_length r l = length_alter (matches C r) gone (λ y. omega arith) l

pub mark_length : (x : Entry) (l : List Entry) → length (changes (Mark x) l) ≤ length l
unfolding changes
mark_length x l = length_alter (is_named x.kind x.transaction) marking (λ y. omega arith) l

pub add_length : (x : Entry) (l : List Entry) → length (changes (Add x) l) ≡ length l + 1
unfolding changes
add_length x l = simp length-append

pub changes_length : (ch : Change) (l : List Entry) → length (changes ch l) ≤ length l + 1
changes_length Nothing l = omega (arith, nothing_length l)
changes_length (Add x) l = omega (arith, add_length x l)
changes_length (TakeOut x) l = omega (arith, take_out_length x l)
changes_length (TakeMatching r) l = omega (arith, take_matching_length r l)
changes_length (Mark x) l = omega (arith, mark_length x l)
