-- Errors close at hand, shut out: what an accepted latch and an accepted complete have found.
use Prim.Native.Nat.{ℕ}
use mathlib.Core.Path.{◌≡◌, subst}
use mathlib.Core.Bool.{Bool, false, not, ◌&&◌}
use Rattle.std.specs.Prelude.{Some}
use borrow.Author.Tests.{not-false}
use Rattle.base.specs.Lists.{find, is_some, or_else}
use Rattle.base.proofs.Logic.{or_false}
use Rattle.base.proofs.Grounds.{clear}
use Rattle.base.proofs.Lists.{found_passes, is_there}
use Rattle.chassis.specs.declared.Chan.{Chan}
use Rattle.chassis.specs.declared.NextPlace.TheVariants.{Through}
use Rattle.chassis.specs.Channels.{opposite}
use Rattle.queue.specs.declared.Transaction.{Transaction}
use Rattle.queue.specs.declared.Entry.{Entry}
use Rattle.queue.specs.Entries.{R, C, is_named, matches, zero_entry}
use Rattle.queue.specs.Queues.{stands, oldest, matching, has_matching, behind_P}
use Rattle.queue.proofs.Plainly.{named_is_its_own}
use Rattle.queue.proofs.Matching.{matching_is_naming}
use Rattle.network.specs.Nets.{Net, waiting}
use Rattle.events.specs.declared.Event.TheVariants.{Latch, Complete}
use Rattle.events.specs.Tests.{ahead, entry_at, no_such_entry, behind_a_P, answered}
use Rattle.events.specs.Grounds.{named_grounds, grounds, Accepted}

module _ (s : Net) (N : Chan) (t : Transaction) (X : Chan) (next : ahead s R N t ≡ Through X) where
  abbrev back : Chan
  back = opposite s.table X

  -- the request that is moved: to match it is to name t
  abbrev request : Entry
  request = entry_at s R N t

  by_name : (k : ℕ) → no_such_entry s R N t ≡ false → matches k request ≡ is_named k t
  by_name k h = matching_is_naming k t (waiting s N) (not-false (stands R t (waiting s N)) h)

  -- a read's completion does not pass a posted write
  pub read's_completion_waits : Accepted s (Complete N t) → (entry_at s C back t).write ≡ false → behind_a_P s C back t ≡ false
  unfolding grounds named_grounds
  read's_completion_waits ok read =
      let r = clear (grounds s (Complete N t)) ok in
      let h = subst (λ (p : Entry → Bool). (not (or_else zero_entry (find p (waiting s back))).write && behind_P p (waiting s back)) ≡ false)
      (by_name C r.1.0) (rw next at r.1.1.1.1.0) in
      rw read at h

  -- a completion is taken by its originating master alone: the one that is taken is the oldest of this transaction, master and number
  pub no_completion_is_stolen : Accepted s (Complete N t)
      → (c : Entry) × (matching C request (waiting s back) ≡ Some c) × (oldest C t (waiting s back) ≡ Some c) × (c.transaction ≡ t)
  unfolding grounds named_grounds
  no_completion_is_stolen ok =
      let r = clear (grounds s (Complete N t)) ok in
      let h = not-false (answered s request X) (rw next at r.1.1.1.0) in
      let c = is_there (matching C request (waiting s back)) h in
      let o = subst (λ (p : Entry → Bool). find p (waiting s back) ≡ Some c.0) (by_name C r.1.0) c.1 in
      (c.0, c.1, o, (named_is_its_own C t c.0 (found_passes (is_named C t) (waiting s back) o)).1)

  -- nothing is latched again while its C waits on the opposite side, nor while it stands ahead
  pub no_second_latch : Accepted s (Latch N t) → (stands R t (waiting s X) ≡ false) × (stands C t (waiting s back) ≡ false)
  unfolding grounds named_grounds
  no_second_latch ok =
      let r = clear (grounds s (Latch N t)) ok in
      let q = or_false (has_matching R request (waiting s X)) (answered s request X) (rw next at r.1.1.1.1.0) in
      (none_named R X (by_name R r.1.0) q.0, none_named C back (by_name C r.1.0) q.1)
    where
      none_named : (k : ℕ) (Y : Chan) → matches k request ≡ is_named k t → has_matching k request (waiting s Y) ≡ false → stands k t (waiting s Y) ≡ false
      none_named k Y e h = subst (λ (p : Entry → Bool). is_some (find p (waiting s Y)) ≡ false) e h
