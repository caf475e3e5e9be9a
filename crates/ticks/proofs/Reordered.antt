-- A list of events in another order: every event stands in it as often as before. It is the same as to turn neighbours about.
-- Two events are the same if their kinds and their numbers are, so an event's places can be counted.
use Prim.Native.Nat.{ℕ}
use mathlib.Core.Path.{◌≡◌, refl, sym, ◌∙◌}
use mathlib.Core.Logic.{◌↔◌}
use mathlib.Core.Bool.{Bool, true, cond, ◌&&◌}
use mathlib.Core.List.{List}
use lib.Dec.{eqb}
use borrow.Author.Tests.{eqb-true, eq-eqb}
use Rattle.base.specs.Lists.{count}
use Rattle.base.proofs.Logic.{and_true}
use Rattle.base.proofs.Orders.{Order, count_order, counted_is_order}
use Rattle.chassis.specs.Numbers.{agent, chan}
use Rattle.queue.specs.declared.Transaction.{Transaction}
use Rattle.events.specs.declared.Event.{Event}
use Rattle.events.specs.declared.Event.TheVariants.{BeginPosted, BeginRead, BeginWrite, Commit, Post, Latch, Complete, DropRequest, DropCompletion}
use Rattle.events.specs.Records.{kind_number}

-- ---- the same event

-- what an event names: begins their two agents, others channel, master and number
pub record Numbers : Type 0 where
  pub first : ℕ
  pub second : ℕ
  pub third : ℕ

unfoldable pub numbers : Event → Numbers
numbers (BeginPosted m a) = record { first = m.0; second = a.0; third = 0 }
numbers (BeginRead m a) = record { first = m.0; second = a.0; third = 0 }
numbers (BeginWrite m a) = record { first = m.0; second = a.0; third = 0 }
numbers (Commit N t) = record { first = N.0; second = t.master.0; third = t.number }
numbers (Post N t) = record { first = N.0; second = t.master.0; third = t.number }
numbers (Latch N t) = record { first = N.0; second = t.master.0; third = t.number }
numbers (Complete N t) = record { first = N.0; second = t.master.0; third = t.number }
numbers (DropRequest N t) = record { first = N.0; second = t.master.0; third = t.number }
numbers (DropCompletion N t) = record { first = N.0; second = t.master.0; third = t.number }

-- the kind, and each number
unfoldable pub same_event : Event → Event → Bool
same_event e f =
    eqb (kind_number e) (kind_number f)
    && eqb (numbers e).first (numbers f).first
    && eqb (numbers e).second (numbers f).second
    && eqb (numbers e).third (numbers f).third

-- the event of a kind with these numbers
event_of : ℕ → ℕ → ℕ → ℕ → Event
event_of k a b c =
    let t : Transaction = record { master = agent b; number = c } in
    cond (eqb k 1) (BeginPosted (agent a) (agent b))
    (cond (eqb k 2) (BeginRead (agent a) (agent b))
    (cond (eqb k 3) (BeginWrite (agent a) (agent b))
    (cond (eqb k 4) (Commit (chan a) t)
    (cond (eqb k 5) (Post (chan a) t)
    (cond (eqb k 6) (Latch (chan a) t)
    (cond (eqb k 7) (Complete (chan a) t)
    (cond (eqb k 8) (DropRequest (chan a) t)
    (DropCompletion (chan a) t))))))))

its_own : (e : Event) → event_of (kind_number e) (numbers e).first (numbers e).second (numbers e).third ≡ e
unfolding event_of numbers
its_own (BeginPosted m a) = refl
its_own (BeginRead m a) = refl
its_own (BeginWrite m a) = refl
its_own (Commit N t) = refl
its_own (Post N t) = refl
its_own (Latch N t) = refl
its_own (Complete N t) = refl
its_own (DropRequest N t) = refl
its_own (DropCompletion N t) = refl

by_numbers : {k l a b c x y z : ℕ} → k ≡ l → a ≡ x → b ≡ y → c ≡ z → event_of k a b c ≡ event_of l x y z
by_numbers p q r s = λ i. event_of (p i) (q i) (r i) (s i)

pub same_event_is : (e f : Event) → same_event e f ≡ true → e ≡ f
unfolding same_event
same_event_is e f h =
    let k = eqb (kind_number e) (kind_number f) in
    let a = eqb (numbers e).first (numbers f).first in
    let b = eqb (numbers e).second (numbers f).second in
    let r = and_true (k && a && b) (eqb (numbers e).third (numbers f).third) h in
    let q = and_true (k && a) b r.0 in
    let p = and_true k a q.0 in
    sym (its_own e)
    ∙ by_numbers
    (eqb-true (kind_number e) (kind_number f) p.0) (eqb-true (numbers e).first (numbers f).first p.1)
    (eqb-true (numbers e).second (numbers f).second q.1) (eqb-true (numbers e).third (numbers f).third r.1)
    ∙ its_own f

pub same_event_one : (e : Event) → same_event e e ≡ true
unfolding same_event
same_event_one e =
    simp (
      eq-eqb (kind_number e) (kind_number e) refl,
      eq-eqb (numbers e).first (numbers e).first refl,
      eq-eqb (numbers e).second (numbers e).second refl,
      eq-eqb (numbers e).third (numbers e).third refl,
    )

-- ---- another order

-- every event stands in fs as often as in es
abbrev pub Reordered : List Event → List Event → Type 0
Reordered es fs = (e : Event) → count (same_event e) es ≡ count (same_event e) fs

pub reordered_is_order : (es fs : List Event) → Reordered es fs ↔ Order es fs
reordered_is_order es fs = (
  λ h. counted_is_order same_event same_event_is same_event_one es fs h,
  λ o e. count_order (same_event e) o,
)
