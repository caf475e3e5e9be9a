-- Every state reached, said plainly: the stage of each transaction, what stands of it, and which events it can meet.
-- Each transaction is on its course; the rest is read off the stage it is at.
use Prim.Native.Nat.{◌<◌, ◌≤◌}
use mathlib.Core.Path.{◌≡◌, refl, sym, ap, ◌∙◌}
use mathlib.Core.Bool.{true, false, ◌&&◌, and-false}
use mathlib.Core.List.{[]}
use borrow.Author.Tests.{lt-leb}
use lib.Dec.{leb}
use Rattle.base.specs.Lists.{only, count}
use Rattle.base.proofs.Cells.{In}
use Rattle.chassis.specs.declared.Chan.{Chan}
use Rattle.chassis.specs.declared.NextPlace.TheVariants.{Through}
use Rattle.chassis.specs.Channels.{is_master, opposite}
use Rattle.queue.specs.declared.Transaction.{Transaction}
use Rattle.queue.specs.declared.Entry.{Entry}
use Rattle.queue.specs.Entries.{P, R, C, is_of}
use Rattle.queue.specs.Queues.{stands}
use Rattle.queue.proofs.Names.{one_is_same}
use Rattle.network.specs.Nets.{Net, waiting, begun}
use Rattle.network.proofs.Good.{Good}
use Rattle.events.specs.declared.Event.{Event}
use Rattle.events.specs.declared.Event.TheVariants.{Latch}
use Rattle.events.specs.Tests.{entry_at, ahead}
use Rattle.events.specs.Grounds.{Accepted}
use Rattle.events.specs.Effects.{after}
use Rattle.events.specs.Reached.{Reached}
use Rattle.events.proofs.SoundStays.{reached_is_good}
use Rattle.courses.specs.Courses.{Course, OnCourse, NamesR, Follows}
use Rattle.courses.proofs.Reaching as reaching
use Rattle.courses.proofs.Consequences as on
use Rattle.courses.proofs.Once as once
use Rattle.courses.proofs.OneStage as one

module _ (s : Net) (r : Reached s) where
  abbrev g : Good s
  g = reached_is_good s r

  -- ---- the stage, and its step

  pub every_transaction_is_on_course : (t : Transaction) → (c : Course) × OnCourse s t c
  every_transaction_is_on_course = reaching.every_transaction_is_on_course s r

  -- whatever the course, the stage is one
  pub one_stage : (t : Transaction) (c d : Course) → OnCourse s t c → OnCourse s t d → c.stage ≡ d.stage
  one_stage = one.one_stage s g

  -- an accepted event moves its own transaction by one line of the table, and no other
  pub each_event_follows : (t : Transaction) (c : Course) → OnCourse s t c → (e : Event) → Accepted s e → (d : Course) × OnCourse (after s e) t d × Follows s t c e d
  each_event_follows = reaching.each_follows s g

  -- ---- a name

  -- is never twice in a channel, whatever the kinds
  pub a_name_stands_once : (t : Transaction) (N : Chan) → count (is_of t) (waiting s N) ≤ 1
  a_name_stands_once t = let c = every_transaction_is_on_course t in once.a_name_stands_once s g t c.0 c.1

  -- has one target, and is a read everywhere or a write
  pub a_name_has_one_target : (x y : Entry) (N M : Chan) → In x (waiting s N) → In y (waiting s M) → x.transaction ≡ y.transaction → (x.target ≡ y.target) × (x.write ≡ y.write)
  a_name_has_one_target x y N M i j e =
      let t = y.transaction in
      let c = every_transaction_is_on_course t in
      let p = once.its_target s g t c.0 c.1 N x i (one_is_same e) in
      let q = once.its_target s g t c.0 c.1 M y j (one_is_same {t = t} refl) in
      (p.0 ∙ sym q.0, p.1 ∙ sym q.1)

  module _ (t : Transaction) where
    abbrev c : Course
    c = (every_transaction_is_on_course t).0

    abbrev o : OnCourse s t c
    o = (every_transaction_is_on_course t).1

    -- stands nowhere above its master's count
    pub nothing_above_the_count : begun s t.master < t.number → (N : Chan) → only (is_of t) (waiting s N) ≡ []
    nothing_above_the_count h =
        once.nothing_yet s g t c o
        (ap (leb 1 t.number &&◌) (lt-leb t.number (begun s t.master) h) ∙ and-false (leb 1 t.number))

    -- ---- its entries by kind

    pub no_P_beside_an_R : (N M : Chan) → stands P t (waiting s N) ≡ true → stands R t (waiting s M) ≡ true → ⊥
    no_P_beside_an_R = on.no_P_beside_an_R s g t c o

    pub no_P_beside_a_C : (N M : Chan) → stands P t (waiting s N) ≡ true → stands C t (waiting s M) ≡ true → ⊥
    no_P_beside_a_C = on.no_P_beside_a_C s g t c o

    pub one_P : (N M : Chan) → stands P t (waiting s N) ≡ true → stands P t (waiting s M) ≡ true → N ≡ M
    one_P = on.one_P s g t c o

    pub one_C : (N M : Chan) → stands C t (waiting s N) ≡ true → stands C t (waiting s M) ≡ true → N ≡ M
    one_C = on.one_C s g t c o

    -- while its C stands, every R of it is marked
    pub answered_is_marked : (N M : Chan) → stands C t (waiting s N) ≡ true → stands R t (waiting s M) ≡ true → (entry_at s R M t).committed ≡ true
    answered_is_marked = on.answered_is_marked s g t c o

    -- and at no bridge do both stand, one each way
    pub no_R_opposite_its_C : (N : Chan) → is_master s.table N ≡ false → stands R t (waiting s N) ≡ true → stands C t (waiting s (opposite s.table N)) ≡ true → ⊥
    no_R_opposite_its_C = on.no_R_opposite_its_C s g t c o

    -- ---- its events

    -- while its C stands, no latch of it is accepted in any channel
    pub no_latch_while_answered : (N M : Chan) → stands C t (waiting s N) ≡ true → Accepted s (Latch M t) → ⊥
    no_latch_while_answered = on.no_latch_while_answered s g t c o

    -- only the last R can move: where commit, latch, complete or drop request is accepted, no R of it stands in the channel ahead
    pub only_the_last_R_moves : (N X : Chan) (e : Event) → NamesR N t e → Accepted s e → ahead s R N t ≡ Through X → stands R t (waiting s X) ≡ false
    only_the_last_R_moves = on.only_the_last_R_moves s g t c o
