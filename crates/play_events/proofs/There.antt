-- Every channel that a record's plan points to is a channel of the table.
use Rattle.std.specs.Prelude.{None, Result, Ok}
use Prim.Native.Nat.{ℕ}
use mathlib.Core.Path.{◌≡◌, subst}
use mathlib.Core.Bool.{Bool, true, false, ◌&&◌}
use mathlib.Core.List.{List}
use native.Mathlib.Omega.{arith}
use borrow.Author.Tests.{ltb-true, lt-ltb, not-false}
use Rattle.base.specs.Grounds.{Ground, refusal}
use Rattle.base.specs.declared.Refusal.{Refusal}
use Rattle.base.proofs.Logic.{split, and_true}
use Rattle.base.proofs.Grounds.{Clear, clear, answered_ok, ok_same}
use Rattle.chassis.specs.declared.Agent.{Agent}
use Rattle.chassis.specs.declared.Chan.{Chan}
use Rattle.chassis.specs.declared.Table.{Table}
use Rattle.chassis.specs.declared.NextPlace.{NextPlace}
use Rattle.chassis.specs.declared.NextPlace.TheVariants.{Target, Through}
use Rattle.chassis.specs.Channels.{has_agent, has_chan, chan_count, is_master}
use Rattle.chassis.specs.Tables.{table_passes}
use Rattle.chassis.proofs.Counts.{counts}
use Rattle.chassis.proofs.Passing.{passed}
use Rattle.chassis.proofs.Hops.{opposing}
use Rattle.queue.specs.declared.Transaction.{Transaction}
use Rattle.queue.specs.declared.Entry.{Entry}
use Rattle.queue.specs.Entries.{P, R, C, as_kind}
use Rattle.network.specs.Nets.{Net}
use Rattle.events.specs.declared.Event.{Event}
use Rattle.events.specs.declared.Event.TheVariants.{BeginPosted, BeginRead, BeginWrite, Commit, Post, Latch, Complete, DropRequest, DropCompletion}
use Rattle.judge_events.specs.declared.Plan.{Plan}
use Rattle.events.specs.Tests.{ahead, entry_at}
use Rattle.events.specs.Grounds.{begin_grounds, named_grounds, grounds}
use Rattle.events.specs.Effects.{value}
use Rattle.events.specs.Accounts.{account}
use Rattle.judge_events.specs.Plans.{entering, answer_leaving, answer_entering, begin_plan, accepted_plan, plan, acts_of}
use Rattle.read_events.proofs.Onward.{Onward, next_onward}

-- ---- what a plan points to

pub record Reached (T : Table) (p : Plan) : Type 0 where
  pub first : has_chan T p.first.at ≡ true
  pub second : has_chan T p.second.at ≡ true
  pub third : has_chan T p.third.at ≡ true

module _ (s : Net) (ok : table_passes s.table ≡ true) where
  abbrev T : Table
  T = s.table

  zero_there : has_chan T (record { 0 = 0 }) ≡ true
  zero_there = let a = (counts T (passed T ok).counts).agents.0 in lt-ltb 0 (chan_count T) (omega arith)

  begin_there : (k : ℕ) (write : Bool) (m a : Agent) → Clear (begin_grounds s k m a) → Reached T (begin_plan s k write m a)
  unfolding begin_grounds
  begin_there k write m a c =
      let h = (and_true (has_agent T m) (has_agent T a) (not-false (has_agent T m && has_agent T a) c.0)).0 in
      let l = ltb-true m.0 T.agents h in
      record { first = lt-ltb m.0 (chan_count T) (omega arith); second = zero_there; third = zero_there }

  named_there : (k : ℕ) (N : Chan) (t : Transaction) (more : List Ground) → Clear (named_grounds s k N t more) → has_chan T N ≡ true
  unfolding named_grounds
  named_there k N t more c = (and_true (has_chan T N) (has_agent T t.master) (not-false (has_chan T N && has_agent T t.master) c.0)).0

  entering_there : (n : NextPlace) (x : Entry) → Onward T ok n → has_chan T (entering n x).at ≡ true
  entering_there Target x o = zero_there
  entering_there (Through X) x o = o.0

  leaving_there : (n : NextPlace) (r : Entry) → Onward T ok n → has_chan T (answer_leaving T n r).at ≡ true
  leaving_there Target r o = zero_there
  leaving_there (Through X) r o = (opposing T X o.0 o.1).there

  given_there : (N : Chan) (x : Entry) → has_chan T N ≡ true → has_chan T (answer_entering T N x).at ≡ true
  given_there N x h = split (is_master T N) (λ m. rw m zero_there) (λ m. rw m (opposing T N h m).there)

  accepted_there : (e : Event) → Clear (grounds s e) → Reached T (accepted_plan s e)
  unfolding grounds accepted_plan acts_of value
  accepted_there (BeginPosted m a) c = begin_there P true m a c
  accepted_there (BeginRead m a) c = begin_there R false m a c
  accepted_there (BeginWrite m a) c = begin_there R true m a c
  accepted_there (Commit N t) c = record { first = named_there R N t _ c; second = zero_there; third = zero_there }
  accepted_there (Post N t) c =
      let h = named_there P N t _ c in
      record { first = h; second = entering_there (ahead s P N t) (entry_at s P N t) (next_onward T ok N (entry_at s P N t).target h); third = zero_there }
  accepted_there (Latch N t) c =
      let h = named_there R N t _ c in
      record { first = h; second = entering_there (ahead s R N t) (as_kind R (entry_at s R N t)) (next_onward T ok N (entry_at s R N t).target h); third = zero_there }
  accepted_there (Complete N t) c =
      let h = named_there R N t _ c in
      record { first = h; second = leaving_there (ahead s R N t) (entry_at s R N t) (next_onward T ok N (entry_at s R N t).target h); third = given_there N (entry_at s R N t) h }
  accepted_there (DropRequest N t) c = record { first = named_there R N t _ c; second = zero_there; third = zero_there }
  accepted_there (DropCompletion N t) c = record { first = named_there C N t _ c; second = zero_there; third = zero_there }

  master_begins : (k : ℕ) (m a : Agent) → Clear (begin_grounds s k m a) → has_agent T m ≡ true
  unfolding begin_grounds
  master_begins k m a c = (and_true (has_agent T m) (has_agent T a) (not-false (has_agent T m && has_agent T a) c.0)).0

  master_named : (k : ℕ) (N : Chan) (t : Transaction) (more : List Ground) → Clear (named_grounds s k N t more) → has_agent T t.master ≡ true
  unfolding named_grounds
  master_named k N t more c = (and_true (has_chan T N) (has_agent T t.master) (not-false (has_chan T N && has_agent T t.master) c.0)).1

  accepted_master : (e : Event) → Clear (grounds s e) → has_agent T (account e).name.master ≡ true
  unfolding grounds
  accepted_master (BeginPosted m a) c = master_begins P m a c
  accepted_master (BeginRead m a) c = master_begins R m a c
  accepted_master (BeginWrite m a) c = master_begins R m a c
  accepted_master (Commit N t) c = master_named R N t _ c
  accepted_master (Post N t) c = master_named P N t _ c
  accepted_master (Latch N t) c = master_named R N t _ c
  accepted_master (Complete N t) c = master_named R N t _ c
  accepted_master (DropRequest N t) c = master_named R N t _ c
  accepted_master (DropCompletion N t) c = master_named C N t _ c

  pub master_there : (e : Event) {p : Plan} → plan s e ≡ Ok p → has_agent T (account e).name.master ≡ true
  unfolding plan
  master_there e h = accepted_master e (clear (grounds s e) (answered_ok (accepted_plan s e) (refusal (grounds s e)) h))

  pub plan_there : (e : Event) {p : Plan} → plan s e ≡ Ok p → Reached T p
  unfolding plan
  plan_there e {p} h =
      let ok : refusal (grounds s e) ≡ None = answered_ok (accepted_plan s e) (refusal (grounds s e)) h in
      let q : ◌≡◌ {A = Result Plan Refusal} (Ok (accepted_plan s e)) (Ok p) = rw ok at h in
      subst (Reached T) (ok_same (accepted_plan s e) p q) (accepted_there e (clear (grounds s e) ok))
