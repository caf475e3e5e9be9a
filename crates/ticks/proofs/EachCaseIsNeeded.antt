-- Each case (a) to (e) is needed: two events accepted alone in a reached state, in conflict by that case alone, the second refused after the first.
-- One row a case on the table of document 01's trials, all computed under one statement.
use Prim.Native.Nat.{ℕ}
use mathlib.Core.Path.{◌≡◌, refl, ap}
use mathlib.Core.Bool.{Bool, true, false, ◌||◌}
use mathlib.Core.List.{List, [], ◌∷◌, map}
use Rattle.std.specs.Prelude.{Option, None, Some}
use lib.Dec.{eqb}
use Rattle.base.specs.Lists.{find, alter, count, all, any, modify, from_to}
use Rattle.base.specs.Grounds.{refusal}
use Rattle.base.specs.declared.Refusal.{Refusal}
use Rattle.base.specs.declared.Refusal.TheVariants.{NoRoom, NoSuchEntry, AlreadyCommitted, OldestAnswer}
use Rattle.base.proofs.Orders.{All, all_map}
use Rattle.chassis.specs.declared.Table.{Table}
use Rattle.chassis.specs.Numbers.{agent, chan, same_agent, same_bus}
use Rattle.chassis.specs.Channels.{out_bus, opposite}
use Rattle.chassis.specs.Routes.{component, loop_free, all_joined, one_way, way_over, next_place}
use Rattle.chassis.specs.Tables.{counts_in_range, unused_are_zero, buses_are_there, a_bridge_on_one_bus, table_grounds, table_passes}
use Rattle.queue.specs.Entries.{is_named, matches, marked, as_kind}
use Rattle.queue.specs.Queues.{behind_P, first_C}
use Rattle.network.specs.Rooms.{room_for}
use Rattle.network.specs.Nets.{Net, empty_net}
use Rattle.network.specs.Edits.{edit, edits}
use Rattle.events.specs.declared.Event.{Event}
use Rattle.events.specs.declared.Event.TheVariants.{BeginRead, BeginWrite, Commit, Latch, Complete, DropRequest, DropCompletion}
use Rattle.events.specs.Grounds.{begin_grounds, named_grounds, grounds, Accepted}
use Rattle.events.specs.Effects.{new_entry, effects, value, after}
use Rattle.events.specs.Reached.{Reached, at_first, and_then}
use Rattle.events.proofs.TrialTable.{T-with, its}
use Rattle.ticks.specs.Footings.{Footing, footing}
use Rattle.ticks.specs.Conflicts.{alike, same_name, drops_the_tried, drops_where_taken, clash, conflict}
use Rattle.ticks.specs.Ticks.{end_of}

-- ---- the five lines of conflict

unfoldable pub lines : Footing → Footing → List Bool
lines e f =
    alike same_bus e.bus f.bus
    ∷ alike same_agent e.beginner f.beginner
    ∷ (drops_the_tried e f || drops_the_tried f e)
    ∷ (drops_where_taken e f || drops_where_taken f e)
    ∷ alike same_name e.drops f.drops
    ∷ []

-- a conflict is one of them
pub lines_are_all : (e f : Footing) → clash e f ≡ any (λ b. b) (lines e f)
unfolding clash lines any
lines_are_all e f =
    five (alike same_bus e.bus f.bus) (alike same_agent e.beginner f.beginner) (drops_the_tried e f || drops_the_tried f e)
    (drops_where_taken e f || drops_where_taken f e) (alike same_name e.drops f.drops)
  where
    five : (a b c d e : Bool) → (a || b || c || d || e) ≡ (a || (b || (c || (d || (e || false)))))
    five true b c d e = refl
    five false true c d e = refl
    five false false true d e = refl
    five false false false true e = refl
    five false false false false true = refl
    five false false false false false = refl

-- ---- the rows

-- two events after those before; `line` counts the cases from 0
pub record Row : Type 0 where
  pub table : Table
  pub before : List Event
  pub first : Event
  pub second : Event
  pub line : ℕ
  pub refused : Refusal

-- agent 0 reads agent 1
abbrev reads : Event
reads = BeginRead (agent 0) (agent 1)

unfoldable pub rows : List Row
rows =
    -- (a) a latch commits the R that a commit is to commit: 8
    record { table = T-with 2 1 1; before = reads ∷ []; first = Latch (chan 0) (its 1); second = Commit (chan 0) (its 1); line = 0; refused = AlreadyCommitted }
    -- (b) two begins of one agent with room for one: 5
    ∷ record { table = T-with 2 1 1; before = []; first = reads; second = BeginWrite (agent 0) (agent 1); line = 1; refused = NoRoom }
    -- (c) a dropped R is not there to be committed: 6
    ∷ record {
      table = T-with 2 1 1;
      before = reads ∷ Latch (chan 0) (its 1) ∷ [];
      first = DropRequest (chan 2) (its 1);
      second = Commit (chan 2) (its 1);
      line = 2;
      refused = NoSuchEntry;
    }
    -- (d) the oldest C taken, the next is the oldest and cannot be dropped: 13
    ∷ record {
      table = T-with 2 2 2;
      before = reads ∷ reads ∷ Latch (chan 0) (its 1) ∷ Latch (chan 0) (its 2) ∷ Complete (chan 2) (its 1) ∷ Complete (chan 2) (its 2) ∷ [];
      first = Complete (chan 0) (its 1);
      second = DropCompletion (chan 3) (its 2);
      line = 3;
      refused = OldestAnswer;
    }
    -- (e) what is dropped is not there to be dropped again: 6
    ∷ record {
      table = T-with 2 1 1;
      before = reads ∷ Latch (chan 0) (its 1) ∷ [];
      first = DropRequest (chan 2) (its 1);
      second = DropRequest (chan 2) (its 1);
      line = 4;
      refused = NoSuchEntry;
    }
    ∷ []

-- ---- the statement

-- what each is refused for in the state that those before it reach
unfoldable pub refusals : Net → List Event → List (Option Refusal)
refusals s [] = []
refusals s (e ∷ es) = refusal (grounds s e) ∷ refusals (after s e) es

-- the state in which a row's events are tried
abbrev pub reached_by : Row → Net
reached_by r = end_of (empty_net r.table) r.before

pub record Finding : Type 0 where
  pub passes : Bool
  pub on_the_way : List (Option Refusal)
  pub first_alone : Option Refusal
  pub second_alone : Option Refusal
  pub conflicts : Bool
  pub lines : List Bool
  pub second_later : Option Refusal

abbrev pub found : Row → Finding
found r = record {
  passes = table_passes r.table;
  on_the_way = refusals (empty_net r.table) r.before;
  first_alone = refusal (grounds (reached_by r) r.first);
  second_alone = refusal (grounds (reached_by r) r.second);
  conflicts = conflict (reached_by r) r.first r.second;
  lines = lines (footing (reached_by r) r.first) (footing (reached_by r) r.second);
  second_later = refusal (grounds (after (reached_by r) r.first) r.second);
}

abbrev pub only : ℕ → List Bool
only i = map (eqb i) (0 ∷ 1 ∷ 2 ∷ 3 ∷ 4 ∷ [])

abbrev pub claimed : Row → Finding
claimed r = record {
  passes = true;
  on_the_way = map (λ _. None) r.before;
  first_alone = None;
  second_alone = None;
  conflicts = true;
  lines = only r.line;
  second_later = Some r.refused;
}

computed : map found rows ≡ map claimed rows
unfolding rows T-with lines refusals end_of conflict clash alike footing after value effects new_entry grounds named_grounds begin_grounds edits edit empty_net room_for first_C behind_P as_kind marked is_named matches table_passes table_grounds a_bridge_on_one_bus buses_are_there unused_are_zero counts_in_range next_place way_over one_way all_joined loop_free component opposite out_bus from_to modify any all count alter find
computed = refl

-- ---- what it says of each row

pub record Needed (r : Row) : Type 0 where
  pub reached : Reached (reached_by r)
  pub first_alone : Accepted (reached_by r) r.first
  pub second_alone : Accepted (reached_by r) r.second
  pub in_conflict : conflict (reached_by r) r.first r.second ≡ true
  -- by this line and no other
  pub by_its_line : lines (footing (reached_by r) r.first) (footing (reached_by r) r.second) ≡ only r.line
  pub second_refused : refusal (grounds (after (reached_by r) r.first) r.second) ≡ Some r.refused

reached_all : (s : Net) → Reached s → (es : List Event) → refusals s es ≡ map (λ _. None) es → Reached (end_of s es)
unfolding refusals end_of
reached_all s r [] h = r
reached_all s r (e ∷ es) h = reached_all (after s e) (and_then s e r (cc)) es (cc)

needed : (r : Row) → found r ≡ claimed r → Needed r
needed r h = record {
  reached = reached_all (empty_net r.table) (at_first r.table (ap (λ (f : Finding). f.passes) h)) r.before (ap (λ (f : Finding). f.on_the_way) h);
  first_alone = ap (λ (f : Finding). f.first_alone) h;
  second_alone = ap (λ (f : Finding). f.second_alone) h;
  in_conflict = ap (λ (f : Finding). f.conflicts) h;
  by_its_line = ap (λ (f : Finding). f.lines) h;
  second_refused = ap (λ (f : Finding). f.second_later) h;
}

same_each : {A B : Type 0} (f g : A → B) (l : List A) → map f l ≡ map g l → All (λ a. f a ≡ g a) l
same_each f g [] h = tt
same_each f g (a ∷ l) h = ((cc), same_each f g l (cc))

pub each_case_is_needed : (map (λ r. r.line) rows ≡ 0 ∷ 1 ∷ 2 ∷ 3 ∷ 4 ∷ []) × All Needed rows
unfolding rows
each_case_is_needed = (refl, all_map (λ r. found r ≡ claimed r) Needed rows needed (same_each found claimed rows computed))
