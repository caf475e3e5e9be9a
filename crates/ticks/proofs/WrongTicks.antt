-- Two wrong ticks, shut out by name: one plays its first record and nods at the others, one judges each record in the state already changed.
-- Each is the tick with one part exchanged; what it does is said as a property, and on one computed input no function that meets the tick has it.
use Prim.Native.Nat.{ℕ, suc}
use native.Mathlib.Omega.{arith}
use mathlib.Core.Path.{◌≡◌, refl, sym, ap, subst⁻¹, ◌∙◌}
use mathlib.Core.Bool.{true, false}
use mathlib.Core.List.{List, [], ◌∷◌, ◌++◌, map}
use Rattle.std.specs.Prelude.{Option, None, Some, Ok, Err}
use lib.ListN.{length, take, drop, get_or}
use lib.Dec.{ltb}
use Rattle.base.specs.Lists.{find, alter, count, all, any, all_from, modify, parts, from_to}
use Rattle.base.specs.Grounds.{refusal}
use Rattle.base.specs.declared.Refusal.TheVariants.{NoRoom}
use Rattle.base.proofs.Orders.{Pairwise}
use Rattle.chassis.specs.declared.Table.{Table}
use Rattle.chassis.specs.Channels.{out_bus, in_bus, opposite}
use Rattle.chassis.specs.Numbers.{agent, chan}
use Rattle.chassis.specs.Routes.{component, loop_free, all_joined, one_way, way_over, next_place, on_the_way, opposes_the_way}
use Rattle.chassis.specs.Tables.{counts_in_range, unused_are_zero, buses_are_there, a_bridge_on_one_bus, table_grounds, table_passes}
use Rattle.queue.specs.Entries.{is_named, marked, as_kind, is_zero_entry}
use Rattle.queue.specs.Queues.{behind_P, first_C}
use Rattle.network.specs.declared.State.{State}
use Rattle.network.specs.Rooms.{room_for, rooms}
use Rattle.network.specs.Nets.{Net, view, pack, empty_net}
use Rattle.network.specs.Shapes.{no_channel}
use Rattle.network.specs.Soundness as Soundness
use Rattle.network.specs.Edits.{edit, edits}
use Rattle.network.proofs.Packing.{view_pack}
use Rattle.network.proofs.Good.{Arrays, empty_is_sound, empty_is_shaped}
use Rattle.events.specs.declared.Event.{Event}
use Rattle.events.specs.declared.Event.TheVariants.{BeginPosted, Post}
use Rattle.events.specs.Records.{decoded, records, Decoded}
use Rattle.events.specs.Grounds.{begin_grounds, named_grounds, grounds, Accepted}
use Rattle.events.specs.Effects.{new_entry, effects, value, after}
use Rattle.events.specs.Steps.{record_grounds}
use Rattle.events.proofs.WrongModels.{Handed}
use Rattle.events.proofs.TrialTable.{T-with, its}
use Rattle.ticks.specs.declared.TickRefusal.{TickRefusal}
use Rattle.ticks.specs.declared.TickRefusal.TheVariants.{Refused}
use Rattle.ticks.specs.Footings.{footing}
use Rattle.ticks.specs.Conflicts.{alike, clash, conflict}
use Rattle.ticks.specs.Ticks.{known, end_of, values_of, first_refused, partner, first_pair, Ticked, ticked, tick_grounds, judged, tick}
use Rattle.ticks.proofs.Judged.{never}
use Rattle.ticks.proofs.OrderCannotMatter.{Played, at_end, one_more, Agreeing}
use Rattle.ticks.proofs.Searches.{refuses_none}
use Rattle.ticks.proofs.TickAcceptsExactly.{stays_right}
use Rattle.ticks.proofs.Verdicts.{Tick, tick_by, alone, plays_by}

-- what a caller can hand in: a value of the declared state, bytes, and a list of numbers of two bytes
pub record Lent (s : State) (b out : List ℕ) : Type 0 where
  pub handed : Handed s b
  pub places : all (λ n. ltb n 65536) out ≡ true

-- what the tick's statement asks
abbrev pub MeetsTick : Tick → Type 0
MeetsTick g = (s : State) (b out : List ℕ) → Lent s b out → g s b out ≡ tick s b out

-- ---- it plays its first record and merely nods at the others

unfoldable pub nods_at : State → List ℕ → List Event → Ticked
nods_at s out es = record {
  answer = Ok tt;
  state = pack (end_of (view s) (take 1 es));
  answers = values_of (view s) es ++ drop (length es) out;
}

abbrev pub nodding : Tick
nodding = tick_by alone nods_at

-- where a tick is to be accepted, it leaves the state that its first record reaches
abbrev pub Nods : Tick → Type 0
Nods g = (s : State) (b out : List ℕ) (e : Event) (es : List Event) → Lent s b out → refusal (tick_grounds s b out) ≡ None → records b ≡ map Some (e ∷ es)
    → Agreeing (view s) (e ∷ es) → (g s b out).state ≡ pack (after (view s) e)

pub nodding_nods : Nods nodding
unfolding nods_at end_of
nodding_nods s b out e es w h k a =
    ap (λ (t : Ticked). t.state)
    (plays_by alone nods_at s b out (e ∷ es) h k (refuses_none (view s) 0 (e ∷ es) a.alone) a.apart)

-- ---- it judges each record against the state already changed

abbrev moved : Net → Decoded → Net
moved s None = s
moved s (Some e) = after s e

unfoldable pub refused_on_the_way : Net → ℕ → List Decoded → Option TickRefusal
refused_on_the_way s i [] = None
refused_on_the_way s i (d ∷ ds) =
    elim (refusal (record_grounds s d)) [ None ↦ refused_on_the_way (moved s d) (suc i) ds | Some n ↦ Some (Refused n i) ]

abbrev pub judging_on_the_way : Tick
judging_on_the_way = tick_by (λ n ds. refused_on_the_way n 0 ds) ticked

-- it accepts what single steps accept in listed order, if no two conflict
abbrev pub JudgesOnTheWay : Tick → Type 0
JudgesOnTheWay g = (s : State) (b out : List ℕ) (es : List Event) (vs : List ℕ) (u : Net) → Lent s b out → refusal (tick_grounds s b out) ≡ None → records b ≡ map Some es
    → Played (view s) es vs u → Pairwise (λ e f. conflict (view s) e f ≡ false) es → (g s b out).answer ≡ Ok tt

none_on_the_way : (s u : Net) (i : ℕ) (es : List Event) (vs : List ℕ) → Played s es vs u → refused_on_the_way s i (map Some es) ≡ None
unfolding refused_on_the_way record_grounds
none_on_the_way s _ i [] _ at_end = refl
none_on_the_way s u i (e ∷ es) _ (one_more {vs = vs} ok p) = rw (ok, refused_on_the_way) (none_on_the_way (after s e) u (suc i) es vs p)

pub judging_judges_on_the_way : JudgesOnTheWay judging_on_the_way
judging_judges_on_the_way s b out es vs u w h k p n =
    ap (λ (t : Ticked). t.answer)
    (plays_by (λ n ds. refused_on_the_way n 0 ds) ticked s b out es h k (none_on_the_way (view s) u 0 es vs p) n)

-- ---- an input for each

pub record Input : Type 0 where
  pub table : Table
  pub before : List Event
  pub bytes : List ℕ
  pub places : List ℕ
  pub first : Event
  pub second : Event

-- the state that the events before it lead to, as it is handed in
abbrev reached : Input → Net
reached x = end_of (empty_net x.table) x.before

abbrev state : Input → State
state x = pack (reached x)

abbrev posts : Event
posts = BeginPosted (agent 0) (agent 1)

-- one P in channel 0; a begin of agent 0, and the post of that P
unfoldable pub begin_and_post : Input
begin_and_post = record {
  table = T-with 2 1 1;
  before = posts ∷ [];
  bytes = 1 ∷ 0 ∷ 0 ∷ 1 ∷ 0 ∷ 0 ∷ 0 ∷ 0 ∷ 5 ∷ 0 ∷ 0 ∷ 0 ∷ 1 ∷ 0 ∷ 0 ∷ 0 ∷ [];
  places = 0 ∷ 0 ∷ [];
  first = posts;
  second = Post (chan 0) (its 1);
}

-- limit P 1, one P in channel 0 and another in channel 2; both posts, channel 2 first
unfoldable pub two_posts : Input
two_posts = record {
  table = T-with 1 1 1;
  before = posts ∷ Post (chan 0) (its 1) ∷ posts ∷ [];
  bytes = 5 ∷ 2 ∷ 0 ∷ 0 ∷ 1 ∷ 0 ∷ 0 ∷ 0 ∷ 5 ∷ 0 ∷ 0 ∷ 0 ∷ 2 ∷ 0 ∷ 0 ∷ 0 ∷ [];
  places = 0 ∷ 0 ∷ [];
  first = Post (chan 2) (its 1);
  second = Post (chan 0) (its 2);
}

abbrev tick_on : Input → Ticked
tick_on x = tick (state x) x.bytes x.places

-- entries in channel 2
abbrev in_channel_2 : State → ℕ
in_channel_2 s = (get_or s.channels 2 no_channel).count

-- what both inputs have in common: two known records without conflict, the first accepted alone, after events accepted one by one from the empty network
record Common (x : Input) : Type 0 where
  arrays : Arrays x.table
  passes : table_passes x.table ≡ true
  earlier : Played (empty_net x.table) x.before (values_of (empty_net x.table) x.before) (reached x)
  bytes : all (λ n. ltb n 256) x.bytes ≡ true
  places : all (λ n. ltb n 65536) x.places ≡ true
  grounds_none : refusal (tick_grounds (state x) x.bytes x.places) ≡ None
  events : records x.bytes ≡ map Some (x.first ∷ x.second ∷ [])
  first_alone : Accepted (view (state x)) x.first
  apart : conflict (view (state x)) x.first x.second ≡ false

record Computed : Type 0 where
  nodded : Common begin_and_post
  second_alone : Accepted (view (state begin_and_post)) begin_and_post.second
  post_moves : in_channel_2 (tick_on begin_and_post).state ≡ 1
  begin_does_not : in_channel_2 (pack (after (view (state begin_and_post)) begin_and_post.first)) ≡ 0
  moved_on : Common two_posts
  second_later : Accepted (after (view (state two_posts)) two_posts.first) two_posts.second
  refused_alone : (tick_on two_posts).answer ≡ Err (Refused NoRoom 1)

-- the arrays of such a table have their lengths
of_T : (p r c : ℕ) → Arrays (T-with p r c)
unfolding T-with
of_T p r c = record { limits = refl; pairs = refl; homes = refl }

computed : Computed
unfolding begin_and_post two_posts T-with tick judged tick_grounds records values_of end_of known first_pair partner first_refused conflict clash alike footing record_grounds after value effects new_entry grounds named_grounds begin_grounds decoded edits edit Soundness.sound Soundness.unused_are_zero Soundness.keeps_the_rules Soundness.fit Soundness.stands_right Soundness.within_limits Soundness.counts_fit empty_net pack view room_for rooms first_C behind_P is_zero_entry as_kind marked is_named table_passes table_grounds a_bridge_on_one_bus buses_are_there unused_are_zero counts_in_range on_the_way opposes_the_way next_place way_over one_way all_joined loop_free component opposite in_bus out_bus from_to parts modify all_from any all count alter find
computed = record {
  nodded = record { arrays = of_T 2 1 1; passes = refl; earlier = one_more refl at_end; bytes = refl; places = refl; grounds_none = refl; events = refl; first_alone = refl; apart = refl };
  second_alone = refl;
  post_moves = refl;
  begin_does_not = refl;
  moved_on = record { arrays = of_T 1 1 1; passes = refl; earlier = one_more refl (one_more refl (one_more refl at_end)); bytes = refl; places = refl; grounds_none = refl; events = refl; first_alone = refl; apart = refl };
  second_later = refl;
  refused_alone = refl;
}

-- they are what a caller can hand in
lent : (x : Input) → Common x → Lent (state x) x.bytes x.places
lent x c =
    let n = empty_net x.table in
    let vs = values_of n x.before in
    let r = stays_right (pack n) (empty_is_shaped x.table c.arrays c.passes) (empty_is_sound x.table c.passes) x.before vs (reached x)
    (subst⁻¹ (λ (m : Net). Played m x.before vs (reached x)) (view_pack n) c.earlier) in
    record { handed = record { shaped = r.shaped; bytes = c.bytes }; places = c.places }

-- ---- shut out

-- refuted at one input; `tick_ends` (TickAcceptsExactly) says of every accepted tick that its end is where all its events lead
pub no_tick_nods : (g : Tick) → MeetsTick g → Nods g → ⊥
no_tick_nods g m n =
    let x = begin_and_post in
    let c = computed.nodded in
    let a : Agreeing (view (state x)) (x.first ∷ x.second ∷ []) =
    record { alone = (c.first_alone, (computed.second_alone, tt)); apart = ((c.apart, tt), (tt, tt)) } in
    let k = n (state x) x.bytes x.places x.first (x.second ∷ []) (lent x c) c.grounds_none c.events a in
    let e = ap (λ (t : Ticked). in_channel_2 t.state) (m (state x) x.bytes x.places (lent x c)) in
    let z : ◌≡◌ {A = ℕ} 1 0 = sym computed.post_moves ∙ sym e ∙ ap in_channel_2 k ∙ computed.begin_does_not in
    omega arith

-- refuted at one input; `the_lowest_record_refuses` (RefusedTicks) says of every tick that its records are judged in the state it starts in
pub no_tick_judges_on_the_way : (g : Tick) → MeetsTick g → JudgesOnTheWay g → ⊥
no_tick_judges_on_the_way g m n =
    let x = two_posts in
    let c = computed.moved_on in
    let k = n (state x) x.bytes x.places (x.first ∷ x.second ∷ []) _ _ (lent x c) c.grounds_none c.events
    (one_more c.first_alone (one_more computed.second_later at_end)) ((c.apart, tt), (tt, tt)) in
    never (Refused NoRoom 1) (sym computed.refused_alone ∙ ap (λ (t : Ticked). t.answer) (sym (m (state x) x.bytes x.places (lent x c))) ∙ k)
