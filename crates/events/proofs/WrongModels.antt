-- Wrong models, shut out by name: one refuses everything, one has a constant reply, one accepts and moves nothing, one invents begin numbers.
-- Each is said as a property; on one computed state no function that meets the step's statement has it. The begin's number is a law of every state.
use Rattle.std.specs.Prelude.{Ok, Err}
use Rattle.base.proofs.Grounds.{refused_not}
use Rattle.base.specs.declared.Refusal.{Refusal}
use Prim.Native.Nat.{ℕ}
use Rattle.base.specs.declared.Refusal.TheVariants.{UnfitRecord, NotRecords}
use native.Mathlib.Omega.{arith}
use mathlib.Core.Path.{◌≡◌, refl, sym, ap, ◌∙◌}
use mathlib.Core.Bool.{true}
use mathlib.Core.List.{List, [], ◌∷◌}
use lib.ListN.{get_or, replicate}
use lib.Dec.{ltb}
use Rattle.base.specs.Lists.{find, alter, count, all, any, all_from, modify, parts, from_to}
use Rattle.chassis.specs.declared.Table.{Table}
use Rattle.chassis.specs.Numbers.{bus}
use Rattle.chassis.specs.Channels.{no_bridge, out_bus, in_bus, opposite}
use Rattle.chassis.specs.Routes.{component, loop_free, all_joined, one_way, way_over, next_place, on_the_way, opposes_the_way}
use Rattle.chassis.specs.Tables.{counts_in_range, unused_are_zero, buses_are_there, a_bridge_on_one_bus, table_grounds, table_passes}
use Rattle.chassis.specs.Capacities.{most_agents}
use Rattle.queue.specs.Entries.{is_named, marked, as_kind, is_zero_entry}
use Rattle.queue.specs.Queues.{behind_P, first_C}
use Rattle.network.specs.declared.State.{State}
use Rattle.network.specs.Rooms.{room_for, rooms}
use Rattle.network.specs.Nets.{view, pack, empty_net}
use Rattle.network.specs.Shapes.{no_channel, Shaped}
use Rattle.network.specs.Soundness as Soundness
use Rattle.network.specs.Edits.{edit, edits}
use Rattle.network.proofs.Good.{empty_is_shaped}
use Rattle.events.specs.declared.Outcome.{Outcome}
use Rattle.events.specs.Records.{decoded}
use Rattle.events.specs.Grounds.{begin_grounds, named_grounds, grounds}
use Rattle.events.specs.Effects.{new_entry, effects, value, after}
use Rattle.events.specs.Steps.{inner_step, step_grounds, step, Answer}

abbrev pub Model : Type 0
Model = State → List ℕ → Outcome

-- what a caller can hand in: a value of the declared state, and bytes
pub record Handed (s : State) (b : List ℕ) : Type 0 where
  pub shaped : Shaped s
  pub bytes : all (λ n. ltb n 256) b ≡ true

-- what the step's statement asks
abbrev pub MeetsStep : Model → Type 0
MeetsStep f = (s : State) (b : List ℕ) → Handed s b → f s b ≡ step s b

-- ---- one state and two inputs, computed

-- one bus, two agents, no bridge, limits 1
unfoldable pub one_bus : Table
one_bus = record {
  buses = 1;
  bridges = 0;
  agents = 2;
  limits = 1 ∷ 1 ∷ 1 ∷ [];
  pairs = replicate 15 no_bridge;
  homes = replicate most_agents (bus 0);
}

unfoldable pub at_rest : State
at_rest = pack (empty_net one_bus)

-- agent 0 posts to agent 1
abbrev pub posts : List ℕ
posts = 1 ∷ 0 ∷ 0 ∷ 1 ∷ 0 ∷ 0 ∷ 0 ∷ 0 ∷ []

-- entries in channel 0, and agent 0's count
abbrev in_channel_0 : State → ℕ
in_channel_0 s = (get_or s.channels 0 no_channel).count

abbrev begun_by_0 : State → ℕ
begun_by_0 s = get_or s.begins 0 0

record Computed : Type 0 where
  passes : table_passes one_bus ≡ true
  begins : (step at_rest posts).answer ≡ Ok 1
  no_record : (step at_rest []).answer ≡ Err NotRecords
  enters : in_channel_0 (step at_rest posts).state ≡ 1
  counts : begun_by_0 (step at_rest posts).state ≡ 1
  empty : in_channel_0 at_rest ≡ 0

computed : Computed
unfolding one_bus at_rest step inner_step step_grounds after value effects new_entry grounds named_grounds begin_grounds decoded edits edit Soundness.sound Soundness.unused_are_zero Soundness.keeps_the_rules Soundness.fit Soundness.stands_right Soundness.within_limits Soundness.counts_fit empty_net pack view room_for rooms first_C behind_P is_zero_entry as_kind marked is_named table_passes table_grounds a_bridge_on_one_bus buses_are_there unused_are_zero counts_in_range on_the_way opposes_the_way next_place way_over one_way all_joined loop_free component opposite in_bus out_bus from_to parts modify all_from any all count alter find
computed = record { passes = refl; begins = refl; no_record = refl; enters = refl; counts = refl; empty = refl }

shaped : Shaped at_rest
unfolding at_rest one_bus
shaped = empty_is_shaped one_bus (record { limits = refl; pairs = refl; homes = refl }) computed.passes

first : Handed at_rest posts
unfolding all
first = record { shaped = shaped; bytes = refl }

second : Handed at_rest []
unfolding all
second = record { shaped = shaped; bytes = refl }

-- what a model that meets the statement answers to both
answers : (f : Model) → MeetsStep f → ((f at_rest posts).answer ≡ Ok 1) × ((f at_rest []).answer ≡ Err NotRecords)
answers f m = (
  ap (λ (o : Outcome). o.answer) (m at_rest posts first) ∙ computed.begins,
  ap (λ (o : Outcome). o.answer) (m at_rest [] second) ∙ computed.no_record,
)

-- ---- it refuses everything

abbrev pub RefusesEverything : Model → Type 0
RefusesEverything f = (s : State) (b : List ℕ) → Handed s b → (n : Refusal) × ((f s b).answer ≡ Err n)

pub refused_accepted : (n : Refusal) (v : ℕ) → Err n ≡ Ok v → ⊥
refused_accepted n v e = refused_not n v e

pub refusing : RefusesEverything (λ s b. record { answer = Err UnfitRecord; state = s })
refusing s b w = (UnfitRecord, refl)

-- refuted at one state; `first_begins_are_accepted` (FirstBegins) says on every table what is accepted, `no_ground_accepts` (RefusedExactly) in every state
pub no_model_refuses_everything : (f : Model) → MeetsStep f → RefusesEverything f → ⊥
no_model_refuses_everything f m r =
    let n = r at_rest posts first in
    refused_accepted n.0 1 (sym n.1 ∙ (answers f m).0)

-- ---- it has one constant reply

abbrev pub HasOneReply : Model → Type 0
HasOneReply f = (a : Answer) × ((s : State) (b : List ℕ) → Handed s b → (f s b).answer ≡ a)

-- refuted at two inputs; `a_ground_refuses` and `no_ground_accepts` (RefusedExactly) say for every input which reply it has
pub no_model_has_one_reply : (f : Model) → MeetsStep f → HasOneReply f → ⊥
no_model_has_one_reply f m r =
    refused_accepted NotRecords 1 (sym (answers f m).1 ∙ r.1 at_rest [] second ∙ sym (r.1 at_rest posts first) ∙ (answers f m).0)

pub replying : (a : Answer) → HasOneReply (λ s b. record { answer = a; state = s })
replying a = (a, λ s b w. refl)

-- the same of answer and state together
abbrev pub HasOneOutcome : Model → Type 0
HasOneOutcome f = (o : Outcome) × ((s : State) (b : List ℕ) → Handed s b → f s b ≡ o)

pub no_model_has_one_outcome : (f : Model) → MeetsStep f → HasOneOutcome f → ⊥
no_model_has_one_outcome f m r = no_model_has_one_reply f m (r.0.answer, λ s b w. ap (λ (o : Outcome). o.answer) (r.1 s b w))

-- ---- it accepts and moves nothing

abbrev pub MovesNothing : Model → Type 0
MovesNothing f = (s : State) (b : List ℕ) (v : ℕ) → Handed s b → (f s b).answer ≡ Ok v → (f s b).state ≡ s

pub standing_still : MovesNothing (λ s b. record { answer = (step s b).answer; state = s })
standing_still s b v w h = refl

-- refuted at one state; `every_accepted_step_moves` (EveryStepMoves) says it of every state and every record
pub no_model_moves_nothing : (f : Model) → MeetsStep f → MovesNothing f → ⊥
no_model_moves_nothing f m r =
    let k = ap in_channel_0 (r at_rest posts 1 first (answers f m).0) in
    let e = ap (λ (o : Outcome). in_channel_0 o.state) (m at_rest posts first) in
    let z : ◌≡◌ {A = ℕ} 1 0 = sym computed.enters ∙ sym e ∙ k ∙ computed.empty in
    omega arith
