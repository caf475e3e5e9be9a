-- What judging a record leaves, what the turns of a tick answer, and what carrying them out makes of a state.
use Rattle.std.specs.Prelude.{ℕ, suc, ◌<◌, cond, List, [], ◌∷◌, ◌++◌, map, length, get_or, drop, replicate, Option, None, Some, Ok, Err}
use Rattle.base.specs.declared.Refusal.{Refusal}
use Rattle.base.specs.Grounds.{refusal}
use Rattle.chassis.specs.Numbers.{agent}
use Rattle.chassis.specs.Capacities.{most_agents, most_channels, most_records}
use Rattle.network.specs.declared.State.{State}
use Rattle.network.specs.Nets.{Net}
use Rattle.network.specs.code.Acts.{acted_on, counted}
use Rattle.events.specs.Records.{Decoded}
use Rattle.events.specs.declared.Event.{Event}
use Rattle.events.specs.Accounts.{account}
use Rattle.events.specs.Grounds.{grounds}
use Rattle.read_events.specs.Frames.{next_of}
use Rattle.judge_events.specs.Plans.{no_act, does, accepted_plan}
use Rattle.ticks.specs.declared.TickRefusal.{TickRefusal}
use Rattle.ticks.specs.declared.TickRefusal.TheVariants.{Conflict}
use Rattle.ticks.specs.Footings.{Footing}
use Rattle.ticks.specs.Conflicts.{clash}
use Rattle.ticks.specs.Ticks.{known, first_refused, first_pair, TickAnswer}
use Rattle.play_ticks.specs.declared.Turn.{Turn}
use Rattle.compare_events.specs.Feet.{no_foot, foot, footing_of}

abbrev pub no_turn : Turn
no_turn = record { plan = does no_act no_act no_act; master = agent 0; foot = no_foot }

-- what judging e in s leaves, where it is accepted
unfoldable pub turn : Net → Event → Turn
turn s e = record {
  plan = accepted_plan s e;
  master = (account e).name.master;
  foot = foot s.table e (next_of s e);
}

abbrev pub unless_refused : Option Refusal → List Turn → List Turn
unless_refused None ts = ts
unless_refused (Some n) ts = []

-- the turns of the records before the first one that is refused alone
unfoldable pub turns_made : Net → List Decoded → List Turn
turns_made s [] = []
turns_made s (None ∷ ds) = []
turns_made s (Some e ∷ ds) = unless_refused (refusal (grounds s e)) (turn s e ∷ turns_made s ds)

-- in the first places of those that a tick has for them; the others stay
abbrev pub laid_over : List Turn → List Turn → List Turn
laid_over ts before = ts ++ drop (length ts) before

abbrev pub in_places : List Turn → List Turn
in_places ts = laid_over ts (replicate most_records no_turn)

-- ---- what is answered

abbrev pub answer_by : Option TickRefusal → TickAnswer
answer_by None = Ok tt
answer_by (Some a) = Err a

-- the lowest partner of e, and the lowest conflicting pair, on footings
unfoldable pub clash_partner : Footing → ℕ → List Footing → Option ℕ
clash_partner e j [] = None
clash_partner e j (f ∷ fs) = cond (clash e f) (Some j) (clash_partner e (suc j) fs)

abbrev pub pair_or : ℕ → Option ℕ → Option TickRefusal → Option TickRefusal
pair_or i None o = o
pair_or i (Some j) o = Some (Conflict i j)

unfoldable pub clash_pair : ℕ → List Footing → Option TickRefusal
clash_pair i [] = None
clash_pair i (e ∷ es) = pair_or i (clash_partner e (suc i) es) (clash_pair (suc i) es)

abbrev pub footings : List Turn → List Footing
footings ts = map (λ t. footing_of t.foot) ts

-- past 16, 18 and 17
abbrev pub refused_or : Option TickRefusal → TickAnswer → TickAnswer
refused_or None a = a
refused_or (Some b) a = Err b

unfoldable pub judged_answer : Net → List Decoded → TickAnswer
judged_answer s ds = refused_or (first_refused s 0 ds) (answer_by (first_pair s 0 (known ds)))

-- ---- carried out

-- the channels and the agent that a turn points to are places of a state
pub record Placed (t : Turn) : Type 0 where
  pub first : t.plan.first.at.0 < most_channels
  pub second : t.plan.second.at.0 < most_channels
  pub third : t.plan.third.at.0 < most_channels
  pub master : t.master.0 < most_agents

unfoldable pub turned : State → Turn → State
turned s t =
    counted (acted_on (acted_on (acted_on s t.plan.first) t.plan.second) t.plan.third) t.master
    (cond t.plan.raises t.plan.value (get_or s.begins t.master.0 0))

unfoldable pub all_turned : State → List Turn → State
all_turned s [] = s
all_turned s (t ∷ ts) = all_turned (turned s t) ts

abbrev pub turn_values : List Turn → List ℕ
turn_values ts = map (λ t. t.plan.value) ts
