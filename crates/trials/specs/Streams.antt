-- Streams of blocks as a fitter would write them down, and states as a reader would draw them.
use Rattle.std.specs.Prelude.{ℕ, ◌-◌, ◌/◌, ◌%◌, List, [], ◌∷◌, ◌++◌, map, Bool, true, false, length, get_or, drop, set, replicate}
use Rattle.chassis.specs.declared.Table.{Table}
use Rattle.chassis.specs.Numbers.{agent, bus}
use Rattle.chassis.specs.Capacities.{most_agents, most_channels}
use Rattle.queue.specs.declared.Entry.{Entry}
use Rattle.queue.specs.Entries.{P, R, C}
use Rattle.network.specs.declared.State.{State}
use Rattle.network.specs.Nets.{pack}
use Rattle.blocks.specs.Blocks.{weighed, bridge_records}

-- ---- bytes

unfoldable pub padded : ℕ → List ℕ → List ℕ
padded n l = l ++ replicate (n - length l) 0

unfoldable pub joined : List (List ℕ) → List ℕ
joined [] = []
joined (l ∷ ls) = l ++ joined ls

-- 508 bytes and the check n
unfoldable pub with_check : ℕ → List ℕ → List ℕ
with_check n l = padded 508 l ++ (n % 256 ∷ n / 256 % 256 ∷ n / 65536 % 256 ∷ n / 16777216 ∷ [])

-- with the check that they have
unfoldable pub sealed : List ℕ → List ℕ
sealed l = with_check (weighed 1 (padded 508 l)) l

-- ---- networks

-- buses, bridges, agents and the limits for P, R, C; the bridges' bus pairs; the agents' buses
pub record Layout : Type 0 where
  pub numbers : List ℕ
  pub pairs : List ℕ
  pub homes : List ℕ

-- T with other limits: 2 buses, bridge (0, 1), agent 0 on bus 0, agent 1 on bus 1
unfoldable pub T-with : ℕ → ℕ → ℕ → Layout
T-with p r c = record { numbers = 2 ∷ 1 ∷ 2 ∷ p ∷ r ∷ c ∷ []; pairs = 0 ∷ 1 ∷ []; homes = 0 ∷ 1 ∷ [] }

unfoldable pub table_bytes : Layout → List ℕ
table_bytes L = (1 ∷ 0 ∷ 0 ∷ 0 ∷ []) ++ padded 12 L.numbers ++ padded 32 L.pairs ++ padded 32 L.homes

unfoldable pub network : Layout → List ℕ
network L = sealed (table_bytes L)

-- ---- records

-- kind, channel, master, target, number
unfoldable pub rec : ℕ → ℕ → ℕ → ℕ → ℕ → List ℕ
rec kind channel master target number =
    kind ∷ channel ∷ master ∷ target ∷ number % 256 ∷ number / 256 ∷ 0 ∷ 0 ∷ []

unfoldable pub record_block : ℕ → ℕ → List (List ℕ) → List ℕ
record_block kind place rs = sealed ((kind ∷ length rs ∷ place % 256 ∷ place / 256 ∷ []) ++ joined rs)

abbrev pub steps_at : ℕ → List (List ℕ) → List ℕ
steps_at place rs = record_block 2 place rs

abbrev pub tick_at : ℕ → List (List ℕ) → List ℕ
tick_at place rs = record_block 3 place rs

-- ---- states

-- entries of agent 0's transactions with agent 1: the n-th begun is a posted write, a read's committed request, a read's completion
abbrev pub entry : ℕ → Bool → Bool → ℕ → Entry
entry kind write committed n = record {
  transaction = record { master = agent 0; number = n };
  kind = kind;
  target = agent 1;
  write = write;
  committed = committed;
}

abbrev pub posted : ℕ → Entry
posted n = entry P true false n

abbrev pub committed_read : ℕ → Entry
committed_read n = entry R false true n

abbrev pub read_completion : ℕ → Entry
read_completion n = entry C false false n

-- a channel and what stands in it
abbrev pub Standing : Type 0
Standing = ℕ × List Entry

unfoldable pub placed : List (List Entry) → List Standing → List (List Entry)
placed chans [] = chans
placed chans (x ∷ xs) = placed (set chans x.0 x.1) xs

-- the table of a layout
unfoldable pub table : Layout → Table
table L = record {
  buses = get_or L.numbers 0 0;
  bridges = get_or L.numbers 1 0;
  agents = get_or L.numbers 2 0;
  limits = drop 3 L.numbers;
  pairs = bridge_records (padded 30 L.pairs);
  homes = map bus (padded most_agents L.homes);
}

-- the state in which just this stands, and with these counts
unfoldable pub state_with : Layout → List Standing → List ℕ → State
state_with L xs counts = pack (record {
  table = table L;
  chans = placed (replicate most_channels []) xs;
  begins = padded most_agents counts;
})
