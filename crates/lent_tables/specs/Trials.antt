-- Lent lists with a known outcome, most of them document 01's own: as rows of one table (proofs/Trials.antt has the statement).
use Rattle.std.specs.Prelude.{ℕ, suc, List, [], ◌∷◌, map, replicate, Option, None, Some}
use Rattle.base.specs.Lists.{from_to}
use Rattle.chassis.specs.declared.Bus.{Bus}
use Rattle.chassis.specs.declared.Bridge.{Bridge}
use Rattle.chassis.specs.Numbers.{bus}
use Rattle.chassis.specs.Answers.{table_number}
use Rattle.lent_tables.specs.declared.Numbers.{Numbers}
use Rattle.lent_tables.specs.Lists.{lent_answer, joined_of, joined_number}

abbrev pub bridge : ℕ → ℕ → Bridge
bridge a b = record { first = bus a; second = bus b }

-- so many buses; the limits are T's
abbrev pub numbers : ℕ → Numbers
numbers n = record { buses = n; limits = 2 ∷ 1 ∷ 1 ∷ [] }

-- n bridges, each from one bus to the next
abbrev pub chain : ℕ → List Bridge
chain n = map (λ a. bridge a (suc a)) (from_to 0 n)

-- a table's lists, and document 01's number for their check
pub record Row : Type 0 where
  pub numbers : Numbers
  pub bridges : List Bridge
  pub homes : List Bus
  pub number : ℕ

abbrev row : Numbers → List Bridge → List Bus → ℕ → Row
row m gs hs n = record { numbers = m; bridges = gs; homes = hs; number = n }

unfoldable pub rows : List Row
rows =
    -- 1 bus, 0 bridges, 1 agent: accepted
    row (numbers 1) [] (bus 0 ∷ []) 0
    -- 2 buses, 0 bridges: 27
    ∷ row (numbers 2) [] (bus 0 ∷ bus 1 ∷ []) 27
    -- two bridges (0, 1) with 2 buses: 27
    ∷ row (numbers 2) (bridge 0 1 ∷ bridge 0 1 ∷ []) (bus 0 ∷ bus 1 ∷ []) 27
    -- a bridge with both ends on one bus: 26
    ∷ row (numbers 2) (bridge 0 1 ∷ bridge 1 1 ∷ []) (bus 0 ∷ []) 26
    -- a bridge, and an agent, on a bus that is not there: 25
    ∷ row (numbers 2) (bridge 0 2 ∷ []) (bus 0 ∷ []) 25
    ∷ row (numbers 2) (bridge 0 1 ∷ []) (bus 0 ∷ bus 2 ∷ []) 25
    -- no agent, 33 agents, 17 buses, 16 bridges: 23
    ∷ row (numbers 1) [] [] 23
    ∷ row (numbers 1) [] (replicate 33 (bus 0)) 23
    ∷ row (numbers 17) (chain 15) (bus 0 ∷ []) 23
    ∷ row (numbers 16) (chain 16) (bus 0 ∷ []) 23
    -- 5 buses in a chain: accepted
    ∷ row (numbers 5) (chain 4) (bus 0 ∷ bus 4 ∷ []) 0
    ∷ []

abbrev pub outcome : Row → ℕ
outcome r = table_number (lent_answer r.numbers r.bridges r.homes)

-- two buses of a list of bridges: document 01's number, and the lowest bridge between them
pub record Asked : Type 0 where
  pub bridges : List Bridge
  pub from : Bus
  pub to : Bus
  pub answer : ℕ × Option ℕ

abbrev asks : List Bridge → ℕ → ℕ → ℕ × Option ℕ → Asked
asks gs a b r = record { bridges = gs; from = bus a; to = bus b; answer = r }

unfoldable pub questions : List Asked
questions =
    asks (chain 3) 1 2 (0, Some 1)
    -- in either direction
    ∷ asks (chain 3) 3 2 (0, Some 2)
    -- the lowest of two
    ∷ asks (bridge 1 0 ∷ bridge 0 1 ∷ []) 0 1 (0, Some 0)
    -- no bridge joins them, though there is a way
    ∷ asks (chain 3) 0 2 (0, None)
    ∷ asks [] 0 0 (0, None)
    -- the fifteenth bridge, and one too many
    ∷ asks (chain 15) 14 15 (0, Some 14)
    ∷ asks (chain 16) 0 1 (23, None)
    ∷ []

abbrev pub answered : Asked → ℕ × Option ℕ
answered q = joined_number (joined_of q.bridges q.from q.to)
