-- "Between any two buses there must be exactly one way over bridges that never turns back", word by word.
use Rattle.std.specs.Prelude.{ℕ, ◌<◌, ◌≡◌, Bool, true, false, List, [], ◌∷◌}
use Rattle.chassis.specs.declared.Bus.{Bus}
use Rattle.chassis.specs.declared.Table.{Table}
use Rattle.chassis.specs.Channels.{first_bus, second_bus}

-- a bridge crossed, from its first bus to its second (true) or from its second to its first (false)
pub data Hop : Type 0 where
  hop : ℕ → Bool → Hop

abbrev pub from : Table → Hop → Bus
from T (hop g true) = first_bus T g
from T (hop g false) = second_bus T g

abbrev pub to : Table → Hop → Bus
to T (hop g true) = second_bus T g
to T (hop g false) = first_bus T g

-- the way goes on over another bridge than g: it does not turn back
abbrev pub Onward : ℕ → List Hop → Type 0
Onward g [] = Unit
Onward g (hop h d ∷ hops) = g ≡ h → ⊥

-- the hops lead from bus a to bus b over bridges below k, and never turn back
abbrev pub Way : Table → ℕ → Bus → Bus → List Hop → Type 0
Way T k a b [] = a ≡ b
Way T k a b (hop g d ∷ hops) = (g < k) × (from T (hop g d) ≡ a) × Onward g hops × Way T k (to T (hop g d)) b hops

-- there is a way, and any other is the same: ways of any length are meant
pub record OneWay (T : Table) (k : ℕ) (a b : Bus) : Type 0 where
  pub hops : List Hop
  pub leads : Way T k a b hops
  pub only : (others : List Hop) → Way T k a b others → others ≡ hops

-- between any two buses exactly one
abbrev pub ExactlyOneWay : Table → Type 0
ExactlyOneWay T = (a b : Bus) → a.0 < T.buses → b.0 < T.buses → OneWay T T.bridges a b
