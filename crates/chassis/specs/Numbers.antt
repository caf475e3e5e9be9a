-- Agent, bus and channel numbers: made from a number, and compared, each kind with its own.
use Rattle.std.specs.Prelude.{ℕ, Bool, eqb}
use Rattle.chassis.specs.declared.Agent.{Agent}
use Rattle.chassis.specs.declared.Bus.{Bus}
use Rattle.chassis.specs.declared.Chan.{Chan}

abbrev pub agent : ℕ → Agent
agent n = record { 0 = n }

abbrev pub bus : ℕ → Bus
bus n = record { 0 = n }

abbrev pub chan : ℕ → Chan
chan n = record { 0 = n }

abbrev pub same_agent : Agent → Agent → Bool
same_agent a b = eqb a.0 b.0

abbrev pub same_bus : Bus → Bus → Bool
same_bus a b = eqb a.0 b.0

abbrev pub same_chan : Chan → Chan → Bool
same_chan a b = eqb a.0 b.0
