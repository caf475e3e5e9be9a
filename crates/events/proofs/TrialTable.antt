-- The table of document 01's trials, and the names of agent 0's transactions, for what is proved at computed states.
-- Limits are left open: the trials differ in them.
use Prim.Native.Nat.{ℕ}
use mathlib.Core.List.{[], ◌∷◌}
use lib.ListN.{replicate}
use Rattle.chassis.specs.declared.Table.{Table}
use Rattle.chassis.specs.Numbers.{agent, bus}
use Rattle.chassis.specs.Channels.{no_bridge}
use Rattle.queue.specs.declared.Transaction.{Transaction}

-- document 01's T, with these limits: 2 buses, bridge (0, 1), agents 0 and 1 on buses 0 and 1
unfoldable pub T-with : ℕ → ℕ → ℕ → Table
T-with p r c = record {
  buses = 2;
  bridges = 1;
  agents = 2;
  limits = p ∷ r ∷ c ∷ [];
  pairs = record { first = bus 0; second = bus 1 } ∷ replicate 14 no_bridge;
  homes = bus 0 ∷ bus 1 ∷ replicate 30 (bus 0);
}

-- transaction n of agent 0
abbrev pub its : ℕ → Transaction
its n = record { master = agent 0; number = n }
