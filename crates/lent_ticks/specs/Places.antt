-- Where among turns a partner stands.
use Rattle.std.specs.Prelude.{ℕ, List, take, drop, Option}
use Rattle.compare_events.specs.declared.Foot.{Foot}
use Rattle.compare_events.specs.Feet.{footing_of}
use Rattle.play_ticks.specs.declared.Turn.{Turn}
use Rattle.play_ticks.specs.Turns.{clash_partner, footings}

-- the first place from j on, below n, whose foot conflicts with e
unfoldable pub partner_place : List Turn → Foot → ℕ → ℕ → Option ℕ
partner_place ts e j n = clash_partner (footing_of e) j (footings (drop j (take n ts)))
