-- A turn that is settled where the state lies is carried out: nothing of it is asked again.
use mathlib.Core.Path.{◌≡◌, refl}
use Rattle.network.specs.declared.State.{State}
use Rattle.network.specs.code.Acts.{acted_on}
use Rattle.play_ticks.specs.declared.Turn.{Turn}
use Rattle.play_ticks.specs.Turns.{turned, Placed}
use Rattle.lent_plays.specs.Asks.{Stored, settled}

pub settles_turn : (s : State) (t : Turn) → settled s t.master t.plan ≡ turned s t
unfolding settled turned acted_on
settles_turn s t = refl

pub stored : (t : Turn) → Placed t → Stored t.master t.plan
stored t p = record { first = p.first; second = p.second; third = p.third; master = p.master }
