-- What holds of every value of the declared state: its arrays have their lengths, and a count of begins fits in its width.
-- Lists do not say it by themselves, so laws about declared states ask for it.
use Rattle.std.specs.Prelude.{ℕ, ◌<◌, ◌≤◌, ◌≡◌, [], length, get_or}
use Rattle.chassis.specs.Capacities.{most_agents, most_channels}
use Rattle.queue.specs.declared.Channel.{Channel}
use Rattle.queue.specs.Packing.{channel_places}
use Rattle.network.specs.declared.State.{State}

-- a channel that is not there
abbrev pub no_channel : Channel
no_channel = record { entries = []; count = 0 }

pub record Shaped (s : State) : Type 0 where
  pub channels : length s.channels ≡ most_channels
  pub begins : length s.begins ≡ most_agents
  pub entries : (i : ℕ) → i < most_channels → length (get_or s.channels i no_channel).entries ≡ channel_places
  pub counts : (a : ℕ) → a < most_agents → get_or s.begins a 0 ≤ 65535
  pub limits : length s.table.limits ≡ 3
  pub pairs : length s.table.pairs ≡ 15
  pub homes : length s.table.homes ≡ most_agents
