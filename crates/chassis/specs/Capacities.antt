-- How much there may be: document 01's agents and events in one list, and what follows from them.
use Rattle.std.specs.Prelude.{ℕ, ◌*◌}

abbrev pub most_agents : ℕ
most_agents = 32

-- one for each agent, and two for each of 15 bridges
abbrev pub most_channels : ℕ
most_channels = 62

-- events in one list
abbrev pub most_records : ℕ
most_records = 63

-- eight bytes each
abbrev pub most_record_bytes : ℕ
most_record_bytes = 8 * most_records
