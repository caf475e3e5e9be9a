-- What src/lib.rt has the check try at every goal that has no answer.
use Rattle.check_tables.proofs.Levels.{first_low}
use Rattle.check_tables.proofs.Asking.{answered_passes, route_unknown, route_next}
use Rattle.find_routes.proofs.Nearest.{few_bridges, few_agents, none_left}
use Rattle.find_routes.proofs.Places.{few_buses_there, few_bridges_there, few_agents_there, agent_low, home_there, out_bus_there}
use Rattle.find_routes.proofs.Tabled.{at_once, led}
use Rattle.find_routes.proofs.Following.{arrived, place_there, bus_there, one_nearer, crossed_here, crossed_on}
use Rattle.find_routes.proofs.Filled.{filled_labels, tabled_long}
use Rattle.find_routes.proofs.Crossings.{rows_end}
use Rattle.find_routes.proofs.Bridged.{ends_low, turns}

pub ruleset places = (first_low, few_bridges, few_agents, few_buses_there, few_bridges_there, few_agents_there, agent_low, home_there, out_bus_there)

pub ruleset ways = (none_left, at_once, led, arrived, place_there, bus_there, one_nearer, crossed_here, crossed_on, answered_passes, route_unknown, route_next)

pub ruleset tables = (filled_labels, tabled_long, rows_end, ends_low, turns)

pub ruleset tried = (places, ways, tables)
