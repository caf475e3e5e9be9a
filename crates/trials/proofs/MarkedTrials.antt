-- Every row of the table of trials, under one statement. It stands here and not beside the rows, so that a row that is wrong is refused
-- by it and not as a definition that cannot be read.
use Rattle.std.specs.Prelude.{◌≡◌, refl, map}
use Rattle.base.specs.Lists.{find, alter, count, all, any, all_from, modify, parts, from_to}
use Rattle.chassis.specs.Channels.{out_bus, in_bus, opposite}
use Rattle.chassis.specs.Routes.{component, loop_free, all_joined, one_way, way_over, next_place, on_the_way, opposes_the_way}
use Rattle.chassis.specs.Answers.{table_answer}
use Rattle.chassis.specs.Tables.{counts_in_range, unused_are_zero, buses_are_there, a_bridge_on_one_bus, table_grounds, table_passes, zero_table}
use Rattle.queue.specs.Entries.{is_named, matches, marked, as_kind, is_zero_entry}
use Rattle.queue.specs.Queues.{behind_P, first_C}
use Rattle.network.specs.Rooms.{room_for, rooms}
use Rattle.network.specs.Nets.{view, pack, empty_net}
use Rattle.network.specs.Soundness as Soundness
use Rattle.network.specs.Opening.{zero_state, opened}
use Rattle.network.specs.Edits.{edit, edits}
use Rattle.events.specs.Records.{decoded, records}
use Rattle.events.specs.Grounds.{begin_grounds, named_grounds, grounds}
use Rattle.events.specs.Effects.{new_entry, effects, value, after}
use Rattle.events.specs.Steps.{record_grounds, inner_step, step_grounds, step}
use Rattle.ticks.specs.Footings.{footing}
use Rattle.ticks.specs.Conflicts.{alike, clash, conflict}
use Rattle.ticks.specs.Ticks.{first_refused, partner, first_pair, known, end_of, values_of, tick_grounds, judged, tick}
use Rattle.blocks.specs.Blocks.{weighed, check_is_right, all_zero, kind_place_count_are_right, bridge_records, table_of, stray_in_table, stray_behind_records, record_bytes, block_records, content_grounds, block_grounds}
use Rattle.logs.specs.Logs.{entries_left, steps, value_lines, tick_lines, block_played, blocks_played, cut, input_blocks, run}
use Rattle.trials.specs.Streams.{padded, joined, with_check, sealed, T-with, table_bytes, network, rec, record_block, placed, table, state_with}
use Rattle.trials.specs.Marked.{outcome, rows, T, one_bus, no_bridge_at_all, bridged_twice, posted_twice, posted_twice_lines}

-- what each input gives, lines and end state, is what its row says
pub marked_trials : map (λ r. run r.input) rows ≡ map outcome rows
unfolding rows T one_bus no_bridge_at_all bridged_twice posted_twice posted_twice_lines padded joined with_check sealed T-with table_bytes network rec record_block placed table state_with run cut input_blocks blocks_played block_played tick_lines value_lines steps entries_left block_grounds content_grounds block_records record_bytes stray_behind_records stray_in_table table_of bridge_records kind_place_count_are_right all_zero check_is_right weighed tick judged tick_grounds records values_of end_of known first_pair partner first_refused conflict clash alike footing step step_grounds inner_step record_grounds after value effects new_entry grounds named_grounds begin_grounds decoded edits edit opened zero_state Soundness.sound Soundness.unused_are_zero Soundness.keeps_the_rules Soundness.fit Soundness.stands_right Soundness.within_limits Soundness.counts_fit empty_net pack view room_for rooms first_C behind_P is_zero_entry as_kind marked is_named matches zero_table table_passes table_grounds a_bridge_on_one_bus buses_are_there unused_are_zero counts_in_range on_the_way opposes_the_way table_answer next_place way_over one_way all_joined loop_free component opposite in_bus out_bus from_to parts modify all_from any all count alter find
marked_trials = refl
