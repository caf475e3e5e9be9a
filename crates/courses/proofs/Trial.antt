-- Document 01's ten records, those accepted: the last state is reached, and after each of them the read is at the stage named.
-- The definitions compute: what waits in the channels is what the stage says.
use mathlib.Core.Path.{◌≡◌, refl}
use mathlib.Core.Bool.{true, false}
use mathlib.Core.List.{List, [], ◌∷◌, map}
use Rattle.base.specs.Lists.{find, alter, only, count, all, any, modify, from_to}
use Rattle.chassis.specs.declared.Table.{Table}
use Rattle.chassis.specs.Numbers.{agent, chan}
use Rattle.chassis.specs.Channels.{out_bus, opposite}
use Rattle.chassis.specs.Routes.{component, loop_free, all_joined, one_way, way_over, next_place}
use Rattle.chassis.specs.Tables.{counts_in_range, unused_are_zero, buses_are_there, a_bridge_on_one_bus, table_grounds, table_passes}
use Rattle.queue.specs.declared.Transaction.{Transaction}
use Rattle.queue.specs.declared.Entry.{Entry}
use Rattle.queue.specs.Entries.{is_of, is_named, matches, marked, as_kind}
use Rattle.queue.specs.Queues.{behind_P, first_C}
use Rattle.network.specs.Nets.{Net, empty_net, waiting}
use Rattle.network.specs.Rooms.{room_for, rooms}
use Rattle.network.specs.Edits.{edit, edits}
use Rattle.events.specs.declared.Event.TheVariants.{BeginPosted, BeginRead, Post, Latch, Complete}
use Rattle.events.specs.Grounds.{begin_grounds, named_grounds, grounds}
use Rattle.events.specs.Effects.{new_entry, effects, after}
use Rattle.events.specs.Reached.{Reached, at_first, and_then}
use Rattle.events.proofs.TrialTable.{T-with, its}
use Rattle.courses.specs.Pieces.{held_in}
use Rattle.courses.specs.Stages.{Stage, unbegun, asked, answered, ended}
use Rattle.courses.specs.Courses.{pieces, course, standing}

abbrev T : Table
T = T-with 2 1 1

abbrev write : Transaction
write = its 1

abbrev read : Transaction
read = its 2

-- the state after the first, the second, .. of them
abbrev s₁ : Net
s₁ = after (empty_net T) (BeginPosted (agent 0) (agent 1))

abbrev s₂ : Net
s₂ = after s₁ (BeginRead (agent 0) (agent 1))

abbrev s₃ : Net
s₃ = after s₂ (Post (chan 0) write)

abbrev s₄ : Net
s₄ = after s₃ (Latch (chan 0) read)

abbrev s₅ : Net
s₅ = after s₄ (Post (chan 2) write)

abbrev s₆ : Net
s₆ = after s₅ (Complete (chan 2) read)

abbrev s₇ : Net
s₇ = after s₆ (Complete (chan 0) read)

T-passes : table_passes T ≡ true
unfolding T-with table_passes table_grounds counts_in_range unused_are_zero buses_are_there a_bridge_on_one_bus one_way loop_free all_joined component all any from_to
T-passes = refl

pub it_is_reached : Reached s₇
unfolding T-with empty_net after effects edits edit grounds begin_grounds named_grounds new_entry next_place way_over component out_bus opposite find alter count modify is_named matches marked as_kind behind_P first_C room_for rooms
it_is_reached =
    and_then s₆ (Complete (chan 0) read)
    (and_then s₅ (Complete (chan 2) read)
    (and_then s₄ (Post (chan 2) write)
    (and_then s₃ (Latch (chan 0) read)
    (and_then s₂ (Post (chan 0) write)
    (and_then s₁ (BeginRead (agent 0) (agent 1))
    (and_then (empty_net T) (BeginPosted (agent 0) (agent 1)) (at_first T T-passes) refl) refl) refl) refl) refl) refl) refl

-- what waits of the read in the channels 0, 2 and 3, and what a stage says of them
abbrev waits : Net → List (List Entry)
waits s = map (λ N. only (is_of read) (waiting s N)) (chan 0 ∷ chan 2 ∷ chan 3 ∷ [])

abbrev says : Stage → List (List Entry)
says h = map (λ N. held_in N (standing T read (course (agent 1) false h))) (chan 0 ∷ chan 2 ∷ chan 3 ∷ [])

pub its_stages : (waits s₁ ≡ says unbegun) × (waits s₂ ≡ says (asked 0 false)) × (waits s₃ ≡ says (asked 0 false)) × (waits s₄ ≡ says (asked 1 false))
    × (waits s₅ ≡ says (asked 1 false)) × (waits s₆ ≡ says (answered 0)) × (waits s₇ ≡ says ended)
unfolding T-with only held_in pieces empty_net after effects edits edit new_entry next_place way_over component out_bus opposite find alter count modify is_named matches marked as_kind
its_stages = (refl, refl, refl, refl, refl, refl, refl)
