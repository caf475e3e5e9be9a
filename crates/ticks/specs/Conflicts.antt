-- Two events conflict exactly when one of (a) to (e) holds.
use Rattle.std.specs.Prelude.{Bool, false, ◌&&◌, ◌||◌, eqb, Option, None, Some}
use Rattle.chassis.specs.declared.Chan.{Chan}
use Rattle.chassis.specs.Numbers.{same_agent, same_bus, same_chan}
use Rattle.queue.specs.Entries.{C, same_transaction}
use Rattle.network.specs.Nets.{Net}
use Rattle.events.specs.declared.Event.{Event}
use Rattle.ticks.specs.Footings.{Name, Footing, footing}

-- both are there, and are alike
unfoldable pub alike : {A B : Type 0} → (A → B → Bool) → Option A → Option B → Bool
alike same None y = false
alike same (Some x) None = false
alike same (Some x) (Some y) = same x y

abbrev pub same_name : Name → Name → Bool
same_name x y =
    same_chan x.channel y.channel
    && eqb x.kind y.kind
    && same_transaction x.transaction y.transaction

-- x is a C of channel N
abbrev pub is_C_of : Name → Chan → Bool
is_C_of x N = eqb x.kind C && same_chan x.channel N

-- (c) one is a drop request and the other is of kinds 4, 6 or 7 and names the same R
abbrev pub drops_the_tried : Footing → Footing → Bool
drops_the_tried e f = alike same_name e.drops f.tries

-- (d) one drops a completion and the other is a complete that takes any C out of that same channel
abbrev pub drops_where_taken : Footing → Footing → Bool
drops_where_taken e f = alike is_C_of e.drops f.takes

unfoldable pub clash : Footing → Footing → Bool
clash e f =
    -- (a) both are of kinds 4 to 7 and occur on one bus
    alike same_bus e.bus f.bus
    -- (b) both are begins of one agent
    || alike same_agent e.beginner f.beginner
    -- (c)
    || (drops_the_tried e f || drops_the_tried f e)
    -- (d)
    || (drops_where_taken e f || drops_where_taken f e)
    -- (e) both drop the same entry
    || alike same_name e.drops f.drops

unfoldable pub conflict : Net → Event → Event → Bool
conflict s e f = clash (footing s e) (footing s f)
