-- The test for "exactly one way", the way itself, and the next place, by recursion on the number of bridges left.
-- That the test says what `ExactlyOneWay` says, and that `way` is the one way, is proved in proofs/Trees.antt.
use Rattle.std.specs.Prelude.{ℕ, zero, suc, ◌+◌, ◌*◌, Bool, true, false, cond, ◌&&◌, ◌||◌, List, [], ◌∷◌, ◌++◌, map, length, get_or}
use Rattle.base.specs.Lists.{all, any, from_to}
use Rattle.chassis.specs.declared.Agent.{Agent}
use Rattle.chassis.specs.declared.Bus.{Bus}
use Rattle.chassis.specs.declared.Chan.{Chan}
use Rattle.chassis.specs.declared.Table.{Table}
use Rattle.chassis.specs.declared.NextPlace.{NextPlace}
use Rattle.chassis.specs.declared.NextPlace.TheVariants.{Target, Through}
use Rattle.chassis.specs.Numbers.{bus, chan, same_bus, same_chan}
use Rattle.chassis.specs.Channels.{first_bus, second_bus, home, master_channel, out_bus, opposite}
use Rattle.chassis.specs.Ways.{Hop, hop}

-- q's component becomes p's
abbrev pub relabel : Bus → Bus → Bus → Bus
relabel p q c = cond (same_bus c q) p c

-- the bus that stands for all those joined to a by the first k bridges: each bridge in turn joins two components
unfoldable pub component : Table → ℕ → Bus → Bus
component T zero a = a
component T (suc k) a =
    relabel (component T k (first_bus T k)) (component T k (second_bus T k)) (component T k a)

-- does bridge k join two buses that the bridges below k join already
abbrev pub closes_a_loop : Table → ℕ → Bool
closes_a_loop T k = same_bus (component T k (first_bus T k)) (component T k (second_bus T k))

-- none of the first k bridges does
unfoldable pub loop_free : Table → ℕ → Bool
loop_free T zero = true
loop_free T (suc k) = cond (closes_a_loop T k) false (loop_free T k)

-- every bus is joined to bus 0
unfoldable pub all_joined : Table → Bool
all_joined T = all (λ a. same_bus (component T T.bridges (bus a)) (component T T.bridges (bus 0))) (from_to 0 T.buses)

-- exactly one way between any two buses
unfoldable pub one_way : Table → Bool
one_way T = loop_free T T.bridges && all_joined T

-- the way from a to b over the first k bridges: over bridge k - 1 only where the others do not join a and b
unfoldable pub way_over : Table → ℕ → Bus → Bus → List Hop
way_over T zero a b = []
way_over T (suc k) a b =
    cond (same_bus (component T k a) (component T k b)) (way_over T k a b)
    (cond (same_bus (component T k a) (component T k (first_bus T k)))
    (way_over T k a (first_bus T k) ++ (hop k true ∷ way_over T k (second_bus T k) b))
    (way_over T k a (second_bus T k) ++ (hop k false ∷ way_over T k (first_bus T k) b)))

-- the way from bus a to bus b
abbrev pub way : Table → Bus → Bus → List Hop
way T a b = way_over T T.bridges a b

-- the channel in which a bridge is crossed
abbrev pub channel_of : Table → Hop → Chan
channel_of T (hop g true) = chan (T.agents + 2 * g)
channel_of T (hop g false) = chan (T.agents + 2 * g + 1)

abbrev pub first_place : Table → List Hop → NextPlace
first_place T [] = Target
first_place T (h ∷ hops) = Through (channel_of T h)

-- the next place after channel N on the way to agent t: one bridge nearer, or t itself where N's out-bus is t's bus
unfoldable pub next_place : Table → Chan → Agent → NextPlace
next_place T N t = first_place T (way T (out_bus T N) (home T t))

-- the bridge channels of the way from agent m to agent t
abbrev pub bridge_channels : Table → Agent → Agent → List Chan
bridge_channels T m t = map (channel_of T) (way T (home T m) (home T t))

abbrev pub bridges_between : Table → Agent → Agent → ℕ
bridges_between T m t = length (bridge_channels T m t)

-- all channels of that way, the master's first
abbrev pub way_channels : Table → Agent → Agent → List Chan
way_channels T m t = master_channel m ∷ bridge_channels T m t

-- channel i of a way, counted from 0
abbrev pub nth : List Chan → ℕ → Chan
nth w i = get_or w i (chan 0)

-- is N one of these channels
abbrev pub among : Chan → List Chan → Bool
among N l = any (same_chan N) l

-- the way from agent m to agent t starts in channel m
unfoldable pub on_the_way : Table → Agent → Agent → Chan → Bool
on_the_way T m t N = same_chan N (master_channel m) || among N (bridge_channels T m t)

-- N is the opposite of a bridge channel on that way
unfoldable pub opposes_the_way : Table → Agent → Agent → Chan → Bool
opposes_the_way T m t N = any (λ X. same_chan N (opposite T X)) (bridge_channels T m t)
