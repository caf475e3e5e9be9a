-- A change of a channel as declared is the change of its list, wherever the lists fit their places; and a channel or an
-- agent that is not there changes nothing.
use Prim.Native.Nat.{ℕ, zero, suc, ◌≤◌}
use mathlib.Core.Path.{◌≡◌, refl, ap}
use mathlib.Core.List.{List, [], ◌∷◌, map}
use lib.ListN.{length, get_or, set}
use lib.Seq.{set_out, set-get_or}
use Rattle.base.specs.Lists.{modify}
use Rattle.chassis.specs.declared.Agent.{Agent}
use Rattle.queue.specs.declared.Entry.{Entry}
use Rattle.queue.specs.declared.Change.{Change}
use Rattle.queue.specs.code.Changes.{changes}
use Rattle.queue.specs.code.Methods.{changed_to}
use Rattle.queue.specs.Packing.{packed, channel_places}
use Rattle.queue.proofs.Packed.{changed_packed}
use Rattle.network.specs.declared.State.{State}
use Rattle.network.specs.declared.Act.{Act}
use Rattle.network.specs.Nets.{Net, pack, waiting}
use Rattle.network.specs.code.Acts.{act, acted_on, counted, channel_at}

pub counted_beyond : (s : State) (m : Agent) (n : ℕ) → length s.begins ≤ m.0 → s ≡ counted s m n
unfolding counted
counted_beyond s m n h = rw (set_out s.begins m.0 n h)

pub acted_beyond : (s : State) (a : Act) → length s.channels ≤ a.at.0 → s ≡ acted_on s a
unfolding acted_on
acted_beyond s a h = rw (set_out s.channels a.at.0 (changed_to (channel_at s a.at) a.change) h)

-- the same count as before
pub counted_same : (s : State) (m : Agent) → counted s m (get_or s.begins m.0 0) ≡ s
unfolding counted
counted_same s m = rw (set-get_or s.begins m.0 0)

-- one cell of a list of packed channels
set_packed : (ch : Change) (ls : List (List Entry)) (i : ℕ) → length (get_or ls i []) ≤ channel_places → length (changes ch (get_or ls i [])) ≤ channel_places
    → set (map packed ls) i (changed_to (get_or (map packed ls) i (record { entries = []; count = 0 })) ch) ≡ map packed (modify ls i (changes ch))
unfolding modify
set_packed ch [] i h k = refl
set_packed ch (l ∷ ls) zero h k = rw (changed_packed ch l h k)
set_packed ch (l ∷ ls) (suc i) h k = ap (packed l ∷◌) (set_packed ch ls i h k)

pub acted_packed : (n : Net) (a : Act) → length (waiting n a.at) ≤ channel_places → length (changes a.change (waiting n a.at)) ≤ channel_places → acted_on (pack n) a ≡ pack (act a n)
unfolding acted_on act pack
acted_packed n a h k = rw (set_packed a.change n.chans a.at.0 h k)
