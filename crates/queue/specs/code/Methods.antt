-- What the channel's methods make of any declared channel, also one that no list packs to. On a packed channel they are the
-- changes of its list (proofs/Packed.antt).
use Rattle.std.specs.Prelude.{ℕ, suc, ◌+◌, ◌-◌, cond, [], ◌∷◌, ◌++◌, get_or, take, drop, set, ltb, position, Option, None, Some}
use Rattle.queue.specs.declared.Transaction.{Transaction}
use Rattle.queue.specs.declared.Entry.{Entry}
use Rattle.queue.specs.declared.Channel.{Channel}
use Rattle.queue.specs.declared.Change.{Change}
use Rattle.queue.specs.declared.Change.TheVariants.{Nothing, Add, TakeOut, TakeMatching, Mark}
use Rattle.queue.specs.Entries.{C, is_named, matches, marked, zero_entry}
use Rattle.queue.specs.Packing.{live, channel_places}

-- where the oldest entry of that kind and transaction stands
unfoldable pub place_of : ℕ → Transaction → Channel → Option ℕ
place_of k t c = position (is_named k t) (live c)

-- where the oldest one of that kind that matches the request stands
unfoldable pub place_of_matching : ℕ → Entry → Channel → Option ℕ
place_of_matching k r c = position (matches k r) (live c)

-- behind all others; a channel that has no place left stays as it is
unfoldable pub added_to : Channel → Entry → Channel
added_to c x = cond (ltb c.count channel_places) (record { entries = set c.entries c.count x; count = c.count + 1 }) c

-- the entry at place i leaves, those behind it move up, and the last place is zero
unfoldable pub removed_at : Channel → ℕ → Channel
removed_at c i = record { entries = take i c.entries ++ (drop (suc i) c.entries ++ (zero_entry ∷ [])); count = c.count - 1 }

unfoldable pub marked_at : Channel → ℕ → Channel
marked_at c i = record { entries = set c.entries i (marked (get_or c.entries i zero_entry)); count = c.count }

abbrev pub at_place : Option ℕ → Channel → (ℕ → Channel) → Channel
at_place None c f = c
at_place (Some i) c f = f i

unfoldable pub changed_to : Channel → Change → Channel
changed_to c Nothing = c
changed_to c (Add x) = added_to c x
changed_to c (TakeOut x) = at_place (place_of x.kind x.transaction c) c (removed_at c)
changed_to c (TakeMatching r) = at_place (place_of_matching C r c) c (removed_at c)
changed_to c (Mark x) = at_place (place_of x.kind x.transaction c) c (marked_at c)
