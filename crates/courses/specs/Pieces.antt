-- Entries beside the channels in which they stand.
use Rattle.std.specs.Prelude.{cond, List, [], ◌∷◌}
use Rattle.chassis.specs.declared.Chan.{Chan}
use Rattle.chassis.specs.Numbers.{same_chan}
use Rattle.queue.specs.declared.Entry.{Entry}

-- an entry, and the channel in which it stands
pub record Piece : Type 0 where
  pub place : Chan
  pub entry : Entry

abbrev pub piece : Chan → Entry → Piece
piece N x = record { place = N; entry = x }

-- the entries that stand in N
unfoldable pub held_in : Chan → List Piece → List Entry
held_in N [] = []
held_in N (q ∷ L) = cond (same_chan N q.place) (q.entry ∷ held_in N L) (held_in N L)
