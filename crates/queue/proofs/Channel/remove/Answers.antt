-- `Channel::remove` is removed_at.
-- What is moved up is all that stands behind the gap; the last place, of which a copy is left, is then zero.
use Prim.Native.Nat.{◌+◌, ◌-◌}
use native.Mathlib.Omega.{arith}
use mathlib.Core.Path.{◌≡◌}
use lib.ListN.{length}
use Rattle.base.proofs.Walks.{owned}
use Rattle.queue.specs.Packing.{channel_places}
use Rattle.queue.specs.Entries.{zero_entry}
use Rattle.queue.specs.code.Methods.{removed_at}
use Rattle.queue.proofs.Moved.{gap_closed}
use Rattle.queue.proofs.Packed.{channel_path}
use Rattle.queue.proofs.Channel.remove.Goals as goal

pub returns : goal.returns
unfolding removed_at
returns c =
    let l = c.args.self.now.entries in
    let i = c.args.i in
    let long : length l ≡ channel_places = search owned in
    let k = length l - (i + 1) in
    let closed = gap_closed zero_entry l i k 23 (omega arith) (omega arith) in
    channel_path (rw (c.copy_within.ensures.after, c.none.ensures) closed) c.one_less-self.ensures
