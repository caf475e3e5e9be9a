-- Where the entry stands that a change takes out or marks.
use Rattle.std.specs.Prelude.{ℕ, Option, None}
use Rattle.queue.specs.declared.Channel.{Channel}
use Rattle.queue.specs.declared.Change.{Change}
use Rattle.queue.specs.declared.Change.TheVariants.{Nothing, Add, TakeOut, TakeMatching, Mark}
use Rattle.queue.specs.Entries.{C}
use Rattle.queue.specs.code.Methods.{place_of, place_of_matching}

abbrev pub place_for : Change → Channel → Option ℕ
place_for Nothing c = None
place_for (Add x) c = None
place_for (TakeOut x) c = place_of x.kind x.transaction c
place_for (TakeMatching r) c = place_of_matching C r c
place_for (Mark x) c = place_of x.kind x.transaction c
