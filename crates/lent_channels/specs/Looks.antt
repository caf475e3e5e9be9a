-- What a lent channel shows. What is not asked for is told as if the channel were empty.
use Rattle.std.specs.Prelude.{ℕ, Bool, false, List, Option, None, Some}
use Rattle.queue.specs.declared.Entry.{Entry}
use Rattle.queue.specs.declared.Look.{Look}
use Rattle.queue.specs.Entries.{is_kind}
use Rattle.queue.specs.Queues.{filling, first_C}
use Rattle.queue.specs.code.Changes.{look_of}
use Rattle.lent_channels.specs.declared.Sought.{Sought}

abbrev pub look_asked : Option Sought → List Entry → Option Look
look_asked None l = None
look_asked (Some q) l = look_of q.kind q.transaction l

abbrev pub filling_asked : Option ℕ → List Entry → ℕ
filling_asked None l = 0
filling_asked (Some k) l = filling (is_kind k) l

abbrev pub first_asked : Option Sought → List Entry → Bool
first_asked None l = false
first_asked (Some q) l = first_C q.transaction l
