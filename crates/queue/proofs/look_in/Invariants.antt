-- The look at what is left, told whether a P was passed, is the look at all.
use mathlib.Core.Path.{◌≡◌}
use lib.ListN.{drop}
use Rattle.queue.specs.Entries.{is_named}
use Rattle.queue.specs.code.Changes.{look_by, look_of}
use Rattle.queue.proofs.Looked.{seen}
use Rattle.queue.proofs.look_in.Given as goal

abbrev pub invariant-loop-x : goal.invariant-loop-x
invariant-loop-x l = seen l.behind (look_by (is_named l.kind l.t) (drop l.x-index l.entries)) ≡ look_of l.kind l.t l.entries
