-- What an event sees of a channel, and what it does to it.
use Rattle.std.specs.Prelude.{ℕ, Bool, List, [], ◌∷◌, ◌++◌, Option}
use Rattle.std.specs.Option.{option_map}
use Rattle.base.specs.Lists.{find, alter}
use Rattle.queue.specs.declared.Transaction.{Transaction}
use Rattle.queue.specs.declared.Entry.{Entry}
use Rattle.queue.specs.declared.Look.{Look}
use Rattle.queue.specs.declared.Change.{Change}
use Rattle.queue.specs.declared.Change.TheVariants.{Nothing, Add, TakeOut, TakeMatching, Mark}
use Rattle.queue.specs.Entries.{C, is_named, matches, gone, marking}
use Rattle.queue.specs.Queues.{behind_P}

-- the oldest that passes
abbrev pub look_by : (Entry → Bool) → List Entry → Option Look
look_by p l = option_map (λ x. record { behind = behind_P p l; entry = x }) (find p l)

unfoldable pub look_of : ℕ → Transaction → List Entry → Option Look
look_of k t l = look_by (is_named k t) l

unfoldable pub match_of : ℕ → Entry → List Entry → Option Look
match_of k r l = look_by (matches k r) l

unfoldable pub changes : Change → List Entry → List Entry
changes Nothing l = l
changes (Add x) l = l ++ (x ∷ [])
changes (TakeOut x) l = alter (is_named x.kind x.transaction) gone l
changes (TakeMatching r) l = alter (matches C r) gone l
changes (Mark x) l = alter (is_named x.kind x.transaction) marking l
