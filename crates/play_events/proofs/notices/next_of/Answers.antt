-- Where the entry is there and moves, what is found is its next place.
use mathlib.Core.Path.{◌≡◌, subst, ◌∙◌}
use mathlib.Core.Bool.{true}
use Rattle.events.specs.Accounts.{account}
use Rattle.play_events.specs.Notices.{Aimed}
use Rattle.play_events.proofs.notices.next_of.Goals as goal

pub returns-in-Some : goal.returns-in-Some
returns-in-Some g c =
    let moves : (account c.args.f.event).moves ≡ true = rw c.account.ensures at c.if-account.true in
    let aimed = subst (Aimed c.args.t) c.in-Some.is c.requires.is_there.1 in
    (c.requires.finds c.args.f.at c.in-Some.l.entry.target c.requires.is_there.0 aimed).1 c.next.result c.next.ensures ∙ rw (c.in-Some.is, moves)
