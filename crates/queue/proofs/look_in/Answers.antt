-- One walk: what is left begins with the entry that is asked.
use mathlib.Core.Path.{ap, sym, ◌∙◌}
use borrow.Author.Rules.{rules}
use lib.ListN.{drop_of_length-le}
use Rattle.std.proofs.lemmas.List.{at_drop_more}
use Rattle.queue.specs.Entries.{is_named, zero_entry}
use Rattle.queue.specs.code.Changes.{look_by, look_of}
use Rattle.queue.proofs.Looked.{seen, seen_first, look_here, look_past, look_none}
use Rattle.queue.proofs.look_in.Goals as goal

pub loop-x-init : goal.loop-x-init
unfolding look_of
loop-x-init c = seen_first _

pub returns-then-is_named : goal.returns-then-is_named
returns-then-is_named c =
    let a = c.args in
    let l = c.loop-x in
    let p = is_named a.kind a.t in
    sym (look_here p l.behind _ _ (sym c.is_named.ensures ∙ c.if-is_named.true))
    ∙ sym (at_drop_more (λ xs. seen l.behind (look_by p xs)) a.entries.now l.x-index zero_entry (search rules))
    ∙ l.invariant

pub loop-x-preserved : goal.loop-x-preserved
loop-x-preserved c =
    let a = c.args in
    let l = c.loop-x in
    let p = is_named a.kind a.t in
    rw c.is_kind-behind.ensures
    (sym (look_past p l.behind _ _ (sym c.is_named.ensures ∙ c.if-is_named.false))
    ∙ sym (at_drop_more (λ xs. seen l.behind (look_by p xs)) a.entries.now l.x-index zero_entry (search rules))
    ∙ l.invariant)

pub returns : goal.returns
returns c =
    let l = c.loop-x in
    let p = is_named c.args.kind c.args.t in
    sym (look_none p l.behind)
    ∙ sym (ap (λ xs. seen l.behind (look_by p xs)) (drop_of_length-le c.args.entries.now {i = l.x-index} (search rules)))
    ∙ l.invariant
