-- The front of the text that is written grows by what a write took of the rest.
use Rattle.std.proofs.Common.{rules, sym, subst}
use Rattle.std.specs.Io.KnownBytes.{Appends}
use Rattle.std.proofs.KnownBytes.{Appends-trans}
use Rattle.std.proofs.lemmas.List.{places}
use Rattle.play_inputs.proofs.Blocks.{written_on}
use Rattle.play_inputs.proofs.write_text.Goals as goal

pub loop-done-preserved : goal.loop-done-preserved
loop-done-preserved g c =
    let l = c.loop-done in
    let put = c.in-Some.ensures in (
      search (rules, places),
      subst (Appends _ _) (sym (written_on c.args.text.now _ l.done c.in-Some.n (search (rules, places)))) (Appends-trans _ _ _ _ _ l.invariant.1 put.known),
    )
