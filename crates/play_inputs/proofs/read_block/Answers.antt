-- The front of the block grows by what was read behind it.
use Rattle.std.proofs.Common.{rules, sym, subst}
use Rattle.std.specs.Io.KnownBytes.{Consumes}
use Rattle.std.proofs.KnownBytes.{Consumes-trans}
use Rattle.std.proofs.lemmas.List.{places}
use Rattle.play_inputs.proofs.Blocks.{filled_on}
use Rattle.play_inputs.proofs.read_block.Goals as goal

pub loop-done-preserved : goal.loop-done-preserved
loop-done-preserved g c =
    let l = c.loop-done in
    let read = c.in_ok-n.ensures in (
      search (rules, places),
      search (rules, places),
      subst (Consumes _ _) (sym (filled_on l.block c.read_part.new.part _ l.done c.in_ok-n.n l.invariant.0 (search (rules, places)))) (Consumes-trans _ _ _ _ _ l.invariant.2 read.known.0),
    )
