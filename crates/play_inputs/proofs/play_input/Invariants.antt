-- From the first table on the state is sound, and block 65,536 is refused. The log took what the blocks so far print.
use Rattle.std.proofs.Common.{◌≡◌, ◌≤◌, length, IfSome}
use Rattle.events.proofs.SoundStays.{Right}
use Rattle.play_inputs.specs.Known.{is_compared}
use Rattle.play_inputs.proofs.Turns.{Left}
use Rattle.play_inputs.proofs.play_input.Given as goal

abbrev pub invariant-loop-place : goal.invariant-loop-place
invariant-loop-place g l = record {
  early : l.place ≤ 65536;
  right : (l.place ≡ 0 → ⊥) → Right l.state;
  block_long : length l.block ≡ 512;
  out_long : length l.out ≡ 2560;
  kept : is_compared l.log ≡ is_compared l.fn.log;
  left : IfSome (g.R.Read.remaining l.fn.input) (Left g.W.Write.contents g.S.Read.remaining l.fn.log l.log l.state l.place (g.R.Read.remaining l.input));
}
