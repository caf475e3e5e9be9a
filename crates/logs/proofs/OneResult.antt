-- Two results that the statements of `play_steps`, `play_cycle`, `run_block` and `play_next` allow are one, and so are the buffers that they leave.
use Prim.Native.Nat.{ℕ}
use mathlib.Core.Path.{◌≡◌}
use mathlib.Core.Bool.{Bool}
use mathlib.Core.List.{List}
use Rattle.base.proofs.Logic.{one_result}
use Rattle.network.specs.declared.State.{State}
use Rattle.lines.specs.code.Writing.{Written}
use Rattle.lines.proofs.OneResult.{written_once}
use Rattle.logs.specs.declared.runs.BlockRan.{BlockRan}
use Rattle.logs.specs.declared.runs.BlockRun.{BlockRun}

same_ran : {s u : State} {i j : ℕ} → s ≡ u → i ≡ j → ◌≡◌ {A = BlockRan} (record { state = s; end = i }) (record { state = u; end = j })
same_ran p q = rw (p, q)

same_run : {g h : Bool} {s u : State} {i j : ℕ} → g ≡ h → s ≡ u → i ≡ j → ◌≡◌ {A = BlockRun} (record { going = g; state = s; end = i }) (record { going = h; state = u; end = j })
same_run o p q = rw (o, p, q)

module _ {before bytes l m : List ℕ} {at : ℕ} {state : State} where
  pub ran_once : {q u : BlockRan} → q.state ≡ state → u.state ≡ state → Written before at bytes l q.end → Written before at bytes m u.end → (q ≡ u) × (l ≡ m)
  ran_once s z w v = let e = written_once w v in (same_ran (one_result _ _ s z) e.1, e.0)

  pub run_once : {going : Bool} {q u : BlockRun} → q.going ≡ going → u.going ≡ going → q.state ≡ state → u.state ≡ state → Written before at bytes l q.end → Written before at bytes m u.end
      → (q ≡ u) × (l ≡ m)
  run_once g h s z w v = let e = written_once w v in (same_run (one_result _ _ g h) (one_result _ _ s z) e.1, e.0)
