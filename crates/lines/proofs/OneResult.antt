-- Two results that a writer's statement allows are one: the place behind what was written, and the whole buffer.
use Prim.Native.Nat.{ℕ}
use mathlib.Core.Path.{◌≡◌}
use mathlib.Core.List.{List}
use Rattle.base.proofs.Logic.{one_result}
use Rattle.lines.specs.code.Writing.{Written}

pub written_once : {before bytes after after' : List ℕ} {at end end' : ℕ} → Written before at bytes after end → Written before at bytes after' end' → (after ≡ after') × (end ≡ end')
written_once w v = (one_result _ _ w.stored v.stored, one_result _ _ w.behind v.behind)
