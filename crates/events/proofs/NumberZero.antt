-- An event of kinds 4 to 9 that names number 0 is refused with 6 in every sound state, wherever 1 and 2 have nothing against it.
-- Number 0 names no entry there, and 6 is the next ground of all six kinds.
use Prim.Native.Nat.{ℕ}
use mathlib.Core.Path.{◌≡◌, ap, ◌∙◌}
use mathlib.Core.Bool.{true, false}
use mathlib.Core.List.{List}
use Rattle.std.specs.Prelude.{Some}
use borrow.Author.Tests.{eq-eqb}
use lib.ListN.{length}
use Rattle.base.specs.Grounds.{Ground, refusal}
use Rattle.base.specs.declared.Refusal.TheVariants.{NoSuchEntry}
use Rattle.base.proofs.Grounds.{refused_behind}
use Rattle.chassis.specs.declared.Chan.{Chan}
use Rattle.chassis.specs.Channels.{has_agent, has_chan}
use Rattle.queue.specs.declared.Transaction.{Transaction}
use Rattle.queue.specs.Queues.{stands}
use Rattle.network.specs.declared.State.{State}
use Rattle.network.specs.Nets.{Net, view, waiting}
use Rattle.network.specs.Soundness.{sound}
use Rattle.network.proofs.NumberZero.{number_0_names_no_entry}
use Rattle.events.specs.declared.Event.{Event}
use Rattle.events.specs.declared.Event.TheVariants.{Commit, Post, Latch, Complete, DropRequest, DropCompletion}
use Rattle.events.specs.Records.{decoded, Decoded}
use Rattle.events.specs.Grounds.{named_grounds, grounds}
use Rattle.events.specs.Steps.{record_grounds, step_grounds}
use Rattle.events.proofs.WrongModels.{Model, Handed, MeetsStep}
use Rattle.events.proofs.RefusedExactly.{refused_with, a_ground_refuses}

-- e is of kinds 4 to 9, and names an entry of transaction t in channel N
pub data Names (N : Chan) (t : Transaction) : Event → Type 0 where
  commits : Names N t (Commit N t)
  posts : Names N t (Post N t)
  latches : Names N t (Latch N t)
  completes : Names N t (Complete N t)
  drops_request : Names N t (DropRequest N t)
  drops_completion : Names N t (DropCompletion N t)

-- where 2 does not hold and no such entry stands: 6, whatever comes behind
not_there : (s : Net) (k : ℕ) (N : Chan) (t : Transaction) (more : List Ground) → has_chan s.table N ≡ true → has_agent s.table t.master ≡ true
    → stands k t (waiting s N) ≡ false → refusal (named_grounds s k N t more) ≡ Some NoSuchEntry
unfolding named_grounds
not_there s k N t more c m n = rw (c, m, n)

module _ (s : State) (h : sound s ≡ true) (N : Chan) (t : Transaction) (z : t.number ≡ 0)
    (c : has_chan (view s).table N ≡ true) (m : has_agent (view s).table t.master ≡ true) where
  none_of : (k : ℕ) (more : List Ground) → refusal (named_grounds (view s) k N t more) ≡ Some NoSuchEntry
  none_of k more = not_there (view s) k N t more c m (number_0_names_no_entry s h k N t z)

  pub number_0_is_6 : (e : Event) → Names N t e → refusal (grounds (view s) e) ≡ Some NoSuchEntry
  unfolding grounds
  number_0_is_6 _ commits = none_of _ _
  number_0_is_6 _ posts = none_of _ _
  number_0_is_6 _ latches = none_of _ _
  number_0_is_6 _ completes = none_of _ _
  number_0_is_6 _ drops_request = none_of _ _
  number_0_is_6 _ drops_completion = none_of _ _

  -- of every model: eight bytes that are such an event
  pub number_0_is_refused : (f : Model) → MeetsStep f → (b : List ℕ) → Handed s b → length b ≡ 8 → (e : Event) → decoded b ≡ Some e → Names N t e
      → f s b ≡ refused_with NoSuchEntry s
  unfolding step_grounds record_grounds
  number_0_is_refused f meets b w l e d n =
      a_ground_refuses f meets s b w NoSuchEntry
      (refused_behind (step_grounds s b) (record_grounds (view s) (decoded b)) (rw (h, eq-eqb (length b) 8 l))
      ∙ ap (λ (x : Decoded). refusal (record_grounds (view s) x)) d ∙ number_0_is_6 e n)
