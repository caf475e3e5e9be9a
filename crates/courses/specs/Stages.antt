-- How far one transaction has come, by the channels of its way: 0 is the master's, k the last before the target.
use Rattle.std.specs.Prelude.{ℕ, zero, suc, ◌≤◌, ◌<◌, ◌≡◌, Bool, true, false, List}
use Rattle.chassis.specs.declared.Chan.{Chan}
use Rattle.chassis.specs.declared.Table.{Table}
use Rattle.chassis.specs.Channels.{opposite}
use Rattle.chassis.specs.Routes.{nth}
use Rattle.queue.specs.declared.Transaction.{Transaction}
use Rattle.events.specs.declared.Event.{Event}
use Rattle.events.specs.declared.Event.TheVariants.{Commit, Post, Latch, Complete, DropRequest, DropCompletion}

pub data Stage : Type 0 where
  unbegun : Stage
  -- a P in channel i
  posted : ℕ → Stage
  -- an R in each of the channels 0 to j, marked in all before j; whether in j too
  asked : ℕ → Bool → Stage
  -- a marked R in each of the channels 0 to j, and a C in the opposite of channel j + 1
  answered : ℕ → Stage
  ended : Stage

abbrev pub has_begun : Stage → Bool
has_begun unbegun = false
has_begun (posted i) = true
has_begun (asked j mark) = true
has_begun (answered j) = true
has_begun ended = true

-- on a way over k bridges
abbrev pub Fits : ℕ → Stage → Type 0
Fits k unbegun = Unit {0}
Fits k (posted i) = i ≤ k
Fits k (asked j mark) = j ≤ k
Fits k (answered j) = j < k
Fits k ended = Unit {0}

-- channel j has been completed: a C is in its opposite, or it was the master's and the transaction has ended
abbrev pub completed : ℕ → Stage
completed zero = ended
completed (suc j) = answered j

-- how an event that names it moves it, on a way w over k bridges; begins aside
pub data Moves (T : Table) (w : List Chan) (k : ℕ) (t : Transaction) : Stage → Event → Stage → Type 0 where
  posts_on : (N : Chan) (i : ℕ) → N ≡ nth w i → i < k → Moves T w k t (posted i) (Post N t) (posted (suc i))
  arrives : (N : Chan) → N ≡ nth w k → Moves T w k t (posted k) (Post N t) ended
  commits : (N : Chan) (j : ℕ) → N ≡ nth w j → Moves T w k t (asked j false) (Commit N t) (asked j true)
  latches : (N : Chan) (j : ℕ) (mark : Bool) → N ≡ nth w j → j < k → Moves T w k t (asked j mark) (Latch N t) (asked (suc j) false)
  reaches : (N : Chan) (mark : Bool) → N ≡ nth w k → Moves T w k t (asked k mark) (Complete N t) (completed k)
  returns : (N : Chan) (j : ℕ) → N ≡ nth w j → Moves T w k t (answered j) (Complete N t) (completed j)
  drops_request : (N : Chan) (j : ℕ) → N ≡ nth w (suc j) → Moves T w k t (asked (suc j) false) (DropRequest N t) (asked j true)
  drops_completion : (N : Chan) (j : ℕ) → N ≡ opposite T (nth w (suc j)) → Moves T w k t (answered j) (DropCompletion N t) (asked j true)
