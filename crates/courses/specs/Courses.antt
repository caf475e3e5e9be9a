-- The course of a transaction: what stands of it in a state is what its stage says, and an event moves it from stage to stage.
use Rattle.std.specs.Prelude.{ℕ, suc, ◌≡◌, Bool, true, false, cond, List, [], ◌∷◌, ◌++◌, map, take}
use Rattle.base.specs.Lists.{only}
use Rattle.chassis.specs.declared.Agent.{Agent}
use Rattle.chassis.specs.declared.Chan.{Chan}
use Rattle.chassis.specs.declared.Table.{Table}
use Rattle.chassis.specs.Channels.{opposite}
use Rattle.chassis.specs.Routes.{bridges_between, way_channels, nth}
use Rattle.chassis.specs.Tables.{within}
use Rattle.queue.specs.declared.Transaction.{Transaction}
use Rattle.queue.specs.declared.Entry.{Entry}
use Rattle.queue.specs.Entries.{P, R, C, is_of}
use Rattle.network.specs.Nets.{Net, waiting, begun}
use Rattle.events.specs.declared.Event.{Event}
use Rattle.events.specs.declared.Event.TheVariants.{BeginPosted, BeginRead, BeginWrite, Commit, Latch, Complete, DropRequest}
use Rattle.events.specs.Accounts.{account, is_begin}
use Rattle.events.specs.Effects.{next_number}
use Rattle.courses.specs.Pieces.{Piece, piece, held_in}
use Rattle.courses.specs.Stages.{Stage, unbegun, posted, asked, answered, ended, has_begun, Fits, Moves}

-- ---- what stands at each stage, on the way w; x k mark is the transaction's entry of kind k

-- a marked R in each of the first n channels
abbrev pub requests : List Chan → (ℕ → Bool → Entry) → ℕ → List Piece
requests w x n = map (λ N. piece N (x R true)) (take n w)

-- nothing; or one P; or R's in the channels 0 to j, marked before j; or these with a C in the opposite of j + 1, and then the R in j is marked too
unfoldable pub pieces : Table → List Chan → (ℕ → Bool → Entry) → Stage → List Piece
pieces T w x unbegun = []
pieces T w x (posted i) = piece (nth w i) (x P false) ∷ []
pieces T w x (asked j mark) = requests w x j ++ (piece (nth w j) (x R mark) ∷ [])
pieces T w x (answered j) = requests w x (suc j) ++ (piece (opposite T (nth w (suc j))) (x C false) ∷ [])
pieces T w x ended = []

-- ---- the course of a transaction

-- a stage, and the target and read or write that its entries carry; where nothing stands these are any
pub record Course : Type 0 where
  pub target : Agent
  pub write : Bool
  pub stage : Stage

abbrev pub course : Agent → Bool → Stage → Course
course a write h = record { target = a; write = write; stage = h }

abbrev pub entry_of : Transaction → Agent → Bool → ℕ → Bool → Entry
entry_of t a write k mark = record { transaction = t; kind = k; target = a; write = write; committed = mark }

abbrev pub standing : Table → Transaction → Course → List Piece
standing T t c = pieces T (way_channels T t.master c.target) (entry_of t c.target c.write) c.stage

-- its number is one of those from 1 to its master's count
abbrev pub is_begun : Net → Transaction → Bool
is_begun s t = within 1 (begun s t.master) t.number

-- t is at c in s
pub record OnCourse (s : Net) (t : Transaction) (c : Course) : Type 0 where
  -- of its name there stands just that, channel by channel
  pub stands : (N : Chan) → only (is_of t) (waiting s N) ≡ held_in N (standing s.table t c)
  pub fits : Fits (bridges_between s.table t.master c.target) c.stage
  pub number : is_begun s t ≡ has_begun c.stage

-- ---- an event's transaction, and how it moves it

-- a begin's is the one that it begins
abbrev pub transaction_of : Net → Event → Transaction
transaction_of s e =
    cond (is_begin e)
    (record { master = (account e).name.master; number = next_number s (account e).name.master })
    (account e).name

-- its own transaction: a begin starts it, and all other kinds move it as the table of moves says, with target and read or write as they are
pub data Advances (T : Table) (t : Transaction) : Course → Event → Course → Type 0 where
  begins_posted : (c : Course) (a : Agent) → c.stage ≡ unbegun → Advances T t c (BeginPosted t.master a) (course a true (posted 0))
  begins_read : (c : Course) (a : Agent) → c.stage ≡ unbegun → Advances T t c (BeginRead t.master a) (course a false (asked 0 false))
  begins_write : (c : Course) (a : Agent) → c.stage ≡ unbegun → Advances T t c (BeginWrite t.master a) (course a true (asked 0 false))
  moves : (a : Agent) (write : Bool) (g h : Stage) (e : Event) → Moves T (way_channels T t.master a) (bridges_between T t.master a) t g e h
      → Advances T t (course a write g) e (course a write h)

-- from c to d by e, which leaves all transactions but its own where they are
pub data Follows (s : Net) (t : Transaction) (c : Course) (e : Event) (d : Course) : Type 0 where
  stays : (transaction_of s e ≡ t → ⊥) → c ≡ d → Follows s t c e d
  goes : transaction_of s e ≡ t → Advances s.table t c e d → Follows s t c e d

-- an event that names t's R in N
pub data NamesR (N : Chan) (t : Transaction) : Event → Type 0 where
  commit : NamesR N t (Commit N t)
  latch : NamesR N t (Latch N t)
  complete : NamesR N t (Complete N t)
  drop : NamesR N t (DropRequest N t)
