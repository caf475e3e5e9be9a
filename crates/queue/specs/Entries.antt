-- An entry: its kind, its name, and what marking and copying make of it.
use Rattle.std.specs.Prelude.{ℕ, Bool, true, false, not, ◌&&◌, List, [], ◌∷◌, eqb}
use Rattle.chassis.specs.Numbers.{agent, same_agent}
use Rattle.queue.specs.declared.Transaction.{Transaction}
use Rattle.queue.specs.declared.Entry.{Entry}

-- the kinds of entry: P posted, R request, C completion
abbrev pub P : ℕ
P = 1

abbrev pub R : ℕ
R = 2

abbrev pub C : ℕ
C = 3

abbrev pub kinds : List ℕ
kinds = P ∷ R ∷ C ∷ []

abbrev pub is_kind : ℕ → Entry → Bool
is_kind k x = eqb x.kind k

-- named by its master and a number
abbrev pub same_transaction : Transaction → Transaction → Bool
same_transaction t u = same_agent t.master u.master && eqb t.number u.number

-- of that transaction, whatever its kind
abbrev pub is_of : Transaction → Entry → Bool
is_of t x = same_transaction x.transaction t

-- of that kind and transaction
unfoldable pub is_named : ℕ → Transaction → Entry → Bool
is_named k t x = is_kind k x && is_of t x

-- of that kind, and the one that goes with the request r: matched by originating master and number, whatever the target
unfoldable pub matches : ℕ → Entry → Entry → Bool
matches k r x = is_kind k x && same_transaction x.transaction r.transaction

-- the entry with its committed mark
unfoldable pub marked : Entry → Entry
marked x = record {
  transaction = x.transaction;
  kind = x.kind;
  target = x.target;
  write = x.write;
  committed = true;
}

-- an uncommitted entry of kind k that takes transaction, target and read or write from x
unfoldable pub as_kind : ℕ → Entry → Entry
as_kind k x = record {
  transaction = x.transaction;
  kind = k;
  target = x.target;
  write = x.write;
  committed = false;
}

-- an unused place
abbrev pub zero_entry : Entry
zero_entry = record {
  transaction = record { master = agent 0; number = 0 };
  kind = 0;
  target = agent 0;
  write = false;
  committed = false;
}

unfoldable pub is_zero_entry : Entry → Bool
is_zero_entry x =
    eqb x.transaction.master.0 0
    && eqb x.transaction.number 0
    && eqb x.kind 0
    && eqb x.target.0 0
    && not x.write
    && not x.committed

-- what an entry gives way to when it is taken out, and when it is marked
abbrev pub gone : Entry → List Entry
gone x = []

abbrev pub marking : Entry → List Entry
marking x = marked x ∷ []
