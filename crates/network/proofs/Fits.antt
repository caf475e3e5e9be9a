-- An entry that fits still fits: marked where it stands, at its next place, as its copy there, and as the completion in the opposite of its channel.
-- These differ from the entry in kind, write and mark alone, so one law asks of each what these and the place must keep.
use Prim.Native.Nat.{ℕ, ◌≤◌}
use mathlib.Core.Path.{◌≡◌, refl}
use mathlib.Core.Bool.{Bool, true, false, not, ◌||◌}
use mathlib.Core.List.{List, []}
use native.Mathlib.Omega.{arith}
use borrow.Author.Tests.{leb-true, le-leb}
use lib.ListN.{get_or}
use lib.Dec.{leb, eqb}
use Rattle.base.proofs.Logic.{split, both, and_true, true_and}
use Rattle.base.proofs.Cells.{none_in}
use Rattle.chassis.specs.declared.Chan.{Chan}
use Rattle.chassis.specs.declared.Table.{Table}
use Rattle.chassis.specs.declared.NextPlace.TheVariants.{Through}
use Rattle.chassis.specs.Channels.{has_chan, is_master, opposite}
use Rattle.chassis.specs.Routes.{next_place, on_the_way}
use Rattle.chassis.specs.Tables.{within, table_passes}
use Rattle.chassis.proofs.OnTheWay.{on_way_there, opposes_there, next_on_way, opposite_opposes}
use Rattle.queue.specs.declared.Entry.{Entry}
use Rattle.queue.specs.Entries.{P, R, C, is_kind, marked, as_kind}
use Rattle.network.specs.Nets.{Net, waiting}
use Rattle.network.specs.Soundness.{stands_right}
use Rattle.network.proofs.Rules.{Fit, Rules}

-- x's transaction and target
abbrev like : Entry → ℕ → Bool → Bool → Entry
like x k write committed = record { transaction = x.transaction; kind = k; target = x.target; write = write; committed = committed }

module _ (T : Table) (b : List ℕ) (N : Chan) (x : Entry) (f : Fit T b N x) where
  -- of another kind, at another place
  refit : (M : Chan) (k : ℕ) (write committed : Bool) → within P C k ≡ true → (not (eqb k P) || write) ≡ true
      → stands_right T M (like x k write committed) ≡ true → (eqb k R || not committed) ≡ true → Fit T b M (like x k write committed)
  refit M k write committed known posted place mark = record {
    known = known;
    posted = posted;
    master = f.master;
    target = f.target;
    differ = f.differ;
    number = f.number;
    place = place;
    mark = mark;
  }

  pub fit_marked : is_kind R x ≡ true → Fit T b N (marked x)
  unfolding marked stands_right
  fit_marked k = refit N x.kind x.write true f.known f.posted f.place (rw k)

  -- where only the counts rise
  pub fit_raised : (c : List ℕ) → ((j : ℕ) → get_or b j 0 ≤ get_or c j 0) → Fit T c N x
  fit_raised c h =
      let m = x.transaction.master.0 in
      let n = x.transaction.number in
      let r = and_true (leb 1 n) (leb n (get_or b m 0)) f.number in
      record {
        known = f.known;
        posted = f.posted;
        master = f.master;
        target = f.target;
        differ = f.differ;
        number = true_and (leb 1 n) (leb n (get_or c m 0)) r.0 (le-leb n (get_or c m 0) (omega (arith, h m, leb-true n (get_or b m 0) r.1)));
        place = f.place;
        mark = f.mark;
      }

  -- ---- P and R

  module _ (ok : table_passes T ≡ true) (request : is_kind C x ≡ false) where
    pub fit_on_way : on_the_way T x.transaction.master x.target N ≡ true
    unfolding stands_right
    fit_on_way = rw request at f.place

    ahead_on_way : (X : Chan) → next_place T N x.target ≡ Through X → on_the_way T x.transaction.master x.target X ≡ true
    ahead_on_way X p = next_on_way T ok x.transaction.master x.target N X f.master fit_on_way p

    -- it goes on
    pub fit_next : (X : Chan) → next_place T N x.target ≡ Through X → Fit T b X x
    unfolding stands_right
    fit_next X p = refit X x.kind x.write x.committed f.known f.posted (rw request (ahead_on_way X p)) f.mark

    -- its copy goes on
    pub fit_copy : (X : Chan) → next_place T N x.target ≡ Through X → Fit T b X (as_kind R x)
    unfolding stands_right as_kind
    fit_copy X p = refit X R x.write false refl refl (ahead_on_way X p) refl

    -- it is answered
    pub fit_answer : is_master T N ≡ false → Fit T b (opposite T N) (as_kind C x)
    unfolding stands_right as_kind
    fit_answer m = refit (opposite T N) C x.write false refl refl (opposite_opposes T ok x.transaction.master x.target N f.master m fit_on_way) refl

  -- an entry stands in a channel of the table
  pub fit_there : table_passes T ≡ true → has_chan T N ≡ true
  unfolding stands_right
  fit_there ok =
      let m = x.transaction.master in
      split (is_kind C x)
      (λ c. (opposes_there T ok m x.target N (rw c at f.place)).0)
      (λ c. on_way_there T ok m x.target N f.master (rw c at f.place))

-- so in a channel that the table does not have nothing waits
pub beyond_is_empty : (s : Net) → Rules s → (N : Chan) → has_chan s.table N ≡ false → waiting s N ≡ []
beyond_is_empty s r N h =
    none_in (waiting s N) (λ x i. both (has_chan s.table N) (fit_there s.table s.begins N x (r.fits N x i) r.passes) h)
