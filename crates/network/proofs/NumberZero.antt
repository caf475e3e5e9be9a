-- Number 0 names no entry in a sound state: numbers run from 1, so no entry of any kind stands in any channel under it.
-- What is found stands in the channel and carries the name that was looked for; there it fits, and its number is at least 1.
use Prim.Native.Nat.{ℕ}
use native.Mathlib.Omega.{arith}
use mathlib.Core.Path.{◌≡◌, ap, sym, ◌∙◌}
use mathlib.Core.Bool.{true, false}
use borrow.Author.Tests.{leb-true}
use lib.Dec.{leb}
use Rattle.base.proofs.Logic.{split, and_true}
use Rattle.base.proofs.Lists.{found_passes, is_there}
use Rattle.base.proofs.Cells.{find_in}
use Rattle.chassis.specs.declared.Chan.{Chan}
use Rattle.queue.specs.declared.Transaction.{Transaction}
use Rattle.queue.specs.Entries.{is_named}
use Rattle.queue.specs.Queues.{oldest, stands}
use Rattle.queue.proofs.Plainly.{named_is_its_own}
use Rattle.network.specs.declared.State.{State}
use Rattle.network.specs.Nets.{Net, view, waiting, begun}
use Rattle.network.specs.Soundness.{sound}
use Rattle.network.proofs.Rules.{Rules, rules}
use Rattle.network.proofs.Packing.{sound_opened}

-- what stands has a number from 1 on
pub numbers_from_1 : (s : Net) → Rules s → (k : ℕ) (N : Chan) (t : Transaction) → stands k t (waiting s N) ≡ true → leb 1 t.number ≡ true
numbers_from_1 s r k N t h =
    let o = is_there (oldest k t (waiting s N)) h in
    let x = o.0 in
    let e = (named_is_its_own k t x (found_passes (is_named k t) (waiting s N) o.1)).1 in
    let f = r.fits N x (find_in (is_named k t) (waiting s N) o.1) in
    let n = (and_true (leb 1 x.transaction.number) (leb x.transaction.number (begun s x.transaction.master)) f.number).0 in
    ap (λ (u : Transaction). leb 1 u.number) (sym e) ∙ n

pub number_0_names_no_entry : (s : State) → sound s ≡ true → (k : ℕ) (N : Chan) (t : Transaction) → t.number ≡ 0 → stands k t (waiting (view s) N) ≡ false
number_0_names_no_entry s h k N t z =
    split (stands k t (waiting (view s) N))
    (λ y. let n = leb-true 1 t.number (numbers_from_1 (view s) (rules (view s) (sound_opened s h).rules) k N t y) in absurd (omega (arith, n, z)))
    (λ n. n)
