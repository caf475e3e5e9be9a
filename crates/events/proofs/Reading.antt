-- What a block's record is read as says what its eight bytes say; and its kind is its first byte.
use Rattle.std.specs.Prelude.{Some, None}
use Prim.Native.Nat.{ℕ, ◌+◌, ◌*◌, ◌<◌}
use mathlib.Core.Path.{◌≡◌, refl, ap, sym, ◌∙◌}
use mathlib.Core.Bool.{Bool, cond}
use mathlib.Core.List.{List}
use native.Mathlib.Omega.{arith}
use lib.ListN.{get_or, take, drop}
use lib.Seq.{get_or-take, get_or-drop}
use lib.Dec.{eqb, ltb}
use borrow.Author.Tests.{eqb-true}
use Rattle.base.proofs.Logic.{split}
use Rattle.chassis.specs.declared.Agent.{Agent}
use Rattle.chassis.specs.declared.Chan.{Chan}
use Rattle.chassis.specs.Numbers.{agent, chan}
use Rattle.queue.specs.declared.Transaction.{Transaction}
use Rattle.events.specs.Records.{byte, decoded, begin_event, named_event, begin_unused_zero, other_unused_zero, transaction_in, kind_number, Decoded}
use Rattle.events.specs.Reads.{read_as, read_at, decoded_of, block_of, place_of, kind_byte}

-- the first byte of record i
pub first_byte : (i : ℕ) (r : List ℕ) → byte (take 8 (drop (8 * i) r)) 0 ≡ byte r (8 * i)
first_byte i r =
    let h : 0 < 8 = omega arith in
    let e : 8 * i + 0 ≡ 8 * i = omega arith in
    get_or-take 8 (drop (8 * i) r) 0 0 h ∙ get_or-drop (8 * i) r 0 0 ∙ ap (λ (n : ℕ). get_or r n 0) e

module _ (block place kind : ℕ) where
  says : (d : Decoded) → decoded_of (read_as block place kind d) ≡ d
  says (Some e) = refl
  says None = refl

  stands : (d : Decoded) → (block_of (read_as block place kind d) ≡ block) × (place_of (read_as block place kind d) ≡ place)
  stands (Some e) = (refl, refl)
  stands None = (refl, refl)

pub read_says : (block place : ℕ) (b : List ℕ) → decoded_of (read_at block place b) ≡ decoded b
unfolding read_at
read_says block place b = says block place (byte b 0) (decoded b)

pub read_stands : (block place : ℕ) (b : List ℕ) → (block_of (read_at block place b) ≡ block) × (place_of (read_at block place b) ≡ place)
unfolding read_at
read_stands block place b = stands block place (byte b 0) (decoded b)

-- ---- the kind

-- a record whose kind, where it is an event, is k
abbrev Kind : ℕ → Decoded → Type 0
Kind k (Some e) = kind_number e ≡ k
Kind k None = Unit {0}

if_kind : (k n : ℕ) (d e : Decoded) → (k ≡ n → Kind k d) → Kind k e → Kind k (cond (eqb k n) d e)
if_kind k n d e p q =
    split (eqb k n)
    (λ h. rw h (p (eqb-true k n h)))
    (λ h. rw h q)

if_either : (k : ℕ) (t : Bool) (d e : Decoded) → Kind k d → Kind k e → Kind k (cond t d e)
if_either k t d e p q = split t (λ h. rw h p) (λ h. rw h q)

begin_kind : (k : ℕ) (m a : Agent) → Kind k (begin_event k m a)
begin_kind k m a =
    if_kind k 1 _ _ (λ h. sym h) (if_kind k 2 _ _ (λ h. sym h) (if_kind k 3 _ _ (λ h. sym h) tt))

named_kind : (k : ℕ) (N : Chan) (t : Transaction) → Kind k (named_event k N t)
named_kind k N t =
    if_kind k 4 _ _ (λ h. sym h) (if_kind k 5 _ _ (λ h. sym h) (if_kind k 6 _ _ (λ h. sym h)
    (if_kind k 7 _ _ (λ h. sym h) (if_kind k 8 _ _ (λ h. sym h) (if_kind k 9 _ _ (λ h. sym h) tt)))))

decoded_kind : (b : List ℕ) → Kind (byte b 0) (decoded b)
unfolding decoded
decoded_kind b =
    if_either (byte b 0) (ltb (byte b 0) 4) _ _
    (if_either (byte b 0) (begin_unused_zero b) _ _ (begin_kind (byte b 0) (agent (byte b 2)) (agent (byte b 3))) tt)
    (if_either (byte b 0) (other_unused_zero b) _ _ (named_kind (byte b 0) (chan (byte b 1)) (transaction_in b)) tt)

its_kind : (block place k : ℕ) (d : Decoded) → Kind k d → kind_byte (read_as block place k d) ≡ k
its_kind block place k (Some e) h = h
its_kind block place k None h = refl

pub kind_is_first_byte : (block place : ℕ) (b : List ℕ) → kind_byte (read_at block place b) ≡ byte b 0
unfolding read_at
kind_is_first_byte block place b = its_kind block place (byte b 0) (decoded b) (decoded_kind b)
