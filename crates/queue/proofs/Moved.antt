-- What copying entries within their array, and storing a zero at its end, makes of it: the gap is closed.
use Prim.Native.Nat.{ℕ, suc, ◌+◌, ◌≤◌}
use native.Mathlib.Omega.{arith}
use native.Mathlib.Numerals.{add-one}
use mathlib.Core.Path.{◌≡◌, ap, sym, ◌∙◌}
use mathlib.Core.List.{List, [], ◌++◌, append_assoc}
use lib.ListN.{length, take, drop, set, length-drop, drop_of_length-le}
use lib.Seq.{paste, take_all}
use Rattle.std.proofs.lemmas.List.Edits.{take-paste, length-paste}
use Rattle.base.proofs.Padded.{close_gap, gap_end}
use Rattle.queue.specs.declared.Entry.{Entry}

-- the k entries behind place i, copied to it, fill all but the last place, n
pub gap_closed : (z : Entry) (l : List Entry) (i k n : ℕ) → length l ≡ n + 1 → i + k ≡ n → set (paste l i (drop (i + 1) l) k) n z ≡ close_gap z i l
gap_closed z l i k n h e =
    let w : List Entry = paste l i (drop (i + 1) l) k in
    let few : length (drop (i + 1) l) ≡ k = simp length-drop (omega arith) in
    let long : length w ≡ length l = length-paste l i (drop (i + 1) l) k (omega arith) (omega arith) in
    let over : length w ≤ suc n = omega arith in
    let front : take n w ≡ take i l ++ drop (i + 1) l =
    ap (λ (m : ℕ). take m w) (sym e) ∙ take-paste l i (drop (i + 1) l) k (omega arith) (omega arith) ∙ ap (take i l ++◌) (take_all k (drop (i + 1) l) (omega arith)) in
    let back : drop (suc n) w ≡ [] = drop_of_length-le w over in
    gap_end z w n (omega arith) ∙ rw (front, back, append_assoc, add-one)
