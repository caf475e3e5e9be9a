-- Stores into a buffer that may be too short: what falls behind its end is not stored, so the buffer holds the text's beginning.
use Prim.Native.Nat.{ℕ, zero, suc, ◌+◌, ◌-◌, ◌<◌, ◌≤◌, min}
use mathlib.Core.Path.{◌≡◌, refl, ap, sym, ◌∙◌}
use mathlib.Core.List.{List, [], ◌∷◌, ◌++◌}
use native.Mathlib.Omega.{arith}
use borrow.Rule.Slice.PartMut.{put_mid}
use lib.ListN.{length, take, drop, set, length-take, length-drop, length-set}
use lib.Seq.{sets, set_out, sets-eq, take-append_seam, drop-drop}
use Rattle.std.proofs.lemmas.List.{take_min, drop_min}
use Rattle.lines.proofs.Texts.{written_part}
use Rattle.lines.specs.code.Writing.{Written}
use Rattle.run_inputs.specs.Printed.{printed_into}

pub sets_out : (o : List ℕ) (at : ℕ) (xs : List ℕ) → length o ≤ at → sets o at xs ≡ o
sets_out o at [] h = refl
sets_out o at (x ∷ xs) h =
    let e = set_out o at x h in
    rw e (sets_out o (suc at) xs (omega arith))

sets_behind : (a : ℕ) (o : List ℕ) (i : ℕ) (xs : List ℕ) → sets (a ∷ o) (suc i) xs ≡ a ∷ sets o i xs
sets_behind a o i [] = refl
sets_behind a o i (x ∷ xs) = sets_behind a (set o i x) (suc i) xs

pub sets_are_printed : (o xs : List ℕ) → sets o 0 xs ≡ printed_into o xs
sets_are_printed [] [] = refl
sets_are_printed (a ∷ o) [] = refl
sets_are_printed [] (x ∷ xs) = sets_out [] 1 xs (omega arith)
sets_are_printed (a ∷ o) (x ∷ xs) = sets_behind x o 0 xs ∙ ap (x ∷◌) (sets_are_printed o xs)

-- what was written at the buffer's start, read back
pub written_read : {o p xs : List ℕ} {r : ℕ} → Written o 0 xs p r → length xs ≤ length o → take r p ≡ xs
written_read {o} {p} {xs} {r} w h =
    let z : 0 + length xs ≡ length xs = omega arith in
    let s : sets o 0 xs ≡ xs ++ drop (length xs) o = rw z at (sets-eq xs o 0 (omega arith)) in
    rw (w.behind, w.stored, z, s, take-append_seam)

-- ---- a part that is cut off where the buffer ends

sets_part : (o xs : List ℕ) (at n : ℕ) → length o ≤ at + n → sets o at (take n xs) ≡ sets o at xs
sets_part o [] at zero h = refl
sets_part o [] at (suc n) h = refl
sets_part o (x ∷ xs) at zero h = sym (sets_out o at (x ∷ xs) (omega arith))
sets_part o (x ∷ xs) at (suc n) h = sets_part (set o at x) xs (suc at) n (simp length-set (omega arith))

-- as much of the text as there is room for
pub part_put : (o text part : List ℕ) (at n : ℕ) → at < length o → n ≡ min (length o - at) (length text) → part ≡ take n text → put_mid at (at + n - at) o part ≡ sets o at text
part_put o text part at n h m p =
    let l : length (take n text) ≡ n = simp length-take (omega arith) in
    let t : take n text ≡ take (length o - at) text = ap (λ (k : ℕ). take k text) m ∙ take_min (length o - at) text in
    (rw l at (written_part o at (take n text) part p (omega arith)).stored) ∙ ap (sets o at) t ∙ sets_part o text at (length o - at) (omega arith)

-- ---- the next 512 bytes of an input, or as many as there are

pub part_end : (l : List ℕ) (at e : ℕ) → at ≤ length l → e ≡ min (at + 512) (length l) → take (e - at) (drop at l) ≡ take 512 (drop at l)
part_end l at e h m =
    let n : e - at ≡ min 512 (length (drop at l)) = rw length-drop (omega arith) in
    ap (λ (k : ℕ). take k (drop at l)) n ∙ take_min 512 (drop at l)

pub rest_end : (l : List ℕ) (at : ℕ) → drop (min (at + 512) (length l)) l ≡ drop 512 (drop at l)
rest_end l at = drop_min (at + 512) l ∙ sym (drop-drop 512 at l)
