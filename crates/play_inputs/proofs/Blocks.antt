-- A loop that reads into a block, or writes from a text, goes on behind what is done.
use Rattle.std.proofs.Common.{◌≡◌, ℕ, ◌+◌, ◌≤◌, List, ◌++◌, length, take, drop, sym, ap, ◌∙◌, length-take-le}
use borrow.Rule.Slice.PartMut.{put_mid, post_of}
use Rattle.std.proofs.Math.Seq.{take-append-add, take-add}
use Rattle.std.proofs.lemmas.List.{take-append-le, take-take}

-- the front of the block grows by what was read into the part behind it
pub filled_on : (block part : List ℕ) (k done n : ℕ) → done ≤ length block → n ≤ length part → take (done + n) (put_mid done k block part) ≡ take done block ++ take n part
filled_on block part k done n h m =
    let all = put_mid done k block part in
    let front = take done block in
    ap (λ i. take (i + n) all) (sym (length-take-le done block h)) ∙ take-append-add front (part ++ post_of done k block) n
    ∙ ap (λ l. front ++ l) (take-append-le n part (post_of done k block) m)

-- the front of the text grows by what was written of the rest
pub written_on : (text : List ℕ) (k done n : ℕ) → n ≤ k → take (done + n) text ≡ take done text ++ take n (take k (drop done text))
written_on text k done n h = take-add done n text ∙ ap (λ l. take done text ++ l) (sym (take-take n k (drop done text) h))
