-- A log that took one text after another took both.
use Rattle.std.proofs.Common.{ℕ, List, [], ◌++◌, Option, ap, ◌∙◌, length-append, length, take}
use Rattle.std.proofs.Math.Seq.{take-append_seam, take-append-add}
use Rattle.std.proofs.lemmas.List.{take-append-le}
use Rattle.std.proofs.Transfers.{starts_with_length}
use Rattle.std.specs.Io.{StartsWith}
use Rattle.std.proofs.KnownBytes.{Appends-nil, Consumes-nil, Appends-trans, Consumes-trans}
use Rattle.play_inputs.specs.declared.Log.{Log}
use Rattle.play_inputs.specs.declared.Log.TheVariants.{Written, Compared}
use Rattle.play_inputs.specs.Known.{Took, TookPart}

starts : (xs ys : List ℕ) → StartsWith (xs ++ ys) xs
starts xs ys = take-append_seam xs ys

-- a beginning of a text behind another is one of both
starts_behind : (xs ys zs bs : List ℕ) → StartsWith ys bs → StartsWith (xs ++ (ys ++ zs)) (xs ++ bs)
starts_behind xs ys zs bs h =
    ap (λ n. take n (xs ++ (ys ++ zs))) (length-append xs bs) ∙ take-append-add xs (ys ++ zs) (length bs)
    ∙ ap (λ l. xs ++ l) (take-append-le (length bs) ys zs (starts_with_length ys bs h) ∙ h)

module _ {W S : Type 0} (contents : W → Option (List ℕ)) (remaining : S → Option (List ℕ)) where
  pub took_nothing : (a : Log W S) → Took contents remaining a a []
  took_nothing (Written w) = Appends-nil (contents w)
  took_nothing (Compared s) = Consumes-nil (remaining s)

  pub took_both : (a b c : Log W S) (xs ys : List ℕ) → Took contents remaining a b xs → Took contents remaining b c ys → Took contents remaining a c (xs ++ ys)
  took_both (Written w) (Written v) (Written u) xs ys p q = Appends-trans _ _ _ xs ys p q
  took_both (Written w) (Written v) (Compared t) xs ys p q = absurd q
  took_both (Written w) (Compared r) c xs ys p q = absurd p
  took_both (Compared s) (Written v) c xs ys p q = absurd p
  took_both (Compared s) (Compared r) (Written u) xs ys p q = absurd q
  took_both (Compared s) (Compared r) (Compared t) xs ys p q = Consumes-trans _ _ _ xs ys p q

  -- what was taken is the beginning of a text
  pub took_begun : (a b : Log W S) (xs ys : List ℕ) → Took contents remaining a b xs → TookPart contents remaining a b (xs ++ ys)
  took_begun (Written w) (Written v) xs ys p = (xs, p, starts xs ys)
  took_begun (Written w) (Compared r) xs ys p = p
  took_begun (Compared s) (Written v) xs ys p = p
  took_begun (Compared s) (Compared r) xs ys p = tt

  -- and so is what was taken with a part of the next
  pub took_on : (a b c : Log W S) (xs ys zs : List ℕ) → Took contents remaining a b xs → TookPart contents remaining b c ys
      → TookPart contents remaining a c (xs ++ (ys ++ zs))
  took_on (Written w) (Written v) (Written u) xs ys zs p (bs, q, h) = (xs ++ bs, Appends-trans _ _ _ xs bs p q, starts_behind xs ys zs bs h)
  took_on (Written w) (Written v) (Compared t) xs ys zs p q = absurd q
  took_on (Written w) (Compared r) c xs ys zs p q = absurd p
  took_on (Compared s) (Written v) c xs ys zs p q = absurd p
  took_on (Compared s) (Compared r) (Written u) xs ys zs p q = absurd q
  took_on (Compared s) (Compared r) (Compared t) xs ys zs p q = tt
