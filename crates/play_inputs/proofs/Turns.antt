-- One turn of `play_input`: the next bytes are read, what they print is handed on, and the rest of the log is left.
use Rattle.std.proofs.Common.{◌≡◌, ℕ, ◌+◌, ◌≤◌, true, false, Bool, not, List, [], ◌++◌, Option, Some, None, IfSome, Result, Ok, Err, refl, sym, ap, ◌∙◌, subst, arith, length, take, drop, append_assoc, append-nil, add-one, inl, inr, take_all, drop_of_length-le, length-take-le, drop_at}
use Rattle.std.proofs.lemmas.List.{take_at}
use borrow.Author.Tests.{not-true}
use Rattle.base.proofs.Logic.{less_or_same, split, true_false}
use Rattle.network.specs.declared.State.{State}
use Rattle.network.specs.Opening.{zero_state}
use Rattle.lines.specs.Lines.{texts}
use Rattle.lines.specs.code.Writing.{Written}
use Rattle.logs.specs.Logs.{log}
use Rattle.run_inputs.specs.Inputs.{next_goes_on, next_state, next_lines}
use Rattle.events.proofs.SoundStays.{Right}
use Rattle.run_inputs.proofs.Going.{next_right}
use Rattle.run_inputs.proofs.Turning.{left_lines, left_on, left_last, left_all}
use Rattle.run_inputs.proofs.Printing.{written_read}
use Rattle.play_inputs.specs.declared.Log.{Log}
use Rattle.play_inputs.specs.declared.PlayError.{PlayError}
use Rattle.std.specs.Result.{IsErr}
use Rattle.play_inputs.specs.Known.{BlockRead, Took, TookPart, EndedAs, EndedWithLog}
use Rattle.play_inputs.proofs.Taking.{took_nothing, took_both, took_begun, took_on}

pub if_some : {P Q : List ℕ → Type 0} (o : Option (List ℕ)) → ((xs : List ℕ) → P xs → Q xs) → IfSome o P → IfSome o Q
if_some None f h = tt
if_some (Some xs) f h = f xs h

-- behind a block that is read on from the state is sound
pub right_on : (place : ℕ) (s z : State) (b : List ℕ) (going : Bool) → ((place ≡ 0 → ⊥) → Right s) → z ≡ next_state place s b → going ≡ next_goes_on place b → going ≡ true → Right z
right_on place s z b going w h g t = subst Right (sym h) (next_right place s b w (sym g ∙ t))

-- of a reader that has `rest` left the bytes of a block are the next 512, or all that there are
record NextRead (rest : List ℕ) (left : Option (List ℕ)) (bytes : List ℕ) : Type 0 where
  pub bytes_are : bytes ≡ take 512 rest
  pub left_are : left ≡ Some (drop 512 rest)

all_read : (rest bytes ys : List ℕ) → rest ≡ bytes ++ ys → ys ≡ [] → length bytes ≤ 512 → NextRead rest (Some ys) bytes
all_read rest bytes ys e z h =
    let same : rest ≡ bytes = e ∙ ap (λ l. bytes ++ l) z ∙ append-nil bytes in
    let short : length rest ≤ 512 = subst (λ l. length l ≤ 512) (sym same) h in record {
      bytes_are = sym same ∙ sym (take_all 512 rest short);
      left_are = ap Some (z ∙ sym (drop_of_length-le rest short));
    }

block_read : (rest bytes ys : List ℕ) → rest ≡ bytes ++ ys → length bytes ≡ 512 → NextRead rest (Some ys) bytes
block_read rest bytes ys e h = record {
  bytes_are = sym (ap (take 512) e ∙ take_at bytes ys 512 h);
  left_are = ap Some (sym (ap (drop 512) e ∙ drop_at bytes ys 512 h));
}

next_read : (rest block : List ℕ) (left : Option (List ℕ)) (n : ℕ) → n ≤ 512 → length block ≡ 512 → BlockRead (Some rest) left (Some n) block
    → NextRead rest left (take n block)
next_read rest block None n h e read = absurd read.0
next_read rest block (Some ys) n h e read =
    let long : length (take n block) ≡ n = length-take-le n block (omega (arith, h, e)) in
    elim (less_or_same n 512 h) [
      | inl l ↦ all_read rest (take n block) ys read.0 (read.1 (omega (arith, l, e))) (omega (arith, long, h))
      | inr s ↦ block_read rest (take n block) ys read.0 (long ∙ s)
    ]

module _ {W S : Type 0} (contents : W → Option (List ℕ)) (remaining : S → Option (List ℕ)) where
  -- before place `place`: the log took what the blocks so far printed, and what is left of the input prints the rest
  pub record Left (old new : Log W S) (s : State) (place : ℕ) (left : Option (List ℕ)) (input : List ℕ) : Type 0 where
    pub done : List ℕ
    pub rest : List ℕ
    pub left_are : left ≡ Some rest
    pub took : Took contents remaining old new done
    pub whole : log input ≡ done ++ texts (left_lines place s rest)

  pub left_at_first : (a : Log W S) (input : Option (List ℕ)) → IfSome input (Left a a zero_state 0 input)
  left_at_first a None = tt
  left_at_first a (Some xs) = record { done = []; rest = xs; left_are = refl; took = took_nothing contents remaining a; whole = sym (left_all xs) }

  -- the input cannot be read on
  pub ends_unread : {old new : Log W S} {s : State} {place : ℕ} {left : Option (List ℕ)} (input : List ℕ) → Left old new s place left input
      → TookPart contents remaining old new (log input)
  ends_unread {old} {new} input l = subst (TookPart contents remaining old new) (sym l.whole) (took_begun contents remaining old new l.done _ l.took)

  -- nothing but a beginning was taken, and that is said
  failed : (old new : Log W S) (r : Result Unit PlayError) (text : List ℕ) → IsErr r → TookPart contents remaining old new text → EndedAs contents remaining r old new text
  failed old new (Ok u) text e took = absurd (true_false (sym e))
  failed old new (Err f) text e took = took

  module _ (old mid new : Log W S) (s : State) (place : ℕ) (left next input : Option (List ℕ)) (before block out page : List ℕ) (got : Option ℕ) (n end : ℕ) (is : got ≡ Some n)
      (full : length before ≡ 512) (kept : length block ≡ length before) (within : IfSome got (λ n. n ≤ length before)) (read : BlockRead left next got block)
      (written : Written out 0 (texts (next_lines place s (take n block))) page end) (room : end ≤ length out) (lefts : IfSome input (Left old mid s place left)) where
    text : List ℕ
    text = take end page

    module _ (whole : List ℕ) (l : Left old mid s place left whole) where
      here : NextRead l.rest next (take n block)
      here =
          let fits : n ≤ 512 = omega (arith, rw is at within, full) in
          next_read l.rest block next n fits (kept ∙ full) (rw (is, l.left_are) at read)

      printed : text ≡ texts (next_lines place s (take 512 l.rest))
      unfolding text
      printed = subst (λ b. text ≡ texts (next_lines place s b)) here.bytes_are (written_read written (omega (arith, written.behind, room)))

      on : next_goes_on place (take n block) ≡ true → log whole ≡ (l.done ++ text) ++ texts (left_lines (place + 1) (next_state place s (take n block)) (drop 512 l.rest))
      on g =
          let r = here in
          let p = printed in
          rw (r.bytes_are, p, add-one)
          (l.whole ∙ ap (λ t. l.done ++ t) (left_on place s l.rest (rw r.bytes_are at g)) ∙ sym (append_assoc l.done _ _))

      off : next_goes_on place (take n block) ≡ false → log whole ≡ l.done ++ (text ++ [])
      off g =
          let r = here in
          let p = printed in
          rw p (l.whole ∙ ap (λ t. l.done ++ t) (left_last place s l.rest (rw r.bytes_are at g)))

      part : (zs : List ℕ) × (log whole ≡ l.done ++ (text ++ zs))
      part =
          split (next_goes_on place (take n block))
          (λ g. (texts (left_lines (place + 1) (next_state place s (take n block)) (drop 512 l.rest)), on g ∙ append_assoc l.done text _))
          (λ g. ([], off g))

      goes_on_so : next_goes_on place (take n block) ≡ true → Took contents remaining mid new text → Left old new (next_state place s (take n block)) (place + 1) next whole
      goes_on_so g took = record {
        done = l.done ++ text;
        rest = drop 512 l.rest;
        left_are = here.left_are;
        took = took_both contents remaining old mid new l.done text l.took took;
        whole = on g;
      }

      ends_cut_so : TookPart contents remaining mid new text → TookPart contents remaining old new (log whole)
      ends_cut_so took = let (zs, e) = part in subst (TookPart contents remaining old new) (sym e) (took_on contents remaining old mid new l.done text zs l.took took)

      ends_so : (ended : Log W S) (r : Result Unit PlayError) → next_goes_on place (take n block) ≡ false → Took contents remaining mid new text
          → EndedAs contents remaining r new ended [] → EndedWithLog contents remaining r old ended whole
      ends_so ended (Ok u) g took e =
          let all = took_both contents remaining old mid ended l.done (text ++ []) l.took (took_both contents remaining mid new ended text [] took e.0) in
          (subst (Took contents remaining old ended) (sym (off g)) all, e.1)
      ends_so ended (Err f) g took e =
          let some = took_on contents remaining old new ended (l.done ++ text) [] [] (took_both contents remaining old mid new l.done text l.took took) e in
          subst (TookPart contents remaining old ended) (append_assoc l.done text [] ∙ sym (off g)) some

    -- the input goes on behind a block that was handed on
    pub goes_on : (z : State) (going : Bool) → z ≡ next_state place s (take n block) → going ≡ next_goes_on place (take n block) → going ≡ true → Took contents remaining mid new (take end page)
        → IfSome input (Left old new z (place + 1) next)
    unfolding text
    goes_on z going h g t took = rw h (if_some input (λ whole l. goes_on_so whole l (sym g ∙ t) took) lefts)

    -- a block's lines could not be handed on
    pub ends_cut : (r : Result Unit PlayError) → IsErr r → TookPart contents remaining mid new (take end page) → IfSome input (EndedWithLog contents remaining r old new)
    unfolding text
    ends_cut r e took = if_some input (λ whole l. failed old new r (log whole) e (ends_cut_so whole l took)) lefts

    -- the input is at its end
    pub ends : (ended : Log W S) (r : Result Unit PlayError) (going : Bool) → going ≡ next_goes_on place (take n block) → not going ≡ true → Took contents remaining mid new (take end page)
        → EndedAs contents remaining r new ended [] → IfSome input (EndedWithLog contents remaining r old ended)
    unfolding text
    ends ended r going g n took e = if_some input (λ whole l. ends_so whole l ended r (sym g ∙ not-true going n) took e) lefts
