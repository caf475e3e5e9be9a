-- One turn of `run`: the next bytes are played, what they print goes into the buffer, and the rest of the log is left.
use Prim.Native.Nat.{ℕ, ◌+◌, ◌≤◌}
use mathlib.Core.Path.{◌≡◌, ap, ◌∙◌}
use mathlib.Core.Bool.{true, false}
use mathlib.Core.List.{List}
use native.Mathlib.Numerals.{add-one}
use native.Mathlib.Omega.{arith}
use lib.ListN.{length, take, drop}
use lib.Seq.{sets}
use Rattle.network.specs.declared.State.{State}
use Rattle.lines.specs.Lines.{texts}
use Rattle.lines.specs.code.Writing.{Written}
use Rattle.lines.proofs.Texts.{ToWrite, to_write_on, to_write_none}
use Rattle.logs.specs.Logs.{log}
use Rattle.run_inputs.specs.Printed.{printed_into}
use Rattle.run_inputs.specs.Inputs.{next_goes_on, next_state, next_lines}
use Rattle.run_inputs.proofs.Turning.{left_lines, left_on, left_last}
use Rattle.run_inputs.proofs.Printing.{sets_are_printed, written_read}

-- before place `place`, where the input is read up to `at` and the log is printed up to `end`: what is left to be printed
pub record Left (input before out : List ℕ) (s : State) (place at end : ℕ) : Type 0 where
  pub rest : ToWrite before 0 (log input) out end (texts (left_lines place s (drop at input)))

module _ {input before out after text page b : List ℕ} {s : State} {place at end n : ℕ} (e : ℕ) (left : Left input before out s place at end)
    (part : b ≡ take 512 (drop at input)) (rest : drop e input ≡ drop 512 (drop at input))
    (written : Written text 0 (texts (next_lines place s b)) page n) (room : n ≤ length text) (put : after ≡ sets out end (take n page)) where
  printed : Written out end (texts (next_lines place s (take 512 (drop at input)))) after (end + n)
  printed =
      let w = rw part at written in
      record {
        behind = omega (arith, w.behind);
        stored = put ∙ ap (sets out end) (written_read w (omega (arith, w.behind)));
      }

  pub runs_on : next_goes_on place b ≡ true → Left input before after (next_state place s b) (place + 1) e (end + n)
  runs_on g = record {
    rest = rw (rest, part, add-one) (to_write_on (rw (left_on place s (drop at input) (rw part at g)) at left.rest) printed);
  }

  pub run_ends : next_goes_on place b ≡ false → (end + n ≡ length (log input)) × (after ≡ printed_into before (log input))
  run_ends g =
      let w = to_write_none (to_write_on (rw (left_last place s (drop at input) (rw part at g)) at left.rest) printed) in
      (omega (arith, w.behind), w.stored ∙ sets_are_printed before (log input))
