-- Writing into a lent buffer: two writings one behind the other are one, also where a loop has still to write the rest.
-- The idea: stores one behind the other are one run of stores, so a text may be cut wherever the code cuts it.
use Prim.Native.Nat.{ℕ, ◌+◌, ◌-◌, ◌/◌, ◌%◌, ◌<◌, ◌≤◌}
use mathlib.Core.Path.{◌≡◌, refl, ap, sym, ◌∙◌}
use mathlib.Core.List.{List, [], ◌∷◌, ◌++◌, append_assoc}
use native.Mathlib.Numerals.{add-one}
use native.Mathlib.Omega.{arith}
use lib.ListN.{length, get_or, take, drop, set, length-append}
use borrow.Rule.Slice.PartMut.{put_mid}
use lib.Seq.{sets, sets-eq, length-sets, drop-cons, drop-drop}
use Rattle.base.proofs.Writing.{sets_on}
use Rattle.lines.specs.Lines.{e, decimal, numbers, line_of, text}
use Rattle.lines.specs.code.Writing.{Written}
use Rattle.lines.proofs.Decimals.{Fit, room, numbers_short, decimal_one, decimal_more, decimal_longer}

pub written_one : (o : List ℕ) (at x : ℕ) → Written o at (x ∷ []) (set o at x) (at + 1)
written_one o at x = record { behind = refl; stored = refl }

-- a part of the buffer is copied
pub written_part : (o : List ℕ) (at : ℕ) (word part : List ℕ) → part ≡ word → at + length word ≤ length o → Written o at word (put_mid at (at + length word - at) o part) (at + length word)
written_part o at word part same h =
    let n : at + length word - at ≡ length word = omega arith in
    record { behind = refl; stored = rw (same, n, drop-drop) (sym (append_assoc (take at o) word (drop (at + length word) o)) ∙ sym (sets-eq word o at h)) }

pub written_on : {o p q : List ℕ} {at r s : ℕ} {xs ys : List ℕ} → Written o at xs p r → Written p r ys q s → Written o at (xs ++ ys) q s
written_on {o} {p} {q} {at} {r} {s} {xs} {ys} w v = record {
  behind = rw length-append (omega (arith, w.behind, v.behind));
  stored = v.stored ∙ rw (w.stored, w.behind, sets_on);
}

pub written_length : {o p : List ℕ} {at r : ℕ} {xs : List ℕ} → Written o at xs p r → length p ≡ length o
written_length {o} {p} {at} {r} {xs} w = ap length w.stored ∙ length-sets o at xs

-- of `bytes` from `at` on in `before`, `rest` has still to be written from `place` on in `out`
pub record ToWrite (before : List ℕ) (at : ℕ) (bytes out : List ℕ) (place : ℕ) (rest : List ℕ) : Type 0 where
  pub reached : place + length rest ≡ at + length bytes
  pub stored : sets out place rest ≡ sets before at bytes

pub to_write_all : (o : List ℕ) (at : ℕ) (bytes : List ℕ) → ToWrite o at bytes o at bytes
to_write_all o at bytes = record { reached = refl; stored = refl }

module _ {o : List ℕ} {at : ℕ} {bytes out : List ℕ} {place : ℕ} where
  pub to_write_on : {xs rest p : List ℕ} {r : ℕ} → ToWrite o at bytes out place (xs ++ rest) → Written out place xs p r → ToWrite o at bytes p r rest
  to_write_on {xs} {rest} {p} {r} l w = record {
    reached = omega (arith, w.behind, rw length-append at l.reached);
    stored = rw (w.stored, w.behind, sets_on) l.stored;
  }

  pub to_write_none : ToWrite o at bytes out place [] → Written o at bytes out place
  to_write_none l = record { behind = omega (arith, l.reached); stored = l.stored }

  pub to_write_length : {rest : List ℕ} → ToWrite o at bytes out place rest → length out ≡ length o
  to_write_length {rest} l = sym (length-sets out place rest) ∙ ap length l.stored ∙ length-sets o at bytes

pub numbers_turn : (ns : List ℕ) (i : ℕ) → i < length ns → numbers (drop i ns) ≡ (32 ∷ decimal (get_or ns i 0)) ++ numbers (drop (i + 1) ns)
unfolding numbers
numbers_turn ns i h = rw (drop-cons ns i 0, add-one)

-- a number's digits are those of its tenth and the last one
pub written_last : {o p : List ℕ} {at r : ℕ} (n : ℕ) → 10 ≤ n → Written o at (decimal (n / 10)) p r → Written o at (decimal n) (set p r (48 + n % 10)) (r + 1)
written_last {p = p} {r = r} n h w = rw (decimal_more n h) (written_on w (written_one p r (48 + n % 10)))

pub length_line : (word ns : List ℕ) → length (line_of word ns) ≡ length word + length (numbers ns) + 1
length_line word ns = rw (length-append, length-append)

pub line_within : (word ns ks : List ℕ) → Fit ns ks → length (line_of word ns) ≤ length word + room ks + 1
line_within word ns ks h = omega (arith, length_line word ns, numbers_short ns ks h)

-- no line is longer than the writers ask room for
pub net_short : (a b c : ℕ) → a < 256 → b < 256 → c < 256 → length (line_of (110 ∷ 101 ∷ 116 ∷ []) (a ∷ b ∷ c ∷ [])) ≤ 40
net_short a b c h i j =
    omega (arith, line_within (110 ∷ 101 ∷ 116 ∷ []) (a ∷ b ∷ c ∷ []) (3 ∷ 3 ∷ 3 ∷ []) (omega arith, (omega arith, (omega arith, tt))))

pub e_short : (a b c d v : ℕ) → a < 4294967296 → b < 4294967296 → c < 256 → d < 256 → v < 65536 → length (line_of (101 ∷ []) (a ∷ b ∷ c ∷ d ∷ v ∷ [])) ≤ 40
e_short a b c d v h i j k l =
    omega (
      arith,
      line_within (101 ∷ []) (a ∷ b ∷ c ∷ d ∷ v ∷ []) (10 ∷ 10 ∷ 3 ∷ 3 ∷ 5 ∷ [])
          (omega arith, (omega arith, (omega arith, (omega arith, (omega arith, tt))))),
    )

pub t_short : (a b c d : ℕ) → a < 4294967296 → b < 256 → c < 256 → d < 256 → length (line_of (116 ∷ []) (a ∷ b ∷ c ∷ d ∷ [])) ≤ 40
t_short a b c d h i j k =
    omega (arith, line_within (116 ∷ []) (a ∷ b ∷ c ∷ d ∷ []) (10 ∷ 3 ∷ 3 ∷ 3 ∷ []) (omega arith, (omega arith, (omega arith, (omega arith, tt)))))

pub stop_short : (a b : ℕ) → a < 4294967296 → b < 256 → length (line_of (115 ∷ 116 ∷ 111 ∷ 112 ∷ []) (a ∷ b ∷ [])) ≤ 40
stop_short a b h i = omega (arith, line_within (115 ∷ 116 ∷ 111 ∷ 112 ∷ []) (a ∷ b ∷ []) (10 ∷ 3 ∷ []) (omega arith, (omega arith, tt)))

pub end_short : (a : ℕ) → a < 4294967296 → length (line_of (101 ∷ 110 ∷ 100 ∷ []) (a ∷ [])) ≤ 40
end_short a h = omega (arith, line_within (101 ∷ 110 ∷ 100 ∷ []) (a ∷ []) (10 ∷ []) (omega arith, tt))

-- a block's place has at most five digits and a record's at most two
pub e_line_short : (block place kind refusal value : ℕ) → block < 65537 → place < 64 → kind < 256 → refusal < 256 → value < 65536
    → length (text (e block place kind refusal value)) ≤ 25
unfolding text
e_line_short a b c d v ha hb hc hd hv =
    omega (
      arith,
      line_within (101 ∷ []) (a ∷ b ∷ c ∷ d ∷ v ∷ []) (5 ∷ 2 ∷ 3 ∷ 3 ∷ 5 ∷ [])
          (omega arith, (omega arith, (omega arith, (omega arith, (omega arith, tt))))),
    )

-- what src/lib.rt has the check try at every goal
pub ruleset writing = (decimal_one, decimal_longer, written_one, written_part, written_length, written_last, net_short, e_short, t_short, stop_short, end_short)
