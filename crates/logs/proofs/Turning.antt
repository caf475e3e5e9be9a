-- A block of single steps, record by record: what is left of it once some are played, and that one more record is one more line and one more step.
use Prim.Native.Nat.{ℕ, suc, ◌+◌, ◌-◌, ◌*◌, ◌<◌, ◌≤◌}
use mathlib.Core.Path.{◌≡◌, refl, ap, sym, subst, ◌∙◌}
use mathlib.Core.List.{List, [], ◌∷◌}
use native.Mathlib.Numerals.{add-one}
use native.Mathlib.Omega.{arith}
use lib.ListN.{length, take, drop, length-take, length-drop}
use Rattle.base.specs.Lists.{parts}
use Rattle.chassis.specs.Capacities.{most_records}
use Rattle.network.specs.declared.State.{State}
use Rattle.events.specs.declared.Outcome.{Outcome}
use Rattle.events.specs.Records.{decoded, Decoded}
use Rattle.events.specs.Reads.{Read, read_at, decoded_of}
use Rattle.events.specs.Steps.{record_step, refusal_number, answer_value}
use Rattle.events.proofs.Reading.{read_says, read_stands, kind_is_first_byte}
use Rattle.events.proofs.SoundStays.{Right, record_step_right, step_is}
use Rattle.play_events.proofs.Playing.{record_step_table}
use Rattle.blocks.specs.Blocks.{record_count, record_bytes, block_records}
use Rattle.blocks.proofs.Accepted.{length_record_bytes}
use Rattle.lines.specs.Lines.{text, texts}
use Rattle.lines.specs.code.Writing.{Written}
use Rattle.lines.proofs.Texts.{ToWrite, to_write_all, to_write_on, to_write_none}
use Rattle.logs.specs.Logs.{Ran, then_more, step_line, steps}
use Rattle.logs.specs.code.Plays.{read_line}
use Rattle.logs.proofs.Stepping.{drop_eight}

module _ (block : ℕ) (s₀ : State) (b out₀ : List ℕ) (at : ℕ) where
  abbrev many : ℕ
  many = record_count b

  -- record i
  abbrev pub this : ℕ → List ℕ
  this i = take 8 (drop (8 * i) (record_bytes b))

  abbrev pub stepped : ℕ → State → Outcome
  stepped i s = record_step s (decoded (this i))

  abbrev all : Ran
  all = steps block 0 s₀ (block_records b)

  -- what is left from record i on
  abbrev rest : ℕ → ℕ → State → Ran
  rest k i s = steps block i s (parts k 8 (drop (8 * i) (record_bytes b)))

  -- i records are played: the state and the end that they reached, and what is still to be written
  pub record Played (end i : ℕ) (s : State) (out : List ℕ) : Type 0 where
    pub below : i ≤ many
    pub right : Right s
    pub table : s.table ≡ s₀.table
    pub state : (rest (many - i) i s).state ≡ all.state
    pub lines : ToWrite out₀ at (texts all.lines) out end (texts (rest (many - i) i s).lines)
    pub short : end ≤ at + 40 * i

  pub none_played : Right s₀ → Played at 0 s₀ out₀
  unfolding block_records
  none_played w =
      let k : many ≡ many - 0 = omega arith in
      record {
        below = omega arith;
        right = w;
        table = refl;
        state = ap (λ (n : ℕ). (rest n 0 s₀).state) (sym k);
        lines = subst (λ (n : ℕ). ToWrite out₀ at (texts all.lines) out₀ at (texts (rest n 0 s₀).lines)) k (to_write_all out₀ at (texts all.lines));
        short = omega arith;
      }

  module _ (long : length b ≡ 512) (few : many ≤ most_records) where
    one : (k i : ℕ) (s : State) → Right s → i + suc k ≤ many → rest (suc k) i s ≡ then_more (step_line block i (this i) (stepped i s) ∷ []) (rest k (suc i) (stepped i s).state)
    unfolding steps parts
    one k i s w h =
        let r = length_record_bytes b long few in
        let l : length (this i) ≡ 8 = simp (length-take, length-drop) (omega arith) in
        rw (step_is s (this i) w.is_sound l, drop_eight i (record_bytes b))

    turn : (i : ℕ) (s : State) → Right s → i < many → rest (many - i) i s ≡ then_more (step_line block i (this i) (stepped i s) ∷ []) (rest (many - (i + 1)) (i + 1) (stepped i s).state)
    turn i s w h =
        let k : many - i ≡ suc (many - (i + 1)) = omega arith in
        ap (λ (n : ℕ). rest n i s) k ∙ one (many - (i + 1)) i s w (omega arith) ∙ rw (add-one i)

    -- the line of a record, by what was read of it
    same_line : (i : ℕ) (o : Outcome) (x : Read) → x ≡ read_at block i (this i) → (n v : ℕ) → n ≡ refusal_number o.answer → v ≡ answer_value o.answer → read_line x n v ≡ step_line block i (this i) o
    same_line i o x isx n v isn isv =
        let at = read_stands block i (this i) in
        rw (isx, at.0, at.1, kind_is_first_byte block i (this i), isn, isv)

    -- x is read, and its step d is done with what n and v say
    pub one_played : {end i : ℕ} {s : State} {out : List ℕ} → Played end i s out → i < many → {x : Read} → x ≡ read_at block i (this i) → {d : Decoded} → d ≡ decoded_of x
        → {s' : State} → s' ≡ (record_step s d).state → {n v : ℕ} → n ≡ refusal_number (record_step s d).answer → v ≡ answer_value (record_step s d).answer
        → {q : ℕ} {z : List ℕ} → Written out end (text (read_line x n v)) z q × (q ≤ end + 40) → Played q (i + 1) s' z
    unfolding texts
    one_played {end} {i} {s} {out} p h {x} isx {d} isd {s'} iss' {n} {v} isn' isv' {q} {z} w =
        let dec : d ≡ decoded (this i) = isd ∙ ap decoded_of isx ∙ read_says block i (this i) in
        let iss : s' ≡ (stepped i s).state = rw dec at iss' in
        let isn : n ≡ refusal_number (stepped i s).answer = rw dec at isn' in
        let isv : v ≡ answer_value (stepped i s).answer = rw dec at isv' in
        let t = turn i s p.right h in
        let far = p.short in
        let near = w.1 in
        let line = ap text (same_line i (stepped i s) x isx n v isn isv) in
        let on = to_write_on (rw t at p.lines) (rw line at w.0) in
        subst (λ (y : State). Played q (i + 1) y z) (sym iss) (record {
          below = omega arith;
          right = record_step_right s p.right.shaped p.right.is_sound (decoded (this i));
          table = record_step_table s (decoded (this i)) ∙ p.table;
          state = sym (ap (λ (r : Ran). r.state) t) ∙ p.state;
          lines = on;
          short = omega arith;
        })

    pub all_played : {end i : ℕ} {s : State} {out : List ℕ} → Played end i s out → many ≤ i → (s ≡ all.state) × Written out₀ at (texts all.lines) out end × (end ≤ at + 2560)
    unfolding steps texts parts
    all_played {end} {i} {s} {out} p h =
        let k : many - i ≡ 0 = omega arith in
        let far = p.short in
        let most = p.below in
        ((rw k at p.state), to_write_none (rw k at p.lines), omega arith)
