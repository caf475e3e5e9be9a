-- The lines of a block of single steps: one more record is one more line, and together they are what the definition prints.
use Prim.Native.Nat.{ℕ, zero, suc, ◌+◌, ◌-◌, ◌*◌, ◌/◌, ◌<◌, ◌≤◌}
use mathlib.Core.Path.{◌≡◌, refl, ap, sym, ◌∙◌}
use mathlib.Core.List.{List, [], ◌∷◌, ◌++◌, map}
use native.Mathlib.Numerals.{add-one}
use native.Mathlib.Omega.{arith}
use lib.ListN.{length, get_or, take, drop, length-take, length-drop, length-map, get_or-append}
use lib.Seq.{drop-drop}
use Rattle.base.specs.Lists.{parts}
use Rattle.network.specs.declared.State.{State}
use Rattle.base.proofs.Writing.{length_parts}
use Rattle.chassis.specs.Capacities.{most_records}
use Rattle.events.specs.Records.{decoded, records, Decoded}
use Rattle.events.specs.Steps.{step, record_step, refusal_number, answer_value}
use Rattle.play_events.specs.Plays.{played_state, played_refusals, played_values}
use Rattle.events.proofs.SoundStays.{Right, record_step_right, step_is}
use Rattle.events.proofs.Reading.{first_byte}
use Rattle.blocks.specs.Blocks.{byte, record_count, record_bytes, block_records}
use Rattle.blocks.proofs.Accepted.{length_record_bytes}
use Rattle.lines.specs.Lines.{e, text, texts}
use Rattle.logs.specs.Logs.{steps, value_lines}
use Rattle.logs.specs.code.Plays.{step_texts}

module _ (block : ℕ) (r fs vs : List ℕ) (n i : ℕ) where
  pub texts_turn : i < n → step_texts block r fs vs (n - i) i ≡ text (e block i (byte r (8 * i)) (get_or fs i 0) (get_or vs i 0)) ++ step_texts block r fs vs (n - (i + 1)) (i + 1)
  unfolding step_texts
  texts_turn h =
      let k : n - i ≡ suc (n - (i + 1)) = omega arith in
      ap (λ (m : ℕ). step_texts block r fs vs m i) k ∙ rw (add-one i)

  pub texts_over : n ≤ i → step_texts block r fs vs (n - i) i ≡ []
  unfolding step_texts
  texts_over h =
      let k : n - i ≡ 0 = omega arith in
      ap (λ (m : ℕ). step_texts block r fs vs m i) k

-- ---- what the definition prints

-- the next eight bytes
pub drop_eight : (i : ℕ) (r : List ℕ) → drop 8 (drop (8 * i) r) ≡ drop (8 * suc i) r
drop_eight i r =
    let e : 8 * i + 8 ≡ 8 * suc i = omega arith in
    drop-drop 8 (8 * i) r ∙ ap (λ (n : ℕ). drop n r) e

-- numbers that a list holds from place i on
abbrev Holds : List ℕ → ℕ → ℕ → List ℕ → Type 0
Holds l i k vs = (j : ℕ) → j < k → get_or l (i + j) 0 ≡ get_or vs j 0

holds_first : (l : List ℕ) (i k : ℕ) (v : ℕ) (vs : List ℕ) → Holds l i (suc k) (v ∷ vs) → get_or l i 0 ≡ v
holds_first l i k v vs h =
    let e : i ≡ i + 0 = omega arith in
    ap (λ (n : ℕ). get_or l n 0) e ∙ h 0 (omega arith)

holds_rest : (l : List ℕ) (i k : ℕ) (v : ℕ) (vs : List ℕ) → Holds l i (suc k) (v ∷ vs) → Holds l (suc i) k vs
holds_rest l i k v vs h j b =
    let e : suc i + j ≡ i + suc j = omega arith in
    ap (λ (n : ℕ). get_or l n 0) e ∙ h (suc j) (omega arith)

module _ (block : ℕ) (r fs vs : List ℕ) where
  abbrev left : ℕ → ℕ → List (List ℕ)
  left k i = parts k 8 (drop (8 * i) r)

  record Stepped (k i : ℕ) (s : State) : Type 0 where
    state : (steps block i s (left k i)).state ≡ played_state s (map decoded (left k i))
    lines : texts (steps block i s (left k i)).lines ≡ step_texts block r fs vs k i

  none_left : (i : ℕ) (s : State) → Stepped zero i s
  unfolding steps played_state texts step_texts parts
  none_left i s = record { state = refl; lines = refl }

  abbrev this : ℕ → List ℕ
  this i = take 8 (drop (8 * i) r)

  abbrev then_state : ℕ → State → State
  then_state i s = (record_step s (decoded (this i))).state

  rest_f : (k i : ℕ) (s : State) → Holds fs i (suc k) (played_refusals s (map decoded (left (suc k) i))) → Holds fs (suc i) k (played_refusals (then_state i s) (map decoded (left k (suc i))))
  unfolding parts played_refusals
  rest_f k i s f = rw (drop_eight i r) at (holds_rest fs i k (refusal_number (record_step s (decoded (this i))).answer) (played_refusals (then_state i s) (map decoded (parts k 8 (drop 8 (drop (8 * i) r))))) f)

  rest_v : (k i : ℕ) (s : State) → Holds vs i (suc k) (played_values s (map decoded (left (suc k) i))) → Holds vs (suc i) k (played_values (then_state i s) (map decoded (left k (suc i))))
  unfolding parts played_values
  rest_v k i s v = rw (drop_eight i r) at (holds_rest vs i k (answer_value (record_step s (decoded (this i))).answer) (played_values (then_state i s) (map decoded (parts k 8 (drop 8 (drop (8 * i) r))))) v)

  first_f : (k i : ℕ) (s : State) → Holds fs i (suc k) (played_refusals s (map decoded (left (suc k) i))) → get_or fs i 0 ≡ refusal_number (record_step s (decoded (this i))).answer
  unfolding parts played_refusals
  first_f k i s f = holds_first fs i k (refusal_number (record_step s (decoded (this i))).answer) (played_refusals (then_state i s) (map decoded (parts k 8 (drop 8 (drop (8 * i) r))))) f

  first_v : (k i : ℕ) (s : State) → Holds vs i (suc k) (played_values s (map decoded (left (suc k) i))) → get_or vs i 0 ≡ answer_value (record_step s (decoded (this i))).answer
  unfolding parts played_values
  first_v k i s v = holds_first vs i k (answer_value (record_step s (decoded (this i))).answer) (played_values (then_state i s) (map decoded (parts k 8 (drop 8 (drop (8 * i) r))))) v

  one_more : (k i : ℕ) (s : State) → get_or fs i 0 ≡ refusal_number (record_step s (decoded (this i))).answer → get_or vs i 0 ≡ answer_value (record_step s (decoded (this i))).answer
      → step s (this i) ≡ record_step s (decoded (this i)) → Stepped k (suc i) (then_state i s) → Stepped (suc k) i s
  unfolding steps played_state texts step_texts parts
  one_more k i s f v q ih = record {
    state = rw (q, drop_eight i r) ih.state;
    lines = rw (q, drop_eight i r, first_byte i r, ← f, ← v) (ap (λ (l : List ℕ). text (e block i (byte r (8 * i)) (get_or fs i 0) (get_or vs i 0)) ++ l) ih.lines);
  }

  stepped : (k i : ℕ) (s : State) → Right s → 8 * (i + k) ≤ length r → Holds fs i k (played_refusals s (map decoded (left k i))) → Holds vs i k (played_values s (map decoded (left k i))) → Stepped k i s
  stepped zero i s w b f v = none_left i s
  stepped (suc k) i s w b f v =
      let l : length (this i) ≡ 8 = simp (length-take, length-drop) (omega arith) in
      one_more k i s (first_f k i s f) (first_v k i s v) (step_is s (this i) w.is_sound l)
      (stepped k (suc i) (then_state i s) (record_step_right s w.shaped w.is_sound (decoded (this i))) (omega arith) (rest_f k i s f) (rest_v k i s v))

-- ---- a whole block

refusals_length : (s : State) (ds : List Decoded) → length (played_refusals s ds) ≡ length ds
unfolding played_refusals
refusals_length s [] = refl
refusals_length s (d ∷ ds) = ap suc (refusals_length (record_step s d).state ds)

values_length : (s : State) (ds : List Decoded) → length (played_values s ds) ≡ length ds
unfolding played_values
values_length s [] = refl
values_length s (d ∷ ds) = ap suc (values_length (record_step s d).state ds)

-- a list that begins so holds so
holds_front : (l p q : List ℕ) (k : ℕ) → l ≡ p ++ q → length p ≡ k → Holds l 0 k p
holds_front l p q k is n j h =
    let z : 0 + j ≡ j = omega arith in
    ap (λ (i : ℕ). get_or l i 0) z ∙ rw is (get_or-append p q 0 j (omega arith))

module _ (block : ℕ) (b fs vs more-f more-v : List ℕ) (s : State) (w : Right s) (long : length b ≡ 512) (few : record_count b ≤ most_records) where
  abbrev r : List ℕ
  r = record_bytes b

  pub how_many_records : length r / 8 ≡ record_count b
  how_many_records = let l = length_record_bytes b long few in omega arith

  same_records : records r ≡ map decoded (parts (record_count b) 8 r)
  unfolding records
  same_records = ap (λ (k : ℕ). map decoded (parts k 8 r)) how_many_records

  ds_length : length (map decoded (parts (record_count b) 8 r)) ≡ record_count b
  ds_length = length-map (parts (record_count b) 8 r) decoded ∙ length_parts (record_count b) 8 r

  pub block_stepped : fs ≡ played_refusals s (records r) ++ more-f → vs ≡ played_values s (records r) ++ more-v
      → ((steps block 0 s (block_records b)).state ≡ played_state s (records r)) × (texts (steps block 0 s (block_records b)).lines ≡ step_texts block r fs vs (record_count b) 0)
  unfolding block_records
  block_stepped f v =
      let k = record_count b in
      let ds = map decoded (parts k 8 r) in
      let l = length_record_bytes b long few in
      let q = stepped block r fs vs k 0 s w (omega arith)
      (holds_front fs (played_refusals s ds) more-f k (f ∙ ap (λ (x : List Decoded). played_refusals s x ++ more-f) same_records) (refusals_length s ds ∙ ds_length))
      (holds_front vs (played_values s ds) more-v k (v ∙ ap (λ (x : List Decoded). played_values s x ++ more-v) same_records) (values_length s ds ∙ ds_length)) in
      (q.state ∙ ap (played_state s) (sym same_records), q.lines)

-- ---- a tick's lines

module _ (block : ℕ) (r fs vs : List ℕ) (clean : (j : ℕ) → get_or fs j 0 ≡ 0) where
  value_texts : (k i : ℕ) (out : List ℕ) → length out ≡ k → Holds vs i k out → texts (value_lines block i (parts k 8 (drop (8 * i) r)) out) ≡ step_texts block r fs vs k i
  unfolding value_lines texts step_texts parts
  value_texts zero i out n h = refl
  value_texts (suc k) i [] n h = absurd (omega arith)
  value_texts (suc k) i (v ∷ out) n h =
      rw (first_byte i r, drop_eight i r, clean i, holds_first vs i k v out h)
      (ap (λ (l : List ℕ). text (e block i (byte r (8 * i)) 0 v) ++ l) (value_texts k (suc i) out (omega arith) (holds_rest vs i k v out h)))

  -- the `e` lines of an accepted tick block, from the values that playing it left
  pub tick_texts : (b out more : List ℕ) → r ≡ record_bytes b → length out ≡ record_count b → vs ≡ out ++ more → texts (value_lines block 0 (block_records b) out) ≡ step_texts block r fs vs (record_count b) 0
  unfolding block_records
  tick_texts b out more isr n isv =
      ap (λ (l : List ℕ). texts (value_lines block 0 (parts (record_count b) 8 l) out)) (sym isr)
      ∙ value_texts (record_count b) 0 out n (holds_front vs out more (record_count b) isv n)
