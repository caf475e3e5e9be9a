-- Records played one by one: what is left to do, done from here, is the whole. One turn is one step.
use Prim.Native.Nat.{ℕ, ◌+◌, ◌*◌, ◌/◌, ◌<◌, ◌≤◌}
use mathlib.Core.Path.{◌≡◌, refl, ap, sym, ◌∙◌}
use mathlib.Core.List.{List, [], ◌∷◌, ◌++◌, append-nil}
use Rattle.std.specs.Prelude.{Option, None, Some}
use native.Mathlib.Omega.{arith}
use lib.ListN.{length, get_or, take, drop, set, length-set, length-map, take-append-drop, drop_of_length-le, get_or-map}
use lib.Seq.{drop-set-lt}
use Rattle.base.specs.Lists.{parts}
use Rattle.base.specs.declared.Refusal.{Refusal}
use Rattle.base.specs.Grounds.{refusal}
use Rattle.base.proofs.Walks.{rest_on}
use Rattle.base.proofs.Writing.{filled_on, length_parts, part_at}
use Rattle.network.specs.declared.State.{State}
use Rattle.network.specs.Nets.{view, pack}
use Rattle.events.specs.declared.Outcome.{Outcome}
use Rattle.events.specs.Records.{decoded, records, Decoded}
use Rattle.events.specs.Grounds.{grounds}
use Rattle.events.specs.Steps.{unless, inner_step, record_step, refusal_number, answer_value}
use Rattle.play_events.specs.Plays.{played_state, played_refusals, played_values}
use Rattle.events.proofs.SoundStays.{Right, table_stays, record_step_right}

-- the records are so many, and the i-th is decoded from its eight bytes
pub how_many : (r : List ℕ) → length (records r) ≡ length r / 8
unfolding records
how_many r = length-map (parts (length r / 8) 8 r) decoded ∙ length_parts (length r / 8) 8 r

pub the_record : (r : List ℕ) (i : ℕ) → i < length r / 8 → get_or (records r) i (decoded []) ≡ decoded (take 8 (drop (8 * i) r))
unfolding records
the_record r i h = get_or-map decoded (parts (length r / 8) 8 r) i [] ∙ ap decoded (part_at (length r / 8) 8 r i h)

-- no record changes the table
unless_table : (s : State) (o : Option Refusal) (c : Outcome) → c.state.table ≡ s.table → (unless o s c).state.table ≡ s.table
unless_table s None c h = h
unless_table s (Some n) c h = refl

pub record_step_table : (s : State) (d : Decoded) → (record_step s d).state.table ≡ s.table
unfolding inner_step pack view
record_step_table s None = refl
record_step_table s (Some e) = unless_table s (refusal (grounds (view s) e)) _ (table_stays (view s) e)

-- a list written up to its n-th place
joined : (n i : ℕ) (l l₀ : List ℕ) {done : List ℕ} → i ≡ n → take i l ≡ done → drop n l ≡ drop n l₀ → l ≡ done ++ drop n l₀
joined n i l l₀ e a b = sym (take-append-drop n l) ∙ rw (b, ← e, a)

pub record Playing (r rf₀ vs₀ : List ℕ) (s₀ : State) (n : ℕ) (rf vs : List ℕ) (s : State) (i : ℕ) : Type 0 where
  pub within : i ≤ n
  pub many : n ≡ length r / 8
  pub right : Right s
  pub table : s.table ≡ s₀.table
  pub rf_length : length rf ≡ length rf₀
  pub vs_length : length vs ≡ length vs₀
  pub state : played_state s (drop i (records r)) ≡ played_state s₀ (records r)
  pub refusals : take i rf ++ played_refusals s (drop i (records r)) ≡ played_refusals s₀ (records r)
  pub values : take i vs ++ played_values s (drop i (records r)) ≡ played_values s₀ (records r)
  pub rf_rest : drop n rf ≡ drop n rf₀
  pub vs_rest : drop n vs ≡ drop n vs₀

module _ (r rf₀ vs₀ : List ℕ) (s₀ : State) (n : ℕ) where
  pub at_first : n ≡ length r / 8 → Right s₀ → Playing r rf₀ vs₀ s₀ n rf₀ vs₀ s₀ 0
  at_first m k = record {
    within = omega arith;
    many = m;
    right = k;
    table = refl;
    rf_length = refl;
    vs_length = refl;
    state = refl;
    refusals = refl;
    values = refl;
    rf_rest = refl;
    vs_rest = refl;
  }

  module _ (rf vs : List ℕ) (s : State) (i : ℕ) (p : Playing r rf₀ vs₀ s₀ n rf vs s i) where
    -- one more record
    module _ (more : i < n) (rooms : n ≤ length rf₀) (roomy : n ≤ length vs₀) where
      abbrev this : Decoded
      this = decoded (take 8 (drop (8 * i) r))

      left : drop i (records r) ≡ this ∷ drop (i + 1) (records r)
      left =
          let m = p.many in
          let l : i < length (records r) = omega (arith, how_many r) in
          rest_on (records r) i (decoded []) l ∙ ap (λ (d : Decoded). d ∷ drop (i + 1) (records r)) (the_record r i (omega arith))

      -- both lists have a place for it
      pub places : (i + 1 ≤ length rf) × (i + 1 ≤ length vs)
      places =
          let lr = p.rf_length in
          let lv = p.vs_length in
          (omega arith, omega arith)

      pub one_more : (a v : ℕ) (z : State) {d : Decoded} → d ≡ this → z ≡ (record_step s d).state → a ≡ refusal_number (record_step s d).answer → v ≡ answer_value (record_step s d).answer
          → Playing r rf₀ vs₀ s₀ n (set rf i a) (set vs i v) z (i + 1)
      unfolding played_state played_refusals played_values
      one_more a v z {d} isd isz' isa' isv' =
          let hr : i < length rf = omega (arith, places.0) in
          let hv : i < length vs = omega (arith, places.1) in
          let isz : z ≡ (record_step s this).state = isz' ∙ ap (λ (x : Decoded). (record_step s x).state) isd in
          let isa : a ≡ refusal_number (record_step s this).answer = isa' ∙ ap (λ (x : Decoded). refusal_number (record_step s x).answer) isd in
          let isv : v ≡ answer_value (record_step s this).answer = isv' ∙ ap (λ (x : Decoded). answer_value (record_step s x).answer) isd in
          let q = record_step_right s p.right.shaped p.right.is_sound this in
          record {
            within = omega arith;
            many = p.many;
            right = rw isz q;
            table = ap (λ (x : State). x.table) isz ∙ record_step_table s this ∙ p.table;
            rf_length = simp length-set p.rf_length;
            vs_length = simp length-set p.vs_length;
            state = rw isz (rw left at p.state);
            refusals = filled_on rf i a (played_refusals z (drop (i + 1) (records r))) hr ∙ rw (isz, isa) (rw left at p.refusals);
            values = filled_on vs i v (played_values z (drop (i + 1) (records r))) hv ∙ rw (isz, isv) (rw left at p.values);
            rf_rest = drop-set-lt n rf i a more ∙ p.rf_rest;
            vs_rest = drop-set-lt n vs i v more ∙ p.vs_rest;
          }

    -- nothing is left
    pub no_more : n ≤ i → (s ≡ played_state s₀ (records r)) × (rf ≡ played_refusals s₀ (records r) ++ drop n rf₀) × (vs ≡ played_values s₀ (records r) ++ drop n vs₀)
    unfolding played_state played_refusals played_values
    no_more h =
        let w = p.within in
        let e : i ≡ n = omega arith in
        let m = p.many in
        let z : drop i (records r) ≡ [] = drop_of_length-le (records r) {i = i} (omega (arith, how_many r)) in
        let a : take i rf ≡ played_refusals s₀ (records r) = sym (append-nil (take i rf)) ∙ (rw z at p.refusals) in
        let b : take i vs ≡ played_values s₀ (records r) = sym (append-nil (take i vs)) ∙ (rw z at p.values) in
        (rw z at p.state, joined n i rf rf₀ e a p.rf_rest, joined n i vs vs₀ e b p.vs_rest)
