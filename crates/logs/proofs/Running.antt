-- From block to block the state stays sound: a table that passes opens a sound network, single steps keep it so, and no
-- step comes before the table.
use Prim.Native.Nat.{ℕ, zero, suc, ◌*◌}
use mathlib.Core.Path.{◌≡◌, refl, ap, sym, subst, ◌∙◌}
use mathlib.Core.Bool.{Bool, true, false, not, ◌&&◌, ◌||◌}
use mathlib.Core.List.{List, [], ◌∷◌, append-nil}
use Rattle.std.specs.Prelude.{Option, None, Result, Ok, Err}
use native.Mathlib.Omega.{arith}
use borrow.Author.Tests.{eq-eqb, not-true}
use lib.ListN.{length, replicate, length-map}
use lib.Seq.{slice, length-slice}
use lib.Dec.{eqb, leb}
use Rattle.base.specs.declared.Refusal.{Refusal}
use Rattle.base.specs.Grounds.{refusal, answer}
use Rattle.base.proofs.Logic.{split, and_true, or_false, true_false, both}
use Rattle.base.proofs.Grounds.{clear, unclear}
use Rattle.chassis.specs.declared.Table.{Table}
use Rattle.chassis.specs.Numbers.{bus}
use Rattle.chassis.specs.Answers.{table_answer}
use Rattle.chassis.specs.Tables.{table_grounds, table_passes, unused_are_zero}
use Rattle.chassis.specs.Capacities.{most_records}
use Rattle.queue.specs.declared.Channel.{Channel}
use Rattle.network.specs.declared.State.{State}
use Rattle.lent_states.specs.Held.{held}
use Rattle.lent_states.proofs.Held.{is_held}
use Rattle.network.specs.Nets.{pack, empty_net}
use Rattle.network.specs.Opening.{opened, state_by}
use Rattle.network.proofs.Good.{Arrays, empty_is_sound, empty_is_shaped}
use Rattle.events.specs.Records.{records, Decoded}
use Rattle.events.specs.Steps.{record_step}
use Rattle.play_events.specs.Plays.{played_state, played_refusals, played_values}
use Rattle.events.proofs.SoundStays.{Right, record_step_right}
use Rattle.play_ticks.proofs.TickPlayed.{tick_right}
use Rattle.blocks.specs.declared.BlockKind.{BlockKind}
use Rattle.blocks.specs.declared.BlockKind.TheVariants.{Network, Steps, Tick}
use Rattle.blocks.specs.Blocks.{block_kind, block_place, record_count, record_bytes, bridge_records, table_of, stray_in_table, kind_place_count_are_right, content_grounds, block_grounds}
use Rattle.blocks.specs.Answers.{accepted_as, block_answer}
use Rattle.logs.specs.code.Runs.{run_lines, run_state, goes_on}
use Rattle.logs.specs.Logs.{entries_left, block_played}
use Rattle.blocks.proofs.Accepted.{accepted_block, accepted_length, accepted_count, frame_is_right}
use Rattle.logs.proofs.Stepping.{block_stepped}
use Rattle.logs.proofs.Ticking.{tick_fits}

-- whatever else brought it, a table without refusal passes
passes_so : (T : Table) (stray : Bool) → refusal (table_grounds T stray) ≡ None → table_passes T ≡ true
unfolding table_passes table_grounds
passes_so T stray h =
    let c = clear (table_grounds T stray) h in
    let u = (or_false (not (unused_are_zero T)) stray c.1.0).0 in
    rw (unclear (table_grounds T false) (c.0, ((rw u refl), c.1.1)))

-- which kind an accepted block has
module _ (b : List ℕ) where
  kind_one : accepted_as b ≡ Network → eqb (block_kind b) 1 ≡ true
  kind_one h =
      split (eqb (block_kind b) 1) (λ t. t)
      (λ f. absurd (split (eqb (block_kind b) 2) (λ t. never (rw (f, t) at h)) (λ g. not_one (rw (f, g) at h))))
    where
      never : Steps ≡ Network → ⊥
      never e = let z : ◌≡◌ {A = ℕ} 0 1 = cc in omega arith

      not_one : Tick ≡ Network → ⊥
      not_one e = let z : ◌≡◌ {A = ℕ} 0 1 = cc in omega arith

  no_table : (accepted_as b ≡ Network → ⊥) → eqb (block_kind b) 1 ≡ false
  no_table h = split (eqb (block_kind b) 1) (λ t. absurd (h (rw t))) (λ f. f)

module _ (place : ℕ) (b : List ℕ) where
  -- no event at place 0
  pub events_later : (k : BlockKind) → (k ≡ Network → ⊥) → block_answer place b ≡ Ok k → place ≡ 0 → ⊥
  unfolding kind_place_count_are_right
  events_later a w e z =
      let q = accepted_block place b a e in
      let r = (and_true (eqb (block_place b) place) _ (frame_is_right place b q.0)).1 in
      let k = no_table b (λ n. w (sym q.1 ∙ n)) in
      let m = (and_true ((eqb (block_kind b) 2 || eqb (block_kind b) 3) && not (eqb place 0)) (leb (record_count b) most_records) (rw k at r)).0 in
      let n = (and_true (eqb (block_kind b) 2 || eqb (block_kind b) 3) (not (eqb place 0)) m).1 in
      both (eqb place 0) (eq-eqb place 0 z) (not-true (eqb place 0) n)

  pub steps_later : block_answer place b ≡ Ok Steps → place ≡ 0 → ⊥
  steps_later = events_later Steps never
    where
      never : Steps ≡ Network → ⊥
      never e = let z : ◌≡◌ {A = ℕ} 0 1 = cc in omega arith

  pub tick_later : block_answer place b ≡ Ok Tick → place ≡ 0 → ⊥
  tick_later = events_later Tick never
    where
      never : Tick ≡ Network → ⊥
      never e = let z : ◌≡◌ {A = ℕ} 0 1 = cc in omega arith

  table_passed : block_answer place b ≡ Ok Network → table_passes (table_of b) ≡ true
  unfolding block_grounds content_grounds
  table_passed e =
      let a = accepted_block place b Network e in
      let k = kind_one b a.1 in
      let c = clear (block_grounds place b) a.0 in
      passes_so (table_of b) (stray_in_table b) (unclear (table_grounds (table_of b) (stray_in_table b)) (rw k at c.1.1.1))

played_right : (s : State) → Right s → (ds : List Decoded) → Right (played_state s ds)
unfolding played_state
played_right s w [] = w
played_right s w (d ∷ ds) = played_right (record_step s d).state (record_step_right s w.shaped w.is_sound d) ds

-- the arrays of a table read off a block have their places
bridges_length : (k : ℕ) (l : List ℕ) → length l ≡ 2 * k → length (bridge_records l) ≡ k
unfolding bridge_records
bridges_length zero [] h = refl
bridges_length zero (x ∷ l) h = absurd (omega arith)
bridges_length (suc k) [] h = absurd (omega arith)
bridges_length (suc k) (x ∷ []) h = absurd (omega arith)
bridges_length (suc k) (x ∷ y ∷ l) h = ap suc (bridges_length k l (omega arith))

table_arrays : (b : List ℕ) → length b ≡ 512 → Arrays (table_of b)
unfolding table_of
table_arrays b h = record {
  limits = length-slice 7 10 b (omega arith);
  pairs = bridges_length 15 (slice 16 46 b) (length-slice 16 46 b (omega arith));
  homes = length-map (slice 48 80 b) bus ∙ length-slice 48 80 b (omega arith);
}

-- a block that is read on from leaves a sound state
pub run_right : (place : ℕ) (s : State) (b : List ℕ) (a : Result BlockKind Refusal) → block_answer place b ≡ a → ((place ≡ 0 → ⊥) → Right s) → goes_on a ≡ true → Right (run_state place s b a)
run_right place s b (Err n) e w g = absurd (true_false (sym g))
run_right place s b (Ok Network) e w g =
    let ok = table_passed place b e in
    record {
      shaped = empty_is_shaped (table_of b) (table_arrays b (accepted_length place b (accepted_block place b Network e).0)) ok;
      is_sound = empty_is_sound (table_of b) ok;
    }
run_right place s b (Ok Steps) e w g =
    let h = (accepted_block place b Steps e).0 in
    let r = record_bytes b in
    let ok = w (steps_later place b e) in
    let q = (block_stepped place b (played_refusals s (records r)) (played_values s (records r)) [] [] s ok (accepted_length place b h) (accepted_count place b h)
    (sym (append-nil (played_refusals s (records r)))) (sym (append-nil (played_values s (records r))))).0 in
    subst Right (sym q) (played_right s ok (records r))
run_right place s b (Ok Tick) e w g =
    let h = (accepted_block place b Tick e).0 in
    let q = tick_fits b (accepted_length place b h) (accepted_count place b h) in
    tick_right s (w (tick_later place b e)) (record_bytes b) (replicate (record_count b) 0) q.0 q.1 q.2

-- ---- it is what the definition plays

opens : (T : Table) (stray : Bool) → refusal (table_grounds T stray) ≡ None → (opened T stray).state ≡ pack (empty_net T)
unfolding opened table_answer
opens T stray h = ap (λ (o : Option Refusal). state_by T (answer o tt)) h

pub run_is_played : (place : ℕ) (s : State) (b : List ℕ) → refusal (block_grounds place b) ≡ None
    → (run_lines place s b (Ok (accepted_as b)) ≡ (block_played place s b).lines) × (run_state place s b (Ok (accepted_as b)) ≡ (block_played place s b).state)
unfolding block_played block_grounds content_grounds
run_is_played place s b h =
    split (eqb (block_kind b) 1)
    (λ t.
    let c = clear (block_grounds place b) h in
    let o = opens (table_of b) (stray_in_table b) (unclear (table_grounds (table_of b) (stray_in_table b)) (rw t at c.1.1.1)) in
    (rw t, rw t (sym o)))
    (λ f. split (eqb (block_kind b) 2) (λ t. (rw (f, t), rw (f, t))) (λ g. (rw (f, g), rw (f, g))))

-- ---- the entries left: what the code counts is what the definition counts

pub held_is_left : (cs : List Channel) → held cs ≡ entries_left cs
unfolding entries_left
held_is_left cs = sym (is_held entries_left refl (λ c ds. refl) cs)
