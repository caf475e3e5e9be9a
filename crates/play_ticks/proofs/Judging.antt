-- The records of a tick judged one by one against the starting state: what is left to judge, judged from here, gives the tick's answer.
-- No record before this one is refused; a refused one ends the search; where none is, the turns' feet are the events' footings.
use Prim.Native.Nat.{ℕ, ◌+◌, ◌*◌, ◌/◌, ◌<◌, ◌≤◌}
use mathlib.Core.Path.{◌≡◌, refl, sym, ap, subst, subst⁻¹, ◌∙◌}
use mathlib.Core.List.{List, [], ◌∷◌, ◌++◌, map, append-nil}
use Rattle.std.specs.Prelude.{Option, None, Some, Err}
use native.Mathlib.Omega.{arith}
use native.Mathlib.Numerals.{add-one}
use borrow.Author.Tests.{not-false}
use lib.ListN.{length, take, drop, set, length-set, length-take, take-append-drop, drop_of_length-le}
use lib.Seq.{drop-set-lt, drop-drop}
use Rattle.base.specs.declared.Refusal.{Refusal}
use Rattle.base.specs.Grounds.{refusal}
use Rattle.base.proofs.Grounds.{clear}
use Rattle.base.proofs.Orders.{All}
use Rattle.base.proofs.Walks.{rest_on}
use Rattle.base.proofs.Writing.{filled_on}
use Rattle.chassis.specs.declared.Chan.{Chan}
use Rattle.chassis.specs.Capacities.{most_records}
use Rattle.queue.specs.declared.Transaction.{Transaction}
use Rattle.queue.specs.Entries.{R}
use Rattle.queue.specs.Queues.{stands}
use Rattle.network.specs.Nets.{Net, waiting}
use Rattle.events.specs.declared.Event.{Event}
use Rattle.events.specs.declared.Event.TheVariants.{Complete}
use Rattle.events.specs.Tests.{ahead}
use Rattle.events.specs.Records.{decoded, records, Decoded}
use Rattle.events.specs.Grounds.{named_grounds, grounds, Accepted}
use Rattle.events.specs.Steps.{record_grounds}
use Rattle.read_events.specs.Frames.{next_of}
use Rattle.play_events.proofs.Playing.{how_many, the_record}
use Rattle.ticks.specs.declared.TickRefusal.TheVariants as tick-refusal
use Rattle.ticks.specs.Footings.{Footing, footing}
use Rattle.ticks.specs.declared.TickRefusal.{TickRefusal}
use Rattle.ticks.specs.Ticks.{known, first_refused, first_pair}
use Rattle.ticks.proofs.Judged.{EachAlone, none_refused}
use Rattle.ticks.proofs.Searches.{known_all, each_known}
use Rattle.play_ticks.specs.declared.Turn.{Turn}
use Rattle.compare_events.specs.Feet.{footing_of}
use Rattle.play_ticks.specs.Turns.{turn, turns_made, laid_over, answer_by, clash_pair, footings, refused_or, judged_answer}
use Rattle.compare_events.proofs.Standing.{foot_stands}
use Rattle.play_ticks.proofs.Pairing.{pair_of}

-- ---- an accepted event's foot stands for its footing

-- a complete's R is there, so its next place was asked
asked : (s : Net) (N : Chan) (t : Transaction) → Accepted s (Complete N t) → next_of s (Complete N t) ≡ ahead s R N t
unfolding next_of grounds named_grounds
asked s N t ok = let h = not-false (stands R t (waiting s N)) (clear (grounds s (Complete N t)) ok).1.0 in rw h

next_asked : (s : Net) (e : Event) → Accepted s e → (N : Chan) (t : Transaction) → e ≡ Complete N t → next_of s e ≡ ahead s R N t
next_asked s e ok N t q = subst⁻¹ (λ (x : Event). next_of s x ≡ ahead s R N t) q (asked s N t (subst (Accepted s) q ok))

turn_stands : (s : Net) (e : Event) → Accepted s e → footing_of (turn s e).foot ≡ footing s e
unfolding turn
turn_stands s e ok = foot_stands s e (next_of s e) (next_asked s e ok)

turns_stand : (s : Net) (es : List Event) → All (Accepted s) es → footings (map (turn s) es) ≡ map (footing s) es
turns_stand s [] a = refl
turns_stand s (e ∷ es) a = rw (turn_stands s e a.0, turns_stand s es a.1)

-- where each is accepted alone, each leaves its turn
pub all_made : (s : Net) (es : List Event) → All (Accepted s) es → turns_made s (map Some es) ≡ map (turn s) es
unfolding turns_made
all_made s [] a = refl
all_made s (e ∷ es) a = let n = a.0 in rw (n, turns_made, all_made s es a.1)

-- a refused record leaves none, and ends the list
none_made : (s : Net) (d : Decoded) (ds : List Decoded) {n : Refusal} → refusal (record_grounds s d) ≡ Some n → turns_made s (d ∷ ds) ≡ []
unfolding turns_made record_grounds
none_made s None ds h = refl
none_made s (Some e) ds h = rw (h, turns_made)

-- ---- the loop

module _ (s : Net) (r : List ℕ) (many : ℕ) (before : List Turn) where
  abbrev ds : List Decoded
  ds = records r

  pub record Judging (all : List Turn) (i : ℕ) : Type 0 where
    pub within : i ≤ many
    pub count : many ≡ length r / 8
    pub few : many ≤ most_records
    pub long : length all ≡ most_records
    pub clear : first_refused s i (drop i ds) ≡ first_refused s 0 ds
    pub made : turns_made s ds ≡ take i all ++ turns_made s (drop i ds)
    pub left : drop i all ≡ drop i before

  pub judge_first : many ≡ length r / 8 → many ≤ most_records → length before ≡ most_records → Judging before 0
  judge_first h k l = record { within = omega arith; count = h; few = k; long = l; clear = refl; made = refl; left = refl }

  module _ (all : List Turn) (i : ℕ) (j : Judging all i) where
    -- where no turn is made of what is left, the places are as they shall be
    pub in_their_places : turns_made s (drop i ds) ≡ [] → all ≡ laid_over (turns_made s ds) before
    in_their_places h =
        let w = j.within in
        let f = j.few in
        let l = j.long in
        let m : turns_made s ds ≡ take i all = j.made ∙ ap (take i all ++◌) h ∙ append-nil (take i all) in
        let n : length (take i all) ≡ i = omega (arith, length-take i all) in
        sym (take-append-drop i all)
        ∙ ap (take i all ++◌) (j.left ∙ ap (λ (k : ℕ). drop k before) (sym n))
        ∙ sym (ap (λ (l : List Turn). laid_over l before) m)

    module _ (more : i < many) (d : Decoded) (isd : d ≡ decoded (take 8 (drop (8 * i) r))) where
      left : drop i ds ≡ d ∷ drop (i + 1) ds
      left =
          let m = j.count in
          let l : i < length ds = omega (arith, how_many r) in
          rest_on ds i (decoded []) l ∙ ap (λ (x : Decoded). x ∷ drop (i + 1) ds) (the_record r i (omega arith) ∙ sym isd)

      -- accepted alone: the next one
      module _ (e : Event) (ise : d ≡ Some e) (ok : Accepted s e) where
        here : drop i ds ≡ Some e ∷ drop (i + 1) ds
        here = left ∙ ap (λ (x : Decoded). x ∷ drop (i + 1) ds) ise

        made_one : turns_made s (drop i ds) ≡ turn s e ∷ turns_made s (drop (i + 1) ds)
        unfolding turns_made
        made_one = ap (turns_made s) here ∙ rw (ok, turns_made)

        goes_on : first_refused s i (drop i ds) ≡ first_refused s (i + 1) (drop (i + 1) ds)
        unfolding first_refused record_grounds
        goes_on = ap (first_refused s i) here ∙ rw (ok, first_refused, add-one)

        pub judge_on : Judging (set all i (turn s e)) (i + 1)
        judge_on =
            let f = j.few in
            let l = j.long in
            let behind = turns_made s (drop (i + 1) ds) in
            record {
              within = omega arith;
              count = j.count;
              few = j.few;
              long = simp length-set j.long;
              clear = sym goes_on ∙ j.clear;
              made = j.made ∙ ap (take i all ++◌) made_one ∙ sym (filled_on all i (turn s e) behind (omega arith));
              left = drop-set-lt (i + 1) all i (turn s e) (omega arith) ∙ sym (drop-drop 1 i all) ∙ ap (drop 1) j.left ∙ drop-drop 1 i before;
            }

      -- refused: it is the lowest, and no turn is made of it or behind it
      module _ (n : Refusal) (h : refusal (record_grounds s d) ≡ Some n) where
        pub judge_stop : Err (tick-refusal.Refused n i) ≡ judged_answer s ds
        unfolding first_refused judged_answer
        judge_stop =
            let f : first_refused s 0 ds ≡ Some (tick-refusal.Refused n i) = sym j.clear ∙ ap (first_refused s i) left ∙ rw (h, first_refused) in
            sym (ap (λ (o : Option TickRefusal). refused_or o (answer_by (first_pair s 0 (known ds)))) f)

        pub made_stop : turns_made s (drop i ds) ≡ []
        made_stop = ap (turns_made s) left ∙ none_made s d (drop (i + 1) ds) h

    -- none is refused: the pairs decide
    module _ (over : many ≤ i) where
      none_left : drop i ds ≡ []
      none_left = let m = j.count in drop_of_length-le ds {i = i} (omega (arith, how_many r))

      pub made_over : turns_made s (drop i ds) ≡ []
      unfolding turns_made
      made_over = ap (turns_made s) none_left

      none_at_all : first_refused s 0 ds ≡ None
      unfolding first_refused
      none_at_all = sym j.clear ∙ ap (first_refused s i) none_left

      each_alone : EachAlone s ds
      each_alone = none_refused s 0 ds none_at_all

      pub pairs_decide : answer_by (clash_pair 0 (footings (take many all))) ≡ judged_answer s ds
      unfolding judged_answer
      pairs_decide =
          let k = each_known s ds each_alone in
          let es = k.0 in
          let w = j.within in
          let e : many ≡ i = omega arith in
          let all_judged : take many all ≡ map (turn s) es =
          ap (λ (k : ℕ). take k all) e
          ∙ sym (append-nil (take i all))
          ∙ ap (take i all ++◌) (sym made_over)
          ∙ sym j.made
          ∙ ap (turns_made s) k.1
          ∙ all_made s es k.2 in
          ap (λ (l : List Turn). answer_by (clash_pair 0 (footings l))) all_judged
          ∙ ap (λ (l : List Footing). answer_by (clash_pair 0 l)) (turns_stand s es k.2)
          ∙ ap answer_by (pair_of s 0 es ∙ sym (ap (first_pair s 0) (ap known k.1 ∙ known_all es)))
          ∙ sym (ap (λ (o : Option TickRefusal). refused_or o (answer_by (first_pair s 0 (known ds)))) none_at_all)
