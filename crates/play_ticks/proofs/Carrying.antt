-- Turns carried out one by one: what is left to do, done from here, is the whole.
use Prim.Native.Nat.{ℕ, ◌+◌, ◌<◌, ◌≤◌}
use mathlib.Core.Path.{◌≡◌, refl, sym, ap, ◌∙◌}
use mathlib.Core.List.{List, [], ◌∷◌, ◌++◌, append-nil}
use native.Mathlib.Omega.{arith}
use lib.ListN.{length, get_or, take, drop, set, length-set, length-take, take-append-drop}
use lib.Seq.{drop-set-lt}
use Rattle.base.proofs.Walks.{walk_on, walk_over}
use Rattle.base.proofs.Writing.{filled_on}
use Rattle.network.specs.declared.State.{State}
use Rattle.play_ticks.specs.declared.Turn.{Turn}
use Rattle.play_ticks.specs.Turns.{turned, all_turned, turn_values}

module _ (all : List Turn) (n : ℕ) (s₀ : State) (out₀ : List ℕ) where
  abbrev left : ℕ → List Turn
  left i = drop i (take n all)

  pub record Carrying (s : State) (out : List ℕ) (i : ℕ) : Type 0 where
    pub within : i ≤ n
    pub long : n ≤ length all
    pub room : n ≤ length out₀
    pub as_long : length out ≡ length out₀
    pub state : all_turned s (left i) ≡ all_turned s₀ (take n all)
    pub values : take i out ++ turn_values (left i) ≡ turn_values (take n all)
    pub rest : drop n out ≡ drop n out₀

  pub carry_first : n ≤ length all → n ≤ length out₀ → Carrying s₀ out₀ 0
  carry_first h k = record { within = omega arith; long = h; room = k; as_long = refl; state = refl; values = refl; rest = refl }

  module _ (s : State) (out : List ℕ) (i : ℕ) (c : Carrying s out i) where
    module _ (more : i < n) (d : Turn) where
      pub carry_on : (z : State) → z ≡ turned s (get_or all i d) → Carrying z (set out i (get_or all i d).plan.value) (i + 1)
      unfolding all_turned
      carry_on z isz =
          let l = c.long in
          let a = c.as_long in
          let r = c.room in
          let next : left i ≡ get_or all i d ∷ left (i + 1) = walk_on all n i d more (omega arith) in
          record {
            within = omega arith;
            long = c.long;
            room = c.room;
            as_long = simp length-set c.as_long;
            state = rw isz (rw next at c.state);
            values = filled_on out i (get_or all i d).plan.value (turn_values (left (i + 1))) (omega arith) ∙ (rw next at c.values);
            rest = drop-set-lt n out i (get_or all i d).plan.value more ∙ c.rest;
          }

    pub carry_done : n ≤ i → (s ≡ all_turned s₀ (take n all)) × (out ≡ turn_values (take n all) ++ drop n out₀)
    unfolding all_turned
    carry_done h =
        let w = c.within in
        let e : i ≡ n = omega arith in
        let z : left i ≡ [] = walk_over all n i (simp length-take (omega arith)) in
        let v : take i out ≡ turn_values (take n all) = sym (append-nil (take i out)) ∙ (rw z at c.values) in
        (rw z at c.state, sym (take-append-drop n out) ∙ rw c.rest (ap (λ (l : List ℕ). l ++ drop n out₀) (ap (λ (k : ℕ). take k out) (sym e) ∙ v)))
