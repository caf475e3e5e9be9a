-- Where no bridge closes a loop there is at most one way: a way over bridge k crosses it once, since a second crossing
-- would lead back between two components, or turn back.
use Prim.Native.Nat.{ℕ, zero, suc, ◌<◌}
use mathlib.Core.Path.{◌≡◌, refl, sym, subst, subst⁻¹, ◌∙◌}
use mathlib.Core.Bool.{Bool, true, false, cond}
use mathlib.Core.Logic.{⊎_elim}
use mathlib.Core.List.{List, [], ◌∷◌, ◌++◌}
use native.Mathlib.Omega.{arith}
use Rattle.base.proofs.Logic.{true_false}
use Rattle.chassis.specs.declared.Bus.{Bus}
use Rattle.chassis.specs.declared.Table.{Table}
use Rattle.chassis.specs.Channels.{first_bus, second_bus}
use Rattle.chassis.specs.Ways.{Hop, hop, from, to, Onward, Way}
use Rattle.chassis.specs.Routes.{component, closes_a_loop, loop_free}
use Rattle.chassis.proofs.Buses.{same_no}
use Rattle.chassis.proofs.Components.{below_suc, stays}

abbrev pub Unique : Table → ℕ → Type 0
Unique T k = (a b : Bus) (us vs : List Hop) → Way T k a b us → Way T k a b vs → us ≡ vs

onward_front : (g k : ℕ) (d : Bool) (us vs : List Hop) → Onward g (us ++ (hop k d ∷ vs)) → Onward g us
onward_front g k d [] vs f = tt
onward_front g k d (hop i e ∷ us) vs f = f

-- a way over the bridges below suc k: over those below k, or once over bridge k
data Form (T : Table) (k : ℕ) (a b : Bus) : List Hop → Type 0 where
  old : {hops : List Hop} → Way T k a b hops → Form T k a b hops
  over : (d : Bool) (us vs : List Hop) → Way T k a (from T (hop k d)) us → Way T k (to T (hop k d)) b vs → Form T k a b (us ++ (hop k d ∷ vs))

module _ (T : Table) (k : ℕ) (apart : component T k (first_bus T k) ≡ component T k (second_bus T k) → ⊥) (unique : Unique T k) where
  apart_hop : (d : Bool) → component T k (from T (hop k d)) ≡ component T k (to T (hop k d)) → ⊥
  apart_hop true e = apart e
  apart_hop false e = apart (sym e)

  before : (a b : Bus) (g : ℕ) (d : Bool) (hops : List Hop) → g < k → from T (hop g d) ≡ a → Onward g hops → Form T k (to T (hop g d)) b hops → Form T k a b (hop g d ∷ hops)
  before a b g d hops h e f (old w) = old {hops = hop g d ∷ hops} (h, e, f, w)
  before a b g d _ h e f (over c us vs u v) = over c (hop g d ∷ us) vs (h, e, onward_front g k c us vs f, u) v

  -- no way comes back to bridge k
  back : (d c : Bool) (us vs : List Hop) → Way T k (to T (hop k d)) (from T (hop k c)) us → Onward k (us ++ (hop k c ∷ vs)) → ⊥
  back true true us vs u f = apart_hop false (stays T k (second_bus T k) (first_bus T k) us u)
  back false false us vs u f = apart_hop true (stays T k (first_bus T k) (second_bus T k) us u)
  back true false us vs u f = subst (λ (l : List Hop). Onward k (l ++ (hop k false ∷ vs))) (unique (second_bus T k) (second_bus T k) us [] u refl) f refl
  back false true us vs u f = subst (λ (l : List Hop). Onward k (l ++ (hop k true ∷ vs))) (unique (first_bus T k) (first_bus T k) us [] u refl) f refl

  behind : (a b : Bus) (d : Bool) (hops : List Hop) → from T (hop k d) ≡ a → Onward k hops → Form T k (to T (hop k d)) b hops → Form T k a b (hop k d ∷ hops)
  behind a b d hops e f (old w) = over d [] hops (sym e) w
  behind a b d _ e f (over c us vs u v) = absurd (back d c us vs u f)

  crossing : (a b : Bus) (g : ℕ) (d : Bool) (hops : List Hop) → g ≡ k → from T (hop g d) ≡ a → Onward g hops → Form T k (to T (hop g d)) b hops → Form T k a b (hop g d ∷ hops)
  crossing a b g d hops e =
      subst⁻¹
      (λ (j : ℕ). from T (hop j d) ≡ a → Onward j hops → Form T k (to T (hop j d)) b hops → Form T k a b (hop j d ∷ hops))
      e (behind a b d hops)

  form : (a b : Bus) (hops : List Hop) → Way T (suc k) a b hops → Form T k a b hops
  form a b [] w = old {hops = []} w
  form a b (hop g d ∷ hops) w =
      let r = form (to T (hop g d)) b hops w.3 in
      ⊎_elim
      (λ e. crossing a b g d hops e w.1 w.2 r)
      (λ h. before a b g d hops h w.1 w.2 r)
      (below_suc g k w.0)

  -- a way that crosses bridge k and one that does not
  mixed : (a b : Bus) (d : Bool) (us vs ws : List Hop) → Way T k a (from T (hop k d)) us → Way T k (to T (hop k d)) b vs → Way T k a b ws → ⊥
  mixed a b d us vs ws u v w =
      apart_hop d
      (sym (stays T k a (from T (hop k d)) us u) ∙ stays T k a b ws w ∙ sym (stays T k (to T (hop k d)) b vs v))

  same : (a b : Bus) (us vs : List Hop) → Form T k a b us → Form T k a b vs → us ≡ vs
  same a b us vs (old u) (old v) = unique a b us vs u v
  same a b us _ (old u) (over d vs zs v z) = absurd (mixed a b d vs zs us v z u)
  same a b _ us (over d vs zs v z) (old u) = absurd (mixed a b d vs zs us v z u)
  same a b _ _ (over true us vs u v) (over true ws zs w z) = rw (unique a (first_bus T k) us ws u w, unique (second_bus T k) b vs zs v z)
  same a b _ _ (over false us vs u v) (over false ws zs w z) = rw (unique a (second_bus T k) us ws u w, unique (first_bus T k) b vs zs v z)
  same a b _ _ (over true us vs u v) (over false ws zs w z) = absurd (apart (sym (stays T k a (first_bus T k) us u) ∙ stays T k a (second_bus T k) ws w))
  same a b _ _ (over false us vs u v) (over true ws zs w z) = absurd (apart (sym (stays T k a (first_bus T k) ws w) ∙ stays T k a (second_bus T k) us u))

none_below : (T : Table) (a b : Bus) (hops : List Hop) → Way T 0 a b hops → hops ≡ []
none_below T a b [] w = refl
none_below T a b (hop g d ∷ hops) w = absurd (omega (arith, w.0))

parts : (b r : Bool) → cond b false r ≡ true → (b ≡ false) × (r ≡ true)
parts true r e = absurd (true_false (sym e))
parts false r e = (refl, e)

pub unique_in : (T : Table) (k : ℕ) → loop_free T k ≡ true → Unique T k
unfolding loop_free
unique_in T zero f a b us vs u v = none_below T a b us u ∙ sym (none_below T a b vs v)
unique_in T (suc k) f a b us vs u v =
    let h = parts (closes_a_loop T k) (loop_free T k) f in
    let apart = same_no (component T k (first_bus T k)) (component T k (second_bus T k)) h.0 in
    let ih = unique_in T k h.1 in
    same T k apart ih a b us vs (form T k apart ih a b us u) (form T k apart ih a b vs v)
