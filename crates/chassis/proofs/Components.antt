-- A way stays in its component, and within a component there is a way: by induction on the bridges, each of which joins
-- two components at most.
use Prim.Native.Nat.{ℕ, zero, suc, ◌<◌, ◌≤◌}
use mathlib.Core.Path.{◌≡◌, refl, ap, sym, subst⁻¹, ◌∙◌}
use mathlib.Core.Bool.{Bool, true, false, cond}
use mathlib.Core.Logic.{◌⊎◌, inl, inr, ⊎_elim}
use mathlib.Core.List.{List, [], ◌∷◌, ◌++◌}
use native.Mathlib.Omega.{arith}
use Rattle.base.proofs.Logic.{split, equal?}
use Rattle.chassis.specs.declared.Bus.{Bus}
use Rattle.chassis.specs.declared.Table.{Table}
use Rattle.chassis.specs.Numbers.{same_bus}
use Rattle.chassis.specs.Channels.{first_bus, second_bus}
use Rattle.chassis.specs.Ways.{Hop, hop, from, to, Onward, Way}
use Rattle.chassis.specs.Routes.{relabel, component}
use Rattle.chassis.proofs.Buses.{same_yes, yes_same}

pub below_suc : (g k : ℕ) → g < suc k → (g ≡ k) ⊎ (g < k)
below_suc g k h = ⊎_elim (λ e. inl e) (λ e. inr (omega arith)) (equal? g k)

-- ---- relabelling

relabel_second : (p q : Bus) → relabel p q q ≡ p
relabel_second p q = rw (yes_same q q refl)

relabel_first : (p q : Bus) → relabel p q p ≡ p
relabel_first p q = split (same_bus p q) (λ h. rw h) (λ h. rw h)

-- what it brings together
relabel_splits : (p q c e : Bus) → relabel p q c ≡ relabel p q e → (c ≡ e) ⊎ (((c ≡ p) × (q ≡ e)) ⊎ ((c ≡ q) × (p ≡ e)))
relabel_splits p q c e h = go (same_bus c q) (same_bus e q) refl refl h
  where
    go : (b₁ b₂ : Bool) → same_bus c q ≡ b₁ → same_bus e q ≡ b₂ → cond b₁ p c ≡ cond b₂ p e → (c ≡ e) ⊎ (((c ≡ p) × (q ≡ e)) ⊎ ((c ≡ q) × (p ≡ e)))
    go true true h₁ h₂ r = inl (same_yes c q h₁ ∙ sym (same_yes e q h₂))
    go true false h₁ h₂ r = inr (inr (same_yes c q h₁, r))
    go false true h₁ h₂ r = inr (inl (r, sym (same_yes e q h₂)))
    go false false h₁ h₂ r = inl r

module _ (T : Table) where
  -- ---- components

  keeps : (k : ℕ) (a b : Bus) → component T k a ≡ component T k b → component T (suc k) a ≡ component T (suc k) b
  unfolding component
  keeps k a b e = ap (relabel (component T k (first_bus T k)) (component T k (second_bus T k))) e

  joins : (k : ℕ) → component T (suc k) (first_bus T k) ≡ component T (suc k) (second_bus T k)
  unfolding component
  joins k =
      let p = component T k (first_bus T k) in
      let q = component T k (second_bus T k) in
      relabel_first p q ∙ sym (relabel_second p q)

  linked : (k g : ℕ) → g < k → component T k (first_bus T g) ≡ component T k (second_bus T g)
  linked zero g h = absurd (omega arith)
  linked (suc k) g h =
      ⊎_elim
      (λ e. subst⁻¹ (λ (j : ℕ). component T (suc k) (first_bus T j) ≡ component T (suc k) (second_bus T j)) e (joins k))
      (λ l. keeps k (first_bus T g) (second_bus T g) (linked k g l))
      (below_suc g k h)

  linked_hop : (k g : ℕ) (d : Bool) → g < k → component T k (from T (hop g d)) ≡ component T k (to T (hop g d))
  linked_hop k g true h = linked k g h
  linked_hop k g false h = sym (linked k g h)

  pub stays : (k : ℕ) (a b : Bus) (hops : List Hop) → Way T k a b hops → component T k a ≡ component T k b
  stays k a b [] w = ap (component T k) w
  stays k a b (hop g d ∷ hops) w =
      ap (component T k) (sym w.1) ∙ linked_hop k g d w.0 ∙ stays k (to T (hop g d)) b hops w.3

  -- two buses of one component: joined already, or by bridge k
  pub data Joined (k : ℕ) (a b : Bus) : Type 0 where
    within : component T k a ≡ component T k b → Joined k a b
    across : (d : Bool) → component T k a ≡ component T k (from T (hop k d)) → component T k (to T (hop k d)) ≡ component T k b → Joined k a b

  pub joined : (k : ℕ) (a b : Bus) → component T (suc k) a ≡ component T (suc k) b → Joined k a b
  unfolding component
  joined k a b e =
      ⊎_elim within (⊎_elim (λ h. across true h.0 h.1) (λ h. across false h.0 h.1))
      (relabel_splits (component T k (first_bus T k)) (component T k (second_bus T k)) (component T k a) (component T k b) e)

  -- ---- ways over more bridges, and over bridge k

  pub onward : (k : ℕ) (a b : Bus) (hops : List Hop) → Way T k a b hops → Onward k hops
  onward k a b [] w = tt
  onward k a b (hop g d ∷ hops) w = λ e. omega (arith, w.0)

  pub lift : (k m : ℕ) (a b : Bus) (hops : List Hop) → k ≤ m → Way T k a b hops → Way T m a b hops
  lift k m a b [] h w = w
  lift k m a b (hop g d ∷ hops) h w = (omega (arith, w.0), w.1, w.2, lift k m (to T (hop g d)) b hops h w.3)

  onward_join : (k g : ℕ) (d : Bool) (us vs : List Hop) → g < k → Onward g us → Onward g (us ++ (hop k d ∷ vs))
  onward_join k g d [] vs h f = λ e. omega arith
  onward_join k g d (hop i e ∷ us) vs h f = f

  pub join : (k : ℕ) (a b : Bus) (d : Bool) (us vs : List Hop) → Way T k a (from T (hop k d)) us → Way T k (to T (hop k d)) b vs → Way T (suc k) a b (us ++ (hop k d ∷ vs))
  join k a b d [] vs u v =
      (omega arith, sym u, onward k (to T (hop k d)) b vs v, lift k (suc k) (to T (hop k d)) b vs (omega arith) v)
  join k a b d (hop g e ∷ us) vs u v =
      (omega (arith, u.0), u.1, onward_join k g d us vs u.0 u.2, join k (to T (hop g e)) b d us vs u.3 v)
