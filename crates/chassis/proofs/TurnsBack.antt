-- A bridge crossed is the first of the way to any goal, or the way from there first crosses back; so a channel that is still ahead stays so until it is entered.
-- Either way over the bridge is a way that does not turn back, and there is one way only.
use Prim.Native.Nat.{ℕ, suc, ◌<◌}
use mathlib.Core.Path.{◌≡◌, refl, sym, ap, subst, subst⁻¹, ◌∙◌}
use mathlib.Core.Bool.{Bool, true, false, not}
use mathlib.Core.Logic.{◌⊎◌, inl, inr, ⊎_elim}
use mathlib.Core.List.{List, [], ◌∷◌, map}
use Rattle.base.proofs.Logic.{equal?}
use Rattle.base.proofs.Sifted.{cons_nil}
use Rattle.base.proofs.Cells.{In, first, later, in_none, in_cons, cell_in}
use Rattle.chassis.specs.declared.Agent.{Agent}
use Rattle.chassis.specs.declared.Bus.{Bus}
use Rattle.chassis.specs.declared.Chan.{Chan}
use Rattle.chassis.specs.declared.Table.{Table}
use Rattle.chassis.specs.declared.NextPlace.TheVariants.{Through}
use Rattle.chassis.specs.Numbers.{chan}
use Rattle.chassis.specs.Channels.{home, has_agent, has_chan, is_master, master_channel, out_bus, opposite}
use Rattle.chassis.specs.Ways.{Hop, hop, from, to, Onward, Way}
use Rattle.chassis.specs.Routes.{way, channel_of, next_place, bridge_channels, bridges_between, way_channels, nth}
use Rattle.chassis.specs.Tables.{table_passes}
use Rattle.chassis.proofs.Trees.{the_way}
use Rattle.chassis.proofs.Passing.{passed}
use Rattle.chassis.proofs.Steps.{way_step, way_here, is_the_way, to_there, from_there, ends_of}
use Rattle.chassis.proofs.Hops.{hop_out, hop_opposite, turned, crossing}
use Rattle.chassis.proofs.OnTheWay.{home_there, next, master_out}

same_or_not : (d e : Bool) → (e ≡ d) ⊎ (e ≡ not d)
same_or_not true true = inl refl
same_or_not true false = inr refl
same_or_not false true = inr refl
same_or_not false false = inl refl

module _ (T : Table) (ok : table_passes T ≡ true) (g : ℕ) (d : Bool) (l : g < T.bridges) (b : Bus) (j : b.0 < T.buses) where
  abbrev here : Bus
  here = from T (hop g d)

  abbrev there : Bus
  there = to T (hop g d)

  here_is : here.0 < T.buses
  here_is = from_there T (ends_of T ok) g d l

  there_is : there.0 < T.buses
  there_is = to_there T (ends_of T ok) g d l

  abbrev Turns : Type 0
  Turns = (way T here b ≡ hop g d ∷ way T there b) ⊎ (way T there b ≡ hop g (not d) ∷ way T here b)

  -- a bridge leads from one bus to another
  two_buses : here ≡ there → ⊥
  two_buses e =
      cons_nil {x = hop g d} {l = []}
      (is_the_way T ok here here (here_is, here_is) (hop g d ∷ []) (l, refl, tt, sym e) ∙ way_here T ok here here_is)

  onward : Onward g (way T there b) → Turns
  onward f = inl (sym (is_the_way T ok here b (here_is, j) (hop g d ∷ way T there b) (l, refl, f, the_way T (passed T ok).ways there b there_is j)))

  first_back : (e : Bool) (rest : List Hop) → way T there b ≡ hop g e ∷ rest → Turns
  first_back e rest p =
      let st = way_step T ok there b (there_is, j) g e rest p in
      ⊎_elim
      (λ q. absurd (two_buses (subst (λ (e : Bool). from T (hop g e) ≡ there) q st.starts)))
      (λ q. inr (p ∙ (λ i. hop g (q i) ∷ rest) ∙ ap (hop g (not d) ∷◌) (sym (subst (λ (e : Bool). way T (to T (hop g e)) b ≡ rest) q st.nearer) ∙ ap (λ (a : Bus). way T a b) (turned T g d).1)))
      (same_or_not d e)

  first_is : (v : List Hop) → way T there b ≡ v → Turns
  first_is [] p = onward (subst⁻¹ (Onward g) p tt)
  first_is (hop h e ∷ rest) p =
      ⊎_elim
      (λ q. first_back e rest (p ∙ (λ i. hop (q i) e ∷ rest)))
      (λ n. onward (subst⁻¹ (Onward g) p (λ q. n (sym q))))
      (equal? h g)

  way_turn : Turns
  way_turn = first_is (way T there b) refl

-- the same of a bridge channel X: it leads from the out-bus of its opposite to its own
channel_turn : (T : Table) (ok : table_passes T ≡ true) (X : Chan) → has_chan T X ≡ true → is_master T X ≡ false → (b : Bus) → b.0 < T.buses
    → ((h : Hop) × (channel_of T h ≡ X) × (way T (out_bus T (opposite T X)) b ≡ h ∷ way T (out_bus T X) b))
    ⊎ ((h : Hop) × (channel_of T h ≡ opposite T X) × (way T (out_bus T X) b ≡ h ∷ way T (out_bus T (opposite T X)) b))
channel_turn T ok X c m b j =
    let r = crossing T X c m in
    let h = hop r.bridge r.forth in
    let h' = hop r.bridge (not r.forth) in
    let o : opposite T X ≡ channel_of T h' = ap (opposite T) r.is ∙ hop_opposite T r.bridge r.forth in
    let out : out_bus T X ≡ to T h = ap (out_bus T) r.is ∙ hop_out T r.bridge r.forth in
    let into : out_bus T (opposite T X) ≡ from T h = ap (out_bus T) o ∙ hop_out T r.bridge (not r.forth) ∙ (turned T r.bridge r.forth).1 in
    ⊎_elim
    (λ p. inl (h, sym r.is, rw (into, out) p))
    (λ p. inr (h', sym o, rw (into, out) p))
    (way_turn T ok r.bridge r.forth r.there b j)

-- ---- on the way to agent a: whoever is at bus B has still to cross channel N

abbrev pub StillAhead : Table → Agent → Chan → Bus → Type 0
StillAhead T a N B = In N (map (channel_of T) (way T B (home T a)))

module _ (T : Table) (ok : table_passes T ≡ true) (a : Agent) where
  abbrev OfHops : Chan → List Hop → Type 0
  OfHops N hops = In N (map (channel_of T) hops)

  -- at the start all bridge channels of the way are ahead, and at the end none
  pub all_ahead : (m : Agent) → has_agent T m ≡ true → (i : ℕ) → i < bridges_between T m a → StillAhead T a (nth (way_channels T m a) (suc i)) (out_bus T (master_channel m))
  all_ahead m has i l = subst⁻¹ (StillAhead T a (nth (way_channels T m a) (suc i))) (master_out T ok m has) (cell_in (bridge_channels T m a) (chan 0) i l)

  pub none_ahead : (N : Chan) → StillAhead T a N (home T a) → ⊥
  none_ahead N i = in_none (subst (OfHops N) (way_here T ok (home T a) (home_there T ok a)) i)

  -- over any bridge, in channel X: that is N itself, or N is still ahead
  pub entered_or_ahead : (N X : Chan) → has_chan T X ≡ true → is_master T X ≡ false → StillAhead T a N (out_bus T (opposite T X)) → (N ≡ X) ⊎ StillAhead T a N (out_bus T X)
  entered_or_ahead N X there m i =
      ⊎_elim
      (λ r. ⊎_elim (λ e. inl (e ∙ r.1)) (λ k. inr k) (in_cons (subst (OfHops N) r.2 i)))
      (λ r. inr (subst⁻¹ (OfHops N) r.2 (later i)))
      (channel_turn T ok X there m (home T a) (home_there T ok a))

  module _ (N X : Chan) (there : has_chan T N ≡ true) (goes : next_place T N a ≡ Through X) where
    -- out of N the next channel X is ahead
    pub next_is_ahead : StillAhead T a X (out_bus T N)
    next_is_ahead =
        let n = next T ok N a X there goes in
        subst⁻¹ (OfHops X) n.begins (subst⁻¹ (λ (M : Chan). In M (channel_of T (hop n.bridge n.forth) ∷ map (channel_of T) n.rest)) n.is first)

    next_in : (B : Bus) (hops : List Hop) → Way T T.bridges B (home T a) hops → OfHops N hops → OfHops X hops
    next_in B [] v i = in_none i
    next_in B (hop g e ∷ hops) v i =
        ⊎_elim
        (λ z.
        let y : out_bus T N ≡ to T (hop g e) = ap (out_bus T) z ∙ hop_out T g e in
        let u = is_the_way T ok (to T (hop g e)) (home T a) (to_there T (ends_of T ok) g e v.0, home_there T ok a) hops v.3 in
        later (subst⁻¹ (OfHops X) (u ∙ ap (λ (b : Bus). way T b (home T a)) (sym y)) next_is_ahead))
        (λ k. later (next_in (to T (hop g e)) hops v.3 k))
        (in_cons i)

    -- and whoever has N ahead has X ahead
    pub next_is_ahead_too : (B : Bus) → B.0 < T.buses → StillAhead T a N B → StillAhead T a X B
    next_is_ahead_too B l i = next_in B (way T B (home T a)) (the_way T (passed T ok).ways B (home T a) l (home_there T ok a)) i
