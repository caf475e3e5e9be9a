-- What the tick's searches find: none exactly where there is none, otherwise exactly the lowest record refused alone, the lowest partner, the lowest pair.
-- Each by going down the list; what is not found at the front is found behind it, one place later.
use Prim.Native.Nat.{ℕ, zero, suc, ◌+◌, ◌<◌}
use native.Mathlib.Omega.{arith}
use mathlib.Core.Path.{◌≡◌, refl, sym, ap, ◌∙◌}
use mathlib.Core.Logic.{◌⊎◌, inl, inr, ◌↔◌}
use mathlib.Core.Bool.{true, false}
use mathlib.Core.List.{List, [], ◌∷◌, map}
use Rattle.std.specs.Prelude.{None, Some}
use lib.ListN.{length, get_or}
use Rattle.base.specs.Grounds.{refusal}
use Rattle.base.specs.declared.Refusal.{Refusal}
use Rattle.base.specs.declared.Refusal.TheVariants.{UnfitRecord}
use Rattle.base.proofs.Logic.{split, there, none_some, some_same}
use Rattle.base.proofs.Orders.{All, Pairwise, all_at, at_all}
use Rattle.network.specs.Nets.{Net}
use Rattle.events.specs.Records.{Decoded}
use Rattle.events.specs.declared.Event.{Event}
use Rattle.events.specs.Grounds.{Accepted}
use Rattle.events.specs.Steps.{record_grounds}
use Rattle.ticks.specs.declared.TickRefusal.{TickRefusal}
use Rattle.ticks.specs.declared.TickRefusal.TheVariants.{Refused, Conflict}
use Rattle.ticks.specs.Conflicts.{conflict}
use Rattle.ticks.specs.Ticks.{known, first_refused, partner, first_pair}
use Rattle.ticks.proofs.Judged.{EachAlone}
use Rattle.ticks.proofs.Diamond.{Peaceful}

-- ---- records that are all known, and accepted alone

pub known_all : (es : List Event) → known (map Some es) ≡ es
unfolding known
known_all [] = refl
known_all (e ∷ es) = ap (e ∷◌) (known_all es)

-- what is accepted alone is known
pub each_known : (s : Net) (ds : List Decoded) → EachAlone s ds → (es : List Event) × (ds ≡ map Some es) × All (Accepted s) es
unfolding record_grounds
each_known s [] h = ([], refl, tt)
each_known s (None ∷ ds) h = absurd (none_some {a = UnfitRecord} h.0 refl)
each_known s (Some e ∷ ds) h = let r = each_known s ds h.1 in (e ∷ r.0, ap (Some e ∷◌) r.1, (h.0, r.2))

pub refuses_none : (s : Net) (i : ℕ) (es : List Event) → All (Accepted s) es → first_refused s i (map Some es) ≡ None
unfolding first_refused record_grounds
refuses_none s i [] h = refl
refuses_none s i (e ∷ es) h = rw (h.0, first_refused) (refuses_none s (suc i) es h.1)

-- ---- no two in conflict

partner_none : (s : Net) (e : Event) (j : ℕ) (fs : List Event) → (partner s e j fs ≡ None) ↔ All (Peaceful s e) fs
unfolding partner
partner_none s e j [] = (λ _. tt, λ _. refl)
partner_none s e j (f ∷ fs) = (
  λ h. split (conflict s e f)
      (λ t. absurd (none_some {a = j} h (rw (t, partner))))
      (λ t. (t, (partner_none s e (suc j) fs).0 (rw (t, partner) at h))),
  λ a. rw (a.0, partner) ((partner_none s e (suc j) fs).1 a.1),
)

pub pair_none : (s : Net) (i : ℕ) (es : List Event) → (first_pair s i es ≡ None) ↔ Pairwise (λ e f. conflict s e f ≡ false) es
unfolding first_pair
pair_none s i [] = (λ _. tt, λ _. refl)
pair_none s i (e ∷ es) = (
  λ h. there (partner s e (suc i) es)
      (λ n. ((partner_none s e (suc i) es).0 n, (pair_none s (suc i) es).0 (rw (n, first_pair) at h)))
      (λ j n. absurd (none_some {a = Conflict i j} h (rw (n, first_pair)))),
  λ a. rw ((partner_none s e (suc i) es).1 a.0, first_pair) ((pair_none s (suc i) es).1 a.1),
)

-- ---- the lowest record refused alone

-- the record at `place` is refused for `number`, and none before it
pub record LowestRefused (s : Net) (ds : List Decoded) (number : Refusal) (place : ℕ) : Type 0 where
  -- there is such a record
  pub in_list : place < length ds
  -- alone in s, `number` is the first ground that holds of it
  pub refused : refusal (record_grounds s (get_or ds place None)) ≡ Some number
  -- every record before it is accepted alone in s
  pub before : (j : ℕ) → j < place → refusal (record_grounds s (get_or ds j None)) ≡ None

refused_later : (s : Net) (d : Decoded) (ds : List Decoded) (n : Refusal) (i : ℕ) → refusal (record_grounds s d) ≡ None → LowestRefused s ds n i
    → LowestRefused s (d ∷ ds) n (suc i)
refused_later s d ds n i h r = record { in_list = omega (arith, r.in_list); refused = r.refused; before = earlier }
  where
    earlier : (j : ℕ) → j < suc i → refusal (record_grounds s (get_or (d ∷ ds) j None)) ≡ None
    earlier zero k = h
    earlier (suc j) k = r.before j (omega arith)

pub finds_refused : (s : Net) (i : ℕ) (ds : List Decoded) (a : TickRefusal) → first_refused s i ds ≡ Some a
    → (n : Refusal) × (k : ℕ) × (a ≡ Refused n (i + k)) × LowestRefused s ds n k
unfolding first_refused
finds_refused s i [] a h = absurd (none_some {a = a} refl h)
finds_refused s i (d ∷ ds) a h =
    there (refusal (record_grounds s d))
    (λ n.
    let r = finds_refused s (suc i) ds a (rw (n, first_refused) at h) in
    (r.0, suc r.1, r.2 ∙ ap (Refused r.0) (omega arith), refused_later s d ds r.0 r.1 n r.3))
    (λ n k.
    let z = some_same (Refused n i) a (rw (k, first_refused) at h) in
    (n, 0, sym z ∙ ap (Refused n) (omega arith), record { in_list = omega arith; refused = k; before = λ j l. absurd (omega arith) }))

pub refused_is_found : (s : Net) (i : ℕ) (ds : List Decoded) (n : Refusal) (k : ℕ) → LowestRefused s ds n k → first_refused s i ds ≡ Some (Refused n (i + k))
unfolding first_refused
refused_is_found s i [] n k r = absurd (omega (arith, r.in_list))
refused_is_found s i (d ∷ ds) n zero r = rw (r.refused, first_refused) (ap (λ (j : ℕ). Some (Refused n j)) (omega arith))
refused_is_found s i (d ∷ ds) n (suc k) r =
    rw (r.before zero (omega arith), first_refused)
    (refused_is_found s (suc i) ds n k
    (record { in_list = omega (arith, r.in_list); refused = r.refused; before = λ j l. r.before (suc j) (omega arith) })
    ∙ ap (λ (j : ℕ). Some (Refused n j)) (omega arith))

-- ---- the lowest conflicting pair

module _ (s : Net) (d : Event) where
  -- e conflicts with the event at `other` of fs, and with none before it
  record LowestPartner (e : Event) (fs : List Event) (other : ℕ) : Type 0 where
    in_list : other < length fs
    conflicts : conflict s e (get_or fs other d) ≡ true
    before : (j : ℕ) → j < other → conflict s e (get_or fs j d) ≡ false

  finds_partner : (e : Event) (i : ℕ) (fs : List Event) (j : ℕ) → partner s e i fs ≡ Some j → (k : ℕ) × (j ≡ i + k) × LowestPartner e fs k
  unfolding partner
  finds_partner e i [] j h = absurd (none_some {a = j} refl h)
  finds_partner e i (f ∷ fs) j h =
      split (conflict s e f)
      (λ t.
      let z : j ≡ i = cc (rw (t, partner) at h) in
      (0, omega arith, record { in_list = omega arith; conflicts = t; before = λ k l. absurd (omega arith) }))
      (λ t.
      let r = finds_partner e (suc i) fs j (rw (t, partner) at h) in
      (suc r.0, omega (arith, r.1), record { in_list = omega (arith, r.2.in_list); conflicts = r.2.conflicts; before = earlier r.0 t r.2.before }))
    where
      earlier : (k : ℕ) → conflict s e f ≡ false → ((l : ℕ) → l < k → conflict s e (get_or fs l d) ≡ false)
          → (l : ℕ) → l < suc k → conflict s e (get_or (f ∷ fs) l d) ≡ false
      earlier k t b zero m = t
      earlier k t b (suc l) m = b l (omega arith)

  partner_is_found : (e : Event) (i : ℕ) (fs : List Event) (k : ℕ) → LowestPartner e fs k → partner s e i fs ≡ Some (i + k)
  unfolding partner
  partner_is_found e i [] k r = absurd (omega (arith, r.in_list))
  partner_is_found e i (f ∷ fs) zero r = rw (r.conflicts, partner) (ap Some (omega arith))
  partner_is_found e i (f ∷ fs) (suc k) r =
      rw (r.before zero (omega arith), partner)
      (partner_is_found e (suc i) fs k
      (record { in_list = omega (arith, r.in_list); conflicts = r.conflicts; before = λ j l. r.before (suc j) (omega arith) })
      ∙ ap Some (omega arith))

  -- the pair (k, l) comes before the pair (i, j)
  abbrev pub Before : ℕ → ℕ → ℕ → ℕ → Type 0
  Before k l i j = (k < i) ⊎ ((k ≡ i) × (l < j))

  -- the events at i and j conflict, and those of no pair before it; d would be read behind the list's end, and never is
  pub record LowestPair (es : List Event) (i j : ℕ) : Type 0 where
    -- two places of the list, the lower one first
    pub in_order : i < j
    pub in_list : j < length es
    -- their events conflict in s
    pub conflicts : conflict s (get_or es i d) (get_or es j d) ≡ true
    -- no two conflict of which the first stands before i, or is i and the second stands before j
    pub before : (k l : ℕ) → k < l → l < length es → Before k l i j → conflict s (get_or es k d) (get_or es l d) ≡ false

  pair_later : (e : Event) (es : List Event) (i j : ℕ) → All (Peaceful s e) es → LowestPair es i j → LowestPair (e ∷ es) (suc i) (suc j)
  pair_later e es i j h r = record {
    in_order = omega (arith, r.in_order);
    in_list = omega (arith, r.in_list);
    conflicts = r.conflicts;
    before = earlier;
  }
    where
      nearer : (k l : ℕ) → Before (suc k) (suc l) (suc i) (suc j) → Before k l i j
      nearer k l (inl a) = inl (omega arith)
      nearer k l (inr a) = inr (omega (arith, a.0), omega (arith, a.1))

      earlier : (k l : ℕ) → k < l → l < length (e ∷ es) → Before k l (suc i) (suc j) → conflict s (get_or (e ∷ es) k d) (get_or (e ∷ es) l d) ≡ false
      earlier k zero a b c = absurd (omega arith)
      earlier zero (suc l) a b c = all_at (Peaceful s e) d es h l (omega arith)
      earlier (suc k) (suc l) a b c = r.before k l (omega arith) (omega arith) (nearer k l c)

  pair_here : (e : Event) (es : List Event) (j : ℕ) → LowestPartner e es j → LowestPair (e ∷ es) 0 (suc j)
  pair_here e es j r = record {
    in_order = omega arith;
    in_list = omega (arith, r.in_list);
    conflicts = r.conflicts;
    before = earlier;
  }
    where
      earlier : (k l : ℕ) → k < l → l < length (e ∷ es) → Before k l 0 (suc j) → conflict s (get_or (e ∷ es) k d) (get_or (e ∷ es) l d) ≡ false
      earlier k l a b (inl c) = absurd (omega arith)
      earlier zero zero a b (inr c) = absurd (omega arith)
      earlier zero (suc l) a b (inr c) = r.before l (omega (arith, c.1))
      earlier (suc k) l a b (inr c) = absurd (omega (arith, c.0))

  places : {k l m n : ℕ} → k ≡ m → l ≡ n → Conflict k l ≡ Conflict m n
  places p q = λ x. Conflict (p x) (q x)

  pub finds_pair : (i : ℕ) (es : List Event) (a : TickRefusal) → first_pair s i es ≡ Some a
      → (k l : ℕ) × (a ≡ Conflict (i + k) (i + l)) × LowestPair es k l
  unfolding first_pair
  finds_pair i [] a h = absurd (none_some {a = a} refl h)
  finds_pair i (e ∷ es) a h =
      there (partner s e (suc i) es)
      (λ n.
      let r = finds_pair (suc i) es a (rw (n, first_pair) at h) in
      (suc r.0, suc r.1, r.2 ∙ places (omega arith) (omega arith), pair_later e es r.0 r.1 ((partner_none s e (suc i) es).0 n) r.3))
      (λ j n.
      let z = sym (some_same (Conflict i j) a (rw (n, first_pair) at h)) in
      let r = finds_partner e (suc i) es j n in
      (0, suc r.0, z ∙ places (omega arith) (omega (arith, r.1)), pair_here e es r.0 r.2))

  pub pair_is_found : (i : ℕ) (es : List Event) (k l : ℕ) → LowestPair es k l → first_pair s i es ≡ Some (Conflict (i + k) (i + l))
  unfolding first_pair
  pair_is_found i [] k l r = absurd (omega (arith, r.in_list))
  pair_is_found i (e ∷ es) k zero r = absurd (omega (arith, r.in_order))
  pair_is_found i (e ∷ es) zero (suc l) r =
      let p = partner_is_found e (suc i) es l
      (record {
        in_list = omega (arith, r.in_list);
        conflicts = r.conflicts;
        before = λ j h. r.before zero (suc j) (omega arith) (omega (arith, r.in_list)) (inr (refl, omega arith));
      }) in
      rw (p, first_pair) (ap Some (places (omega arith) (omega arith)))
  pair_is_found i (e ∷ es) (suc k) (suc l) r =
      let n = (partner_none s e (suc i) es).1 (at_all (Peaceful s e) d es (λ j h. r.before zero (suc j) (omega arith) (omega arith) (inl (omega arith)))) in
      rw (n, first_pair)
      (pair_is_found (suc i) es k l
      (record {
        in_order = omega (arith, r.in_order);
        in_list = omega (arith, r.in_list);
        conflicts = r.conflicts;
        before = λ m n p q c. r.before (suc m) (suc n) (omega arith) (omega arith) (farther m n c);
      })
      ∙ ap Some (places (omega arith) (omega arith)))
    where
      farther : (m n : ℕ) → Before m n k l → Before (suc m) (suc n) (suc k) (suc l)
      farther m n (inl a) = inl (omega arith)
      farther m n (inr a) = inr (omega (arith, a.0), omega (arith, a.1))
