-- A look by one walk: told whether a P was passed, the look at what is left is the look at all.
use Rattle.std.specs.Prelude.{Option, None, Some}
use Rattle.std.specs.Option.{option_map}
use mathlib.Core.Path.{◌≡◌, refl, ap, ◌∙◌}
use mathlib.Core.Bool.{Bool, true, false, ◌||◌}
use mathlib.Core.List.{List, [], ◌∷◌}
use Rattle.base.specs.Lists.{find}
use Rattle.base.proofs.Logic.{there}
use Rattle.queue.specs.declared.Entry.{Entry}
use Rattle.queue.specs.declared.Look.{Look}
use Rattle.queue.specs.Entries.{P, is_kind}
use Rattle.queue.specs.code.Changes.{look_by}
use Rattle.queue.proofs.Plainly.{behind_P_here, behind_P_past}

abbrev pub seen : Bool → Option Look → Option Look
seen b o = option_map (λ w. record { behind = b || w.behind; entry = w.entry }) o

pub seen_first : (o : Option Look) → seen false o ≡ o
seen_first None = refl
seen_first (Some w) = refl

or_false : (b : Bool) → (b || false) ≡ b
or_false false = refl
or_false true = refl

module _ (p : Entry → Bool) (b : Bool) (x : Entry) (l : List Entry) where
  itself : p x ≡ true → look_by p (x ∷ l) ≡ Some (record { behind = false; entry = x })
  unfolding find
  itself h = rw (h, behind_P_here p x l h)

  -- the entry itself
  pub look_here : p x ≡ true → seen b (look_by p (x ∷ l)) ≡ Some (record { behind = b; entry = x })
  look_here h = ap (seen b) (itself h) ∙ ap (λ (c : Bool). Some (record { behind = c; entry = x })) (or_false b)

  another : (k : Bool) → is_kind P x ≡ k → p x ≡ false → look_by p (x ∷ l) ≡ seen k (look_by p l)
  unfolding find
  another true k h = there (find p l) (λ f. rw (h, f)) (λ y f. rw (h, behind_P_past p x l h, k, f))
  another false k h = there (find p l) (λ f. rw (h, f)) (λ y f. rw (h, behind_P_past p x l h, k, f))

  twice : (b k : Bool) (o : Option Look) → seen b (seen k o) ≡ seen (b || k) o
  twice b k None = refl
  twice false k (Some w) = refl
  twice true k (Some w) = refl

  -- one that it is not
  pub look_past : p x ≡ false → seen b (look_by p (x ∷ l)) ≡ seen (b || is_kind P x) (look_by p l)
  look_past h = ap (seen b) (another (is_kind P x) refl h) ∙ twice b (is_kind P x) (look_by p l)

pub look_none : (p : Entry → Bool) (b : Bool) → seen b (look_by p []) ≡ None
unfolding find
look_none p b = refl
