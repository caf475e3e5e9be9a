-- What adding, altering and counting do to what is found in a list, and what changes of one cell do to each other and to the rest.
-- Each by going down the list; at each element a test says which case it is, and with its equation the definitions compute.
use Prim.Native.Nat.{ℕ, zero, suc, ◌+◌, ◌≤◌}
use native.Mathlib.Omega.{arith}
use native.Mathlib.Nat.{le_refl}
use mathlib.Core.Path.{◌≡◌, refl, sym, ap}
use mathlib.Core.Logic.{◌≢◌}
use mathlib.Core.List.{List, [], ◌∷◌, ◌++◌, append_assoc}
use mathlib.Core.Bool.{Bool, false}
use Rattle.std.specs.Prelude.{None, Some}
use lib.ListN.{length, get_or, length-append}
use Rattle.base.specs.Lists.{find, alter, count, modify}
use Rattle.base.proofs.Logic.{split, none_some}

module _ {A : Type 0} where
  -- what is found stays so, whatever comes behind it
  pub find_add : (p : A → Bool) (l m : List A) {e : A} → find p l ≡ Some e → find p (l ++ m) ≡ Some e
  unfolding find
  find_add p [] m {e} h = absurd (none_some {a = e} refl h)
  find_add p (x ∷ xs) m h = split (p x) (λ t. rw t (rw t at h)) (λ f. rw f (find_add p xs m (rw f at h)))

  -- where none is found, what comes behind is looked through
  pub none_add : (p : A → Bool) (l m : List A) → find p l ≡ None → find p (l ++ m) ≡ find p m
  unfolding find
  none_add p [] m h = refl
  none_add p (x ∷ xs) m h = split (p x) (λ t. absurd (none_some {a = x} h (rw t))) (λ f. rw f (none_add p xs m (rw f at h)))

  -- an altered element that does not pass, and makes nothing that passes, hides and shows nothing
  pub find_alter : (p q : A → Bool) (f : A → List A) → ((x : A) → p x ≡ false → find p (f x) ≡ None)
      → (l : List A) {e : A} → find p l ≡ Some e → q e ≡ false → find p (alter q f l) ≡ Some e
  unfolding find alter
  find_alter p q f hf [] {e} h hq = absurd (none_some {a = e} refl h)
  find_alter p q f hf (x ∷ xs) {e} h hq =
      split (p x)
      (λ t. let s : Some x ≡ Some e = rw t at h in let k : q x ≡ false = cc in rw (k, t) s)
      (λ t. split (q x)
      (λ k. rw k (rw (none_add p (f x) xs (hf x t)) (rw t at h)))
      (λ k. rw (k, t) (find_alter p q f hf xs (rw t at h) hq)))

  pub none_alter : (p q : A → Bool) (f : A → List A) → ((x : A) → p x ≡ false → find p (f x) ≡ None)
      → (l : List A) → find p l ≡ None → find p (alter q f l) ≡ None
  unfolding find alter
  none_alter p q f hf [] h = refl
  none_alter p q f hf (x ∷ xs) h =
      split (p x)
      (λ t. absurd (none_some {a = x} h (rw t)))
      (λ t. split (q x)
      (λ k. rw k (rw (none_add p (f x) xs (hf x t)) (rw t at h)))
      (λ k. rw (k, t) (none_alter p q f hf xs (rw t at h))))

  pub count_add : (p : A → Bool) (l m : List A) → count p (l ++ m) ≡ count p l + count p m
  unfolding count
  count_add p [] m = omega arith
  count_add p (x ∷ xs) m = split (p x) (λ t. rw t (omega (arith, count_add p xs m))) (λ t. rw t (count_add p xs m))

  pub count_alter : (p q : A → Bool) (f : A → List A) → ((x : A) → count p (f x) ≤ count p (x ∷ []))
      → (l : List A) → count p (alter q f l) ≤ count p l
  unfolding alter
  count_alter p q f hf [] = le_refl _
  count_alter p q f hf (x ∷ xs) =
      split (q x)
      (λ k. rw k (omega (arith, hf x, count_add p (f x) xs, count_add p (x ∷ []) xs)))
      (λ k. rw k (omega (arith, count_alter p q f hf xs, count_add p (x ∷ []) xs, count_add p (x ∷ []) (alter q f xs))))

  -- an element that is there is altered alike before and after an addition
  pub alter_add : (q : A → Bool) (f : A → List A) (l m : List A) {e : A} → find q l ≡ Some e → alter q f (l ++ m) ≡ alter q f l ++ m
  unfolding find alter
  alter_add q f [] m {e} h = absurd (none_some {a = e} refl h)
  alter_add q f (x ∷ xs) m h = split (q x) (λ k. rw k (sym (append_assoc (f x) xs m))) (λ k. rw k (ap (x ∷◌) (alter_add q f xs m (rw k at h))))

  pub alter_skip : (q : A → Bool) (f : A → List A) (l m : List A) → find q l ≡ None → alter q f (l ++ m) ≡ l ++ alter q f m
  unfolding find alter
  alter_skip q f [] m h = refl
  alter_skip q f (x ∷ xs) m h = split (q x) (λ k. absurd (none_some {a = x} h (rw k))) (λ k. rw k (ap (x ∷◌) (alter_skip q f xs m (rw k at h))))

  -- two elements are altered in either order
  pub alter_comm : (q r : A → Bool) (f g : A → List A) (l : List A) {e d : A} → find q l ≡ Some e → find r l ≡ Some d
      → r e ≡ false → q d ≡ false → find r (f e) ≡ None → find q (g d) ≡ None
      → alter q f (alter r g l) ≡ alter r g (alter q f l)
  unfolding find alter
  alter_comm q r f g [] he hd re qd hf hg = refl
  alter_comm q r f g (x ∷ xs) {e} {d} he hd re qd hf hg =
      split (q x)
      (λ t. let s : Some x ≡ Some e = rw t at he in let k : r x ≡ false = cc in let hfx : find r (f x) ≡ None = cc in simp (t, k) (sym (alter_skip r g (f x) xs hfx)))
      (λ t. split (r x)
      (λ k. let s : Some x ≡ Some d = rw k at hd in let hgx : find q (g x) ≡ None = cc in simp (t, k) (alter_skip q f (g x) xs hgx))
      (λ k. simp (t, k) (ap (x ∷◌) (alter_comm q r f g xs (rw t at he) (rw k at hd) re qd hf hg))))

  -- where each gives way to at most one, the list grows no longer
  pub length_alter : (q : A → Bool) (f : A → List A) → ((x : A) → length (f x) ≤ 1) → (l : List A) → length (alter q f l) ≤ length l
  unfolding alter
  length_alter q f hf [] = le_refl _
  length_alter q f hf (x ∷ xs) =
      split (q x)
      (λ k. rw k (simp length-append (omega (arith, hf x))))
      (λ k. rw k (omega (arith, length_alter q f hf xs)))

  -- one cell of a list changed
  pub modify_modify : (l : List A) (i : ℕ) (f g : A → A) → modify (modify l i g) i f ≡ modify l i (λ x. f (g x))
  unfolding modify
  modify_modify [] i f g = refl
  modify_modify (x ∷ xs) zero f g = refl
  modify_modify (x ∷ xs) (suc i) f g = ap (x ∷◌) (modify_modify xs i f g)

  pub modify_comm : (l : List A) (i j : ℕ) (f g : A → A) → i ≢ j → modify (modify l j g) i f ≡ modify (modify l i f) j g
  unfolding modify
  modify_comm [] i j f g h = refl
  modify_comm (x ∷ xs) zero zero f g h = absurd (h refl)
  modify_comm (x ∷ xs) zero (suc j) f g h = refl
  modify_comm (x ∷ xs) (suc i) zero f g h = refl
  modify_comm (x ∷ xs) (suc i) (suc j) f g h = ap (x ∷◌) (modify_comm xs i j f g (λ e. h (ap suc e)))

  -- two changes of one cell that agree in either order on what stands there
  pub modify_same : (l : List A) (i : ℕ) (f g : A → A) (d : A) → f (g (get_or l i d)) ≡ g (f (get_or l i d)) → modify (modify l i g) i f ≡ modify (modify l i f) i g
  unfolding modify
  modify_same [] i f g d h = refl
  modify_same (x ∷ xs) zero f g d h = ap (◌∷ xs) h
  modify_same (x ∷ xs) (suc i) f g d h = ap (x ∷◌) (modify_same xs i f g d h)

  pub getD_modify_other : (l : List A) (i j : ℕ) (f : A → A) (d : A) → i ≢ j → get_or (modify l i f) j d ≡ get_or l j d
  unfolding modify
  getD_modify_other [] i j f d h = refl
  getD_modify_other (x ∷ xs) zero zero f d h = absurd (h refl)
  getD_modify_other (x ∷ xs) zero (suc j) f d h = refl
  getD_modify_other (x ∷ xs) (suc i) zero f d h = refl
  getD_modify_other (x ∷ xs) (suc i) (suc j) f d h = getD_modify_other xs i j f d (λ e. h (ap suc e))

  -- what f keeps, a change of one cell by f keeps at that cell, also where there is none
  pub modify_keeps : (P : A → Type 0) (l : List A) (i : ℕ) (f : A → A) (d : A) → (P (get_or l i d) → P (f (get_or l i d)))
      → P (get_or l i d) → P (get_or (modify l i f) i d)
  unfolding modify
  modify_keeps P [] i f d k h = h
  modify_keeps P (x ∷ xs) zero f d k h = k h
  modify_keeps P (x ∷ xs) (suc i) f d k h = modify_keeps P xs i f d k h
