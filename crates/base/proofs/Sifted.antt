-- Those of a list that pass a test: what finding, counting, adding and altering make of them.
-- Each by going down the list; a test at each element says which case it is.
use Prim.Native.Nat.{ℕ, suc}
use native.Mathlib.Omega.{arith}
use mathlib.Core.Path.{◌≡◌, refl, ap, ◌∙◌}
use mathlib.Core.Bool.{Bool, true, false, ◌||◌}
use mathlib.Core.List.{List, [], ◌∷◌, ◌++◌, append-nil}
use Rattle.base.specs.Lists.{find, alter, only, count}
use Rattle.base.proofs.Logic.{split}
use Rattle.base.proofs.Cells.{In, first, later}

pub cons_nil : {A : Type 0} {x : A} {l : List A} → x ∷ l ≡ [] → ⊥
cons_nil e = let z : ◌≡◌ {A = ℕ} 0 1 = cc in omega arith

module _ {A : Type 0} (p : A → Bool) where
  pub only_append : (l m : List A) → only p (l ++ m) ≡ only p l ++ only p m
  unfolding only
  only_append [] m = refl
  only_append (x ∷ l) m = split (p x) (λ t. rw t (ap (x ∷◌) (only_append l m))) (λ f. rw f (only_append l m))

  pub only_one : (x : A) → p x ≡ true → only p (x ∷ []) ≡ x ∷ []
  unfolding only
  only_one x h = rw h

  pub only_no : (x : A) → p x ≡ false → only p (x ∷ []) ≡ []
  unfolding only
  only_no x h = rw h

  -- one more, that does not pass
  pub only_add : (l : List A) (x : A) → p x ≡ false → only p (l ++ (x ∷ [])) ≡ only p l
  only_add l x h = only_append l (x ∷ []) ∙ ap (only p l ++◌) (only_no x h) ∙ append-nil (only p l)

  pub in_only : (l : List A) {x : A} → In x l → p x ≡ true → In x (only p l)
  unfolding only
  in_only [] i h = elim i [ ]
  in_only (y ∷ l) first h = rw h first
  in_only (y ∷ l) (later i) h = split (p y) (λ t. rw t (later (in_only l i h))) (λ f. rw f (in_only l i h))

  -- a test that only such pass finds and counts the same among them
  module _ (q : A → Bool) (narrower : (x : A) → q x ≡ true → p x ≡ true) where
    pub find_only : (l : List A) → find q (only p l) ≡ find q l
    unfolding only find
    find_only [] = refl
    find_only (x ∷ l) =
        split (q x)
        (λ t. rw (narrower x t, t))
        (λ n. split (p x) (λ t. rw (t, n) (find_only l)) (λ f. rw (f, n) (find_only l)))

    pub count_only : (l : List A) → count q (only p l) ≡ count q l
    unfolding only count
    count_only [] = refl
    count_only (x ∷ l) =
        split (q x)
        (λ t. simp (narrower x t, t) (ap suc (count_only l)))
        (λ n. split (p x) (λ t. simp (t, n) (count_only l)) (λ f. simp (f, n) (count_only l)))

    -- one that passes gives way to such as pass
    pub only_alter : (f : A → List A) → ((x : A) → q x ≡ true → only p (f x) ≡ f x) → (l : List A) → only p (alter q f l) ≡ alter q f (only p l)
    unfolding only alter
    only_alter f k [] = refl
    only_alter f k (x ∷ l) =
        split (q x)
        (λ t. simp (narrower x t, t) (only_append (f x) l ∙ ap (◌++ only p l) (k x t)))
        (λ n. split (p x) (λ t. simp (t, n) (ap (x ∷◌) (only_alter f k l))) (λ m. simp (m, n) (only_alter f k l)))

  -- one that does not pass, to such as do not
  pub only_past : (q : A → Bool) (f : A → List A) → ((x : A) → q x ≡ true → p x ≡ false) → ((x : A) → q x ≡ true → only p (f x) ≡ [])
      → (l : List A) → only p (alter q f l) ≡ only p l
  unfolding only alter
  only_past q f h k [] = refl
  only_past q f h k (x ∷ l) =
      split (q x)
      (λ t. simp (h x t, t) (only_append (f x) l ∙ ap (◌++ only p l) (k x t)))
      (λ n. split (p x) (λ t. simp (t, n) (ap (x ∷◌) (only_past q f h k l))) (λ m. simp (m, n) (only_past q f h k l)))

  -- where nothing passes a second test, the first decides
  pub only_first : (q : A → Bool) (l : List A) → only q l ≡ [] → only (λ x. p x || q x) l ≡ only p l
  unfolding only
  only_first q [] h = refl
  only_first q (x ∷ l) h =
      split (q x)
      (λ y. absurd (cons_nil {x = x} {l = only q l} (rw y at h)))
      (λ n. split (p x)
      (λ y. simp (y, n) (ap (x ∷◌) (only_first q l (rw n at h))))
      (λ m. simp (m, n) (only_first q l (rw n at h))))
