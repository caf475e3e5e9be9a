-- Accepted is: no ground holds. So acceptance is the list of the grounds' negations, and a refusal names a ground that holds.
use Rattle.base.specs.declared.Refusal.{Refusal}
use mathlib.Core.Path.{◌≡◌, refl, ap, sym, ◌∙◌}
use mathlib.Core.Bool.{false}
use mathlib.Core.List.{List, [], ◌∷◌, ◌++◌}
use Rattle.std.specs.Prelude.{Option, None, Some, Result, Ok, Err}
use Rattle.base.specs.Grounds.{Ground, refusal, answer, number, number_or_0}
use Rattle.base.proofs.Logic.{split, none_some}

-- every ground fails
abbrev pub Clear : List Ground → Type 0
Clear [] = Unit {0}
Clear (g ∷ gs) = (g.1 ≡ false) × Clear gs

pub clear : (gs : List Ground) → refusal gs ≡ None → Clear gs
clear [] h = tt
clear (g ∷ gs) h = split g.1 (λ t. absurd (none_some {a = g.0} h (rw t))) (λ f. (f, clear gs (rw f at h)))

pub unclear : (gs : List Ground) → Clear gs → refusal gs ≡ None
unclear [] h = refl
unclear (g ∷ gs) h = rw h.0 (unclear gs h.1)

-- grounds behind others: looked at where no other holds
pub refused_before : (gs hs : List Ground) {n : Refusal} → refusal gs ≡ Some n → refusal (gs ++ hs) ≡ Some n
refused_before [] hs {n} h = absurd (none_some {a = n} refl h)
refused_before (g ∷ gs) hs h = split g.1 (λ t. rw t (rw t at h)) (λ f. rw f (refused_before gs hs (rw f at h)))

pub refused_behind : (gs hs : List Ground) → refusal gs ≡ None → refusal (gs ++ hs) ≡ refusal hs
refused_behind [] hs h = refl
refused_behind (g ∷ gs) hs h =
    split g.1 (λ t. absurd (none_some {a = g.0} h (rw t))) (λ f. rw f (refused_behind gs hs (rw f at h)))

-- an answer says which ground holds, or that none does
abbrev pub told : {A : Type 0} → Result A Refusal → Option Refusal
told (Ok b) = None
told (Err n) = Some n

pub refused_not : {A : Type 0} (n : Refusal) (a : A) → ◌≡◌ {A = Result A Refusal} (Err n) (Ok a) → ⊥
refused_not {A} n a e = none_some {a = n} refl (sym (ap (told {A = A}) e))

-- by what an answer is
pub by_result : {A : Type 0} (P : Result A Refusal → Type 0) (x : Result A Refusal) → ((n : Refusal) → x ≡ Err n → P (Err n)) → ((a : A) → x ≡ Ok a → P (Ok a)) → P x
by_result P (Err n) e o = e n refl
by_result P (Ok a) e o = o a refl

-- what an accepted answer holds
abbrev pub ok_or : {A : Type 0} → A → Result A Refusal → A
ok_or d (Ok x) = x
ok_or d (Err n) = d

pub ok_same : {A : Type 0} (a b : A) → ◌≡◌ {A = Result A Refusal} (Ok a) (Ok b) → a ≡ b
ok_same a b h = ap (ok_or a) h

module _ {A : Type 0} (a : A) where
  -- an answer's number is that of the first ground that holds, and 0 where none does
  pub numbered : (o : Option Refusal) → number (answer o a) ≡ number_or_0 o
  numbered None = refl
  numbered (Some n) = refl

  its_own : (o : Option Refusal) → o ≡ told (answer o a)
  its_own None = refl
  its_own (Some n) = refl

  pub answered_ok : (o : Option Refusal) {b : A} → answer o a ≡ Ok b → o ≡ None
  answered_ok o h = its_own o ∙ ap told h

  pub answered_err : (o : Option Refusal) {n : Refusal} → answer o a ≡ Err n → o ≡ Some n
  answered_err o h = its_own o ∙ ap told h
