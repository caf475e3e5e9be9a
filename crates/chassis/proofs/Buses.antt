-- Two buses are one when their numbers are.
use mathlib.Core.Path.{◌≡◌, ap}
use mathlib.Core.Bool.{true, false}
use mathlib.Core.Logic.{◌⊎◌, inl, inr}
use borrow.Author.Tests.{eq-eqb, ne_eqb, eqb-true, eqb-false}
use Rattle.base.proofs.Logic.{split}
use Rattle.chassis.specs.declared.Bus.{Bus}
use Rattle.chassis.specs.Numbers.{same_bus}

pub bus_path : {a b : Bus} → a.0 ≡ b.0 → a ≡ b
bus_path p = λ i. record { 0 = p i }

pub same_yes : (a b : Bus) → same_bus a b ≡ true → a ≡ b
same_yes a b h = bus_path (eqb-true a.0 b.0 h)

pub same_no : (a b : Bus) → same_bus a b ≡ false → a ≡ b → ⊥
same_no a b h e = eqb-false a.0 b.0 h (ap (λ (c : Bus). c.0) e)

pub yes_same : (a b : Bus) → a ≡ b → same_bus a b ≡ true
yes_same a b e = eq-eqb a.0 b.0 (ap (λ (c : Bus). c.0) e)

pub no_same : (a b : Bus) → (a ≡ b → ⊥) → same_bus a b ≡ false
no_same a b n = ne_eqb a.0 b.0 (λ e. n (bus_path e))

pub same? : (a b : Bus) → (a ≡ b) ⊎ (a ≡ b → ⊥)
same? a b = split (same_bus a b) (λ h. inl (same_yes a b h)) (λ h. inr (same_no a b h))
