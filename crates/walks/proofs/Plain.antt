-- A type that is passed by value and owns nothing, with what a walk needs of it: for any struct, enum, number or bool. Assumes nothing.
use mathlib.Core.Path.{◌≡◌, refl, sym, subst}
use mathlib.Core.List.{[], ◌∷◌}
use seplogic.Ra.Ura.{Ura}
use lib.Dec.{T as Holds}
use mir.Syntax.{Width}
use mir.Val.{Val, has_ty, WT, vint, vbool, vunit}
use base.Fml.{ftrue}
use types.Logic.{Logic}
use denote.RattleType.{RattleType}
use denote.Laws.{Is, Tells, Makes}
use denote.Builtin.{bool, unit}
use Prim.Native.Nat.{ℕ}
use denote.Array.{Array, array_vals, Array-Tells, Array-Makes, Array-Typed}
use denote.Steps.{only}
use denote.Plain.{UInt, uint_vals, uint_Tells, uint_Makes, uint_Lawful, bool_Tells, bool_Makes, bool_Lawful, Nothing-Tells, Nothing-Makes, Nothing-Lawful}
use denote.Exit.{Exit, Last, left, unchanged, yes}
use denote.Struct.Struct.{Plains}
use denote.Enum.Enum.{Plainss, Few}
use denote.Struct.Declared as SD
use denote.Struct.Laws as LL
use denote.Enum.Declared as ED
use denote.Enum.Laws as EL
use Rattle.walks.proofs.Lending.{one}

pub record Plain : Type 2 where
  pub row : RattleType
  pub val : row.Denot → Val
  pub tells : Tells row (Is row) (λ x. val x ∷ [])
  pub makes : (M : Type 1) (𝓤 : Ura M) (𝓛 : Logic 𝓤) → Makes 𝓛 row (Is row)
  pub typed : (M : Type 1) (𝓤 : Ura M) (𝓛 : Logic 𝓤) → (x : row.Denot) (u : Val) → Is row x (u ∷ []) → Holds (has_ty (one row.mir) u) × WT u
  pub still : row.exit yes ≡ unchanged

abbrev pub of_struct : (D : SD.Declared) (L : LL.Laws D) → Plains (SD.fields D) → LL.Copyables D.parts → Plain
of_struct D L P Cp = record {
  row = SD.row D;
  val = LL.val D L;
  tells = LL.tells D L;
  makes = λ M 𝓤 𝓛. LL.makes D P 𝓛;
  typed = λ M 𝓤 𝓛 x u i. ((LL.lawful D L 𝓛).typed x (u ∷ []) i).0;
  still = LL.still D Cp yes;
}

abbrev pub of_number : (w : Width) → Plain
of_number w = record {
  row = UInt w;
  val = λ n. vint w n;
  tells = uint_Tells w;
  makes = λ M 𝓤 𝓛. uint_Makes 𝓛 w;
  typed = λ M 𝓤 𝓛 x u i. ((uint_Lawful 𝓛 w).typed x (u ∷ []) i).0;
  still = refl;
}

-- an array of numbers
abbrev pub of_numbers : (w : Width) (n : ℕ) → Plain
of_numbers w n = record {
  row = Array (UInt w) n;
  val = λ xs. only (array_vals (uint_vals w) xs);
  tells = Array-Tells (UInt w) (uint_vals w) (uint_Tells w) n;
  makes = λ M 𝓤 𝓛. Array-Makes 𝓛 (UInt w) (uint_Makes 𝓛 w) n;
  typed = λ M 𝓤 𝓛 x u i. (Array-Typed (UInt w) (λ m vs j. (uint_Lawful 𝓛 w).typed m vs j) n x (u ∷ []) i).0;
  still = refl;
}

abbrev pub of_bool : Plain
of_bool = record {
  row = bool;
  val = λ b. vbool b;
  tells = bool_Tells;
  makes = λ M 𝓤 𝓛. bool_Makes 𝓛;
  typed = λ M 𝓤 𝓛 x u i. ((bool_Lawful 𝓛).typed x (u ∷ []) i).0;
  still = refl;
}

abbrev pub of_unit : Plain
of_unit = record {
  row = unit;
  val = λ _. vunit;
  tells = Nothing-Tells;
  makes = λ M 𝓤 𝓛. Nothing-Makes 𝓛;
  typed = λ M 𝓤 𝓛 x u i. ((Nothing-Lawful 𝓛).typed x (u ∷ []) i).0;
  still = refl;
}

abbrev pub of_enum : (D : ED.Declared) (L : EL.Laws D) → Few (ED.shape D) → Plainss (ED.variants D) → EL.Copyabless D.parts → Plain
of_enum D L few P Cp = record {
  row = ED.row D;
  val = EL.val D L;
  tells = EL.tells D L;
  makes = λ M 𝓤 𝓛. EL.makes D P 𝓛;
  typed = λ M 𝓤 𝓛 x u i. ((EL.lawful D L 𝓛 few).typed x (u ∷ []) i).0;
  still = EL.still D Cp yes;
}

-- what is bound of such a value at exit, and that nothing is said of it
pub bound : {D : Type 0} (e : Exit D) → e ≡ unchanged → (x : D) → Last e x
bound {D} e s x = subst (λ (z : Exit D). Last z x) (sym s) tt

pub quiet : {D : Type 0} (e : Exit D) → e ≡ unchanged → (x : D) (f : Last e x) → left e x f ≡ ftrue
quiet {D} e s = subst (λ (z : Exit D). (x : D) (f : Last z x) → left z x f ≡ ftrue) (sym s) (λ x f. refl)
