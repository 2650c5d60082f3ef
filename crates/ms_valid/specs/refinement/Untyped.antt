-- The first of some functions that is not typed.
use Rattle.std.specs.Prelude.{◌≡◌, ◌<◌, ℕ, List, slice_get, Option, Some, None, All}
use Rattle.ms_module.specs.declared.module.Func.{Func}
use Rattle.ms_rules.specs.Context.{Context}
use Rattle.ms_rules.specs.Modules.{FuncTyped}

-- this many from the beginning are typed
abbrev pub AreTypedBelow : Context → List Func → ℕ → Type 0
AreTypedBelow c fs n = (k : ℕ) (f : Func) → k < n → slice_get fs k ≡ Some f → FuncTyped c f

pub record IsFirstAt (c : Context) (fs : List Func) (n : ℕ) : Type 0 where
  pub func : Func
  pub func_is : slice_get fs n ≡ Some func
  pub untyped : FuncTyped c func → ⊥
  pub least : AreTypedBelow c fs n

-- None where all are typed
abbrev pub IsFirstUntypedOf : Context → List Func → Option ℕ → Type 0
IsFirstUntypedOf c fs None = All (FuncTyped c) fs
IsFirstUntypedOf c fs (Some n) = IsFirstAt c fs n
