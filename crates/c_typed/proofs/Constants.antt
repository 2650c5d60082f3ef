-- A size is no constant that a variable is given: a number is, which the size of an initializer is by then.
use Rattle.std.proofs.Common.{◌≡◌, ℕ, false, refl}
use Rattle.c_typed.specs.Constants.{assigns_constant, is_constant, is_number, is_way}
use Rattle.c_typed.specs.declared.tree.Sized.{Sized}
use Rattle.c_typed.specs.declared.tree.Sized.TheVariants.{Place', Value', Nothing}
use Rattle.c_typed.specs.refinement.Views.{sized_of}

pub no_number : (o : Sized) (n : ℕ) → is_number (sized_of o n) ≡ false
no_number (Place' p b) n = refl
no_number (Value' p e) n = refl
no_number Nothing n = refl

pub no_way : (o : Sized) (n : ℕ) → is_way (sized_of o n) ≡ false
no_way (Place' p b) n = refl
no_way (Value' p e) n = refl
no_way Nothing n = refl

pub no_constant : (o : Sized) (n : ℕ) → is_constant (sized_of o n) ≡ false
no_constant (Place' p b) n = refl
no_constant (Value' p e) n = refl
no_constant Nothing n = refl

pub no_assignment : (o : Sized) (n : ℕ) → assigns_constant (sized_of o n) ≡ false
no_assignment (Place' p b) n = refl
no_assignment (Value' p e) n = refl
no_assignment Nothing n = refl
