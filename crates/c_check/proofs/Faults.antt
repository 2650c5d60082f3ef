-- The fault of external declarations is that of the unit.
use Rattle.std.proofs.Common.{◌≡◌, subst, List, Err}
use Rattle.c_tree.specs.declared.external.External.{External}
use Rattle.c_check_types.specs.State.{State}
use Rattle.c_check.specs.declared.fault.CCheck.{CCheck}
use Rattle.c_check.specs.declared.fault.CCheck.TheVariants.{NoTyping, Memory}
use Rattle.c_check.specs.Units.{externals, start}
use Rattle.c_check.specs.refinement.Views.{Checks, GoesOn}

pub told : (xs : List External) (s u : State) (fault : CCheck) → s ≡ start → GoesOn xs s u (Err fault) → Checks xs (Err fault)
told xs s u (NoTyping at) is h = subst (λ (t : State). externals xs t ≡ Err at) is h
told xs s u Memory is h = tt
