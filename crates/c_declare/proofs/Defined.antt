-- A function that is defined among those that are declared.
use Rattle.std.proofs.Common.{◌≡◌, ◌∙◌, ℕ, ◌<◌, List, length, get_or, set, map, Option, Some, sym, ap}
use Rattle.std.proofs.lemmas.List.{map-set}
use Rattle.std.proofs.lemmas.Option.{slice_get-map, slice_get-get_or}
use Rattle.std.specs.Option.{option_map}
use Rattle.c_types.specs.Types.{Ty}
use Rattle.c_typed.specs.Tree.{Function, Stmt}
use Rattle.c_typed.specs.refinement.Views.{function_of}
use Rattle.c_typed.specs.declared.unit.Function.{Function as Code}
use Rattle.c_check_types.specs.State.{and_then}
use Rattle.c_declare.specs.Functions.{defined, with_definition}

-- what is put there
abbrev put : List Code → ℕ → List Ty → Stmt → Function → Option (List Function)
put fs n slots body f = Some (set (map function_of fs) n (defined f slots body))

pub defined_at : (fs : List Code) (n : ℕ) (d g : Code) (slots : List Ty) (body : Stmt) → n < length fs → function_of g ≡ defined (function_of (get_or fs n d)) slots body
    → with_definition (map function_of fs) n slots body ≡ Some (map function_of (set fs n g))
defined_at fs n d g slots body lt e =
    ap (λ o. and_then o (put fs n slots body)) (slice_get-map function_of fs n ∙ ap (λ o. option_map function_of o) (slice_get-get_or fs n d lt))
    ∙ ap (λ f. Some (set (map function_of fs) n f)) (sym e) ∙ ap (λ l. Some l) (sym (map-set function_of fs n g))
