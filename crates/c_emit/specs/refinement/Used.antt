-- What a walk over a unit finds of its uses.
use Rattle.std.specs.Prelude.{◌≡◌, map}
use Rattle.std.specs.List.{list_any}
use Rattle.c_typed.specs.Tree.{Typed}
use Rattle.c_code.specs.Limits.{is_long_copy}
use Rattle.c_code.specs.Modules.{all_functions, is_call_of, is_name_of, sigs_through}
use Rattle.c_code.specs.Uses.{uses}
use Rattle.c_emit.specs.declared.uses.Uses.{Uses}

pub record AreUses (u : Typed) (x : Uses) : Type 0 where
  pub used : x.used.items ≡ map (λ n. list_any (is_call_of n) (uses u)) (all_functions u)
  pub named : x.named.items ≡ map (λ n. list_any (is_name_of n) (uses u)) (all_functions u)
  pub through : x.through ≡ sigs_through u
  pub has_long_copy : x.has_long_copy ≡ list_any (is_long_copy u.structs) (uses u)
