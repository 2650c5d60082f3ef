use Rattle.std.proofs.Common.{◌++◌, ◌∙◌, ℕ, List, [], ◌∷◌, codes, map, ap}
use Rattle.ms_module.specs.declared.module.Import.{Import}
use Rattle.c_typed.specs.Tree.{Typed}
use Rattle.c_typed.specs.refinement.Views.{typed_of}
use Rattle.c_code.specs.Modules.{import_from_c, import_of}
use Rattle.c_compile.proofs.unit.imports.Goals as goal

abbrev of_host : Typed → List Import
of_host u = import_of u (codes "env") (codes "putchar") 0 ∷ import_of u (codes "env") (codes "getchar") 1 ∷ import_of u (codes "env") (codes "abort") 2 ∷ []

pub returns : goal.returns
returns c =
    let u = typed_of c.args.unit.now in
    c.in_ok-add_imports.ensures
    ∙ ap (λ (l : List Import). l ++ map (import_from_c u) c.deref.result.now)
    (c.in_ok-add_host_imports.ensures u ∙ ap (λ (l : List Import). l ++ of_host u) c.new-imports.ensures)
    ∙ ap (λ (ns : List ℕ). of_host u ++ map (import_from_c u) ns) (c.deref.ensures.value ∙ c.requires)
