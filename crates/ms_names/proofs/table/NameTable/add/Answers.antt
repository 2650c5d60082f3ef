use Rattle.std.proofs.Common.{◌≡◌, ◌∙◌, sym, ap, List, ℕ, None, map, subst, ◌++◌, ◌∷◌, []}
use Rattle.std.specs.String.{string_bytes}
use Rattle.ms_names.specs.Numbered.{number_of}
use Rattle.ms_names.proofs.Positions.{added_name}
use Rattle.ms_names.proofs.table.NameTable.add.Goals as goal

pub returns-clause-ok : goal.returns-clause-ok
returns-clause-ok c =
    let absent = subst (λ (names : List (List ℕ)). number_of names c.args.name.now ≡ None) (sym c.self.view_is) c.requires in
    ap (λ keys. map string_bytes keys) (c.in_ok-insert_full.ensures.keys) ∙ added_name string_bytes c.self.inside.names.keys c.in_ok-owned.owned c.args.name.now c.in_ok-owned.ensures.ok absent
    ∙ ap (λ (names : List (List ℕ)). names ++ c.args.name.now ∷ []) c.self.view_is
