use Rattle.std.proofs.Common.{◌≡◌, ◌∙◌, ap, sym, subst, List, [], ◌∷◌, ◌++◌, ℕ, None, Bor, refl, map}
use Rattle.ms_names.proofs.Positions.{added_name}
use Rattle.c_check_types.specs.State.{number_of}
use Rattle.c_check_types.proofs.names.Names.add.Goals as goal

bytes : Bor (List ℕ) → List ℕ
bytes b = b.now

pub returns : goal.returns
unfolding bytes
returns c =
    let absent = subst (λ (names : List (List ℕ)). number_of names c.args.name.now ≡ None) (sym c.self.view_is) c.requires in
    ap (λ keys. map bytes keys) c.in_ok-insert_full.ensures.keys ∙ added_name bytes c.self.inside.names.keys c.args.name c.args.name.now refl absent
    ∙ ap (λ (names : List (List ℕ)). names ++ c.args.name.now ∷ []) c.self.view_is
