use Rattle.std.proofs.Common.{◌∙◌, ap, List, ℕ, Bor}
use Rattle.std.specs.Str.{bytes_eq}
use Rattle.ms_names.proofs.Positions.{position-map}
use Rattle.c_check_types.specs.State.{number_of}
use Rattle.c_check_types.proofs.names.Names.find.Goals as goal

bytes : Bor (List ℕ) → List ℕ
bytes b = b.now

pub returns : goal.returns
unfolding bytes
returns c =
    c.get_index_of.ensures.index ∙ position-map (bytes_eq c.args.name.now) bytes c.self.inside.names.keys
    ∙ ap (λ (names : List (List ℕ)). number_of names c.args.name.now) c.self.view_is
