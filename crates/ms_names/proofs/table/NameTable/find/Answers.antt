use Rattle.std.proofs.Common.{sym, ap, ◌∙◌, List, ℕ}
use Rattle.std.specs.Str.{bytes_eq}
use Rattle.std.specs.String.{string_bytes}
use Rattle.ms_names.specs.Numbered.{number_of}
use Rattle.ms_names.proofs.Positions.{position-map}
use Rattle.ms_names.proofs.table.NameTable.find.Goals as goal

pub returns-in-Some : goal.returns-in-Some
returns-in-Some c =
    let e = position-map (bytes_eq c.args.name.now) string_bytes c.self.inside.names.keys in
    sym c.in-Some.is ∙ c.get_index_of.ensures.index ∙ e ∙ ap (λ (names : List (List ℕ)). number_of names c.args.name.now) c.self.view_is

pub returns-in-None : goal.returns-in-None
returns-in-None c =
    let e = position-map (bytes_eq c.args.name.now) string_bytes c.self.inside.names.keys in
    sym c.in-None.is ∙ c.get_index_of.ensures.index ∙ e ∙ ap (λ (names : List (List ℕ)). number_of names c.args.name.now) c.self.view_is
