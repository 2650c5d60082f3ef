use Rattle.std.proofs.Common.{slice_get, ap, refl, sym, ◌∙◌}
use Rattle.std.proofs.lemmas.Option.{slice_get_read}
use Rattle.std.specs.Option.{option_and_then}
use Rattle.ms_module.specs.declared.module.Export.{Export}
use Rattle.ms_names.specs.Numbered.{number_of}
use Rattle.ms_machine.specs.Externs.{at_index, exported}
use Rattle.ms_import.proofs.Exports.{exported_at, exported_none}
use Rattle.ms_import.proofs.known.Known.exported.Goals as goal

pub returns-in_default : goal.returns-in_default
returns-in_default c =
    let name = c.args.name.now in
    let i = c.self.inside.instance in
    let missed = exported_none name i (ap (λ ns. number_of ns name) (sym c.self.invariant) ∙ sym c.find.ensures ∙ c.in_default.is) in
    sym missed ∙ ap (exported name) c.self.view_is

pub returns-in-Some-get : goal.returns-in-Some-get
returns-in-Some-get c =
    let name = c.args.name.now in
    let i = c.self.inside.instance in
    let number = c.in-Some.number in
    let found = exported_at name i number (ap (λ ns. number_of ns name) (sym c.self.invariant) ∙ sym c.find.ensures ∙ c.in-Some.is) in
    let h = c.in-Some-get.ensures.lookup in
    let read = slice_get_read c.as_slice.result.now _ number c.in-Some-get.export.now refl h.3.0 h.1 in
    let there = ap (option_and_then (λ (e : Export). at_index i e.desc)) (ap (λ es. slice_get es number) (sym c.as_slice.ensures) ∙ read) in
    c.at_index.ensures ∙ sym (found ∙ there) ∙ ap (exported name) c.self.view_is
