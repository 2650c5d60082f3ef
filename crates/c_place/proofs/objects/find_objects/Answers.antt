use Rattle.std.proofs.Common.{◌∙◌, ap, map}
use Rattle.c_types.specs.Types.{type_of}
use Rattle.c_meaning.specs.Units.{in_functions, in_made}
use Rattle.c_typed.specs.Objects.{is_whole}
use Rattle.c_typed.specs.refinement.Views.{function_of, made_of}
use Rattle.c_typed.specs.declared.unit.TypedUnit.{TypedUnit}
use Rattle.c_place.specs.refinement.Marks.{marked_from}
use Rattle.c_place.proofs.Marking.{all_globals}
use Rattle.c_place.proofs.objects.find_objects.Goals as goal

pub returns-clause-globals : goal.returns-clause-globals
returns-clause-globals c =
    let same = c.unit-unit.ensures.same in
    let g0 = c.in_ok-marks.marks.globals in
    let g1 = c.made.new.marks.globals in
    let g2 = c.functions.new.marks.globals in
    c.into_globals.ensures
    ∙ all_globals c.args.unit.now g0 g1 g2
    (c.in_ok-marks.ensures.globals ∙ ap (λ ts. map is_whole (map type_of ts)) (c.deref.ensures.value ∙ ap (λ (u : TypedUnit). u.globals.items) same))
    (c.made.ensures.globals
    ∙ ap (λ ms. marked_from 0 (λ n. in_made n (map made_of ms)) g0) (c.deref-2.ensures.value ∙ ap (λ (u : TypedUnit). u.made.items) same))
    (c.in_ok-functions.ensures.globals
    ∙ ap (λ fs. marked_from 0 (λ n. in_functions n (map function_of fs)) g1) (c.deref-3.ensures.value ∙ ap (λ (u : TypedUnit). u.functions.items) same))
