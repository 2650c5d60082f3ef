use Rattle.std.proofs.Common.{◌∙◌, Bool, List, length, map, ap}
use Rattle.std.specs.List.{filter, list_any}
use Rattle.c_typed.specs.refinement.Views.{function_of, typed_of}
use Rattle.c_typed.specs.declared.unit.Function.{Function}
use Rattle.c_code.specs.Limits.{has_many_slots}
use Rattle.c_compile.proofs.Modules.{none_passed, too_many_named}
use Rattle.c_compile.proofs.unit.limit_of.Goals as goal

pub returns-then-count_set-gt-MOST_NAMED : goal.returns-then-count_set-gt-MOST_NAMED
returns-then-count_set-gt-MOST_NAMED c =
    too_many_named (typed_of c.args.unit.now) c.any_has_many_slots.result c.args.uses.now.has_long_copy c.args.uses.now.named.items c.count_set.result
    (c.any_has_many_slots.ensures ∙ ap (λ (fs : List Function). list_any has_many_slots (map function_of fs)) c.deref.ensures.value) c.requires.has_long_copy c.requires.named
    (c.count_set.ensures ∙ ap (λ (l : List Bool). length (filter (λ x. x) l)) c.deref-2.ensures.value) c.if-any_has_many_slots.false c.if-uses.false c.if-count_set-gt-MOST_NAMED.true

pub returns : goal.returns
returns c =
    none_passed (typed_of c.args.unit.now) c.any_has_many_slots.result c.args.uses.now.has_long_copy c.args.uses.now.named.items c.count_set.result
    (c.any_has_many_slots.ensures ∙ ap (λ (fs : List Function). list_any has_many_slots (map function_of fs)) c.deref.ensures.value) c.requires.has_long_copy c.requires.named
    (c.count_set.ensures ∙ ap (λ (l : List Bool). length (filter (λ x. x) l)) c.deref-2.ensures.value) c.if-any_has_many_slots.false c.if-uses.false c.if-count_set-gt-MOST_NAMED.false
