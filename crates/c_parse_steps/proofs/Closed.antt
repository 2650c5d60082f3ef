-- A declarator with its parameters, where `void` alone means that there are none.
use Rattle.std.proofs.Common.{◌≡◌, ◌+◌, max, List, refl, arith}
use Rattle.c_token.specs.declared.word.Mark.TheVariants as marks
use Rattle.c_token.specs.declared.word.Word.{Word}
use Rattle.c_tree.specs.declared.specifier.SpecifierNode.TheVariants as specifiers
use Rattle.c_tree.specs.declared.tree.Core.{Core}
use Rattle.c_tree.specs.Tree.{Declarator, nothing, Parameters, no_parameters, parameter_and}
use Rattle.c_tree.specs.Heights.{declarator_height, tallest_parameter}
use Rattle.c_tree.specs.Grammar.{mark, spell_declarator, spell_parameters, IsDirect, IsSomething, FitsDeclarator, FitParameters}
use Rattle.c_productions.specs.refinement.Table.{closed}

pub closed_same : (d : Declarator) (ps : Parameters) (q : List Word) → spell_declarator (closed d ps) q ≡ spell_declarator d (mark marks.OpenParen (spell_parameters ps (mark marks.CloseParen q)))
closed_same d no_parameters q = refl
closed_same d (parameter_and specifiers.Void nothing no_parameters) q = refl
closed_same d (parameter_and specifiers.Void nothing _) q = refl
closed_same d (parameter_and specifiers.Void _ ps) q = refl
closed_same d (parameter_and _ e ps) q = refl

pub closed_fits : (c : Core) (d : Declarator) (ps : Parameters) → IsDirect d → FitsDeclarator c d → FitParameters ps → IsSomething (closed d ps) × FitsDeclarator c (closed d ps)
closed_fits c d no_parameters t f g = (tt, (t, f, tt, g))
closed_fits c d (parameter_and specifiers.Void nothing no_parameters) t f g = (tt, (t, f))
closed_fits c d (parameter_and specifiers.Void nothing _) t f g = (tt, (t, f, tt, g))
closed_fits c d (parameter_and specifiers.Void _ ps) t f g = (tt, (t, f, tt, g))
closed_fits c d (parameter_and _ e ps) t f g = (tt, (t, f, tt, g))

pub closed_high : (d : Declarator) (ps : Parameters) → declarator_height (closed d ps) ≡ max (declarator_height d) (tallest_parameter ps) + 1
closed_high d no_parameters = refl
closed_high d (parameter_and specifiers.Void nothing no_parameters) = omega arith
closed_high d (parameter_and specifiers.Void nothing _) = refl
closed_high d (parameter_and specifiers.Void _ ps) = refl
closed_high d (parameter_and _ e ps) = refl
