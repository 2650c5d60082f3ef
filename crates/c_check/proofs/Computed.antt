-- Units whose typing is computed: what the definition says of them.
use Rattle.std.proofs.Common.{◌≡◌, ℕ, List, [], ◌∷◌, Some, Ok, Err, refl}
use Rattle.c_token.specs.declared.word.IntegerType.TheVariants as constants
use Rattle.c_types.specs.declared.integers.IntType.TheVariants.{Int}
use Rattle.c_types.specs.Types.{integer, function, no_types}
use Rattle.c_tree.specs.declared.specifier.IntegerWord.TheVariants as words
use Rattle.c_tree.specs.declared.specifier.IntegerWords.TheVariants.{One}
use Rattle.c_tree.specs.declared.specifier.SpecifierNode.{SpecifierNode}
use Rattle.c_tree.specs.declared.specifier.SpecifierNode.TheVariants as specifiers
use Rattle.c_tree.specs.declared.external.External.{External}
use Rattle.c_tree.specs.declared.external.ExternalForm.TheVariants as forms
use Rattle.c_tree.specs.declared.external.OuterSpecifier.TheVariants as outers
use Rattle.c_tree.specs.Tree.{Expr, name, named, pointer, function_void}
use Rattle.c_tree.specs.Tree as tree
use Rattle.c_tree.specs.Statements.{Statement, no_items, statement_and, return_none, return_value}
use Rattle.c_typed.specs.declared.unit.Subject.TheVariants as subjects
use Rattle.c_typed.specs.Tree as to
use Rattle.c_check.specs.Units.{typing_of}

abbrev int_words : SpecifierNode
int_words = specifiers.Integer (One words.Int)

abbrev main_name : List ℕ
main_name = 109 ∷ 97 ∷ 105 ∷ 110 ∷ []

-- int main(void) { .. }
abbrev main_of : Statement → External
main_of s =
    record { at = 0; specifier = outers.Plain int_words; form = forms.Function (function_void (named main_name)) (statement_and s no_items) }

-- int main(void){return x;}
pub an_unknown_name : typing_of (main_of (return_value (name (120 ∷ []))) ∷ []) ≡ Err 0
an_unknown_name = refl

-- int main(void){return;}
pub a_missing_value : typing_of (main_of return_none ∷ []) ≡ Err 0
a_missing_value = refl

-- int main(void){return 7;}
pub a_result : typing_of (main_of (return_value (tree.integer 7 constants.Int)) ∷ [])
    ≡ Ok (record {
      tags = [];
      structs = [];
      members = [];
      enumerations = [];
      names = [];
      globals = [];
      made = [];
      functions = record { name = main_name; ty = function (integer Int) no_types; slots = []; body = Some (to.scope [] (to.seq (to.return (to.number Int 7)) to.done)) } ∷ [];
      additions = record { at = 0; subject = subjects.Function 0 } ∷ record { at = 0; subject = subjects.Body 0 } ∷ [];
    })
a_result = refl

-- a function that is defined twice: the second definition begins at 30
pub defined_twice : typing_of (main_of (return_value (tree.integer 7 constants.Int)) ∷ record { at = 30; specifier = outers.Plain int_words; form = forms.Function (function_void (named main_name)) no_items } ∷ []) ≡ Err 30
defined_twice = refl
