-- Heights of external declarations. Neither a specifier nor a member nor an enumerator is a node, so structures may stand in
-- one another without limit.
use Rattle.std.specs.Prelude.{ℕ, ◌+◌, max, List}
use Rattle.c_tree.specs.Heights.{declarator_height, init_height, tallest_of}
use Rattle.c_tree.specs.StatementHeights.{tallest_item}
use Rattle.c_tree.specs.EnumeratorHeights.{enumerator_height}
use Rattle.c_tree.specs.declared.external.MemberHead.{MemberHead}
use Rattle.c_tree.specs.declared.external.MemberHead.TheVariants as heads
use Rattle.c_tree.specs.declared.external.Piece.{Piece}
use Rattle.c_tree.specs.declared.external.Piece.TheVariants as pieces
use Rattle.c_tree.specs.declared.external.OuterSpecifier.{OuterSpecifier}
use Rattle.c_tree.specs.declared.external.OuterSpecifier.TheVariants as outers
use Rattle.c_tree.specs.declared.external.ExternalForm.{ExternalForm}
use Rattle.c_tree.specs.declared.external.ExternalForm.TheVariants as forms
use Rattle.c_tree.specs.declared.external.External.{External}

abbrev pub head_height : MemberHead → ℕ
head_height (heads.Specifier s) = 0
head_height (heads.Enum t xs comma) = tallest_of enumerator_height xs
head_height heads.Close = 0

abbrev pub piece_height : Piece → ℕ
piece_height (pieces.Opens t) = 0
piece_height (pieces.Member h ds) = max (head_height h) (tallest_of declarator_height ds)

abbrev pub outer_height : OuterSpecifier → ℕ
outer_height (outers.Plain s) = 0
outer_height (outers.Struct t ps) = tallest_of piece_height ps
outer_height (outers.Enum t xs comma) = tallest_of enumerator_height xs

abbrev pub form_height : ExternalForm → ℕ
form_height forms.Alone = 0
form_height (forms.Declaration xs) = tallest_of init_height xs
form_height (forms.Function d is) = max (declarator_height d) (tallest_item is + 1)

abbrev pub external_height : External → ℕ
external_height x = max (outer_height x.specifier) (form_height x.form)

-- of a unit
abbrev pub unit_height : List External → ℕ
unit_height unit = tallest_of external_height unit
