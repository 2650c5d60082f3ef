-- Keywords of instructions by their letters, so that few are compared with a text.
use Rattle.std.specs.Prelude.{◌≡◌, ◌==◌, ◌+◌, ℕ, List, [], ◌∷◌, Option, Some, None, codes, get_or, nat_lt, if◌then◌else◌}
use Rattle.ms_module.specs.Instructions.{Row, begins_with}
use Rattle.ms_text_grammar.specs.Instructions.{Form_, form_rows}
use Rattle.ms_text_grammar.specs.declared.keyword.Keyword.{Keyword}
use Rattle.ms_text_bodies.specs.refinement.Forms.{form_is}

-- by the two letters behind `i32.` or `i64.`
abbrev pub class_with_width : ℕ → ℕ → ℕ
class_with_width a b =
    if nat_lt a 100 then 0 else
    if nat_lt a 103 then 1 else
    if nat_lt a 108 then 2 else
    if a == 108 then (if b == 111 then 4 else 3) else
    if nat_lt a 114 then 5 else
    if a == 114 then 6 else
    if a == 115 then (if b == 101 then 8 else 7) else 9

-- by the first letter of any other
abbrev pub class_without : ℕ → ℕ
class_without a =
    if nat_lt a 101 then 20 else
    if nat_lt a 104 then 21 else
    if a == 104 then 22 else
    if nat_lt a 109 then 21 else
    if nat_lt a 115 then 23 else 24

unfoldable pub class_of : List ℕ → ℕ
class_of text =
    if begins_with (codes "i32.") text then class_with_width (get_or text 4 0) (get_or text 5 0) else
    if begins_with (codes "i64.") text then 10 + class_with_width (get_or text 4 0) (get_or text 5 0) else class_without (get_or text 0 0)

abbrev pub of_class : {A : Type 0} → ℕ → List (Row A) → List (Row A)
of_class k [] = []
of_class k (r ∷ rs) = if class_of r.word == k then r ∷ of_class k rs else of_class k rs

-- the keywords of a class
unfoldable pub rows_in : ℕ → List (Row Form_)
rows_in k = of_class k form_rows

-- what was found is what the table has
abbrev pub Finds : Option Keyword → Option Form_ → Type 0
Finds (Some word) form = form ≡ Some (form_is word)
Finds None form = form ≡ None
