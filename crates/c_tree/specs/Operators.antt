-- Operators: how they are spelled, and how tightly they bind (C11, 6.5). Integer words: which are a combination (6.7.2).
use Rattle.std.specs.Prelude.{ℕ, ◌+◌, Bool, true, false, Option, Some, None}
use Rattle.c_token.specs.declared.word.Mark.{Mark}
use Rattle.c_token.specs.declared.word.Mark.TheVariants as marks
use Rattle.c_token.specs.declared.word.Keyword.{Keyword}
use Rattle.c_token.specs.declared.word.Keyword.TheVariants as keywords
use Rattle.c_token.specs.declared.word.Word.{Word}
use Rattle.c_token.specs.declared.word.Word.TheVariants as words
use Rattle.c_tree.specs.declared.operators.BinaryOp.{BinaryOp}
use Rattle.c_tree.specs.declared.operators.BinaryOp.TheVariants.{Or, And, BitOr, BitXor, BitAnd, Equal, NotEqual, Less, Greater, AtMost, AtLeast, ShiftLeft, ShiftRight, Add, Sub, Mul, Div, Rem}
use Rattle.c_tree.specs.declared.operators.AssignOp.{AssignOp}
use Rattle.c_tree.specs.declared.operators.AssignOp.TheVariants as assigns
use Rattle.c_tree.specs.declared.operators.Infix.{Infix}
use Rattle.c_tree.specs.declared.operators.Infix.TheVariants.{Comma, Assign, Binary}
use Rattle.c_tree.specs.declared.operators.UnaryOp.{UnaryOp}
use Rattle.c_tree.specs.declared.operators.UnaryOp.TheVariants as unaries
use Rattle.c_tree.specs.declared.operators.StepOp.{StepOp}
use Rattle.c_tree.specs.declared.operators.StepOp.TheVariants as steps
use Rattle.c_tree.specs.declared.operators.Access.{Access}
use Rattle.c_tree.specs.declared.operators.Access.TheVariants as accesses
use Rattle.c_tree.specs.declared.specifier.IntegerWord.{IntegerWord}
use Rattle.c_tree.specs.declared.specifier.IntegerWord.TheVariants as integer
use Rattle.c_tree.specs.declared.specifier.IntegerWords.{IntegerWords}
use Rattle.c_tree.specs.declared.specifier.IntegerWords.TheVariants.{One, Two, Three, Four}
use Rattle.c_tree.specs.declared.specifier.Sign.{Sign}
use Rattle.c_tree.specs.declared.specifier.Sign.TheVariants as signs
use Rattle.c_tree.specs.declared.specifier.Width.{Width}
use Rattle.c_tree.specs.declared.specifier.Width.TheVariants as widths
use Rattle.c_tree.specs.declared.specifier.Combination.{Combination}

-- ---- spelling

abbrev pub binary_mark : BinaryOp → Mark
binary_mark Or = marks.OrOr
binary_mark And = marks.AndAnd
binary_mark BitOr = marks.Bar
binary_mark BitXor = marks.Caret
binary_mark BitAnd = marks.Ampersand
binary_mark Equal = marks.EqualEqual
binary_mark NotEqual = marks.NotEqual
binary_mark Less = marks.Less
binary_mark Greater = marks.Greater
binary_mark AtMost = marks.LessEqual
binary_mark AtLeast = marks.GreaterEqual
binary_mark ShiftLeft = marks.LessLess
binary_mark ShiftRight = marks.GreaterGreater
binary_mark Add = marks.Plus
binary_mark Sub = marks.Minus
binary_mark Mul = marks.Star
binary_mark Div = marks.Slash
binary_mark Rem = marks.Percent

abbrev pub assign_mark : AssignOp → Mark
assign_mark assigns.Plain = marks.Equals
assign_mark assigns.Mul = marks.StarEqual
assign_mark assigns.Div = marks.SlashEqual
assign_mark assigns.Rem = marks.PercentEqual
assign_mark assigns.Add = marks.PlusEqual
assign_mark assigns.Sub = marks.MinusEqual
assign_mark assigns.ShiftLeft = marks.LessLessEqual
assign_mark assigns.ShiftRight = marks.GreaterGreaterEqual
assign_mark assigns.BitAnd = marks.AmpersandEqual
assign_mark assigns.BitXor = marks.CaretEqual
assign_mark assigns.BitOr = marks.BarEqual

abbrev pub infix_mark : Infix → Mark
infix_mark Comma = marks.Comma
infix_mark (Assign op) = assign_mark op
infix_mark (Binary op) = binary_mark op

abbrev pub unary_word : UnaryOp → Word
unary_word unaries.AddressOf = words.Mark marks.Ampersand
unary_word unaries.Deref = words.Mark marks.Star
unary_word unaries.Plus = words.Mark marks.Plus
unary_word unaries.Minus = words.Mark marks.Minus
unary_word unaries.Complement = words.Mark marks.Tilde
unary_word unaries.Not = words.Mark marks.Bang
unary_word unaries.Increment = words.Mark marks.PlusPlus
unary_word unaries.Decrement = words.Mark marks.MinusMinus
unary_word unaries.SizeOf = words.Keyword keywords.Sizeof

abbrev pub step_mark : StepOp → Mark
step_mark steps.Increment = marks.PlusPlus
step_mark steps.Decrement = marks.MinusMinus

abbrev pub access_mark : Access → Mark
access_mark accesses.Dot = marks.Dot
access_mark accesses.Arrow = marks.Arrow

-- ---- levels: the nonterminals of expressions, the loosest first

-- expression (6.5.17)
abbrev pub a_comma : ℕ
a_comma = 0

-- assignment-expression (6.5.16)
abbrev pub an_assignment : ℕ
an_assignment = 1

-- conditional-expression (6.5.15)
abbrev pub a_choice : ℕ
a_choice = 2

-- logical-OR-expression (6.5.14) to multiplicative-expression (6.5.5)
abbrev pub binary_level : BinaryOp → ℕ
binary_level Or = 3
binary_level And = 4
binary_level BitOr = 5
binary_level BitXor = 6
binary_level BitAnd = 7
binary_level Equal = 8
binary_level NotEqual = 8
binary_level Less = 9
binary_level Greater = 9
binary_level AtMost = 9
binary_level AtLeast = 9
binary_level ShiftLeft = 10
binary_level ShiftRight = 10
binary_level Add = 11
binary_level Sub = 11
binary_level Mul = 12
binary_level Div = 12
binary_level Rem = 12

abbrev pub an_or : ℕ
an_or = 3

-- cast-expression (6.5.4)
abbrev pub a_cast : ℕ
a_cast = 13

-- unary-expression (6.5.3)
abbrev pub a_unary : ℕ
a_unary = 14

-- postfix-expression (6.5.2) and primary-expression (6.5.1)
abbrev pub a_postfix : ℕ
a_postfix = 15

-- the level of what an operator makes
abbrev pub makes : Infix → ℕ
makes Comma = a_comma
makes (Assign op) = an_assignment
makes (Binary op) = binary_level op

-- the least level of its left operand
abbrev pub left_of : Infix → ℕ
left_of Comma = a_comma
left_of (Assign op) = a_unary
left_of (Binary op) = binary_level op

-- the least level of its right operand
abbrev pub right_of : Infix → ℕ
right_of Comma = an_assignment
right_of (Assign op) = an_assignment
right_of (Binary op) = binary_level op + 1

-- the least level of a unary operator's operand
abbrev pub operand_of : UnaryOp → ℕ
operand_of unaries.Increment = a_unary
operand_of unaries.Decrement = a_unary
operand_of unaries.SizeOf = a_unary
operand_of unaries.AddressOf = a_cast
operand_of unaries.Deref = a_cast
operand_of unaries.Plus = a_cast
operand_of unaries.Minus = a_cast
operand_of unaries.Complement = a_cast
operand_of unaries.Not = a_cast

-- ---- integer words (6.7.2)

abbrev pub integer_keyword : IntegerWord → Keyword
integer_keyword integer.Char = keywords.Char
integer_keyword integer.Short = keywords.Short
integer_keyword integer.Int = keywords.Int
integer_keyword integer.Long = keywords.Long
integer_keyword integer.Signed = keywords.Signed
integer_keyword integer.Unsigned = keywords.Unsigned

abbrev pub nothing_said : Combination
nothing_said = record { sign = signs.Unsaid; width = widths.Unsaid; int = false }

abbrev pub with_sign : Sign → Sign → Width → Bool → Option Combination
with_sign s signs.Unsaid w i = Some (record { sign = s; width = w; int = i })
with_sign s _ w i = None

abbrev pub with_char : Sign → Width → Bool → Option Combination
with_char s widths.Unsaid false = Some (record { sign = s; width = widths.Char; int = false })
with_char s _ _ = None

abbrev pub with_short : Sign → Width → Bool → Option Combination
with_short s widths.Unsaid i = Some (record { sign = s; width = widths.Short; int = i })
with_short s _ i = None

abbrev pub with_long : Sign → Width → Bool → Option Combination
with_long s widths.Unsaid i = Some (record { sign = s; width = widths.Long; int = i })
with_long s widths.Long i = Some (record { sign = s; width = widths.LongLong; int = i })
with_long s _ i = None

abbrev pub with_int : Sign → Width → Bool → Option Combination
with_int s widths.Char i = None
with_int s w true = None
with_int s w false = Some (record { sign = s; width = w; int = true })

-- one more word: at most one sign, one width (long twice) and one int, and no int with char
abbrev pub with_word : Combination → IntegerWord → Option Combination
with_word c integer.Signed = with_sign signs.Signed c.sign c.width c.int
with_word c integer.Unsigned = with_sign signs.Unsigned c.sign c.width c.int
with_word c integer.Char = with_char c.sign c.width c.int
with_word c integer.Short = with_short c.sign c.width c.int
with_word c integer.Long = with_long c.sign c.width c.int
with_word c integer.Int = with_int c.sign c.width c.int

abbrev pub and_word : Option Combination → IntegerWord → Option Combination
and_word None x = None
and_word (Some c) x = with_word c x

-- what words say together, if they are one of the combinations of 6.7.2
abbrev pub combination : IntegerWords → Option Combination
combination (One a) = with_word nothing_said a
combination (Two a b) = and_word (with_word nothing_said a) b
combination (Three a b c) = and_word (and_word (with_word nothing_said a) b) c
combination (Four a b c d) = and_word (and_word (and_word (with_word nothing_said a) b) c) d

abbrev pub is_said : Option Combination → Bool
is_said None = false
is_said (Some c) = true

abbrev pub kept : Option Combination → IntegerWords → Option IntegerWords
kept None ws = None
kept (Some c) ws = Some ws

abbrev pub extended_to : IntegerWords → Option IntegerWords
extended_to ws = kept (combination ws) ws

-- the words with one more, if that is a combination, too
abbrev pub extended : IntegerWords → IntegerWord → Option IntegerWords
extended (One a) x = extended_to (Two a x)
extended (Two a b) x = extended_to (Three a b x)
extended (Three a b c) x = extended_to (Four a b c x)
extended (Four a b c d) x = None
