-- What a word may be at a place (C11, 6.4.6, 6.5, 6.7.2).
use Rattle.std.specs.Prelude.{Bool, true, false, Option, Some, None}
use Rattle.c_token.specs.declared.word.Mark.{Mark}
use Rattle.c_token.specs.declared.word.Mark.TheVariants as marks
use Rattle.c_token.specs.declared.word.Keyword.{Keyword}
use Rattle.c_token.specs.declared.word.Keyword.TheVariants as keywords
use Rattle.c_token.specs.declared.word.Word.{Word}
use Rattle.c_token.specs.declared.word.Word.TheVariants as words
use Rattle.c_tree.specs.declared.operators.BinaryOp.TheVariants as binaries
use Rattle.c_tree.specs.declared.operators.AssignOp.TheVariants as assigns
use Rattle.c_tree.specs.declared.operators.Infix.{Infix}
use Rattle.c_tree.specs.declared.operators.Infix.TheVariants as infixes
use Rattle.c_tree.specs.declared.operators.UnaryOp.{UnaryOp}
use Rattle.c_tree.specs.declared.operators.UnaryOp.TheVariants as unaries
use Rattle.c_tree.specs.declared.operators.StepOp.{StepOp}
use Rattle.c_tree.specs.declared.operators.StepOp.TheVariants as steps
use Rattle.c_tree.specs.declared.operators.Access.{Access}
use Rattle.c_tree.specs.declared.operators.Access.TheVariants as accesses
use Rattle.c_tree.specs.declared.specifier.IntegerWord.{IntegerWord}
use Rattle.c_tree.specs.declared.specifier.IntegerWord.TheVariants as integers
use Rattle.c_tree.specs.declared.specifier.IntegerWords.TheVariants.{One}
use Rattle.c_tree.specs.declared.specifier.SpecifierNode.{SpecifierNode}
use Rattle.c_tree.specs.declared.specifier.SpecifierNode.TheVariants as specifiers
use Rattle.c_productions.specs.declared.kind.Terminal.{Terminal}
use Rattle.c_productions.specs.declared.kind.Terminal.TheVariants as at

-- the operator that stands between two operands
abbrev pub infix_at : Mark → Option Infix
infix_at marks.Comma = Some infixes.Comma
infix_at marks.Equals = Some (infixes.Assign assigns.Plain)
infix_at marks.StarEqual = Some (infixes.Assign assigns.Mul)
infix_at marks.SlashEqual = Some (infixes.Assign assigns.Div)
infix_at marks.PercentEqual = Some (infixes.Assign assigns.Rem)
infix_at marks.PlusEqual = Some (infixes.Assign assigns.Add)
infix_at marks.MinusEqual = Some (infixes.Assign assigns.Sub)
infix_at marks.LessLessEqual = Some (infixes.Assign assigns.ShiftLeft)
infix_at marks.GreaterGreaterEqual = Some (infixes.Assign assigns.ShiftRight)
infix_at marks.AmpersandEqual = Some (infixes.Assign assigns.BitAnd)
infix_at marks.CaretEqual = Some (infixes.Assign assigns.BitXor)
infix_at marks.BarEqual = Some (infixes.Assign assigns.BitOr)
infix_at marks.OrOr = Some (infixes.Binary binaries.Or)
infix_at marks.AndAnd = Some (infixes.Binary binaries.And)
infix_at marks.Bar = Some (infixes.Binary binaries.BitOr)
infix_at marks.Caret = Some (infixes.Binary binaries.BitXor)
infix_at marks.Ampersand = Some (infixes.Binary binaries.BitAnd)
infix_at marks.EqualEqual = Some (infixes.Binary binaries.Equal)
infix_at marks.NotEqual = Some (infixes.Binary binaries.NotEqual)
infix_at marks.Less = Some (infixes.Binary binaries.Less)
infix_at marks.Greater = Some (infixes.Binary binaries.Greater)
infix_at marks.LessEqual = Some (infixes.Binary binaries.AtMost)
infix_at marks.GreaterEqual = Some (infixes.Binary binaries.AtLeast)
infix_at marks.LessLess = Some (infixes.Binary binaries.ShiftLeft)
infix_at marks.GreaterGreater = Some (infixes.Binary binaries.ShiftRight)
infix_at marks.Plus = Some (infixes.Binary binaries.Add)
infix_at marks.Minus = Some (infixes.Binary binaries.Sub)
infix_at marks.Star = Some (infixes.Binary binaries.Mul)
infix_at marks.Slash = Some (infixes.Binary binaries.Div)
infix_at marks.Percent = Some (infixes.Binary binaries.Rem)
infix_at _ = None

-- the operator that stands before its operand
abbrev pub prefix_at : Mark → Option UnaryOp
prefix_at marks.Ampersand = Some unaries.AddressOf
prefix_at marks.Star = Some unaries.Deref
prefix_at marks.Plus = Some unaries.Plus
prefix_at marks.Minus = Some unaries.Minus
prefix_at marks.Tilde = Some unaries.Complement
prefix_at marks.Bang = Some unaries.Not
prefix_at marks.PlusPlus = Some unaries.Increment
prefix_at marks.MinusMinus = Some unaries.Decrement
prefix_at _ = None

-- the operator that stands behind its operand
abbrev pub step_at : Mark → Option StepOp
step_at marks.PlusPlus = Some steps.Increment
step_at marks.MinusMinus = Some steps.Decrement
step_at _ = None

abbrev pub access_at : Mark → Option Access
access_at marks.Dot = Some accesses.Dot
access_at marks.Arrow = Some accesses.Arrow
access_at _ = None

abbrev pub integer_at : Keyword → Option IntegerWord
integer_at keywords.Char = Some integers.Char
integer_at keywords.Short = Some integers.Short
integer_at keywords.Int = Some integers.Int
integer_at keywords.Long = Some integers.Long
integer_at keywords.Signed = Some integers.Signed
integer_at keywords.Unsigned = Some integers.Unsigned
integer_at _ = None

-- the specifier that a keyword is by itself
abbrev pub specifier_at : Keyword → Option SpecifierNode
specifier_at keywords.Void = Some specifiers.Void
specifier_at keywords.SizeT = Some specifiers.SizeT
specifier_at keywords.PtrdiffT = Some specifiers.PtrdiffT
specifier_at keywords.Char = Some (specifiers.Integer (One integers.Char))
specifier_at keywords.Short = Some (specifiers.Integer (One integers.Short))
specifier_at keywords.Int = Some (specifiers.Integer (One integers.Int))
specifier_at keywords.Long = Some (specifiers.Integer (One integers.Long))
specifier_at keywords.Signed = Some (specifiers.Integer (One integers.Signed))
specifier_at keywords.Unsigned = Some (specifiers.Integer (One integers.Unsigned))
specifier_at _ = None

abbrev pub is_struct : Keyword → Bool
is_struct keywords.Struct = true
is_struct _ = false

abbrev pub is_enum : Keyword → Bool
is_enum keywords.Enum = true
is_enum _ = false

abbrev pub is_sizeof : Keyword → Bool
is_sizeof keywords.Sizeof = true
is_sizeof _ = false

abbrev pub begins_specifier : Keyword → Bool
begins_specifier keywords.Void = true
begins_specifier keywords.SizeT = true
begins_specifier keywords.PtrdiffT = true
begins_specifier keywords.Char = true
begins_specifier keywords.Short = true
begins_specifier keywords.Int = true
begins_specifier keywords.Long = true
begins_specifier keywords.Signed = true
begins_specifier keywords.Unsigned = true
begins_specifier keywords.Struct = true
begins_specifier keywords.Enum = true
begins_specifier _ = false

-- whether the word begins a specifier
abbrev pub is_specifier : Word → Bool
is_specifier (words.Keyword k) = begins_specifier k
is_specifier (words.Name n) = false
is_specifier (words.Integer n t) = false
is_specifier (words.Character c) = false
is_specifier (words.String s) = false
is_specifier (words.Mark m) = false

abbrev pub is_else : Word → Bool
is_else (words.Keyword keywords.Else) = true
is_else _ = false

abbrev pub is_case : Word → Bool
is_case (words.Keyword keywords.Case) = true
is_case _ = false

abbrev pub is_default : Word → Bool
is_default (words.Keyword keywords.Default) = true
is_default _ = false

-- ---- single terminals

abbrev pub word_of : Terminal → Word
word_of at.OpenParen = words.Mark marks.OpenParen
word_of at.CloseParen = words.Mark marks.CloseParen
word_of at.OpenBracket = words.Mark marks.OpenBracket
word_of at.CloseBracket = words.Mark marks.CloseBracket
word_of at.OpenBrace = words.Mark marks.OpenBrace
word_of at.CloseBrace = words.Mark marks.CloseBrace
word_of at.Semicolon = words.Mark marks.Semicolon
word_of at.Comma = words.Mark marks.Comma
word_of at.Colon = words.Mark marks.Colon
word_of at.Equals = words.Mark marks.Equals
word_of at.Question = words.Mark marks.Question
word_of at.Star = words.Mark marks.Star
word_of at.While = words.Keyword keywords.While

abbrev pub is_mark : Terminal → Mark → Bool
is_mark at.OpenParen marks.OpenParen = true
is_mark at.OpenParen _ = false
is_mark at.CloseParen marks.CloseParen = true
is_mark at.CloseParen _ = false
is_mark at.OpenBracket marks.OpenBracket = true
is_mark at.OpenBracket _ = false
is_mark at.CloseBracket marks.CloseBracket = true
is_mark at.CloseBracket _ = false
is_mark at.OpenBrace marks.OpenBrace = true
is_mark at.OpenBrace _ = false
is_mark at.CloseBrace marks.CloseBrace = true
is_mark at.CloseBrace _ = false
is_mark at.Semicolon marks.Semicolon = true
is_mark at.Semicolon _ = false
is_mark at.Comma marks.Comma = true
is_mark at.Comma _ = false
is_mark at.Colon marks.Colon = true
is_mark at.Colon _ = false
is_mark at.Equals marks.Equals = true
is_mark at.Equals _ = false
is_mark at.Question marks.Question = true
is_mark at.Question _ = false
is_mark at.Star marks.Star = true
is_mark at.Star _ = false
is_mark at.While m = false

abbrev pub is_keyword : Terminal → Keyword → Bool
is_keyword at.While keywords.While = true
is_keyword at.While _ = false
is_keyword _ k = false

-- whether the word is this one
abbrev pub is : Terminal → Word → Bool
is p (words.Mark m) = is_mark p m
is p (words.Keyword k) = is_keyword p k
is p (words.Name n) = false
is p (words.Integer n t) = false
is p (words.Character c) = false
is p (words.String s) = false
