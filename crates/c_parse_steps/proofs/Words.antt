-- Words by their classes.
use Rattle.std.proofs.Common.{◌≡◌, true, List, Option, Some, None, refl}
use Rattle.c_token.specs.declared.word.Mark.{Mark}
use Rattle.c_token.specs.declared.word.Mark.TheVariants as marks
use Rattle.c_token.specs.declared.word.Keyword.{Keyword}
use Rattle.c_token.specs.declared.word.Keyword.TheVariants as keywords
use Rattle.c_token.specs.declared.word.Word.{Word}
use Rattle.c_token.specs.declared.word.Word.TheVariants as words
use Rattle.c_tree.specs.declared.operators.Infix.{Infix}
use Rattle.c_tree.specs.declared.operators.UnaryOp.{UnaryOp}
use Rattle.c_tree.specs.declared.operators.StepOp.{StepOp}
use Rattle.c_tree.specs.declared.operators.Access.{Access}
use Rattle.c_tree.specs.declared.specifier.IntegerWord.{IntegerWord}
use Rattle.c_tree.specs.declared.specifier.SpecifierNode.{SpecifierNode}
use Rattle.c_tree.specs.Operators.{infix_mark, unary_word, step_mark, access_mark, integer_keyword}
use Rattle.c_tree.specs.Grammar.{keyword, spell_specifier, FitsSpecifier}
use Rattle.c_productions.specs.declared.kind.Terminal.{Terminal}
use Rattle.c_productions.specs.declared.kind.Terminal.TheVariants as at
use Rattle.c_productions.specs.refinement.Classes.{infix_at, prefix_at, step_at, access_at, integer_at, specifier_at, is_struct, is_sizeof, is_else, word_of, is_mark, is, is_enum, is_case, is_default, is_keyword}

IsFor : {A : Type 0} → (A → Mark) → Mark → Option A → Type 0
IsFor spelled m None = Unit {0}
IsFor spelled m (Some x) = m ≡ spelled x

infix_for : (m : Mark) → IsFor infix_mark m (infix_at m)
unfolding IsFor
infix_for marks.Comma = refl
infix_for marks.Equals = refl
infix_for marks.StarEqual = refl
infix_for marks.SlashEqual = refl
infix_for marks.PercentEqual = refl
infix_for marks.PlusEqual = refl
infix_for marks.MinusEqual = refl
infix_for marks.LessLessEqual = refl
infix_for marks.GreaterGreaterEqual = refl
infix_for marks.AmpersandEqual = refl
infix_for marks.CaretEqual = refl
infix_for marks.BarEqual = refl
infix_for marks.OrOr = refl
infix_for marks.AndAnd = refl
infix_for marks.Bar = refl
infix_for marks.Caret = refl
infix_for marks.Ampersand = refl
infix_for marks.EqualEqual = refl
infix_for marks.NotEqual = refl
infix_for marks.Less = refl
infix_for marks.Greater = refl
infix_for marks.LessEqual = refl
infix_for marks.GreaterEqual = refl
infix_for marks.LessLess = refl
infix_for marks.GreaterGreater = refl
infix_for marks.Plus = refl
infix_for marks.Minus = refl
infix_for marks.Star = refl
infix_for marks.Slash = refl
infix_for marks.Percent = refl
infix_for _ = tt

pub infix_is : (m : Mark) (op : Infix) → infix_at m ≡ Some op → m ≡ infix_mark op
unfolding IsFor
infix_is m op e = rw e at (infix_for m)

step_for : (m : Mark) → IsFor step_mark m (step_at m)
unfolding IsFor
step_for marks.PlusPlus = refl
step_for marks.MinusMinus = refl
step_for _ = tt

pub step_is : (m : Mark) (op : StepOp) → step_at m ≡ Some op → m ≡ step_mark op
unfolding IsFor
step_is m op e = rw e at (step_for m)

access_for : (m : Mark) → IsFor access_mark m (access_at m)
unfolding IsFor
access_for marks.Dot = refl
access_for marks.Arrow = refl
access_for _ = tt

pub access_is : (m : Mark) (op : Access) → access_at m ≡ Some op → m ≡ access_mark op
unfolding IsFor
access_is m op e = rw e at (access_for m)

IsPrefix : Mark → Option UnaryOp → Type 0
IsPrefix m None = Unit {0}
IsPrefix m (Some op) = words.Mark m ≡ unary_word op

prefix_for : (m : Mark) → IsPrefix m (prefix_at m)
unfolding IsPrefix
prefix_for marks.Ampersand = refl
prefix_for marks.Star = refl
prefix_for marks.Plus = refl
prefix_for marks.Minus = refl
prefix_for marks.Tilde = refl
prefix_for marks.Bang = refl
prefix_for marks.PlusPlus = refl
prefix_for marks.MinusMinus = refl
prefix_for _ = tt

pub prefix_is : (m : Mark) (op : UnaryOp) → prefix_at m ≡ Some op → words.Mark m ≡ unary_word op
unfolding IsPrefix
prefix_is m op e = rw e at (prefix_for m)

IsInteger : Keyword → Option IntegerWord → Type 0
IsInteger k None = Unit {0}
IsInteger k (Some x) = k ≡ integer_keyword x

integer_for : (k : Keyword) → IsInteger k (integer_at k)
unfolding IsInteger
integer_for keywords.Char = refl
integer_for keywords.Short = refl
integer_for keywords.Int = refl
integer_for keywords.Long = refl
integer_for keywords.Signed = refl
integer_for keywords.Unsigned = refl
integer_for _ = tt

pub integer_is : (k : Keyword) (x : IntegerWord) → integer_at k ≡ Some x → k ≡ integer_keyword x
unfolding IsInteger
integer_is k x e = rw e at (integer_for k)

-- what a keyword alone says
pub record Specifies (k : Keyword) (s : SpecifierNode) : Type 0 where
  pub same : (q : List Word) → spell_specifier s q ≡ keyword k q
  pub fits : FitsSpecifier s

IsSpecified : Keyword → Option SpecifierNode → Type 0
IsSpecified k None = Unit {0}
IsSpecified k (Some s) = Specifies k s

specifier_for : (k : Keyword) → IsSpecified k (specifier_at k)
unfolding IsSpecified
specifier_for keywords.Void = record { same = λ q. refl; fits = tt }
specifier_for keywords.SizeT = record { same = λ q. refl; fits = tt }
specifier_for keywords.PtrdiffT = record { same = λ q. refl; fits = tt }
specifier_for keywords.Char = record { same = λ q. refl; fits = refl }
specifier_for keywords.Short = record { same = λ q. refl; fits = refl }
specifier_for keywords.Int = record { same = λ q. refl; fits = refl }
specifier_for keywords.Long = record { same = λ q. refl; fits = refl }
specifier_for keywords.Signed = record { same = λ q. refl; fits = refl }
specifier_for keywords.Unsigned = record { same = λ q. refl; fits = refl }
specifier_for _ = tt

pub specifier_is : (k : Keyword) (s : SpecifierNode) → specifier_at k ≡ Some s → Specifies k s
unfolding IsSpecified
specifier_is k s e = rw e at (specifier_for k)

pub struct_is : (k : Keyword) → is_struct k ≡ true → k ≡ keywords.Struct
struct_is keywords.Struct e = refl
struct_is _ e = cc

pub enum_is : (k : Keyword) → is_enum k ≡ true → k ≡ keywords.Enum
enum_is keywords.Enum e = refl
enum_is _ e = cc

pub sizeof_is : (k : Keyword) → is_sizeof k ≡ true → k ≡ keywords.Sizeof
sizeof_is keywords.Sizeof e = refl
sizeof_is _ e = cc

pub else_is : (w : Word) → is_else w ≡ true → w ≡ words.Keyword keywords.Else
else_is (words.Keyword keywords.Else) e = refl
else_is _ e = cc

pub case_is : (w : Word) → is_case w ≡ true → w ≡ words.Keyword keywords.Case
case_is (words.Keyword keywords.Case) e = refl
case_is _ e = cc

pub default_is : (w : Word) → is_default w ≡ true → w ≡ words.Keyword keywords.Default
default_is (words.Keyword keywords.Default) e = refl
default_is _ e = cc

pub mark_is : (p : Terminal) (m : Mark) → is_mark p m ≡ true → words.Mark m ≡ word_of p
mark_is at.OpenParen marks.OpenParen e = refl
mark_is at.OpenParen _ e = cc
mark_is at.CloseParen marks.CloseParen e = refl
mark_is at.CloseParen _ e = cc
mark_is at.OpenBracket marks.OpenBracket e = refl
mark_is at.OpenBracket _ e = cc
mark_is at.CloseBracket marks.CloseBracket e = refl
mark_is at.CloseBracket _ e = cc
mark_is at.OpenBrace marks.OpenBrace e = refl
mark_is at.OpenBrace _ e = cc
mark_is at.CloseBrace marks.CloseBrace e = refl
mark_is at.CloseBrace _ e = cc
mark_is at.Semicolon marks.Semicolon e = refl
mark_is at.Semicolon _ e = cc
mark_is at.Comma marks.Comma e = refl
mark_is at.Comma _ e = cc
mark_is at.Colon marks.Colon e = refl
mark_is at.Colon _ e = cc
mark_is at.Equals marks.Equals e = refl
mark_is at.Equals _ e = cc
mark_is at.Question marks.Question e = refl
mark_is at.Question _ e = cc
mark_is at.Star marks.Star e = refl
mark_is at.Star _ e = cc
mark_is at.While m e = cc

keyword_is : (p : Terminal) (k : Keyword) → is_keyword p k ≡ true → words.Keyword k ≡ word_of p
keyword_is at.While keywords.While e = refl
keyword_is at.While _ e = cc
keyword_is _ k e = cc

pub word_is : (p : Terminal) (w : Word) → is p w ≡ true → w ≡ word_of p
word_is p (words.Mark m) e = mark_is p m e
word_is p (words.Name n) e = cc
word_is p (words.Integer n t) e = cc
word_is p (words.Character c) e = cc
word_is p (words.String s) e = cc
word_is p (words.Keyword k) e = keyword_is p k e
