-- Keywords (C11, 6.4.1), with size_t and ptrdiff_t, and identifiers (6.4.2).
use Rattle.std.specs.Prelude.{◌==◌, ℕ, List, [], ◌∷◌, Option, Some, None, codes, nat_lt, if◌then◌else◌}
use Rattle.std.specs.Str.{bytes_eq}
use Rattle.c_token.specs.declared.word.Keyword.{Keyword}
use Rattle.c_token.specs.declared.word.Keyword.TheVariants.{Break, Case, Char, Continue, Default, Do, Else, Enum, For, If, Int, Long, PtrdiffT, Return, Short, Signed, SizeT, Sizeof, Struct, Switch, Unsigned, Unused, Void, While}
use Rattle.c_token.specs.declared.word.Word.{Word}
use Rattle.c_token.specs.declared.word.Word.TheVariants as words

-- the first row of a word
abbrev pub by_word : {A : Type 0} → List (List ℕ × A) → List ℕ → Option A
by_word [] word = None
by_word (row ∷ rows) word = if bytes_eq word row.0 then Some row.1 else by_word rows word

-- those that begin with `_`
unfoldable pub keywords_low : List (List ℕ × Keyword)
keywords_low =
    (codes "_Alignas", Unused) ∷
    (codes "_Alignof", Unused) ∷
    (codes "_Atomic", Unused) ∷
    (codes "_Bool", Unused) ∷
    (codes "_Complex", Unused) ∷
    (codes "_Generic", Unused) ∷
    (codes "_Imaginary", Unused) ∷
    (codes "_Noreturn", Unused) ∷
    (codes "_Static_assert", Unused) ∷
    (codes "_Thread_local", Unused) ∷
    []

-- by their first letter
unfoldable pub keywords_a_to_d : List (List ℕ × Keyword)
keywords_a_to_d =
    (codes "auto", Unused) ∷
    (codes "break", Break) ∷
    (codes "case", Case) ∷
    (codes "char", Char) ∷
    (codes "const", Unused) ∷
    (codes "continue", Continue) ∷
    (codes "default", Default) ∷
    (codes "do", Do) ∷
    (codes "double", Unused) ∷
    []

unfoldable pub keywords_e_to_l : List (List ℕ × Keyword)
keywords_e_to_l =
    (codes "else", Else) ∷
    (codes "enum", Enum) ∷
    (codes "extern", Unused) ∷
    (codes "float", Unused) ∷
    (codes "for", For) ∷
    (codes "goto", Unused) ∷
    (codes "if", If) ∷
    (codes "inline", Unused) ∷
    (codes "int", Int) ∷
    (codes "long", Long) ∷
    []

unfoldable pub keywords_p_to_s : List (List ℕ × Keyword)
keywords_p_to_s =
    (codes "ptrdiff_t", PtrdiffT) ∷
    (codes "register", Unused) ∷
    (codes "restrict", Unused) ∷
    (codes "return", Return) ∷
    (codes "short", Short) ∷
    (codes "signed", Signed) ∷
    (codes "size_t", SizeT) ∷
    (codes "sizeof", Sizeof) ∷
    (codes "static", Unused) ∷
    (codes "struct", Struct) ∷
    (codes "switch", Switch) ∷
    []

unfoldable pub keywords_t_to_w : List (List ℕ × Keyword)
keywords_t_to_w =
    (codes "typedef", Unused) ∷
    (codes "union", Unused) ∷
    (codes "unsigned", Unsigned) ∷
    (codes "void", Void) ∷
    (codes "volatile", Unused) ∷
    (codes "while", While) ∷
    []

-- the keywords, by what they begin with
abbrev pub keywords_with : ℕ → List (List ℕ × Keyword)
keywords_with first =
    if first == 95 then keywords_low else
    if nat_lt first 101 then keywords_a_to_d else
    if nat_lt first 112 then keywords_e_to_l else
    if nat_lt first 116 then keywords_p_to_s else keywords_t_to_w

abbrev pub keyword_of : List ℕ → Option Keyword
keyword_of [] = None
keyword_of (first ∷ s) = by_word (keywords_with first) (first ∷ s)

abbrev pub name_or : List ℕ → Option Keyword → Word
name_or text None = words.Name text
name_or text (Some keyword) = words.Keyword keyword

abbrev pub word_of : List ℕ → Word
word_of text = name_or text (keyword_of text)
