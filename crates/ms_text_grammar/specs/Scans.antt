-- What is looked for in all tokens, beside the grammar, for the place of a fault: parentheses in one another, and type uses whose type
-- differs from what is written beside it. Neither needs a grammar: among the tokens before the first one that may not stand there,
-- `(type x)` is a type use, and `(type` with `(func` behind it is a type field. Of tokens that are fields this finds a use exactly where
-- the uses of the fields don't agree (`AllAgree` of `TypeUses`), which is a law (`laws.rt`).
use Rattle.std.specs.Prelude.{◌-◌, ◌&&◌, ℕ, suc, not, Bool, true, false, List, [], ◌∷◌, Option, Some, None, Result, Ok, Err, length, nat_lt, nat_le, if◌then◌else◌}
use Rattle.ms_text_lex.specs.declared.token.Token.{Token}
use Rattle.ms_text_grammar.specs.declared.fault.Counted.TheVariants.{Parens}
use Rattle.ms_text_grammar.specs.declared.fault.TextFault.{TextFault}
use Rattle.ms_text_grammar.specs.declared.fault.TextFault.TheVariants as fault
use Rattle.ms_text_grammar.specs.declared.placed.Placed.{Placed}
use Rattle.ms_text_grammar.specs.declared.surface.TypeField.{TypeField}
use Rattle.ms_text_grammar.specs.declared.surface.TypeUse.{TypeUse}
use Rattle.ms_text_grammar.specs.declared.word.Word.TheVariants as word
use Rattle.ms_text_grammar.specs.Tokens.{begins, closes, is_close, is_open}
use Rattle.ms_text_grammar.specs.Types.{type_field, type_use}
use Rattle.ms_text_grammar.specs.Bounds.{usual}
use Rattle.ms_text_grammar.specs.Fields.{file}
use Rattle.ms_text_grammar.specs.Shapes.{field_type, is_written, same_shape, use_type}
use Rattle.ms_text_grammar.specs.TypeUses.{field_at, index_in}

-- ---- parentheses

-- the first one that opens where so many are open already
abbrev pub too_deep : ℕ → ℕ → List Token → Option ℕ
too_deep most depth [] = None
too_deep most depth (t ∷ ts) =
    if is_open t.kind then (if nat_lt depth most then too_deep most (suc depth) ts else Some t.at) else
    if is_close t.kind then too_deep most (depth - 1) ts else too_deep most depth ts

-- ---- type uses and type fields

abbrev pub tail_of : List Token → List Token
tail_of [] = []
tail_of (t ∷ ts) = ts

-- what was read, and what is left
abbrev pub ok_value : {A : Type 0} → Result (A × List Token) TextFault → Option (A × List Token)
ok_value (Ok x) = Some x
ok_value (Err e) = None

-- only where a closing parenthesis follows
abbrev pub if_closed : {A : Type 0} → Option (A × List Token) → Option A
if_closed None = None
if_closed (Some x) = if closes x.1 then Some x.0 else None

abbrev pub and_all : {A : Type 0} → Option A → List A → List A
and_all None xs = xs
and_all (Some x) xs = x ∷ xs

abbrev pub placed : ℕ → Option (TypeUse × List Token) → Option Placed
placed at None = None
placed at (Some x) = Some (record { at = at; sig = x.0 })

-- whether a type field is another type than what a use writes
abbrev pub is_other : Option TypeField → TypeUse → Bool
is_other None u = false
is_other (Some f) u = is_written u && not (same_shape (field_type f) (use_type u))

module _ (source : List ℕ) where
  -- the type field whose `type` has just been passed
  abbrev pub field_behind : List Token → Option TypeField
  field_behind s = if_closed (ok_value ((type_field source).read (length source) s))

  abbrev pub field_here : Bool → List Token → List TypeField → List TypeField
  field_here true s fs = and_all (field_behind s) fs
  field_here false s fs = fs

  -- the type fields among tokens
  abbrev pub fields_in : List Token → List TypeField
  fields_in [] = []
  fields_in (t ∷ ts) = field_here (begins source word.Type (t ∷ ts)) (tail_of ts) (fields_in ts)

  abbrev pub use_here : Bool → ℕ → List Token → List Placed → List Placed
  use_here true at s us = and_all (placed at (ok_value ((type_use source).read (length source) s))) us
  use_here false at s us = us

  -- the type uses with `(type x)` among tokens
  abbrev pub uses_in : List Token → List Placed
  uses_in [] = []
  uses_in (t ∷ ts) = use_here (begins source word.Type (t ∷ ts)) t.at (t ∷ ts) (uses_in ts)

  -- the first use that names a type field which differs from what is written
  abbrev pub differing : List TypeField → List Placed → Option ℕ
  differing fs [] = None
  differing fs (u ∷ us) = if is_other (field_at fs (index_in source fs u.sig.sig)) u.sig then Some u.at else differing fs us

-- the first use among tokens that names a type field which differs from what is written
abbrev pub mismatch : List ℕ → List Token → Option ℕ
mismatch source s = differing source (fields_in source s) (uses_in source s)

-- ---- the first stop

abbrev pub place : TextFault → ℕ
place (fault.Lex f) = 0
place (fault.Syntax at) = at
place (fault.Range at) = at
place (fault.Float at) = at
place (fault.Limit which at) = at
place (fault.Name at) = at
place fault.Memory = 0

-- the one that stands first; the left one, where they stand at one place
abbrev pub earlier : Option TextFault → Option TextFault → Option TextFault
earlier None g = g
earlier (Some f) None = Some f
earlier (Some f) (Some g) = if nat_le (place f) (place g) then Some f else Some g

abbrev pub limit_at : Option ℕ → Option TextFault
limit_at None = None
limit_at (Some at) = Some (fault.Limit Parens at)

abbrev pub syntax_at : Option ℕ → Option TextFault
syntax_at None = None
syntax_at (Some at) = Some (fault.Syntax at)

-- the tokens before a place
abbrev pub up_to : ℕ → List Token → List Token
up_to at [] = []
up_to at (t ∷ ts) = if nat_lt t.at at then t ∷ up_to at ts else []

abbrev pub before : Option TextFault → List Token → List Token
before None s = s
before (Some f) s = up_to (place f) s

abbrev pub fault_in : {A : Type 0} → Result A TextFault → Option TextFault
fault_in (Ok x) = None
fault_in (Err f) = Some f

-- the first token such that no fields begin with the tokens up to it, or the first parenthesis that is too deep
abbrev pub plain_stop : List ℕ → List Token → Option TextFault
plain_stop source s = earlier (fault_in ((file source).read (length source) s)) (limit_at (too_deep usual.parens 0 s))

-- with a use that differs before it
abbrev pub with_mismatch : List ℕ → List Token → Option TextFault → Option TextFault
with_mismatch source s stop = earlier (syntax_at (mismatch source (before stop s))) stop

-- the first fault of tokens, but for identifiers
abbrev pub first_stop : List ℕ → List Token → Option TextFault
first_stop source s = with_mismatch source s (plain_stop source s)
