-- What the reader of the code gives.
use Rattle.std.specs.Prelude.{◌≡◌, ℕ, List, Option, None, Some, Result, Ok, Err}
use Rattle.ms_text_lex.specs.declared.token.Token.{Token}
use Rattle.ms_text_grammar.specs.declared.fault.TextFault.{TextFault}
use Rattle.ms_text_grammar.specs.declared.surface.Field.{Field}
use Rattle.ms_text_grammar.specs.Scans.{first_stop}
use Rattle.ms_text_grammar.specs.TextSpells.{FieldsSpelled}
use Rattle.ms_text_parts.specs.refinement.Readers.{fault_of}

-- this is the stop, unless memory ran out
abbrev pub FoundBy : Option TextFault → Option TextFault → Type 0
FoundBy (Some f) stop = stop ≡ Some f
FoundBy None stop = Unit {0}

-- this is the first fault of the tokens, unless memory ran out
abbrev pub IsFirstStop : List ℕ → List Token → TextFault → Type 0
IsFirstStop source tokens e = FoundBy (fault_of e) (first_stop source tokens)

-- the fields that the tokens spell, or their first fault, unless memory ran out
abbrev pub Finds : List ℕ → List Token → Result (List Field) TextFault → Type 0
Finds source tokens (Ok fields) = FieldsSpelled source tokens fields
Finds source tokens (Err e) = IsFirstStop source tokens e
