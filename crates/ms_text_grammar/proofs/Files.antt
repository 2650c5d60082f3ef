-- A file is all of its tokens, and these are fields in one way at most.
use Rattle.std.specs.Prelude.{◌≡◌, ℕ, Bool, true, false, List, [], length, Ok, Result}
use Rattle.std.proofs.Common.{subst, sym, ◌∙◌, ap}
use Rattle.ms_bytes.specs.Parts.{ended, pure, seq}
use Rattle.ms_text_lex.specs.declared.token.Token.{Token}
use Rattle.ms_text_grammar.specs.declared.fault.TextFault.{TextFault}
use Rattle.ms_text_grammar.specs.declared.surface.Field.{Field}
use Rattle.ms_text_grammar.specs.declared.word.Word.TheVariants as word
use Rattle.ms_text_grammar.specs.Tokens.{begins}
use Rattle.ms_text_grammar.specs.Faults.{bad}
use Rattle.ms_text_grammar.specs.Bounds.{Bounds, usual}
use Rattle.ms_module.specs.declared.module.Module.{Module}
use Rattle.ms_text_lex.specs.Lexing.{Lexes, lexemes}
use Rattle.ms_text_lex.specs.Fault as lexing
use Rattle.ms_text_grammar.specs.Elaborating.{module_of}
use Rattle.ms_text_grammar.specs.TextSpells.{TextSpells, TextSpellsWithin}
use Rattle.ms_text_grammar.specs.Fields.{File, file, file_by, file_within}

abbrev whole : List Field → Result (List Field × List Token) TextFault
whole fields = Ok (fields, [])

module _ (source : List ℕ) where
  all_taken : (f : File) (s : List Token) (x : List Field) (t : List Token) → (seq (ended {F = TextFault} (bad source)) (λ done. pure f.fields)).spelled s x t → t ≡ []
  all_taken f s x t h = sym h.3.1 ∙ h.2.1

  file_by_ends : (bounds : Bounds) (b : Bool) (s : List Token) (x : List Field) (t : List Token) → (file_by source bounds b).spelled s x t → t ≡ []
  unfolding file_by
  file_by_ends bounds true s x t h = let k = h.3.3.3 in all_taken k.0 k.3.1 x t k.3.3
  file_by_ends bounds false s x t h = all_taken h.0 h.1 x t h.3

  pub file_ends : (s : List Token) (x : List Field) (t : List Token) → (file source).spelled s x t → t ≡ []
  unfolding file_within
  file_ends s x t h = file_by_ends usual (begins source word.Module s) s x t h

  one_way_within : (bounds : Bounds) (s : List Token) (x y : List Field) → (file_within source bounds).spelled s x [] → (file_within source bounds).spelled s y [] → x ≡ y
  one_way_within bounds s x y h k =
      let format = file_within source bounds in
      let e : whole x ≡ whole y = sym (format.again (length source) s x [] h) ∙ format.again (length source) s y [] k in
      let pairs : ◌≡◌ {A = List Field × List Token} (x, []) (y, []) = cc in
      ap (λ (p : List Field × List Token). p.0) pairs

  pub one_way : (s : List Token) (x y : List Field) → (file source).spelled s x [] → (file source).spelled s y [] → x ≡ y
  one_way s x y h k = one_way_within usual s x y h k

abbrev all_of : List Token → Result (List Token × List ℕ) lexing.Fault
all_of tokens = Ok (tokens, [])

same_tokens : (bytes : List ℕ) (s t : List Token) → Lexes bytes s → Lexes bytes t → s ≡ t
same_tokens bytes s t h k =
    let format = lexemes (length bytes) in
    let e : all_of s ≡ all_of t = sym (format.again (length bytes) bytes s [] h) ∙ format.again (length bytes) bytes t [] k in
    let pairs : ◌≡◌ {A = List Token × List ℕ} (s, []) (t, []) = cc in
    ap (λ (p : List Token × List ℕ). p.0) pairs

same_fields : (bounds : Bounds) (bytes : List ℕ) (s t : List Token) (x y : List Field) → s ≡ t → (file_within bytes bounds).spelled s x [] → (file_within bytes bounds).spelled t y [] → x ≡ y
same_fields bounds bytes s t x y e h k = one_way_within bytes bounds t x y (subst (λ (l : List Token). (file_within bytes bounds).spelled l x []) e h) k

-- within the same bounds a text spells one module at most
pub one_module_within : (bounds : Bounds) (bytes : List ℕ) (m n : Module) → TextSpellsWithin bounds bytes m → TextSpellsWithin bounds bytes n → m ≡ n
one_module_within bounds bytes m n h k =
    let tokens = same_tokens bytes h.tokens k.tokens h.lexed k.lexed in
    let fields = same_fields bounds bytes h.tokens k.tokens h.fields k.fields tokens h.spelled.grammar k.spelled.grammar in
    h.is ∙ ap (λ (fs : List Field). (module_of bytes fs).value) fields ∙ sym k.is

pub one_module : (bytes : List ℕ) (m n : Module) → TextSpells bytes m → TextSpells bytes n → m ≡ n
one_module bytes m n h k = one_module_within usual bytes m n h k
