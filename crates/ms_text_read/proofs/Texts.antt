-- A text spells one module at most, or has one reason why it spells none.
use Rattle.std.proofs.Common.{◌≡◌, ◌⊎◌, inl, inr, ℕ, ◌≤◌, ◌<◌, List, [], Option, Some, Ok, Err, All, Contains, length, refl, sym, ap, subst, ◌∙◌, arith}
use Rattle.ms_module.specs.declared.module.Module.{Module}
use Rattle.ms_text_lex.specs.declared.token.Token.{Token}
use Rattle.ms_text_lex.specs.declared.fault.LexFault.{LexFault}
use Rattle.ms_text_lex.specs.declared.fault.LexFault.TheVariants as lexing
use Rattle.ms_text_lex.specs.Fault as fault
use Rattle.ms_text_lex.specs.Readers.{FirstFault, fault_of}
use Rattle.ms_text_lex.specs.Lexing.{Lexes, LexStops, lexemes}
use Rattle.ms_text_lex.proofs.Spans.{one}
use Rattle.ms_text_grammar.specs.declared.fault.TextFault.{TextFault}
use Rattle.ms_text_grammar.specs.declared.fault.TextFault.TheVariants.{Float, Lex, Limit, Memory, Name, Range, Syntax}
use Rattle.ms_text_grammar.specs.declared.surface.Field.{Field}
use Rattle.ms_text_grammar.specs.Elaborating.{module_of}
use Rattle.ms_text_grammar.specs.Scans.{first_stop}
use Rattle.ms_text_grammar.specs.TextSpells.{FieldsSpelled, Stops, TextSpells, TextStop}
use Rattle.ms_text_grammar.specs.TextSpells.TextStop.{lex, name, syntax}
use Rattle.ms_text_read.specs.refinement.Fields.{IsFirstStop}
use Rattle.ms_text_read.proofs.Stops.{no_stop, one_answer}
use Rattle.ms_text_resolve.specs.refinement.Answers.{Resolves}
use Rattle.ms_text_read.specs.Answers.{Tells, lexing_fault, error_of}

-- ---- one list of tokens, one list of fields

no_lex_stop : (bytes : List ℕ) (tokens : List Token) (f : fault.Fault) → Lexes bytes tokens → LexStops bytes f → ⊥
no_lex_stop bytes tokens f h k = let e = (lexemes (length bytes)).again (length bytes) bytes tokens [] h in cc

no_syntax_stop : (bytes : List ℕ) (tokens others : List Token) (fields : List Field) (f : TextFault) → Lexes bytes tokens → FieldsSpelled bytes tokens fields → Lexes bytes others → first_stop bytes others ≡ Some f → ⊥
no_syntax_stop bytes tokens others fields f h spelled k stop =
    let same = one bytes tokens others h k in
    let none = no_stop bytes tokens fields spelled in
    let some : first_stop bytes tokens ≡ Some f = rw same stop in
    cc

same_fields : (bytes : List ℕ) (tokens others : List Token) (fields gs : List Field) → Lexes bytes tokens → FieldsSpelled bytes tokens fields → Lexes bytes others → FieldsSpelled bytes others gs → fields ≡ gs
same_fields bytes tokens others fields gs h spelled k spelled_so =
    let same = one bytes tokens others h k in
    one_answer bytes tokens fields gs spelled (subst (λ (ts : List Token). FieldsSpelled bytes ts gs) (sym same) spelled_so)

-- ---- the laws

not_in_none : (at : ℕ) (ns : List ℕ) → ns ≡ [] → Contains ns at → ⊥
not_in_none at ns e h = let k : h.0 < length ns = h.1 in let z : length ns ≡ 0 = ap length e in omega arith

pub no_reason : (bytes : List ℕ) (m : Module) (why : TextStop) → TextSpells bytes m → Stops bytes why → ⊥
no_reason bytes m (lex f) h k = no_lex_stop bytes h.tokens f h.lexed k
no_reason bytes m (syntax f) h k = no_syntax_stop bytes h.tokens k.0 h.fields f h.lexed h.spelled k.1 k.2
no_reason bytes m (name at) h k =
    let same = same_fields bytes h.tokens k.0 h.fields k.1 h.lexed h.spelled k.2 k.3 in
    not_in_none at (module_of bytes k.1).wrong (sym (ap (λ (fs : List Field). (module_of bytes fs).wrong) same) ∙ h.named) k.4

-- a least place is one
least_below : (at other : ℕ) (ns : List ℕ) → Contains ns other → All (λ n. at ≤ n) ns → at ≤ other
least_below at other ns h k = subst (λ (n : ℕ). at ≤ n) h.2 (k h.0 other h.1)

least_is : (at other : ℕ) (ns : List ℕ) → Contains ns at → All (λ n. at ≤ n) ns → Contains ns other → All (λ n. other ≤ n) ns → at ≡ other
least_is at other ns h k h' k' =
    let a = least_below at other ns h' k in
    let b = least_below other at ns h k' in
    omega arith

same_lex : (bytes : List ℕ) (f g : fault.Fault) → LexStops bytes f → LexStops bytes g → f ≡ g
same_lex bytes f g h k = cc

same_stop : (f g : TextFault) (stop : Option TextFault) → stop ≡ Some f → stop ≡ Some g → f ≡ g
same_stop f g stop h k = cc

pub reasons_alike : (bytes : List ℕ) (why other : TextStop) → Stops bytes why → Stops bytes other → error_of why ≡ error_of other
reasons_alike bytes (lex f) (lex g) h k = ap (λ (x : fault.Fault). error_of (lex x)) (same_lex bytes f g h k)
reasons_alike bytes (lex f) (syntax g) h k = absurd (no_lex_stop bytes k.0 f k.1 h)
reasons_alike bytes (lex f) (name at) h k = absurd (no_lex_stop bytes k.0 f k.2 h)
reasons_alike bytes (syntax f) (lex g) h k = absurd (no_lex_stop bytes h.0 g h.1 k)
reasons_alike bytes (syntax f) (syntax g) h k = same_stop f g (first_stop bytes k.0) (subst (λ (ts : List Token). first_stop bytes ts ≡ Some f) (one bytes h.0 k.0 h.1 k.1) h.2) k.2
reasons_alike bytes (syntax f) (name at) h k = absurd (no_syntax_stop bytes k.0 h.0 k.1 f k.2 k.3 h.1 h.2)
reasons_alike bytes (name at) (lex g) h k = absurd (no_lex_stop bytes h.0 g h.2 k)
reasons_alike bytes (name at) (syntax g) h k = absurd (no_syntax_stop bytes h.0 k.0 h.1 g h.2 h.3 k.1 k.2)
reasons_alike bytes (name at) (name other) h k =
    let same = same_fields bytes h.0 k.0 h.1 k.1 h.2 h.3 k.2 k.3 in
    let wrong : (module_of bytes k.1).wrong ≡ (module_of bytes h.1).wrong = sym (ap (λ (fs : List Field). (module_of bytes fs).wrong) same) in
    let there : Contains (module_of bytes h.1).wrong other = subst (λ (ns : List ℕ). Contains ns other) wrong k.4 in
    let below : All (λ n. other ≤ n) (module_of bytes h.1).wrong = subst (λ (ns : List ℕ). All (λ n. other ≤ n) ns) wrong k.5 in
    ap (λ (n : ℕ). Name n) (least_is at other (module_of bytes h.1).wrong h.4 h.5 there below)

-- ---- what the stages give

pub lex_tells : (bytes : List ℕ) (f : LexFault) → FirstFault bytes (fault_of f) → Tells bytes (lexing_fault f)
lex_tells bytes (lexing.Char at) h = inr (lex (fault.Char at), refl, h)
lex_tells bytes (lexing.Unclosed at) h = inr (lex (fault.Unclosed at), refl, h)
lex_tells bytes lexing.Memory h = inl refl

pub syntax_tells : (bytes : List ℕ) (tokens : List Token) (e : TextFault) → Lexes bytes tokens → IsFirstStop bytes tokens e → Tells bytes e
syntax_tells bytes tokens (Lex f) h k = inr (syntax (Lex f), refl, (tokens, h, k))
syntax_tells bytes tokens (Syntax at) h k = inr (syntax (Syntax at), refl, (tokens, h, k))
syntax_tells bytes tokens (Range at) h k = inr (syntax (Range at), refl, (tokens, h, k))
syntax_tells bytes tokens (Float at) h k = inr (syntax (Float at), refl, (tokens, h, k))
syntax_tells bytes tokens (Limit which at) h k = inr (syntax (Limit which at), refl, (tokens, h, k))
syntax_tells bytes tokens (Name at) h k = inr (syntax (Name at), refl, (tokens, h, k))
syntax_tells bytes tokens Memory h k = inl refl

pub module_read : (bytes : List ℕ) (tokens : List Token) (fields : List Field) (m : Module) → Lexes bytes tokens → FieldsSpelled bytes tokens fields → Resolves (module_of bytes fields) (Ok m) → TextSpells bytes m
module_read bytes tokens fields m h spelled r = record { tokens = tokens; fields = fields; lexed = h; spelled = spelled; named = r.0; is = r.1 }

pub name_tells : (bytes : List ℕ) (tokens : List Token) (fields : List Field) (e : TextFault) → Lexes bytes tokens → FieldsSpelled bytes tokens fields → Resolves (module_of bytes fields) (Err e) → Tells bytes e
name_tells bytes tokens fields (Lex f) h spelled r = absurd r
name_tells bytes tokens fields (Syntax at) h spelled r = absurd r
name_tells bytes tokens fields (Range at) h spelled r = absurd r
name_tells bytes tokens fields (Float at) h spelled r = absurd r
name_tells bytes tokens fields (Limit which at) h spelled r = absurd r
name_tells bytes tokens fields (Name at) h spelled r = inr (name at, refl, (tokens, fields, h, spelled, r.0, r.1))
name_tells bytes tokens fields Memory h spelled r = inl refl

-- ---- the clauses of the whole

pub tells_only : (bytes : List ℕ) (e : TextFault) → Tells bytes e → (m : Module) → TextSpells bytes m → e ≡ Memory
tells_only bytes e (inl h) m k = h
tells_only bytes e (inr h) m k = absurd (no_reason bytes m h.0 k h.2)

pub tells_stops : (bytes : List ℕ) (e : TextFault) → Tells bytes e → (why : TextStop) → Stops bytes why → (e ≡ error_of why) ⊎ (e ≡ Memory)
tells_stops bytes e (inl h) why k = inr h
tells_stops bytes e (inr h) why k = inl (sym h.1 ∙ reasons_alike bytes h.0 why h.2 k)
