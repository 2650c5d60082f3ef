-- What a whole text's reading gives.
use Rattle.std.proofs.Common.{◌≡◌, ℕ, ◌⊎◌, inl, inr, List, [], Option, Some, None, Ok, Err, Result, length, refl, sym, ap, subst, ◌∙◌}
use Rattle.ms_text_lex.specs.declared.token.Token.{Token}
use Rattle.ms_text_grammar.specs.declared.surface.Field.{Field}
use Rattle.ms_text_grammar.specs.declared.fault.TextFault.{TextFault}
use Rattle.ms_text_grammar.specs.declared.fault.TextFault.TheVariants.{Float, Lex, Limit, Memory, Name, Range, Syntax}
use Rattle.ms_text_grammar.specs.Fields.{file}
use Rattle.ms_text_grammar.proofs.Agreeing.{agree_from_scan, scan_from_agree}
use Rattle.ms_text_grammar.proofs.Files.{file_ends, one_way}
use Rattle.ms_text_grammar.specs.Bounds.{usual}
use Rattle.ms_text_grammar.specs.Scans.{before, earlier, fault_in, first_stop, limit_at, mismatch, plain_stop, syntax_at, with_mismatch, too_deep}
use Rattle.ms_text_grammar.specs.TextSpells.{FieldsSpelled}
use Rattle.ms_text_parts.specs.refinement.Readers.{FailsBy, fault_of}
use Rattle.ms_text_read.specs.refinement.Fields.{FoundBy}

-- what is read is spelled
pub all_spelled : (source : List ℕ) (tokens : List Token) (fields : List Field) (t : List Token) → (file source).read (length source) tokens ≡ Ok (fields, t)
    → too_deep usual.parens 0 tokens ≡ None → mismatch source tokens ≡ None → FieldsSpelled source tokens fields
all_spelled source tokens fields t e shallow agrees =
    let h = (file source).takes (length source) tokens fields t e in
    let grammar : (file source).spelled tokens fields [] = subst (λ (l : List Token). (file source).spelled tokens fields l) (file_ends source tokens fields t h) h in
    record {
      grammar = grammar;
      agrees = agree_from_scan source usual tokens fields grammar agrees;
      shallow = shallow;
    }

-- the first stop where the grammar has one
pub stop_of_fault : (source : List ℕ) (tokens : List Token) (f : TextFault) → (file source).read (length source) tokens ≡ Err f
    → first_stop source tokens ≡ with_mismatch source tokens (earlier (Some f) (limit_at (too_deep usual.parens 0 tokens)))
stop_of_fault source tokens f e = ap (λ r. with_mismatch source tokens (earlier (fault_in r) (limit_at (too_deep usual.parens 0 tokens)))) e

-- the first stop where the grammar has none
pub stop_of_fields : (source : List ℕ) (tokens : List Token) (x : List Field × List Token) → (file source).read (length source) tokens ≡ Ok x
    → first_stop source tokens ≡ with_mismatch source tokens (limit_at (too_deep usual.parens 0 tokens))
stop_of_fields source tokens x e = ap (λ r. with_mismatch source tokens (earlier (fault_in r) (limit_at (too_deep usual.parens 0 tokens)))) e

-- what is spelled has no stop
pub no_stop : (source : List ℕ) (tokens : List Token) (fields : List Field) → FieldsSpelled source tokens fields → first_stop source tokens ≡ None
no_stop source tokens fields h =
    let e = (file source).again (length source) tokens fields [] h.grammar in
    let shallow = h.shallow in
    let agrees = scan_from_agree source usual tokens fields h.grammar h.agrees in
    stop_of_fields source tokens (fields, []) e ∙ rw (shallow, agrees) refl

-- what the code answers where the grammar has a fault
pub fault_found : (source : List ℕ) (tokens : List Token) (e mid res : Option TextFault) → FailsBy e ((file source).read (length source) tokens)
    → ((f : TextFault) → e ≡ Some f → earlier (Some f) (limit_at (too_deep usual.parens 0 tokens)) ≡ mid) → (e ≡ None → mid ≡ None)
    → ((f : TextFault) → mid ≡ Some f → FoundBy res (with_mismatch source tokens (Some f))) → (mid ≡ None → res ≡ None) → FoundBy res (first_stop source tokens)
fault_found source tokens None mid res h depth no_depth tell no_tell = rw (no_tell (no_depth refl)) tt
fault_found source tokens (Some f) None res h depth no_depth tell no_tell = rw (no_tell refl) tt
fault_found source tokens (Some f) (Some g) res h depth no_depth tell no_tell =
    let e = stop_of_fault source tokens f h ∙ ap (with_mismatch source tokens) (depth f refl) in
    subst (λ (o : Option TextFault). FoundBy res o) (sym e) (tell g refl)

-- ---- what the answer's fault says

some_is : (x y : TextFault) → Some x ≡ Some y → x ≡ y
some_is x y e = cc

found_is : (e f : TextFault) (stop : Option TextFault) → FoundBy (fault_of e) stop → stop ≡ Some f → (e ≡ f) ⊎ (e ≡ Memory)
found_is (Lex l) f stop h k = inl (some_is (Lex l) f (sym h ∙ k))
found_is (Syntax at) f stop h k = inl (some_is (Syntax at) f (sym h ∙ k))
found_is (Range at) f stop h k = inl (some_is (Range at) f (sym h ∙ k))
found_is (Float at) f stop h k = inl (some_is (Float at) f (sym h ∙ k))
found_is (Limit which at) f stop h k = inl (some_is (Limit which at) f (sym h ∙ k))
found_is (Name at) f stop h k = inl (some_is (Name at) f (sym h ∙ k))
found_is Memory f stop h k = inr refl

never_none : (x : TextFault) → Some x ≡ None → ⊥
never_none x e = cc

found_none : (e : TextFault) (stop : Option TextFault) → FoundBy (fault_of e) stop → stop ≡ None → e ≡ Memory
found_none (Lex l) stop h k = absurd (never_none (Lex l) (sym h ∙ k))
found_none (Syntax at) stop h k = absurd (never_none (Syntax at) (sym h ∙ k))
found_none (Range at) stop h k = absurd (never_none (Range at) (sym h ∙ k))
found_none (Float at) stop h k = absurd (never_none (Float at) (sym h ∙ k))
found_none (Limit which at) stop h k = absurd (never_none (Limit which at) (sym h ∙ k))
found_none (Name at) stop h k = absurd (never_none (Name at) (sym h ∙ k))
found_none Memory stop h k = refl

-- what is spelled is spelled in one way
pub one_answer : (source : List ℕ) (tokens : List Token) (f g : List Field) → FieldsSpelled source tokens f → FieldsSpelled source tokens g → f ≡ g
one_answer source tokens f g h k = one_way source tokens f g h.grammar k.grammar

-- a fault is no answer to what is spelled
pub no_answer : (source : List ℕ) (tokens : List Token) (e : TextFault) (g : List Field) → FoundBy (fault_of e) (first_stop source tokens) → FieldsSpelled source tokens g → e ≡ Memory
no_answer source tokens e g h k = found_none e (first_stop source tokens) h (no_stop source tokens g k)

-- the first stop is told
pub is_first : (source : List ℕ) (tokens : List Token) (e f : TextFault) → FoundBy (fault_of e) (first_stop source tokens) → first_stop source tokens ≡ Some f → (e ≡ f) ⊎ (e ≡ Memory)
is_first source tokens e f h k = found_is e f (first_stop source tokens) h k

-- what is spelled has no first stop
pub stops_none : (source : List ℕ) (tokens : List Token) (g : List Field) (f : TextFault) → FieldsSpelled source tokens g → first_stop source tokens ≡ Some f → ⊥
stops_none source tokens g f h k = let e : None ≡ Some f = sym (no_stop source tokens g h) ∙ k in cc
