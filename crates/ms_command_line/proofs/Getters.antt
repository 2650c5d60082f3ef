-- What the getters give of rows that have what is asked for.
use Rattle.std.proofs.Common.{◌≡◌, ◌∙◌, ℕ, Bool, true, false, refl, ap, sym, subst, [], Option, Some, None, Result, Ok, option_map}
use Rattle.std.specs.Prelude.{IsSome, unwrap_or}
use Rattle.std.specs.Borrow.{Bor}
use Rattle.std.specs.Option.{option_map_or}
use Rattle.std.specs.Str.Parse.{ParsesUnsigned, digits_value, without_leading_plus}
use Rattle.std.proofs.lemmas.Result.{OkIff-at_ok, Ok-from_Ok_iff}
use Rattle.clap.specs.Words.{Text, first_of, first_value, rows_of}
use Rattle.clap.specs.ValueTests.{is_unsigned_in}
use Rattle.clap.specs.declared.parser.matches.Found.{Found}
use Rattle.clap.specs.declared.builder.value_parser.ValueParser.TheVariants as parser
use Rattle.clap.proofs.ValueTestLemmas.{accepts-Accepts}
use Rattle.clap.proofs.WalkLemmas.{first_value-rows}
use Rattle.ms_command_line.specs.Asked.{has, number}
use Rattle.ms_command_line.specs.Commands.{IsWithin}

pub text_there : (o : Option (Bor Text)) (f : Found) (id : Text) (test : Text → Bool) → option_map (λ s. s.now) o ≡ first_value f id
    → has test id (rows_of f) ≡ true → IsSome o
text_there o f id test e h = go o (subst (λ (t : Option Text). option_map_or test t false ≡ true) (sym (e ∙ first_value-rows f id)) h)
  where
    go : (p : Option (Bor Text)) → option_map_or test (option_map (λ s. s.now) p) false ≡ true → IsSome p
    go None k = cc
    go (Some x) k = refl

pub text_is : (o : Option (Bor Text)) (f : Found) (id : Text) (x : Bor Text) → option_map (λ s. s.now) o ≡ first_value f id → o ≡ Some x
    → Some x.now ≡ first_of id (rows_of f)
text_is o f id x e is = ap (option_map (λ (s : Bor Text). s.now)) (sym is) ∙ e ∙ first_value-rows f id

pub text_passes : (t : Text) (f : Found) (id : Text) (test : Text → Bool) → Some t ≡ first_of id (rows_of f) → has test id (rows_of f) ≡ true → test t ≡ true
text_passes t f id test e h = subst (λ (o : Option Text). option_map_or test o false ≡ true) (sym e) h

-- the number that a text in a range reads as
pub number_reads : {E : Type 0} (least most : ℕ) (t : Text) (r : Result ℕ E) → is_unsigned_in least most t ≡ true → ParsesUnsigned 64 10 t r
    → (r ≡ Ok (digits_value 10 (without_leading_plus t))) × IsWithin least most (digits_value 10 (without_leading_plus t))
number_reads least most t r e p =
    let passed = accepts-Accepts false (parser.Unsigned least most) t e in
    (Ok-from_Ok_iff r _ _ p (passed.0, passed.1), (passed.2, passed.3))

number_is : (name : Text) (t : Text) (f : Found) → Some t ≡ first_of name (rows_of f) → digits_value 10 (without_leading_plus t) ≡ number name (rows_of f)
number_is name t f e = ap (λ (x : Option Text). digits_value 10 (without_leading_plus (unwrap_or x []))) e

-- what `unwrap` gives of it
pub number_given : {E : Type 0} (name : Text) (least most : ℕ) (t : Text) (f : Found) (r : Result ℕ E) (x : ℕ) → Some t ≡ first_of name (rows_of f)
    → is_unsigned_in least most t ≡ true → ParsesUnsigned 64 10 t r → r ≡ Ok x → (x ≡ number name (rows_of f)) × IsWithin least most x
number_given name least most t f r x is e p ok =
    let read = number_reads least most t r e p in
    let same : x ≡ digits_value 10 (without_leading_plus t) = (OkIff-at_ok r _ _ x p ok).1 in
    (same ∙ number_is name t f is, rw same read.1)
