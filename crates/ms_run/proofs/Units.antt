-- Bytes are one unit at most, which has one module; and where there is none there is one reason.
use Rattle.std.proofs.Common.{◌≡◌, ◌∙◌, ℕ, List, [], length, refl, sym, ap, subst}
use Rattle.std.specs.Prelude.{Result, Ok, Err, Some}
use Rattle.c_token.specs.declared.word.Token.{Token}
use Rattle.c_lex.specs.Fault.{Fault}
use Rattle.c_lex.specs.Lexing as lexing
use Rattle.c_lex.specs.Lexing.{Lexes, token_list}
use Rattle.c_lex.specs.Readers.{error_of}
use Rattle.c_tree.specs.declared.external.External.{External}
use Rattle.c_tree.specs.Grammar as grammar
use Rattle.c_parse.specs.Units as parsing
use Rattle.c_parse.specs.Units.{Parses}
use Rattle.c_parse.specs.declared.fault.CParse.{CParse}
use Rattle.c_parse.proofs.Stopping.{no_stop, one_stop}
use Rattle.c_parse_steps.proofs.Units.{one_unit}
use Rattle.c_check.specs.Units.{typing_of}
use Rattle.c_check.specs.declared.fault.CCheck.TheVariants.{NoTyping}
use Rattle.c_typed.specs.Tree.{Typed}
use Rattle.c_code.specs.Limits.{limit_of}
use Rattle.c_code.specs.Modules.{compiled}
use Rattle.c_compile.specs.Refusals.{limit}
use Rattle.c_compile.specs.declared.fault.Limit.{Limit}
use Rattle.c_compile.specs.declared.fault.Limit.TheVariants as limits
use Rattle.ms_module.specs.declared.module.Module.{Module}
use Rattle.ms_run.specs.declared.source.SourceFault.{SourceFault}
use Rattle.ms_run.specs.declared.source.SourceFault.TheVariants as faults
use Rattle.ms_run.specs.Source.{IsModule, IsParsed, IsUnit, Stops, Tells, no_tokens, no_typing, no_unit, past}

module _ (bytes : List ℕ) where
  -- ---- tokens

  one_list : (a b : List Token) → Lexes bytes a → Lexes bytes b → a ≡ b
  one_list a b h k =
      let n = length bytes in
      let both : ◌≡◌ {A = Result (List Token × List ℕ) Fault} (Ok (a, [])) (Ok (b, [])) = sym ((token_list n).again n bytes a [] h) ∙ (token_list n).again n bytes b [] k in
      let pairs : ◌≡◌ {A = List Token × List ℕ} (a, []) (b, []) = cc in
      ap (λ (p : List Token × List ℕ). p.0) pairs

  no_list : (a : List Token) (f : Fault) → Lexes bytes a → lexing.Stops bytes f → ⊥
  no_list a f h k = let n = length bytes in let e = sym ((token_list n).again n bytes a [] h) ∙ k in cc

  one_fault : (f g : Fault) → lexing.Stops bytes f → lexing.Stops bytes g → f ≡ g
  one_fault f g h k = let e = sym h ∙ k in cc

  -- ---- units

  same_tokens : (P : List Token → Type 0) (a b : List Token) → Lexes bytes a → Lexes bytes b → P a → P b
  same_tokens P a b h k p = subst P (one_list a b h k) p

  one_parsed : (xs ys : List External) → IsParsed bytes xs → IsParsed bytes ys → xs ≡ ys
  one_parsed xs ys p q =
      one_unit p.tokens xs ys p.parses.is_unit (same_tokens (λ t. grammar.IsUnit t ys) q.tokens p.tokens q.lexes p.lexes q.parses.is_unit)

  no_parsed : (xs : List External) (tokens : List Token) (f : CParse) → IsParsed bytes xs → Lexes bytes tokens → parsing.Stops tokens (length bytes) f → ⊥
  no_parsed xs tokens f p h stops = no_stop tokens (length bytes) f xs stops (same_tokens (λ t. Parses t xs) p.tokens tokens p.lexes h p.parses)

  typings : (xs ys : List External) → IsParsed bytes xs → IsParsed bytes ys → typing_of xs ≡ typing_of ys
  typings xs ys p q = ap typing_of (one_parsed xs ys p q)

  pub one_typed : (u v : Typed) → IsUnit bytes u → IsUnit bytes v → u ≡ v
  one_typed u v p q = let e = sym p.typed ∙ typings p.externals q.externals p.parsed q.parsed ∙ q.typed in cc

  no_typed : (u : Typed) (xs : List External) (at : ℕ) → IsUnit bytes u → IsParsed bytes xs → typing_of xs ≡ Err at → ⊥
  no_typed u xs at p q h = let e = sym p.typed ∙ typings p.externals xs p.parsed q ∙ h in cc

  one_place : (xs ys : List External) (a b : ℕ) → IsParsed bytes xs → IsParsed bytes ys → typing_of xs ≡ Err a → typing_of ys ≡ Err b → a ≡ b
  one_place xs ys a b p q h k = let e = sym h ∙ typings xs ys p q ∙ k in cc

  -- ---- modules

  pub one_module : (m n : Module) → IsModule bytes m → IsModule bytes n → m ≡ n
  one_module m n p q = p.module' ∙ ap compiled (one_typed p.unit q.unit p.is_unit q.is_unit) ∙ sym q.module'

  limits_of : (u v : Typed) → IsUnit bytes u → IsUnit bytes v → limit_of u ≡ limit_of v
  limits_of u v p q = ap limit_of (one_typed u v p q)

  -- ---- reasons

  no_tokens_then : (fault : Fault) (m : Module) → lexing.Stops bytes fault → IsModule bytes m → ⊥
  no_tokens_then f m h p = let q = p.is_unit.parsed in no_list q.tokens f q.lexes h

  pub never_both : (fault : SourceFault) (m : Module) → Stops bytes fault → IsModule bytes m → ⊥
  never_both _ m (no_tokens f h) p = no_tokens_then f m h p
  never_both _ m (no_unit tokens f h k) p = let q = p.is_unit in no_parsed q.externals tokens f q.parsed h k
  never_both _ m (no_typing xs at h k) p = no_typed p.unit xs at p.is_unit h k
  never_both _ m (past u l h k) p = let e = sym k ∙ limits_of u p.unit h p.is_unit ∙ p.within in cc

  -- bytes that have a module are stopped by want of memory alone
  pub stopped_only : (fault : SourceFault) (m : Module) → Tells bytes fault → IsModule bytes m → fault ≡ faults.Memory
  stopped_only (faults.Lex e) m h p = absurd (never_both (faults.Lex e) m h p)
  stopped_only (faults.Parse e) m h p = absurd (never_both (faults.Parse e) m h p)
  stopped_only (faults.Check e) m h p = absurd (never_both (faults.Check e) m h p)
  stopped_only (faults.Limit l) m h p = absurd (never_both (faults.Limit l) m h p)
  stopped_only faults.Memory m h p = refl

  one_limit : (a b : Limit) → limit a ≡ limit b → a ≡ b
  one_limit limits.Locals limits.Locals e = refl
  one_limit limits.Locals limits.Copy e = absurd cc
  one_limit limits.Locals limits.Functions e = absurd cc
  one_limit limits.Copy limits.Locals e = absurd cc
  one_limit limits.Copy limits.Copy e = refl
  one_limit limits.Copy limits.Functions e = absurd cc
  one_limit limits.Functions limits.Locals e = absurd cc
  one_limit limits.Functions limits.Copy e = absurd cc
  one_limit limits.Functions limits.Functions e = refl

  same_limit : (u v : Typed) (a b : Limit) → IsUnit bytes u → IsUnit bytes v → limit_of u ≡ Some (limit a) → limit_of v ≡ Some (limit b) → a ≡ b
  same_limit u v a b p q h k = one_limit a b (let e = sym h ∙ limits_of u v p q ∙ k in cc)

  pub one_reason : (a b : SourceFault) → Stops bytes a → Stops bytes b → a ≡ b
  one_reason _ _ (no_tokens f h) (no_tokens g k) = ap (λ (x : Fault). faults.Lex (error_of x)) (one_fault f g h k)
  one_reason _ _ (no_tokens f h) (no_unit tokens e k l) = absurd (no_list tokens f k h)
  one_reason _ _ (no_tokens f h) (no_typing xs at k l) = absurd (no_list k.tokens f k.lexes h)
  one_reason _ _ (no_tokens f h) (past u l k r) = absurd (no_list k.parsed.tokens f k.parsed.lexes h)
  one_reason _ _ (no_unit tokens e k l) (no_tokens f h) = absurd (no_list tokens f k h)
  one_reason _ _ (no_unit ts e h k) (no_unit us f l r) =
      ap faults.Parse (one_stop ts (length bytes) e f k (same_tokens (λ t. parsing.Stops t (length bytes) f) us ts l h r))
  one_reason _ _ (no_unit ts e h k) (no_typing xs at l r) = absurd (no_parsed xs ts e l h k)
  one_reason _ _ (no_unit ts e h k) (past u l p r) = absurd (no_parsed p.externals ts e p.parsed h k)
  one_reason _ _ (no_typing xs at k l) (no_tokens f h) = absurd (no_list k.tokens f k.lexes h)
  one_reason _ _ (no_typing xs at l r) (no_unit ts e h k) = absurd (no_parsed xs ts e l h k)
  one_reason _ _ (no_typing xs a h k) (no_typing ys b l r) = ap (λ (x : ℕ). faults.Check (NoTyping x)) (one_place xs ys a b h l k r)
  one_reason _ _ (no_typing xs a h k) (past u l p r) = absurd (no_typed u xs a p h k)
  one_reason _ _ (past u l k r) (no_tokens f h) = absurd (no_list k.parsed.tokens f k.parsed.lexes h)
  one_reason _ _ (past u l p r) (no_unit ts e h k) = absurd (no_parsed p.externals ts e p.parsed h k)
  one_reason _ _ (past u l p r) (no_typing xs a h k) = absurd (no_typed u xs a p h k)
  one_reason _ _ (past u l h k) (past v r p q) = ap faults.Limit (same_limit u v l r h p k q)
