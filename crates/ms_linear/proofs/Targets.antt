-- The function of a call through a table is the one that the relation allows.
use Rattle.std.proofs.Common.{◌≡◌, ◌≢◌, ℕ, Bool, true, false, ◌&&◌, cond, List, [], ◌∷◌, Option, Result, Ok, Err, refl, ap, sym, ◌∙◌}
use Rattle.std.proofs.lemmas.Bool.{and_parts}
use Rattle.std.proofs.lemmas.Option.{slice_get_past}
use Rattle.ms_types.specs.declared.types.ValType.{ValType}
use Rattle.ms_types.specs.declared.types.ValType.TheVariants.{I32, I64, Handle}
use Rattle.ms_types.specs.declared.types.FuncType.{FuncType}
use Rattle.ms_linear.specs.declared.table.Entry.{Entry}
use Rattle.ms_linear.specs.declared.table.FuncRef.{FuncRef}
use Rattle.ms_linear.specs.declared.table.CallTrap.{CallTrap}
use Rattle.ms_linear.specs.declared.table.CallTrap.TheVariants.{Signature}
use Rattle.ms_linear.specs.Table.{IsTarget, outside, empty, other, found, same_sig, same_type, same_types, target_in, target_of}

pub same_type-is : (t u : ValType) → same_type t u ≡ true → t ≡ u
same_type-is I32 I32 e = refl
same_type-is I64 I64 e = refl
same_type-is Handle Handle e = refl
same_type-is I32 I64 e = cc
same_type-is I32 Handle e = cc
same_type-is I64 I32 e = cc
same_type-is I64 Handle e = cc
same_type-is Handle I32 e = cc
same_type-is Handle I64 e = cc

same_type-refl : (t : ValType) → same_type t t ≡ true
same_type-refl I32 = refl
same_type-refl I64 = refl
same_type-refl Handle = refl

same_types-is : (ts us : List ValType) → same_types ts us ≡ true → ts ≡ us
same_types-is [] [] e = refl
same_types-is [] (u ∷ us) e = cc
same_types-is (t ∷ ts) [] e = cc
same_types-is (t ∷ ts) (u ∷ us) e =
    let parts = and_parts (same_type t u) (same_types ts us) e in
    let head = same_type-is t u parts.0 in
    let tail = same_types-is ts us parts.1 in
    cc

same_types-refl : (ts : List ValType) → same_types ts ts ≡ true
same_types-refl [] = refl
same_types-refl (t ∷ ts) = ap (λ b. b && same_types ts ts) (same_type-refl t) ∙ same_types-refl ts

pub same_sig-is : (a b : FuncType) → same_sig a b ≡ true → a ≡ b
same_sig-is a b e =
    let parts = and_parts (same_types a.params b.params) (same_types a.results b.results) e in
    let params = same_types-is a.params b.params parts.0 in
    let results = same_types-is a.results b.results parts.1 in
    ap (λ (p : List ValType). record { params = p; results = a.results }) params ∙ ap (λ (r : List ValType). record { params = b.params; results = r }) results

pub same_sig-refl : (a : FuncType) → same_sig a a ≡ true
same_sig-refl a = ap (λ b. b && same_types a.results a.results) (same_types-refl a.params) ∙ same_types-refl a.results

differs : (a b : FuncType) → a ≢ b → same_sig a b ≡ false
differs a b n = by (same_sig a b) refl where
  by : (x : Bool) → same_sig a b ≡ x → same_sig a b ≡ false
  by true e = absurd (n (same_sig-is a b e))
  by false e = e

pub target_alone : (entries : List (Option Entry)) (i : ℕ) (sig : FuncType) (r : Result FuncRef CallTrap) → IsTarget entries i sig r → r ≡ target_of entries i sig
target_alone entries i sig _ (outside le) = ap (target_in sig) (sym (slice_get_past entries i le))
target_alone entries i sig _ (empty at) = ap (target_in sig) (sym at)
target_alone entries i sig _ (other e at n) = sym (ap (target_in sig) at ∙ ap (λ b. cond b (Ok e.func) (Err Signature)) (differs e.sig sig n))
target_alone entries i sig _ (found e at is) =
    sym (ap (target_in sig) at ∙ ap (λ b. cond b (Ok e.func) (Err Signature)) (ap (λ t. same_sig e.sig t) (sym is) ∙ same_sig-refl e.sig))
