-- What a refusal says, and what follows where none is found.
use Rattle.std.proofs.Common.{◌≡◌, ℕ, ◌+◌, ◌-◌, ◌≤◌, ◌<◌, ◌^◌, List, length, get_or, refl, sym, ap, subst, ◌∙◌, inl, inr, slice_get, arith}
use Rattle.std.specs.Prelude.{All, Option, Some, None, map}
use Rattle.std.proofs.lemmas.List.{length-append, length-map}
use Rattle.std.proofs.lemmas.List.Elements.{All-get_or}
use Rattle.std.proofs.lemmas.Option.{get_or_from_slice_get, slice_get-get_or, slice_get_within}
use Rattle.std.proofs.lemmas.Bool.{cases_lt}
use Rattle.ms_module.specs.declared.module.Func.{Func}
use Rattle.ms_module.specs.declared.module.Module.{Module}
use Rattle.ms_rules.specs.Context.{Context, context_of, imported_funcs, sigs_of_funcs}
use Rattle.ms_rules.specs.Modules.{FuncTyped, Head, IsFirstUntyped, WellTyped}
use Rattle.ms_valid.specs.Refusals.{DoesRefuse}
use Rattle.ms_valid.specs.refinement.Untyped.{AreTypedBelow, IsFirstAt, IsFirstUntypedOf}
use Rattle.ms_valid.specs.declared.refusal.Part.TheVariants as parts
use Rattle.ms_valid.specs.declared.refusal.Refusal.{Refusal}
use Rattle.ms_valid.specs.declared.refusal.Refusal.TheVariants.{Invalid, Memory}

pub all_typed : (c : Context) (fs : List Func) (n : ℕ) → length fs ≤ n → AreTypedBelow c fs n → All (FuncTyped c) fs
all_typed c fs n le h = λ k d lt. h k (get_or fs k d) (omega arith) (slice_get-get_or fs k d lt)

pub first_within : (c : Context) (fs : List Func) (o : Option ℕ) (n : ℕ) → o ≡ Some n → IsFirstUntypedOf c fs o → n < length fs
first_within c fs o n e h =
    let x : IsFirstAt c fs n = subst (IsFirstUntypedOf c fs) e h in
    slice_get_within fs n x.func x.func_is

pub none_found : (m : Module) (c : Context) (fs : List Func) (o : Option ℕ) → c ≡ context_of m → fs ≡ m.funcs → Head m → IsFirstUntypedOf c fs o → o ≡ None → WellTyped m
none_found m c fs o e same head h none = record {
  head = head;
  funcs = subst (λ (d : Context). All (FuncTyped d) m.funcs) e (subst (λ (gs : List Func). All (FuncTyped c) gs) same (subst (IsFirstUntypedOf c fs) none h));
}

-- the number of imported functions
length-all_funcs : (m : Module) → length (context_of m).funcs ≡ length (imported_funcs m.imports) + length m.funcs
length-all_funcs m =
    length-map (sigs_of_funcs m) (λ i. slice_get m.sigs i)
    ∙ (length-append (imported_funcs m.imports) (map (λ (f : Func). f.sig) m.funcs) ∙ ap (λ n. length (imported_funcs m.imports) + n) (length-map m.funcs (λ f. f.sig)))

pub index_is : (m : Module) (c : Context) (count own index n : ℕ) → c ≡ context_of m → count ≡ length c.funcs → own ≡ length m.funcs → index ≡ count - own + n → index ≡ length (imported_funcs m.imports) + n
index_is m c count own index n e all mine is =
    let total : count ≡ length (imported_funcs m.imports) + length m.funcs = all ∙ (ap (λ (d : Context). length d.funcs) e ∙ length-all_funcs m) in
    omega arith

pub blamed : (m : Module) (c : Context) (fs : List Func) (o : Option ℕ) (n index : ℕ) (r : Refusal) → c ≡ context_of m → fs ≡ m.funcs → Head m → IsFirstUntypedOf c fs o → o ≡ Some n
    → index ≡ length (imported_funcs m.imports) + n → (index < 2 ^ 32 → r ≡ Invalid (parts.Function index)) → (2 ^ 32 ≤ index → r ≡ Memory) → DoesRefuse m r
blamed m c fs o n index r e same head h some is fits past =
    let x : IsFirstAt c fs n = subst (IsFirstUntypedOf c fs) some h in
    let y : IsFirstAt (context_of m) m.funcs n = subst (λ (d : Context). IsFirstAt d m.funcs n) e (subst (λ (gs : List Func). IsFirstAt c gs n) same x) in
    let first : IsFirstUntyped m index = record { number = n; index_is = is; func = y.func; func_is = y.func_is; untyped = y.untyped; least = y.least } in
    elim (cases_lt index (2 ^ 32)) [
      | inl lt ↦ subst (DoesRefuse m) (sym (fits lt)) (head, first)
      | inr le ↦ subst (DoesRefuse m) (sym (past le)) tt
    ]

pub complete : (m : Module) (e : Refusal) → DoesRefuse m e → WellTyped m → e ≡ Memory
complete m (Invalid parts.Head) h w = absurd (h w.head)
complete m (Invalid (parts.Function n)) h w =
    let x = h.1 in
    let at = All-get_or (FuncTyped (context_of m)) m.funcs x.number x.func (slice_get_within m.funcs x.number x.func x.func_is) w.funcs in
    absurd (x.untyped (subst (FuncTyped (context_of m)) (get_or_from_slice_get m.funcs x.number x.func x.func x.func_is) at))
complete m Memory h w = refl
