-- What the imports of a module are given stands in the store, and is what they ask for.
use Rattle.std.proofs.Common.{◌≡◌, ℕ, suc, Bool, true, false, List, [], ◌∷◌, length, slice_get, Option, Some, None, Result, Ok, Err, refl, sym, ap, ◌∙◌, subst}
use Rattle.std.proofs.lemmas.Bool.{and_parts}
use Rattle.ms_linear.specs.declared.global.GlobalInst.{GlobalInst}
use Rattle.ms_linear.specs.Memory.{Memory as Linear}
use Rattle.ms_linear.specs.Table.{Table as TableInst, same_type}
use Rattle.ms_linear.specs.Values.{global_type_of}
use Rattle.ms_linear.proofs.Targets.{same_sig-is, same_type-is}
use Rattle.ms_module.specs.declared.module.Import.{Import}
use Rattle.ms_module.specs.declared.module.ImportDesc.{ImportDesc}
use Rattle.ms_module.specs.declared.module.ImportDesc.TheVariants as imports
use Rattle.ms_task.specs.declared.func.FuncInst.{FuncInst}
use Rattle.ms_types.specs.declared.types.FuncType.{FuncType}
use Rattle.ms_types.specs.declared.types.GlobalType.{GlobalType}
use Rattle.ms_types.specs.declared.types.Limits.{Limits}
use Rattle.ms_types.specs.declared.types.ValType.{ValType}
use Rattle.ms_types.specs.declared.types.ValType.TheVariants as types
use Rattle.ms_machine.specs.declared.externs.Extern.{Extern}
use Rattle.ms_machine.specs.declared.externs.Extern.TheVariants.{Host, Func, Table, Memory, Global}
use Rattle.ms_machine.specs.declared.externs.Why.{Why}
use Rattle.ms_machine.specs.Externs.{Fault, Made, and_rest, externs, func_is, global_is, if_same, matched, matched_in, memory_is, of_host, resolved, same_bool, same_global, table_is, type_is, found}
use Rattle.ms_machine.specs.Typing.{host_type}

abbrev pub IsGiven : Made → List FuncType → ImportDesc → Extern → Type 0
IsGiven made sigs (imports.Func x) (Host h) = slice_get sigs x ≡ Some (host_type h)
IsGiven made sigs (imports.Func x) (Func a) = (f : FuncInst) × (slice_get made.funcs a ≡ Some f) × (slice_get sigs x ≡ Some f.ty)
IsGiven made sigs (imports.Table l) (Table a) = (t : TableInst) × (slice_get made.tables a ≡ Some t)
IsGiven made sigs (imports.Memory l) (Memory a) = (m : Linear) × (slice_get made.memories a ≡ Some m)
IsGiven made sigs (imports.Global t) (Global a) = (g : GlobalInst) × (slice_get made.globals a ≡ Some g) × (global_type_of g ≡ t)
IsGiven made sigs _ _ = ⊥

abbrev pub AreGiven : Made → List FuncType → List Import → List Extern → Type 0
AreGiven made sigs [] [] = Unit {0}
AreGiven made sigs (i ∷ is) (e ∷ es) = IsGiven made sigs i.desc e × AreGiven made sigs is es
AreGiven made sigs _ _ = ⊥

-- ---- one import

same_given : (b : Bool) (e e' : Extern) → if_same b e ≡ Ok e' → (b ≡ true) × (e ≡ e')
same_given true e e' is = (refl, cc)
same_given false e e' is = cc

same_bool-is : (b c : Bool) → same_bool b c ≡ true → b ≡ c
same_bool-is true c e = sym e
same_bool-is false true e = cc
same_bool-is false false e = refl

pub same_global-is : (a b : GlobalType) → same_global a b ≡ true → a ≡ b
same_global-is a b e =
    let parts = and_parts (same_type a.ty b.ty) (same_bool a.mutable b.mutable) e in
    let ty = same_type-is a.ty b.ty parts.0 in
    let mutable = same_bool-is a.mutable b.mutable parts.1 in
    ap (λ (t : ValType). record { ty = t; mutable = a.mutable }) ty ∙ ap (λ (m : Bool). record { ty = b.ty; mutable = m }) mutable

type_given : (t : FuncType) (wanted : Option FuncType) → type_is t wanted ≡ true → wanted ≡ Some t
type_given t None e = cc
type_given t (Some u) e = ap Some (sym (same_sig-is t u e))

func_given : (o : Option FuncInst) (wanted : Option FuncType) → func_is o wanted ≡ true → (f : FuncInst) × (o ≡ Some f) × (wanted ≡ Some f.ty)
func_given None wanted e = cc
func_given (Some f) wanted e = (f, refl, type_given f.ty wanted e)

table_given : (o : Option TableInst) (l : Limits) → table_is o l ≡ true → (t : TableInst) × (o ≡ Some t)
table_given None l e = cc
table_given (Some t) l e = (t, refl)

memory_given : (o : Option Linear) (l : Limits) → memory_is o l ≡ true → (m : Linear) × (o ≡ Some m)
memory_given None l e = cc
memory_given (Some m) l e = (m, refl)

global_given : (o : Option GlobalInst) (t : GlobalType) → global_is o t ≡ true → (g : GlobalInst) × (o ≡ Some g) × (global_type_of g ≡ t)
global_given None t e = cc
global_given (Some g) t e = (g, refl, same_global-is (global_type_of g) t e)

matched_given : (made : Made) (sigs : List FuncType) (desc : ImportDesc) (e e' : Extern) → matched made sigs desc e ≡ Ok e' → IsGiven made sigs desc e'
matched_given made sigs (imports.Func x) (Host h) e' is =
    let s = same_given (type_is (host_type h) (slice_get sigs x)) (Host h) e' is in
    subst (IsGiven made sigs (imports.Func x)) s.1 (type_given (host_type h) (slice_get sigs x) s.0)
matched_given made sigs (imports.Func x) (Func a) e' is =
    let s = same_given (func_is (slice_get made.funcs a) (slice_get sigs x)) (Func a) e' is in
    subst (IsGiven made sigs (imports.Func x)) s.1 (func_given (slice_get made.funcs a) (slice_get sigs x) s.0)
matched_given made sigs (imports.Table l) (Table a) e' is =
    let s = same_given (table_is (slice_get made.tables a) l) (Table a) e' is in
    subst (IsGiven made sigs (imports.Table l)) s.1 (table_given (slice_get made.tables a) l s.0)
matched_given made sigs (imports.Memory l) (Memory a) e' is =
    let s = same_given (memory_is (slice_get made.memories a) l) (Memory a) e' is in
    subst (IsGiven made sigs (imports.Memory l)) s.1 (memory_given (slice_get made.memories a) l s.0)
matched_given made sigs (imports.Global t) (Global a) e' is =
    let s = same_given (global_is (slice_get made.globals a) t) (Global a) e' is in
    subst (IsGiven made sigs (imports.Global t)) s.1 (global_given (slice_get made.globals a) t s.0)
matched_given made sigs _ _ e' is = cc

in_given : (made : Made) (sigs : List FuncType) (desc : ImportDesc) (r : Result Extern Why) (e : Extern) → matched_in made sigs desc r ≡ Ok e → IsGiven made sigs desc e
in_given made sigs desc (Ok x) e is = matched_given made sigs desc (of_host made.funcs x) e is
in_given made sigs desc (Err why) e is = cc

-- ---- all imports

rest_given : (made : Made) (sigs : List FuncType) (i : Import) (is : List Import) (number item : ℕ) (r : Result Extern Why) (rest : Result (List Extern) Fault) (es : List Extern)
    → ((e : Extern) → r ≡ Ok e → IsGiven made sigs i.desc e) → ((ds : List Extern) → rest ≡ Ok ds → AreGiven made sigs is ds)
    → and_rest number item r rest ≡ Ok es → AreGiven made sigs (i ∷ is) es
rest_given made sigs i is number item (Ok e) (Ok ds) es first later got =
    let same : e ∷ ds ≡ es = cc in
    subst (AreGiven made sigs (i ∷ is)) same (first e refl, later ds refl)
rest_given made sigs i is number item (Ok e) (Err fault) es first later got = cc
rest_given made sigs i is number item (Err why) rest es first later got = cc

pub externs_given : (made : Made) (sigs : List FuncType) (item : ℕ) (is : List Import) (es : List Extern) → externs made sigs item is ≡ Ok es → AreGiven made sigs is es
externs_given made sigs item [] es got = let same : [] ≡ es = cc in subst (AreGiven made sigs []) same tt
externs_given made sigs item (i ∷ is) es got =
    rest_given made sigs i is (length made.instances) item (resolved made sigs i) (externs made sigs (suc item) is) es
    (λ e r. in_given made sigs i.desc (found made i) e r)
    (λ ds r. externs_given made sigs (suc item) is ds r) got
