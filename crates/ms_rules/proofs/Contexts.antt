-- Typing looks only at how many tables and memories a context has.
use Rattle.std.proofs.Common.{◌≡◌, ℕ, zero, suc, List, [], ◌∷◌, length, slice_get, Option, refl, subst}
use Rattle.ms_types.specs.declared.types.ValType.{ValType}
use Rattle.ms_module.specs.declared.instr.Instr.{Instr}
use Rattle.ms_module.specs.declared.instr.Instr.TheVariants.{Return, Call, CallIndirect, LocalGet, LocalSet, LocalTee, GlobalGet, GlobalSet, Linear}
use Rattle.ms_module.specs.Numbered.{sequence_at}
use Rattle.ms_rules.specs.Context.{Context, inside}
use Rattle.ms_rules.specs.Typing.{LinearTyped, CallTyped, CallIndirectTyped, Derived, LocalGetTyped, GlobalGetTyped, InstrTyped, Known, BrTyped, SequenceTyped, LocalSetTyped, GlobalSetTyped, LocalTeeTyped, Typed, types}
use Rattle.ms_rules.proofs.Bodies.{Grows, sequence_map}

-- Contexts that differ in the sizes of tables and memories alone.
pub record Alike (c d : Context) : Type 0 where
  pub sigs : c.sigs ≡ d.sigs
  pub funcs : c.funcs ≡ d.funcs
  pub tables : length c.tables ≡ length d.tables
  pub memories : length c.memories ≡ length d.memories
  pub globals : c.globals ≡ d.globals
  pub locals : c.locals ≡ d.locals
  pub returns : c.returns ≡ d.returns

-- the same inside a function
pub inside_alike : (c d : Context) → Alike c d → (locals : List ValType) (k : Option ValType) → Alike (inside c locals k) (inside d locals k)
inside_alike c d a locals k = record { sigs = a.sigs; funcs = a.funcs; tables = a.tables; memories = a.memories; globals = a.globals; locals = refl; returns = refl }

instr_alike : (K : Known) (c d : Context) → Alike c d → (labels : List (Option ValType)) (i : Instr) (t1 t2 : List ValType) → InstrTyped K c labels i t1 t2 → InstrTyped K d labels i t1 t2
instr_alike K c d a labels Return t1 t2 h = subst (λ o. BrTyped o t1 t2) a.returns h
instr_alike K c d a labels (Call f) t1 t2 h = subst (λ fs. CallTyped (slice_get fs f) t1 t2) a.funcs h
instr_alike K c d a labels (CallIndirect sig) t1 t2 h =
    subst (λ n. CallIndirectTyped n (slice_get d.sigs sig) t1 t2) a.tables (subst (λ ss. CallIndirectTyped (length c.tables) (slice_get ss sig) t1 t2) a.sigs h)
instr_alike K c d a labels (LocalGet x) t1 t2 h = subst (λ ls. LocalGetTyped (slice_get ls x) t1 t2) a.locals h
instr_alike K c d a labels (LocalSet x) t1 t2 h = subst (λ ls. LocalSetTyped (slice_get ls x) t1 t2) a.locals h
instr_alike K c d a labels (LocalTee x) t1 t2 h = subst (λ ls. LocalTeeTyped (slice_get ls x) t1 t2) a.locals h
instr_alike K c d a labels (GlobalGet x) t1 t2 h = subst (λ gs. GlobalGetTyped (slice_get gs x) t1 t2) a.globals h
instr_alike K c d a labels (GlobalSet x) t1 t2 h = subst (λ gs. GlobalSetTyped (slice_get gs x) t1 t2) a.globals h
instr_alike K c d a labels (Linear i) t1 t2 h = subst (λ n. LinearTyped n i t1 t2) a.memories h
instr_alike K c d a labels _ t1 t2 h = h

sequence_alike : (K : Known) (c d : Context) → Alike c d → (labels : List (Option ValType)) (is : List Instr) (t1 t2 : List ValType) → SequenceTyped K c labels is t1 t2 → SequenceTyped K d labels is t1 t2
sequence_alike K c d a labels [] t1 t2 h = h
sequence_alike K c d a labels (i ∷ is) t1 t2 h = (h.0, instr_alike K c d a labels i t1 h.0 h.1, sequence_alike K c d a labels is h.0 t2 h.2)

derived_alike : (n : ℕ) (c d : Context) → Alike c d → (body : List (List Instr)) → Grows (Derived n c body) (Derived n d body)
derived_alike zero c d a body labels s k h = h
derived_alike (suc n) c d a body labels s k h =
    sequence_alike (Derived n d body) c d a labels (sequence_at body s) [] (types k)
    (sequence_map (Derived n c body) (Derived n d body) (derived_alike n c d a body) c labels (sequence_at body s) [] (types k) h)

-- What is typed in the one is typed in the other.
pub typed_alike : (c d : Context) → Alike c d → (body : List (List Instr)) (labels : List (Option ValType)) (s : ℕ) (k : Option ValType) → Typed c body labels s k → Typed d body labels s k
typed_alike c d a body labels s k h = (h.0, derived_alike h.0 c d a body labels s k h.1)
