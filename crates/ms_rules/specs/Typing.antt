-- Typed instructions (WebAssembly 1.0, 3.3). Lists of operand types have the topmost one first.
use Rattle.std.specs.Prelude.{◌≡◌, ◌≤◌, ◌<◌, ◌^◌, ℕ, zero, suc, true, List, [], ◌∷◌, ◌++◌, length, reverse, slice_get, Option, Some, None}
use Rattle.ms_types.specs.declared.types.ValType.{ValType}
use Rattle.ms_types.specs.declared.types.ValType.TheVariants.{I32, I64}
use Rattle.ms_types.specs.declared.types.FuncType.{FuncType}
use Rattle.ms_types.specs.declared.types.GlobalType.{GlobalType}
use Rattle.ms_module.specs.declared.access.Linear.{Linear as LinearInstr}
use Rattle.ms_module.specs.declared.access.Linear.TheVariants.{Load, Store}
use Rattle.ms_module.specs.declared.instr.Instr.{Instr}
use Rattle.ms_module.specs.declared.instr.Instr.TheVariants.{Unreachable, Nop, Block, Loop, If, Br, BrIf, BrTable, Return, Call, CallIndirect, Drop, Select, LocalGet, LocalSet, LocalTee, GlobalGet, GlobalSet, I32Const, I64Const, Numeric, Linear, Segment}
use Rattle.ms_module.specs.Numbered.{sequence_at}
use Rattle.ms_module.specs.Accesses.{load_bytes, store_bytes}
use Rattle.ms_rules.specs.Instructions.{InstrType, linear_type, numeric_type, segment_type}
use Rattle.ms_rules.specs.Context.{Context}

-- A result type: one value or none (2.3.2).
abbrev pub types : Option ValType → List ValType
types None = []
types (Some t) = t ∷ []

-- Which operand types an instruction turns into which.
abbrev pub Rel : Type 1
Rel = List ValType → List ValType → Type 0

abbrev pub HasType : InstrType → Rel
HasType a t1 t2 = (r : List ValType) × (t1 ≡ reverse a.params ++ r) × (t2 ≡ types a.result ++ r)

-- ---- parametric instructions (3.3.2)

abbrev pub DropTyped : Rel
DropTyped t1 t2 = (t : ValType) × (t1 ≡ t ∷ t2)

abbrev pub SelectTyped : Rel
SelectTyped t1 t2 = (t : ValType) × (r : List ValType) × (t1 ≡ I32 ∷ t ∷ t ∷ r) × (t2 ≡ t ∷ r)

-- ---- variable instructions (3.3.3), by what the index names

abbrev pub LocalGetTyped : Option ValType → Rel
LocalGetTyped o t1 t2 = (t : ValType) × (o ≡ Some t) × (t2 ≡ t ∷ t1)

abbrev pub LocalSetTyped : Option ValType → Rel
LocalSetTyped o t1 t2 = (t : ValType) × (o ≡ Some t) × (t1 ≡ t ∷ t2)

abbrev pub LocalTeeTyped : Option ValType → Rel
LocalTeeTyped o t1 t2 = (t : ValType) × (r : List ValType) × (o ≡ Some t) × (t1 ≡ t ∷ r) × (t2 ≡ t ∷ r)

abbrev pub GlobalGetTyped : Option GlobalType → Rel
GlobalGetTyped o t1 t2 = (g : GlobalType) × (o ≡ Some g) × (t2 ≡ g.ty ∷ t1)

abbrev pub GlobalSetTyped : Option GlobalType → Rel
GlobalSetTyped o t1 t2 = (g : GlobalType) × (o ≡ Some g) × (g.mutable ≡ true) × (t1 ≡ g.ty ∷ t2)

-- ---- the linear memory (3.3.4): there is one, and the alignment is at most the natural one

abbrev pub IsAligned : LinearInstr → Type 0
IsAligned (Load op arg) = 2 ^ arg.align ≤ load_bytes op
IsAligned (Store op arg) = 2 ^ arg.align ≤ store_bytes op
IsAligned _ = Unit {0}

abbrev pub LinearTyped : ℕ → LinearInstr → Rel
LinearTyped memories i t1 t2 = (0 < memories) × IsAligned i × HasType (linear_type i) t1 t2

-- ---- branches and calls (3.3.5). What follows a branch that is always taken has any types.

abbrev pub BrTyped : Option (Option ValType) → Rel
BrTyped o t1 t2 = (k : Option ValType) × (r : List ValType) × (o ≡ Some k) × (t1 ≡ types k ++ r)

abbrev pub BrIfTyped : Option (Option ValType) → Rel
BrIfTyped o t1 t2 = (k : Option ValType) × (r : List ValType) × (o ≡ Some k) × (t1 ≡ I32 ∷ (types k ++ r)) × (t2 ≡ types k ++ r)

-- each of these labels takes what k says
abbrev pub AllTake : List (Option ValType) → Option ValType → List ℕ → Type 0
AllTake labels k [] = Unit {0}
AllTake labels k (l ∷ ls) = (slice_get labels l ≡ Some k) × AllTake labels k ls

abbrev pub BrTableTyped : List (Option ValType) → List ℕ → ℕ → Rel
BrTableTyped labels ls default t1 t2 =
    (k : Option ValType) × (r : List ValType) × (slice_get labels default ≡ Some k) × AllTake labels k ls × (t1 ≡ I32 ∷ (types k ++ r))

abbrev pub Invokes : FuncType → Rel
Invokes f t1 t2 = (k : Option ValType) × (r : List ValType) × (f.results ≡ types k) × (t1 ≡ reverse f.params ++ r) × (t2 ≡ types k ++ r)

abbrev pub CallTyped : Option (Option FuncType) → Rel
CallTyped o t1 t2 = (f : FuncType) × (o ≡ Some (Some f)) × Invokes f t1 t2

abbrev pub CallIndirectTyped : ℕ → Option FuncType → Rel
CallIndirectTyped tables o t1 t2 = (f : FuncType) × (r : List ValType) × (0 < tables) × (o ≡ Some f) × (t1 ≡ I32 ∷ r) × Invokes f r t2

-- ---- instructions

-- How it is known that the sequence of a block is typed: among these labels, the innermost first, the sequence of this
-- number begins with no operand and leaves such a result.
abbrev pub Known : Type 1
Known = List (Option ValType) → ℕ → Option ValType → Type 0

-- An `if` without a second sequence leaves nothing.
abbrev pub OtherTyped : Known → List (Option ValType) → Option ValType → Option ℕ → Type 0
OtherTyped known labels k None = k ≡ None
OtherTyped known labels k (Some s) = known (k ∷ labels) s k

abbrev pub InstrTyped : Known → Context → List (Option ValType) → Instr → Rel
InstrTyped known c labels Unreachable t1 t2 = Unit {0}
InstrTyped known c labels Nop t1 t2 = t2 ≡ t1
InstrTyped known c labels (Block k s) t1 t2 = known (k ∷ labels) s k × (t2 ≡ types k ++ t1)
InstrTyped known c labels (Loop k s) t1 t2 = known (None ∷ labels) s k × (t2 ≡ types k ++ t1)
InstrTyped known c labels (If k s other) t1 t2 =
    (r : List ValType) × (t1 ≡ I32 ∷ r) × known (k ∷ labels) s k × OtherTyped known labels k other × (t2 ≡ types k ++ r)
InstrTyped known c labels (Br l) t1 t2 = BrTyped (slice_get labels l) t1 t2
InstrTyped known c labels (BrIf l) t1 t2 = BrIfTyped (slice_get labels l) t1 t2
InstrTyped known c labels (BrTable table) t1 t2 = BrTableTyped labels table.labels table.default t1 t2
InstrTyped known c labels Return t1 t2 = BrTyped c.returns t1 t2
InstrTyped known c labels (Call f) t1 t2 = CallTyped (slice_get c.funcs f) t1 t2
InstrTyped known c labels (CallIndirect sig) t1 t2 = CallIndirectTyped (length c.tables) (slice_get c.sigs sig) t1 t2
InstrTyped known c labels Drop t1 t2 = DropTyped t1 t2
InstrTyped known c labels Select t1 t2 = SelectTyped t1 t2
InstrTyped known c labels (LocalGet x) t1 t2 = LocalGetTyped (slice_get c.locals x) t1 t2
InstrTyped known c labels (LocalSet x) t1 t2 = LocalSetTyped (slice_get c.locals x) t1 t2
InstrTyped known c labels (LocalTee x) t1 t2 = LocalTeeTyped (slice_get c.locals x) t1 t2
InstrTyped known c labels (GlobalGet x) t1 t2 = GlobalGetTyped (slice_get c.globals x) t1 t2
InstrTyped known c labels (GlobalSet x) t1 t2 = GlobalSetTyped (slice_get c.globals x) t1 t2
InstrTyped known c labels (I32Const n) t1 t2 = t2 ≡ I32 ∷ t1
InstrTyped known c labels (I64Const n) t1 t2 = t2 ≡ I64 ∷ t1
InstrTyped known c labels (Numeric i) t1 t2 = HasType (numeric_type i) t1 t2
InstrTyped known c labels (Linear i) t1 t2 = LinearTyped (length c.memories) i t1 t2
InstrTyped known c labels (Segment i) t1 t2 = HasType (segment_type i) t1 t2

-- one instruction after the other (3.3.6)
abbrev pub SequenceTyped : Known → Context → List (Option ValType) → List Instr → Rel
SequenceTyped known c labels [] t1 t2 = t1 ≡ t2
SequenceTyped known c labels (i ∷ is) t1 t2 = (t : List ValType) × InstrTyped known c labels i t1 t × SequenceTyped known c labels is t t2

-- The sequence of this number in a body is typed, by a derivation of at most this height.
abbrev pub Derived : ℕ → Context → List (List Instr) → Known
Derived zero c body labels s k = ⊥
Derived (suc n) c body labels s k = SequenceTyped (Derived n c body) c labels (sequence_at body s) [] (types k)

abbrev pub Typed : Context → List (List Instr) → Known
Typed c body labels s k = (n : ℕ) × Derived n c body labels s k
