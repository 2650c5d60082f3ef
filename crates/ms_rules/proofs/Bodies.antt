-- Typed sequences: what is known of blocks, and heights of derivations.
use Rattle.std.proofs.Common.{ℕ, zero, suc, ◌+◌, ◌≤◌, List, [], ◌∷◌, ◌↔◌, arith}
use Rattle.std.specs.Prelude.{Option, Some, None}
use Rattle.ms_types.specs.declared.types.ValType.{ValType}
use Rattle.ms_module.specs.declared.instr.Instr.{Instr}
use Rattle.ms_module.specs.declared.instr.Instr.TheVariants.{Block, Loop, If}
use Rattle.ms_module.specs.Numbered.{sequence_at}
use Rattle.ms_rules.specs.Context.{Context}
use Rattle.ms_rules.specs.Typing.{Derived, InstrTyped, Known, OtherTyped, SequenceTyped, Typed, types}

-- All that the one knows the other knows.
abbrev pub Grows : Known → Known → Type 0
Grows K L = (labels : List (Option ValType)) (s : ℕ) (k : Option ValType) → K labels s k → L labels s k

other_map : (K L : Known) → Grows K L → (labels : List (Option ValType)) (k : Option ValType) (other : Option ℕ) → OtherTyped K labels k other → OtherTyped L labels k other
other_map K L m labels k None d = d
other_map K L m labels k (Some s) d = m (k ∷ labels) s k d

pub instr_map : (K L : Known) → Grows K L → (c : Context) (labels : List (Option ValType)) (i : Instr) (t1 t2 : List ValType) → InstrTyped K c labels i t1 t2 → InstrTyped L c labels i t1 t2
instr_map K L m c labels (Block k s) t1 t2 d = (m (k ∷ labels) s k d.0, d.1)
instr_map K L m c labels (Loop k s) t1 t2 d = (m (None ∷ labels) s k d.0, d.1)
instr_map K L m c labels (If k s other) t1 t2 d = (d.0, d.1, m (k ∷ labels) s k d.2, other_map K L m labels k other d.3, d.4)
instr_map K L m c labels _ t1 t2 d = d

pub sequence_map : (K L : Known) → Grows K L → (c : Context) (labels : List (Option ValType)) (is : List Instr) (t1 t2 : List ValType) → SequenceTyped K c labels is t1 t2 → SequenceTyped L c labels is t1 t2
sequence_map K L m c labels [] t1 t2 d = d
sequence_map K L m c labels (i ∷ is) t1 t2 d = (d.0, instr_map K L m c labels i t1 d.0 d.1, sequence_map K L m c labels is d.0 t2 d.2)

-- a higher derivation
pub higher : (n m : ℕ) → n ≤ m → (c : Context) (body : List (List Instr)) → Grows (Derived n c body) (Derived m c body)
higher zero m le c body labels s k d = absurd d
higher (suc n) zero le c body labels s k d = absurd (omega (arith, le))
higher (suc n) (suc m) le c body labels s k d =
    sequence_map (Derived n c body) (Derived m c body) (higher n m (omega (arith, le)) c body) c labels (sequence_at body s) [] (types k) d

other_height : (c : Context) (body : List (List Instr)) (labels : List (Option ValType)) (k : Option ValType) (other : Option ℕ) → OtherTyped (Typed c body) labels k other → (n : ℕ) × OtherTyped (Derived n c body) labels k other
other_height c body labels k None d = (0, d)
other_height c body labels k (Some s) d = d

instr_height : (c : Context) (body : List (List Instr)) (labels : List (Option ValType)) (i : Instr) (t1 t2 : List ValType) → InstrTyped (Typed c body) c labels i t1 t2 → (n : ℕ) × InstrTyped (Derived n c body) c labels i t1 t2
instr_height c body labels (Block k s) t1 t2 d = (d.0.0, (d.0.1, d.1))
instr_height c body labels (Loop k s) t1 t2 d = (d.0.0, (d.0.1, d.1))
instr_height c body labels (If k s other) t1 t2 d =
    let n = d.2.0 in
    let g = other_height c body labels k other d.3 in
    (n + g.0, (d.0, d.1, higher n (n + g.0) (omega arith) c body (k ∷ labels) s k d.2.1, other_map (Derived g.0 c body) (Derived (n + g.0) c body) (higher g.0 (n + g.0) (omega arith) c body) labels k other g.1, d.4))
instr_height c body labels _ t1 t2 d = (0, d)

sequence_height : (c : Context) (body : List (List Instr)) (labels : List (Option ValType)) (is : List Instr) (t1 t2 : List ValType) → SequenceTyped (Typed c body) c labels is t1 t2 → (n : ℕ) × SequenceTyped (Derived n c body) c labels is t1 t2
sequence_height c body labels [] t1 t2 d = (0, d)
sequence_height c body labels (i ∷ is) t1 t2 d =
    let x = instr_height c body labels i t1 d.0 d.1 in
    let y = sequence_height c body labels is d.0 t2 d.2 in
    let n = x.0 + y.0 in
    (n, (d.0, instr_map (Derived x.0 c body) (Derived n c body) (higher x.0 n (omega arith) c body) c labels i t1 d.0 x.1, sequence_map (Derived y.0 c body) (Derived n c body) (higher y.0 n (omega arith) c body) c labels is d.0 t2 y.1))

-- A sequence is typed exactly where its instructions are.
pub typed_is : (c : Context) (body : List (List Instr)) (labels : List (Option ValType)) (s : ℕ) (k : Option ValType) → Typed c body labels s k ↔ SequenceTyped (Typed c body) c labels (sequence_at body s) [] (types k)
typed_is c body labels s k = (there, back) where
  there : Typed c body labels s k → SequenceTyped (Typed c body) c labels (sequence_at body s) [] (types k)
  there (zero, d) = absurd d
  there (suc n, d) = sequence_map (Derived n c body) (Typed c body) (λ labels s k e. (n, e)) c labels (sequence_at body s) [] (types k) d

  back : SequenceTyped (Typed c body) c labels (sequence_at body s) [] (types k) → Typed c body labels s k
  back d = let x = sequence_height c body labels (sequence_at body s) [] (types k) d in (suc x.0, x.1)
