-- An expression of one instruction.
use Rattle.std.proofs.Common.{◌≡◌, ◌<◌, ◌≤◌, Bool, List, [], ◌∷◌, length, get_or, sym, ap, subst, ◌∙◌, arith}
use Rattle.std.specs.Prelude.{◌↔◌, IsTrue}
use Rattle.ms_types.specs.declared.types.GlobalType.{GlobalType}
use Rattle.ms_types.specs.declared.types.ValType.{ValType}
use Rattle.ms_module.specs.declared.instr.Instr.{Instr}
use Rattle.ms_module.specs.Numbered.{sequence_at}
use Rattle.ms_rules.specs.Modules.{ConstantTyped, IsConstant}

one_item : (seq : List Instr) (i : Instr) → 1 ≤ length seq → length seq < 2 → i ≡ get_or seq 0 i → seq ≡ i ∷ []
one_item [] i some few e = absurd (omega arith)
one_item (x ∷ []) i some few e = ap (λ (y : Instr). y ∷ []) (sym e)
one_item (x ∷ y ∷ xs) i some few e = absurd (omega arith)

one_sequence : (code : List (List Instr)) (seq : List Instr) → length code ≡ 1 → seq ≡ sequence_at code 0 → code ≡ seq ∷ []
one_sequence [] seq n e = absurd (omega arith)
one_sequence (s ∷ []) seq n e = ap (λ (x : List Instr). x ∷ []) (sym e)
one_sequence (s ∷ t ∷ ss) seq n e = absurd (omega arith)

pub constant_of_one : (globals : List GlobalType) (ty : ValType) (code : List (List Instr)) (seq : List Instr) (i : Instr) (r : Bool)
    → length code ≡ 1 → seq ≡ sequence_at code 0 → 1 ≤ length seq → length seq < 2 → i ≡ get_or seq 0 i
    → (IsTrue r ↔ ConstantTyped globals ty i) → IsTrue r ↔ IsConstant globals ty code
constant_of_one globals ty code seq i r n is some few item h =
    let one : code ≡ (i ∷ []) ∷ [] = one_sequence code seq n is ∙ ap (λ (s : List Instr). s ∷ []) (one_item seq i some few item) in (
      (λ t. (i, one, h.0 t)),
      (λ k.
          let both : (k.0 ∷ []) ∷ [] ≡ (i ∷ []) ∷ [] = sym k.1 ∙ one in
          let same : k.0 ≡ i = ap (λ (c : List (List Instr)). get_or (sequence_at c 0) 0 i) both in
          h.1 (subst (λ (x : Instr). ConstantTyped globals ty x) same k.2)),
    )
