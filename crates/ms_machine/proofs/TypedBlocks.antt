-- Blocks, loops, and choices by an operand are typed.
use Rattle.std.proofs.Common.{◌≡◌, ℕ, zero, suc, List, [], ◌∷◌, ◌++◌, length, slice_get, Option, Some, None, unwrap_or, refl, sym, subst}
use Rattle.ms_linear.specs.declared.value.Value.{Value}
use Rattle.ms_linear.specs.declared.value.Value.TheVariants as values
use Rattle.ms_module.specs.declared.instr.Instr.TheVariants.{Loop}
use Rattle.ms_rules.proofs.Bodies.{typed_is}
use Rattle.ms_rules.specs.Typing.{AllTake, OtherTyped, SequenceTyped, Typed, types}
use Rattle.ms_task.specs.Control.{Moved, block_on, else_on, loop_on, on_number}
use Rattle.ms_task.specs.Thread.{Frame, Item, Label, body_of, sequence, thread}
use Rattle.ms_types.specs.declared.types.ValType.{ValType}
use Rattle.ms_machine.specs.Typing.{FrameTyped, Outline, WorkTyped, context_at, labels_of, types_of}
use Rattle.ms_machine.proofs.TypedValues.{height}
use Rattle.ms_machine.proofs.TypedWork.{MovedTyped, sequence_typed}

-- how a block's sequence is known to be typed in the function of an address
abbrev pub TypedAt : Outline → ℕ → List (Option ValType) → ℕ → Option ValType → Type 0
TypedAt o f = Typed (context_at o f) (body_of o.funcs f)

pub opened : (o : Outline) (f : ℕ) (labels : List (Option ValType)) (s : ℕ) (k : Option ValType) → TypedAt o f labels s k → SequenceTyped (TypedAt o f) (context_at o f) labels (sequence o.funcs f s) [] (types k)
unfolding sequence
opened o f labels s k h = (typed_is (context_at o f) (body_of o.funcs f) labels s k).0 h

pub block_typed : (o : Outline) (fr : Frame) (vs : List Value) (w : List Item) (s : ℕ) (k : Option ValType) (ts below : List ValType) → FrameTyped o fr → types_of vs ≡ ts ++ below → TypedAt o fr.function (k ∷ labels_of w) s k → WorkTyped o fr.function w (types k ++ ts) below → MovedTyped o (block_on o.funcs s k None (thread fr vs w))
block_typed o fr vs w s k ts below frame operands at work =
    record {
      ts = [];
      below = ts ++ below;
      operands = operands;
      frame = frame;
      work = sequence_typed o fr.function (sequence o.funcs fr.function s) (Label k (length vs) None ∷ w) (k ∷ labels_of w) [] (types k) (ts ++ below) refl
          (opened o fr.function (k ∷ labels_of w) s k at)
          (ts, below, refl, height vs (ts ++ below) operands, work, work);
    }

pub loop_typed : (o : Outline) (fr : Frame) (vs : List Value) (w : List Item) (s : ℕ) (k : Option ValType) (ts below : List ValType) → FrameTyped o fr → types_of vs ≡ ts ++ below → TypedAt o fr.function (None ∷ labels_of w) s k → WorkTyped o fr.function w (types k ++ ts) below → MovedTyped o (loop_on o.funcs k s (thread fr vs w))
loop_typed o fr vs w s k ts below frame operands at work =
    record {
      ts = [];
      below = ts ++ below;
      operands = operands;
      frame = frame;
      work = sequence_typed o fr.function (sequence o.funcs fr.function s) (Label None (length vs) (Some (Loop k s)) ∷ w) (None ∷ labels_of w) [] (types k) (ts ++ below) refl
          (opened o fr.function (None ∷ labels_of w) s k at)
          (ts, below, refl, height vs (ts ++ below) operands, work, (types k ++ ts, (at, refl), work));
    }

pub else_typed : (o : Outline) (fr : Frame) (vs : List Value) (w : List Item) (other : Option ℕ) (k : Option ValType) (ts below : List ValType) → FrameTyped o fr → types_of vs ≡ ts ++ below → OtherTyped (TypedAt o fr.function) (labels_of w) k other → WorkTyped o fr.function w (types k ++ ts) below → MovedTyped o (else_on o.funcs other k (thread fr vs w))
else_typed o fr vs w None k ts below frame operands at work =
    record { ts = ts; below = below; operands = operands; frame = frame; work = subst (λ x. WorkTyped o fr.function w (types x ++ ts) below) at work }
else_typed o fr vs w (Some s) k ts below frame operands at work = block_typed o fr vs w s k ts below frame operands at work

pub number_typed : (o : Outline) (vs : List Value) (n : ℕ) (rest : List Value) (nonzero otherwise : List Value → Moved) → vs ≡ values.I32 n ∷ rest → MovedTyped o (nonzero rest) → MovedTyped o (otherwise rest) → MovedTyped o (on_number vs nonzero otherwise)
number_typed o vs n rest nonzero otherwise e a b = subst (λ v. MovedTyped o (on_number v nonzero otherwise)) (sym e) (pick n) where
  pick : (n : ℕ) → MovedTyped o (on_number (values.I32 n ∷ rest) nonzero otherwise)
  pick zero = b
  pick (suc n) = a

-- whatever a table names takes the same
pub table_takes : (labels : List (Option ValType)) (k : Option ValType) (table : List ℕ) (default i : ℕ) → AllTake labels k table → slice_get labels default ≡ Some k → slice_get labels (unwrap_or (slice_get table i) default) ≡ Some k
table_takes labels k [] default i all h = h
table_takes labels k (l ∷ table) default zero all h = all.0
table_takes labels k (l ∷ table) default (suc i) all h = table_takes labels k table default i all.1 h
