-- What the grammar spells as a body is balanced.
use Rattle.std.proofs.Common.{◌≡◌, ◌==◌, ◌&&◌, ℕ, suc, Bool, true, false, not, List, [], ◌∷◌, ◌++◌, length, Option, refl, sym, subst, append_assoc, arith}
use Rattle.std.proofs.lemmas.Bool.Decides.{nat_tests}
use Rattle.std.proofs.lemmas.List.{append-nil}
use Rattle.ms_bytes.specs.Runs.{Runs, goes, rests}
use Rattle.ms_bytes.specs.RunLaws.{run_last}
use Rattle.ms_types.specs.declared.types.ValType.{ValType}
use Rattle.ms_text_lex.specs.declared.token.Token.{Token}
use Rattle.ms_module.specs.declared.builder.Opening.{Opening}
use Rattle.ms_module.specs.declared.builder.Opening.TheVariants.{Block, If, Loop}
use Rattle.ms_text_grammar.specs.declared.fault.TextFault.{TextFault}
use Rattle.ms_text_grammar.specs.declared.frame.Frame.{Frame}
use Rattle.ms_text_grammar.specs.declared.frame.Frame.TheVariants.{Arm, Condition, Flat, Folded, Operands, Other, Then}
use Rattle.ms_text_grammar.specs.declared.frame.Sign.{Sign}
use Rattle.ms_text_grammar.specs.declared.frame.Sign.TheVariants as sign
use Rattle.ms_text_grammar.specs.declared.surface.Body.{Body}
use Rattle.ms_text_grammar.specs.declared.surface.Op.{Op}
use Rattle.ms_text_grammar.specs.declared.surface.Op.TheVariants as op
use Rattle.ms_text_grammar.specs.refinement.Balance.{Balanced}
use Rattle.ms_text_grammar.specs.Bodies.{body, body_goes, folded_body, inside_goes, advance}
use Rattle.ms_text_grammar.specs.Faults.{Textual}
use Rattle.ms_text_grammar.specs.Tokens.{closes}
use Rattle.ms_text_grammar.specs.Advances.{State, closed, condition, condition_on, else_arm, ended, first_state, flat_block, flat_else, flat_plain, folded, folded_block, folded_on, folded_plain, framed, given, instructions, marked, may_else, sign_of, advance_on}

-- the blocks that frames stand for
abbrev open_in : List Frame → List Bool
open_in [] = []
open_in (Flat label may ∷ fs) = may ∷ open_in fs
open_in (Folded ∷ fs) = false ∷ open_in fs
open_in (Then ∷ fs) = true ∷ open_in fs
open_in (Other ∷ fs) = false ∷ open_in fs
open_in (Arm ∷ fs) = open_in fs
open_in (Operands p ∷ fs) = open_in fs
open_in (Condition label ty ∷ fs) = open_in fs

-- whatever ends the open blocks makes a balanced body of the instructions so far
abbrev Agrees : List Frame → List Op → Type 0
Agrees fs ops = (os : List Op) → Balanced (open_in fs) os → Balanced [] (ops ++ os)

adds : (fs gs : List Frame) (ops : List Op) (o : Op) → Agrees fs ops → ((os : List Op) → Balanced (open_in gs) os → Balanced (open_in fs) (o ∷ os)) → Agrees gs (ops ++ o ∷ [])
adds fs gs ops o a next = λ os h. subst (λ (l : List Op). Balanced [] l) (sym (append_assoc ops (o ∷ []) os)) (a (o ∷ os) (next os h))

-- the state agrees
abbrev InStep : State → Type 0
InStep st = Agrees st.frames st.ops

abbrev Keeps : Textual State → Type 0
Keeps f = (s : List Token) (next : State) (t : List Token) → f.spelled s next t → InStep next

it_is : (next st : State) → next ≡ st → InStep st → InStep next
it_is next st e h = subst (λ (x : State). InStep x) (sym e) h

module _ (source : List ℕ) (most : ℕ) where
  flat_block_keeps : (st : State) (o : Opening) → InStep st → Keeps (flat_block source most st o)
  unfolding flat_block
  flat_block_keeps st o a s next t h = it_is next _ h.3.0 (adds st.frames (Flat h.0.0 (may_else o) ∷ st.frames) st.ops (op.Begin o h.0.0 h.0.1) a (λ os k. k))

  flat_plain_keeps : (st : State) → InStep st → Keeps (flat_plain source most st)
  unfolding flat_plain
  flat_plain_keeps st a s next t h = it_is next _ h.3.0 (adds st.frames st.frames st.ops _ a (λ os k. k))

  folded_block_keeps : (st : State) (o : Opening) → InStep st → Keeps (folded_block source most st o)
  unfolding folded_block
  folded_block_keeps st If a s next t h = it_is next _ h.3.0 a
  folded_block_keeps st Block a s next t h = it_is next _ h.3.0 (adds st.frames (Folded ∷ st.frames) st.ops (op.Begin Block h.0.0 h.0.1) a (λ os k. k))
  folded_block_keeps st Loop a s next t h = it_is next _ h.3.0 (adds st.frames (Folded ∷ st.frames) st.ops (op.Begin Loop h.0.0 h.0.1) a (λ os k. k))

  folded_plain_keeps : (st : State) → InStep st → Keeps (folded_plain source most st)
  unfolding folded_plain
  folded_plain_keeps st a s next t h = it_is next _ h.3.0 a

  folded_on_keeps : (st : State) (x : Sign) → InStep st → Keeps (folded_on source most st x)
  unfolding folded_on
  folded_on_keeps st (sign.Heads o) a = folded_block_keeps st o a
  folded_on_keeps st sign.Left a = folded_plain_keeps st a
  folded_on_keeps st sign.Right a = folded_plain_keeps st a
  folded_on_keeps st sign.Ends a = folded_plain_keeps st a
  folded_on_keeps st sign.Elses a = folded_plain_keeps st a
  folded_on_keeps st sign.Thens a = folded_plain_keeps st a
  folded_on_keeps st sign.Other a = folded_plain_keeps st a

  folded_keeps : (st : State) → InStep st → Keeps (folded source most st)
  unfolding folded
  folded_keeps st a s next t h = folded_on_keeps st (sign_of source h.1) a h.1 next t h.3

  condition_on_keeps : (label : Option Token) (ty : Option ValType) (fs : List Frame) (st : State) (x : Sign) → InStep st → Agrees fs st.ops → Keeps (condition_on source most label ty fs st x)
  unfolding condition_on
  condition_on_keeps label ty fs st sign.Thens a b = λ s next t h. it_is next _ h.3.0 (adds fs (Arm ∷ Then ∷ fs) st.ops (op.Begin If label ty) b (λ os k. k))
  condition_on_keeps label ty fs st (sign.Heads o) a b = folded_on_keeps st (sign.Heads o) a
  condition_on_keeps label ty fs st sign.Left a b = folded_on_keeps st sign.Left a
  condition_on_keeps label ty fs st sign.Right a b = folded_on_keeps st sign.Right a
  condition_on_keeps label ty fs st sign.Ends a b = folded_on_keeps st sign.Ends a
  condition_on_keeps label ty fs st sign.Elses a b = folded_on_keeps st sign.Elses a
  condition_on_keeps label ty fs st sign.Other a b = folded_on_keeps st sign.Other a

  condition_keeps : (label : Option Token) (ty : Option ValType) (fs : List Frame) (st : State) → InStep st → Agrees fs st.ops → Keeps (condition source most label ty fs st)
  unfolding condition
  condition_keeps label ty fs st a b s next t h = condition_on_keeps label ty fs st (sign_of source h.1) a b h.1 next t h.3

  else_arm_keeps : (fs : List Frame) (st : State) → Agrees (Then ∷ fs) st.ops → Keeps (else_arm source most fs st)
  unfolding else_arm
  else_arm_keeps fs st b s next t h = it_is next _ h.3.3.0 (adds (Then ∷ fs) (Arm ∷ Other ∷ fs) st.ops op.Else b (λ os k. (refl, k)))

  closed_keeps : (st : State) → InStep st → Keeps (closed source most st)
  unfolding closed
  closed_keeps st a s next t h = it_is next st h.3.0 a

  marked_keeps : (text : List ℕ) (label : Option Token) (st : State) → InStep st → Keeps (marked source most text label st)
  unfolding marked
  marked_keeps text label st a s next t h = it_is next st h.3.3.0 a

  flat_else_keeps : (label : Option Token) (may : Bool) (fs : List Frame) (st : State) → Agrees (Flat label may ∷ fs) st.ops → Keeps (flat_else source most label may fs st)
  unfolding flat_else
  flat_else_keeps label true fs st b = marked_keeps _ label _ (adds (Flat label true ∷ fs) (Flat label false ∷ fs) st.ops op.Else b (λ os k. (refl, k)))
  flat_else_keeps label false fs st b = λ s next t h. absurd h

  instructions_keep : (st after : State) (x : Sign) → InStep st → InStep after → Keeps (instructions source most st after x)
  unfolding instructions
  instructions_keep st after sign.Left a b = folded_keeps st a
  instructions_keep st after (sign.Heads o) a b = flat_block_keeps st o a
  instructions_keep st after sign.Right a b = closed_keeps after b
  instructions_keep st after sign.Ends a b = flat_plain_keeps st a
  instructions_keep st after sign.Elses a b = flat_plain_keeps st a
  instructions_keep st after sign.Thens a b = flat_plain_keeps st a
  instructions_keep st after sign.Other a b = flat_plain_keeps st a

  ended_agrees : (f : Frame) (fs : List Frame) (ops : List Op) (may : Bool) → open_in (f ∷ fs) ≡ may ∷ open_in fs → Agrees (f ∷ fs) ops → Agrees fs (ops ++ op.End ∷ [])
  ended_agrees f fs ops may e b = adds (f ∷ fs) fs ops op.End b (λ os k. subst (λ (bs : List Bool). Balanced bs (op.End ∷ os)) (sym e) k)

  -- by the innermost frame of a state whose frames are these
  advance_on_keeps : (st : State) (fs : List Frame) (x : Sign) → InStep st → Agrees fs st.ops → Keeps (advance_on source most st fs x)
  unfolding advance_on
  advance_on_keeps st [] x a b = instructions_keep st st x a a
  advance_on_keeps st (Flat label may ∷ fs) sign.Ends a b = marked_keeps _ label (ended fs st) (ended_agrees (Flat label may) fs st.ops may refl b)
  advance_on_keeps st (Flat label may ∷ fs) sign.Elses a b = flat_else_keeps label may fs st b
  advance_on_keeps st (Flat label may ∷ fs) sign.Left a b = folded_keeps st a
  advance_on_keeps st (Flat label may ∷ fs) (sign.Heads o) a b = flat_block_keeps st o a
  advance_on_keeps st (Flat label may ∷ fs) sign.Right a b = flat_plain_keeps st a
  advance_on_keeps st (Flat label may ∷ fs) sign.Thens a b = flat_plain_keeps st a
  advance_on_keeps st (Flat label may ∷ fs) sign.Other a b = flat_plain_keeps st a
  advance_on_keeps st (Folded ∷ fs) x a b = instructions_keep st (ended fs st) x a (ended_agrees Folded fs st.ops false refl b)
  advance_on_keeps st (Arm ∷ fs) x a b = instructions_keep st (framed fs st) x a b
  advance_on_keeps st (Operands p ∷ fs) sign.Left a b = folded_keeps st a
  advance_on_keeps st (Operands p ∷ fs) _ a b = closed_keeps (given fs p st) (adds (Operands p ∷ fs) fs st.ops (op.Plain p) b (λ os k. k))
  advance_on_keeps st (Condition label ty ∷ fs) sign.Left a b = condition_keeps label ty fs st a b
  advance_on_keeps st (Condition label ty ∷ fs) _ a b = λ s next t h. absurd h
  advance_on_keeps st (Then ∷ fs) sign.Left a b = else_arm_keeps fs st b
  advance_on_keeps st (Then ∷ fs) _ a b = closed_keeps (ended fs st) (ended_agrees Then fs st.ops true refl b)
  advance_on_keeps st (Other ∷ fs) _ a b = closed_keeps (ended fs st) (ended_agrees Other fs st.ops false refl b)

  advance_keeps : (st : State) → InStep st → Keeps (advance source most st)
  unfolding advance
  advance_keeps st a s next t h = advance_on_keeps st st.frames (sign_of source s) a a s next t h

  advances_keep : (going : State → List Token → Bool) {st last : State} {s u : List Token} → Runs {F = TextFault} going (advance source most) st s last u → InStep st → InStep last
  advances_keep going (rests h) a = a
  advances_keep going (goes {st = st} {s = s} {t = t} next g h more) a = advances_keep going more (advance_keeps st a s next t h)

  not_none : (n : ℕ) → (suc n == 0) ≡ false
  not_none n = grind (arith, nat_tests)

  wrong : true ≡ false → ⊥
  wrong e = cc

  no_frames : (fs : List Frame) (b : Bool) → not ((length fs == 0) && b) ≡ false → fs ≡ []
  no_frames [] b e = refl
  no_frames (f ∷ fs) b e = absurd (wrong (subst (λ (x : Bool). not (x && b) ≡ false) (not_none (length fs)) e))

  none_open : (fs : List Frame) → not (length fs == 0) ≡ false → fs ≡ []
  none_open [] e = refl
  none_open (f ∷ fs) e = absurd (wrong (subst (λ (x : Bool). not x ≡ false) (not_none (length fs)) e))

  complete : (last : State) → InStep last → last.frames ≡ [] → Balanced [] last.ops
  complete last a e = subst (λ (l : List Op). Balanced [] l) (append-nil last.ops) (subst (λ (fs : List Frame). Agrees fs last.ops) e a [] refl)

  pub body_balanced : (s : List Token) (b : Body) (t : List Token) → (body source most).spelled s b t → Balanced [] b.ops
  unfolding body
  body_balanced s b t h =
      let last = h.0 in
      let in_step = advances_keep (body_goes source most) h.2 (λ os k. k) in
      subst (λ (x : Body). Balanced [] x.ops) (sym h.3.0) (complete last in_step (no_frames last.frames (closes h.1) (run_last {F = TextFault} (body_goes source most) (advance source most) h.2)))

  pub folded_balanced : (s : List Token) (b : Body) (t : List Token) → (folded_body source most).spelled s b t → Balanced [] b.ops
  unfolding folded_body
  folded_balanced s b t h =
      let first = h.0 in
      let last = h.3.0 in
      let in_step = advances_keep (inside_goes source most) h.3.2 (folded_keeps first_state (λ os k. k) s first h.1 h.2) in
      subst (λ (x : Body). Balanced [] x.ops) (sym h.3.3.0) (complete last in_step (none_open last.frames (run_last {F = TextFault} (inside_goes source most) (advance source most) h.3.2)))
