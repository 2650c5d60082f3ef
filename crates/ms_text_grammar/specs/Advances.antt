-- Turns of bodies: flat and folded instructions (WebAssembly 1.0, 6.5.1, 6.5.2 and 6.5.7). What is open is a list of frames. A turn
-- takes what the innermost frame lets stand in front, so that frames go on top, change or end; it gives instructions in their flat
-- order, the operands of a folded one before it.
use Rattle.std.specs.Prelude.{◌++◌, ◌-◌, ℕ, suc, Bool, true, false, List, [], ◌∷◌, length, Option, Some, None, nat_lt, if◌then◌else◌}
use Rattle.std.specs.Str.{bytes_eq}
use Rattle.ms_bytes.specs.Do.{◌>>=◌}
use Rattle.ms_bytes.specs.Parts.{choose, item, never, pure}
use Rattle.ms_text_lex.specs.declared.token.Token.{Token}
use Rattle.ms_text_lex.specs.Tokens.{text_of}
use Rattle.ms_types.specs.declared.types.ValType.{ValType}
use Rattle.ms_module.specs.declared.builder.Opening.{Opening}
use Rattle.ms_module.specs.declared.builder.Opening.TheVariants.{Block, If, Loop}
use Rattle.ms_module.specs.Instructions.{by_word, else_word, end_word, opening_rows}
use Rattle.ms_text_grammar.specs.declared.fault.Counted.TheVariants.{Blocks}
use Rattle.ms_text_grammar.specs.declared.fault.TextFault.{TextFault}
use Rattle.ms_text_grammar.specs.declared.fault.TextFault.TheVariants.{Limit}
use Rattle.ms_text_grammar.specs.declared.frame.Frame.{Frame}
use Rattle.ms_text_grammar.specs.declared.frame.Frame.TheVariants.{Arm, Condition, Flat, Folded, Operands, Other, Then}
use Rattle.ms_text_grammar.specs.declared.frame.Fresh.{Fresh}
use Rattle.ms_text_grammar.specs.declared.frame.Fresh.TheVariants as fresh
use Rattle.ms_text_grammar.specs.declared.frame.Sign.{Sign}
use Rattle.ms_text_grammar.specs.declared.frame.Sign.TheVariants as sign
use Rattle.ms_text_grammar.specs.declared.surface.Op.{Op}
use Rattle.ms_text_grammar.specs.declared.surface.Op.TheVariants as op
use Rattle.ms_text_grammar.specs.declared.surface.Plain.{Plain}
use Rattle.ms_text_grammar.specs.declared.surface.Plain.TheVariants as plain
use Rattle.ms_text_grammar.specs.declared.surface.TypeUse.{TypeUse}
use Rattle.ms_text_grammar.specs.declared.word.Word.TheVariants as word
use Rattle.ms_text_grammar.specs.Keywords.{spelling}
use Rattle.ms_text_grammar.specs.Tokens.{begins_id, is_close, is_keyword, is_open}
use Rattle.ms_text_grammar.specs.Faults.{Textual, bad, kept, place_of}
use Rattle.ms_text_grammar.specs.Parts.{closing, keyword, one, opening, optional_id, the}
use Rattle.ms_text_grammar.specs.Types.{block_type}
use Rattle.ms_text_grammar.specs.Instructions.{instruction}

-- ---- what was taken so far

-- the frames, the innermost first, how many blocks are open, the type uses of `call_indirect`s, and the instructions
pub record State : Type 0 where
  pub frames : List Frame
  pub blocks : ℕ
  pub uses : List TypeUse
  pub ops : List Op

abbrev pub first_state : State
first_state = record { frames = []; blocks = 0; uses = []; ops = [] }

-- with these frames
abbrev pub framed : List Frame → State → State
framed fs st = record { frames = fs; blocks = st.blocks; uses = st.uses; ops = st.ops }

-- and one instruction more, which is no block
abbrev pub given : List Frame → Plain → State → State
given fs p st = record { frames = fs; blocks = st.blocks; uses = st.uses; ops = st.ops ++ op.Plain p ∷ [] }

-- and one block more, which begins, turns to its else arm, or ends
abbrev pub begun : List Frame → Opening → Option Token → Option ValType → State → State
begun fs o label ty st = record { frames = fs; blocks = suc st.blocks; uses = st.uses; ops = st.ops ++ op.Begin o label ty ∷ [] }

abbrev pub after_else : List Frame → State → State
after_else fs st = record { frames = fs; blocks = st.blocks; uses = st.uses; ops = st.ops ++ op.Else ∷ [] }

abbrev pub ended : List Frame → State → State
ended fs st = record { frames = fs; blocks = st.blocks - 1; uses = st.uses; ops = st.ops ++ op.End ∷ [] }

-- an instruction with the number of its type use
abbrev pub plain_of : List TypeUse → Fresh → Plain
plain_of uses (fresh.Plain p) = p
plain_of uses (fresh.Indirect u) = plain.CallIndirect (length uses)

abbrev pub uses_with : List TypeUse → Fresh → List TypeUse
uses_with uses (fresh.Plain p) = uses
uses_with uses (fresh.Indirect u) = uses ++ u ∷ []

abbrev pub with_uses : Fresh → State → State
with_uses i st = record { frames = st.frames; blocks = st.blocks; uses = uses_with st.uses i; ops = st.ops }

-- ---- what stands in front

abbrev pub head_of : Option Opening → Sign
head_of (Some o) = sign.Heads o
head_of None = sign.Other

abbrev pub word_sign : List ℕ → Sign
word_sign text =
    if bytes_eq text end_word then sign.Ends else
    if bytes_eq text else_word then sign.Elses else
    if bytes_eq text (spelling word.Then) then sign.Thens else head_of (by_word opening_rows text)

abbrev pub sign_of : List ℕ → List Token → Sign
sign_of source [] = sign.Other
sign_of source (t ∷ ts) = if is_open t.kind then sign.Left else if is_close t.kind then sign.Right else if is_keyword t.kind then word_sign (text_of source t) else sign.Other

-- ---- turns, where at most so many blocks may be in one another

abbrev pub may_else : Opening → Bool
may_else If = true
may_else Block = false
may_else Loop = false

module _ (source : List ℕ) (most : ℕ) where
  -- the keyword of a block, where so many are open
  abbrev pub head_word : ℕ → Token → Option Token
  head_word blocks t = if nat_lt blocks most then kept (is_keyword t.kind) t else None

  abbrev pub head_fault : ℕ → ℕ → List Token → TextFault
  head_fault blocks end s = if nat_lt blocks most then bad source end s else Limit Blocks (place_of end s)

  -- the keyword of a block, its label and its type
  unfoldable pub heading : ℕ → Textual (Option Token × Option ValType)
  heading blocks = do
    head ← item (head_fault blocks) (head_word blocks)
    label ← optional_id source
    ty ← block_type source
    pure (label, ty)

  unfoldable pub flat_block : State → Opening → Textual State
  flat_block st o = do
    head ← heading st.blocks
    pure (begun (Flat head.0 (may_else o) ∷ st.frames) o head.0 head.1 st)

  unfoldable pub flat_plain : State → Textual State
  flat_plain st = do
    i ← instruction source
    pure (given st.frames (plain_of st.uses i) (with_uses i st))

  -- the operands of a folded `if` come before it
  abbrev pub folded_head : State → Opening → Option Token → Option ValType → State
  folded_head st If label ty = framed (Condition label ty ∷ st.frames) st
  folded_head st Block label ty = begun (Folded ∷ st.frames) Block label ty st
  folded_head st Loop label ty = begun (Folded ∷ st.frames) Loop label ty st

  unfoldable pub folded_block : State → Opening → Textual State
  folded_block st o = do
    head ← heading st.blocks
    pure (folded_head st o head.0 head.1)

  unfoldable pub folded_plain : State → Textual State
  folded_plain st = do
    i ← instruction source
    pure (framed (Operands (plain_of st.uses i) ∷ st.frames) (with_uses i st))

  -- behind the parenthesis of a folded instruction
  unfoldable pub folded_on : State → Sign → Textual State
  folded_on st (sign.Heads o) = folded_block st o
  folded_on st _ = folded_plain st

  unfoldable pub folded : State → Textual State
  folded st = do
    begin ← opening source
    choose (sign_of source) (folded_on st)

  -- behind a parenthesis in a folded `if` whose arms have not begun: an instruction of its condition, or its first arm
  unfoldable pub condition_on : Option Token → Option ValType → List Frame → State → Sign → Textual State
  condition_on label ty fs st sign.Thens = do
    head ← the source word.Then
    pure (begun (Arm ∷ Then ∷ fs) If label ty st)
  condition_on label ty fs st sign = folded_on st sign

  unfoldable pub condition : Option Token → Option ValType → List Frame → State → Textual State
  condition label ty fs st = do
    begin ← opening source
    choose (sign_of source) (condition_on label ty fs st)

  unfoldable pub else_arm : List Frame → State → Textual State
  else_arm fs st = do
    begin ← opening source
    head ← keyword source else_word
    pure (after_else (Arm ∷ Other ∷ fs) st)

  -- a closing parenthesis, and the state behind it
  unfoldable pub closed : State → Textual State
  closed st = do
    close ← closing source
    pure st

  -- ---- a label may be repeated behind `end` and `else`

  abbrev pub is_label : Option Token → Token → Bool
  is_label None t = false
  is_label (Some label) t = bytes_eq (text_of source t) (text_of source label)

  unfoldable pub repeated_by : Option Token → Bool → Textual (Unit {0})
  repeated_by label true = do
    id ← one source (is_label label)
    pure tt
  repeated_by label false = pure tt

  unfoldable pub repeated : Option Token → Textual (Unit {0})
  repeated label = choose begins_id (repeated_by label)

  unfoldable pub marked : List ℕ → Option Token → State → Textual State
  marked text label st = do
    mark ← keyword source text
    id ← repeated label
    pure st

  unfoldable pub flat_else : Option Token → Bool → List Frame → State → Textual State
  flat_else label true fs st = marked else_word label (after_else (Flat label false ∷ fs) st)
  flat_else label false fs st = never (bad source)

  -- ---- what each frame lets stand in front

  -- instructions, and then a closing parenthesis
  unfoldable pub instructions : State → State → Sign → Textual State
  instructions st after sign.Left = folded st
  instructions st after (sign.Heads o) = flat_block st o
  instructions st after sign.Right = closed after
  instructions st after _ = flat_plain st

  -- by the innermost frame, and what is around it
  unfoldable pub advance_on : State → List Frame → Sign → Textual State
  advance_on st [] sign = instructions st st sign
  advance_on st (Flat label may ∷ fs) sign.Ends = marked end_word label (ended fs st)
  advance_on st (Flat label may ∷ fs) sign.Elses = flat_else label may fs st
  advance_on st (Flat label may ∷ fs) sign.Left = folded st
  advance_on st (Flat label may ∷ fs) (sign.Heads o) = flat_block st o
  advance_on st (Flat label may ∷ fs) _ = flat_plain st
  advance_on st (Folded ∷ fs) sign = instructions st (ended fs st) sign
  advance_on st (Arm ∷ fs) sign = instructions st (framed fs st) sign
  advance_on st (Operands p ∷ fs) sign.Left = folded st
  advance_on st (Operands p ∷ fs) _ = closed (given fs p st)
  advance_on st (Condition label ty ∷ fs) sign.Left = condition label ty fs st
  advance_on st (Condition label ty ∷ fs) _ = never (bad source)
  advance_on st (Then ∷ fs) sign.Left = else_arm fs st
  advance_on st (Then ∷ fs) _ = closed (ended fs st)
  advance_on st (Other ∷ fs) _ = closed (ended fs st)
