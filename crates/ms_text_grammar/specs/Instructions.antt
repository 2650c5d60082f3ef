-- Instructions that are no blocks: a keyword, and what stands behind it (WebAssembly 1.0, 6.5.2 to 6.5.6). The keywords stand in
-- the table of instructions (`Instructions` of `ms_module`).
use Rattle.std.specs.Prelude.{◌==◌, ◌++◌, ◌||◌, ℕ, Bool, List, [], ◌∷◌, length, Option, Some, None, if◌then◌else◌}
use Rattle.std.specs.Str.{bytes_eq}
use Rattle.std.proofs.Common.{arith}
use Rattle.ms_bytes.specs.Do.{◌>>=◌}
use Rattle.ms_bytes.specs.Parts.{item, pure}
use Rattle.ms_bytes.specs.Runs.{TakesItem}
use Rattle.ms_bytes.specs.RunLaws.{takes_least}
use Rattle.ms_bytes.specs.Repetition.{run}
use Rattle.ms_handle.specs.declared.handle.Kind.{Kind}
use Rattle.ms_handle.specs.declared.handle.Kind.TheVariants.{Heap, Frame}
use Rattle.ms_text_lex.specs.declared.token.Token.{Token}
use Rattle.ms_text_lex.specs.Tokens.{text_of}
use Rattle.ms_module.specs.Accesses.{load_bytes, store_bytes}
use Rattle.ms_module.specs.declared.access.LoadOp.{LoadOp}
use Rattle.ms_module.specs.declared.access.StoreOp.{StoreOp}
use Rattle.ms_module.specs.declared.access.Linear.TheVariants as linear
use Rattle.ms_module.specs.declared.access.Segment.TheVariants as segment
use Rattle.ms_module.specs.declared.instr.Instr.{Instr}
use Rattle.ms_module.specs.declared.instr.Instr.TheVariants as instr
use Rattle.ms_module.specs.declared.numeric.Numeric.{Numeric}
use Rattle.ms_module.specs.Instructions.{Bare, Form, Func, Global, Int32, Int64, KindOf, Label, Labels, Local, Memory, Row, Scale, Type_, by_word, load_rows, row, numeric_rows, operand_rows, segment_load_rows, segment_rows, segment_store_rows, store_rows}
use Rattle.ms_text_grammar.specs.declared.fault.TextFault.{TextFault}
use Rattle.ms_text_grammar.specs.declared.frame.Fresh.{Fresh}
use Rattle.ms_text_grammar.specs.declared.frame.Fresh.TheVariants as fresh
use Rattle.ms_text_grammar.specs.declared.surface.Index.{Index}
use Rattle.ms_text_grammar.specs.declared.surface.Index.TheVariants.{Name, Number}
use Rattle.ms_text_grammar.specs.declared.surface.Plain.TheVariants as plain
use Rattle.ms_text_grammar.specs.declared.word.Word.TheVariants as word
use Rattle.ms_text_grammar.specs.Keywords.{spelling}
use Rattle.ms_text_grammar.specs.Tokens.{begins_index, is_keyword}
use Rattle.ms_text_grammar.specs.Faults.{Textual, bad}
use Rattle.ms_text_grammar.specs.Numbers.{constant, if_so, index, mem_arg, number}
use Rattle.ms_text_grammar.specs.Types.{unnamed_use}

-- ---- keywords

pub data Form_ : Type 0 where
  -- what stands behind it is told in the table
  operand : Form → Form_
  -- nothing stands behind it
  numeric : Numeric → Form_
  segment_load : LoadOp → Form_
  segment_store : StoreOp → Form_
  -- an offset and an alignment stand behind it
  load : LoadOp → Form_
  store : StoreOp → Form_

-- rows of the table, as one kind of these
abbrev pub rows_as : {A : Type 0} → (A → Form_) → List (Row A) → List (Row Form_)
rows_as f [] = []
rows_as f (r ∷ rs) = row r.code r.word (f r.item) ∷ rows_as f rs

-- all keywords
unfoldable pub form_rows : List (Row Form_)
form_rows =
    rows_as operand operand_rows ++ rows_as numeric numeric_rows ++ rows_as load load_rows ++ rows_as store store_rows
    ++ rows_as operand segment_rows ++ rows_as segment_load segment_load_rows ++ rows_as segment_store segment_store_rows

abbrev pub form_of : List ℕ → Option Form_
form_of text = by_word form_rows text

-- the exponent of the alignment of so many bytes, of 1, 2, 4 or 8
abbrev pub natural : ℕ → ℕ
natural bytes = if bytes == 8 then 3 else if bytes == 4 then 2 else if bytes == 2 then 1 else 0

abbrev pub kind_of : List ℕ → Option Kind
kind_of text = if bytes_eq text (spelling word.Heap) then Some Heap else if bytes_eq text (spelling word.Frame) then Some Frame else None

-- ---- what stands behind them

abbrev pub fresh_of : Instr → Fresh
fresh_of i = fresh.Plain (plain.Instr i None)

-- the number of an index, or 0 in place of an identifier, which is kept beside it
abbrev pub number_in : Index → ℕ
number_in (Number n) = n
number_in (Name id) = 0

abbrev pub id_in : Index → Option Token
id_in (Number n) = None
id_in (Name id) = Some id

-- the instruction with an index
abbrev pub indexed : (ℕ → Instr) → Index → Fresh
indexed f x = fresh.Plain (plain.Instr (f (number_in x)) (id_in x))

module _ (source : List ℕ) where
  unfoldable pub next_label : List Index → Textual (List Index)
  next_label ls = do
    l ← index source
    pure (ls ++ l ∷ [])

  -- one at least
  abbrev pub labels_go : List Index → List Token → Bool
  labels_go ls s = (length ls == 0) || begins_index s

  pub label_takes : TakesItem {F = TextFault} labels_go next_label
  unfolding next_label index
  label_takes = takes_least labels_go next_label (λ ls. omega arith)

  unfoldable pub labels : Textual (List Index)
  labels = run (bad source) labels_go next_label label_takes []

  unfoldable pub kind : Textual Kind
  kind = item (bad source) (λ t. if_so (is_keyword t.kind) (kind_of (text_of source t)))

  unfoldable pub operands : Form → Textual Fresh
  operands (Bare i) = pure (fresh_of i)
  operands (Label f) = index source >>= λ x. pure (indexed f x)
  operands (Func f) = index source >>= λ x. pure (indexed f x)
  operands (Local f) = index source >>= λ x. pure (indexed f x)
  operands (Global f) = index source >>= λ x. pure (indexed f x)
  operands (Type_ f) = unnamed_use source >>= λ u. pure (fresh.Indirect u)
  operands (Labels f) = labels >>= λ ls. pure (fresh.Plain (plain.BrTable ls))
  operands (Memory i) = pure (fresh_of i)
  operands (Int32 f) = constant source 32 >>= λ n. pure (fresh_of (f n))
  operands (Int64 f) = constant source 64 >>= λ n. pure (fresh_of (f n))
  operands (KindOf f) = kind >>= λ k. pure (fresh_of (f k))
  operands (Scale f) = number source >>= λ n. pure (fresh_of (f n))

  unfoldable pub behind : Form_ → Textual Fresh
  behind (operand form) = operands form
  behind (numeric op) = pure (fresh_of (instr.Numeric op))
  behind (segment_load op) = pure (fresh_of (instr.Segment (segment.Load op)))
  behind (segment_store op) = pure (fresh_of (instr.Segment (segment.Store op)))
  behind (load op) = mem_arg source (natural (load_bytes op)) >>= λ arg. pure (fresh_of (instr.Linear (linear.Load op arg)))
  behind (store op) = mem_arg source (natural (store_bytes op)) >>= λ arg. pure (fresh_of (instr.Linear (linear.Store op arg)))

  -- an instruction that is no block
  unfoldable pub instruction : Textual Fresh
  instruction = do
    form ← item (bad source) (λ t. if_so (is_keyword t.kind) (form_of (text_of source t)))
    behind form
