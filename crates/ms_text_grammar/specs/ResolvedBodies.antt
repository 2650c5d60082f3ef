-- From the flat instructions of a body to numbered sequences (WebAssembly 1.0, 6.5), with indices for identifiers and type uses.
use Rattle.std.specs.Prelude.{ℕ, List, [], ◌∷◌, ◌++◌, Option, Some, None, slice_get}
use Rattle.ms_types.specs.declared.types.ValType.{ValType}
use Rattle.ms_module.specs.declared.br_table.Targets.{Targets}
use Rattle.ms_module.specs.declared.instr.Instr.{Instr}
use Rattle.ms_module.specs.declared.instr.Instr.TheVariants as instr
use Rattle.ms_module.specs.declared.builder.Opening.{Opening}
use Rattle.ms_module.specs.Building.{State, begun, closed, first_state, placed, after_else}
use Rattle.ms_text_lex.specs.declared.token.Token.{Token}
use Rattle.ms_text_grammar.specs.declared.surface.Body.{Body}
use Rattle.ms_text_grammar.specs.declared.surface.Op.{Op}
use Rattle.ms_text_grammar.specs.declared.surface.Op.TheVariants as op
use Rattle.ms_text_grammar.specs.declared.surface.Plain.{Plain}
use Rattle.ms_text_grammar.specs.declared.surface.Plain.TheVariants as plain
use Rattle.ms_text_grammar.specs.Identifiers.{With, each, identified, mapped, resolved, right}
use Rattle.ms_text_grammar.specs.TypeUses.{Scope, use_index}

-- ---- instructions (6.5)

-- the index space of an instruction's index
abbrev pub space_of : Scope → List (Option Token) → List (Option Token) → Instr → List (Option Token)
space_of scope locals labels (instr.Br l) = labels
space_of scope locals labels (instr.BrIf l) = labels
space_of scope locals labels (instr.Call f) = scope.funcs
space_of scope locals labels (instr.LocalGet x) = locals
space_of scope locals labels (instr.LocalSet x) = locals
space_of scope locals labels (instr.LocalTee x) = locals
space_of scope locals labels (instr.GlobalGet x) = scope.globals
space_of scope locals labels (instr.GlobalSet x) = scope.globals
space_of scope locals labels _ = []

abbrev pub with_index : Instr → ℕ → Instr
with_index (instr.Br l) n = instr.Br n
with_index (instr.BrIf l) n = instr.BrIf n
with_index (instr.Call f) n = instr.Call n
with_index (instr.LocalGet x) n = instr.LocalGet n
with_index (instr.LocalSet x) n = instr.LocalSet n
with_index (instr.LocalTee x) n = instr.LocalTee n
with_index (instr.GlobalGet x) n = instr.GlobalGet n
with_index (instr.GlobalSet x) n = instr.GlobalSet n
with_index i n = i

-- labels, of which the last is the default one
abbrev pub targets : ℕ → List ℕ → Targets
targets l [] = record { labels = []; default = l }
targets l (m ∷ ms) = let rest = targets m ms in record { labels = l ∷ rest.labels; default = rest.default }

abbrev pub targets_of : List ℕ → Targets
targets_of [] = record { labels = []; default = 0 }
targets_of (l ∷ ls) = targets l ls

abbrev pub value_or_zero : Option ℕ → ℕ
value_or_zero None = 0
value_or_zero (Some n) = n

abbrev pub number_at : List ℕ → ℕ → ℕ
number_at ns k = value_or_zero (slice_get ns k)

-- what is built so far, and the labels of the open blocks, the innermost first
pub record Built : Type 0 where
  pub st : State
  pub labels : List (Option Token)
  pub wrong : List ℕ

abbrev pub nothing_built : Built
nothing_built = record { st = first_state; labels = []; wrong = [] }

abbrev pub with_begin : Opening → Option Token → Option ValType → Built → Built
with_begin opening label ty b = record { st = begun b.st opening ty; labels = label ∷ b.labels; wrong = b.wrong }

abbrev pub with_else : Built → Built
with_else b = record { st = after_else b.st; labels = b.labels; wrong = b.wrong }

abbrev pub inner : List (Option Token) → List (Option Token)
inner [] = []
inner (l ∷ ls) = ls

abbrev pub with_end : Built → Built
with_end b = record { st = closed b.st; labels = inner b.labels; wrong = b.wrong }

module _ (source : List ℕ) (scope : Scope) where
  abbrev pub instr_of : List (Option Token) → List ℕ → List (Option Token) → Plain → With Instr
  instr_of locals uses labels (plain.Instr i None) = right i
  instr_of locals uses labels (plain.Instr i (Some id)) = mapped (with_index i) (identified source (space_of scope locals labels i) id)
  instr_of locals uses labels (plain.BrTable xs) = mapped (λ ls. instr.BrTable (targets_of ls)) (each (resolved source labels) xs)
  instr_of locals uses labels (plain.CallIndirect k) = right (instr.CallIndirect (number_at uses k))

  abbrev pub with_instr : With Instr → Built → Built
  with_instr i b = record { st = placed b.st i.value; labels = b.labels; wrong = b.wrong ++ i.wrong }

  -- one step of a body
  abbrev pub with_op : List (Option Token) → List ℕ → Op → Built → Built
  with_op locals uses (op.Plain p) b = with_instr (instr_of locals uses b.labels p) b
  with_op locals uses (op.Begin opening label ty) b = with_begin opening label ty b
  with_op locals uses op.Else b = with_else b
  with_op locals uses op.End b = with_end b

  abbrev pub built : List (Option Token) → List ℕ → List Op → Built → Built
  built locals uses [] b = b
  built locals uses (o ∷ os) b = built locals uses os (with_op locals uses o b)

  -- the sequences of a body with these locals
  abbrev pub code_of : List (Option Token) → Body → With (List (List Instr))
  code_of locals body =
      let uses = each (use_index source scope) body.uses in
      let b = built locals uses.value body.ops nothing_built in
      record { value = b.st.seqs; wrong = uses.wrong ++ b.wrong }
