-- How bodies are spelled (WebAssembly 1.0, 5.4.1 and 5.4.6): instructions, and an `end`. Each opcode, with what stands behind
-- it, is one turn: it says what becomes of the body that is built (`Building` of `ms_module`), and a block's `else` and `end`
-- stand where that is open.
use Rattle.std.specs.Prelude.{ℕ, ◌||◌, Bool, List, [], ◌∷◌, ◌++◌, length, nat_lt, not}
use Rattle.std.proofs.Common.{arith}
use Rattle.ms_bytes.specs.Spot.{first_is}
use Rattle.ms_bytes.specs.Do.{◌>>=◌}
use Rattle.ms_bytes.specs.Parts.{pure}
use Rattle.ms_bytes.specs.Tests.{marks}
use Rattle.ms_bytes.specs.Runs.{TakesItem}
use Rattle.ms_bytes.specs.RunLaws.{takes_least}
use Rattle.ms_bytes.specs.Repetition.{run}
use Rattle.ms_bytes.specs.Codes.{Case, Coded, IsIf}
use Rattle.ms_bytes.specs.Choice.{among, coded, followed}
use Rattle.ms_module.specs.declared.instr.Instr.{Instr}
use Rattle.ms_module.specs.declared.builder.Opening.{Opening}
use Rattle.ms_module.specs.Instructions.{Row, else_code, end_code, opening_rows}
use Rattle.ms_module.specs.Building.{State, begun, closed, first_state, may_else, placed, after_else}
use Rattle.ms_bin_grammar.specs.declared.fault.Counted.TheVariants.{Blocks}
use Rattle.ms_bin_grammar.specs.declared.fault.ReadFault.{ReadFault}
use Rattle.ms_bin_grammar.specs.declared.fault.ReadFault.TheVariants.{Limit, Malformed}
use Rattle.ms_bin_grammar.specs.Faults.{Binary, malformed}
use Rattle.ms_bin_grammar.specs.Types.{block_type}
use Rattle.ms_bin_grammar.specs.Code.{plain}

-- the opening of a block, and its type; at most so many blocks are in one another
abbrev pub opens : ℕ → State → Opening → Case ReadFault State
opens most st opening = IsIf (nat_lt (length st.blocks) most) (Limit Blocks) (block_type >>= λ ty. pure (begun st opening ty))

abbrev pub openings : ℕ → State → List (Row Opening) → List (ℕ × Case ReadFault State)
openings most st [] = []
openings most st (r ∷ rs) = (r.code, opens most st r.item) ∷ openings most st rs

unfoldable pub block_rows : ℕ → State → List (ℕ × Case ReadFault State)
block_rows most st =
    openings most st opening_rows
    ++ (else_code, IsIf (may_else st.blocks) Malformed (pure (after_else st)))
    ∷ (end_code, IsIf (nat_lt 0 (length st.blocks)) Malformed (pure (closed st))) ∷ []

-- what an opcode, with what stands behind it, makes of the body
unfoldable pub advance_codes : ℕ → State → Coded ReadFault State
advance_codes most st = among (block_rows most st) (followed plain (λ i. pure (placed st i)))

unfoldable pub advance : ℕ → State → Binary State
advance most st = coded malformed (advance_codes most st)

-- whether there is another turn: up to the `end` behind which no block is open
abbrev pub goes_on : State → List ℕ → Bool
goes_on st s = nat_lt 0 (length st.blocks) || not (first_is end_code s)

pub advance_takes_byte : (most : ℕ) → TakesItem goes_on (advance most)
unfolding advance
advance_takes_byte most = takes_least goes_on (advance most) (λ st. omega arith)

-- the sequences of a body, with at most so many blocks in one another
unfoldable pub body : ℕ → Binary (List (List Instr))
body most = do
  built ← run malformed goes_on (advance most) (advance_takes_byte most) first_state
  last ← marks malformed (end_code ∷ [])
  pure built.seqs
