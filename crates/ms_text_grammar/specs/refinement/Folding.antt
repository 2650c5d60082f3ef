-- Instructions as trees (WebAssembly 1.0, 6.5.1, 6.5.2, 6.5.7 and 6.5.8): a block is what stands up to its `end`, and a folded instruction
-- is its operands and then itself. Nothing of frames and turns is said here; that both are the same is a law (`laws.rt`).
use Rattle.std.specs.Prelude.{◌≡◌, ◌≢◌, ◌++◌, ℕ, suc, List, [], ◌∷◌, Option}
use Rattle.ms_types.specs.declared.types.ValType.{ValType}
use Rattle.ms_text_lex.specs.declared.token.Token.{Token}
use Rattle.ms_module.specs.declared.builder.Opening.{Opening}
use Rattle.ms_module.specs.declared.builder.Opening.TheVariants.{If}
use Rattle.ms_module.specs.Instructions.{else_word, end_word}
use Rattle.ms_text_grammar.specs.declared.frame.Fresh.{Fresh}
use Rattle.ms_text_grammar.specs.declared.frame.Sign.TheVariants as sign
use Rattle.ms_text_grammar.specs.declared.surface.Body.{Body}
use Rattle.ms_text_grammar.specs.declared.surface.Op.{Op}
use Rattle.ms_text_grammar.specs.declared.surface.Op.TheVariants as op
use Rattle.ms_text_grammar.specs.declared.surface.TypeUse.{TypeUse}
use Rattle.ms_text_grammar.specs.declared.word.Word.TheVariants as word
use Rattle.ms_text_grammar.specs.Keywords.{spelling}
use Rattle.ms_text_grammar.specs.Parts.{closing, keyword, opening}
use Rattle.ms_text_grammar.specs.Instructions.{instruction}
use Rattle.ms_text_grammar.specs.Advances.{heading, plain_of, repeated, sign_of, uses_with}

abbrev pub body_with : List TypeUse → List Op → Body
body_with uses ops = record { uses = uses; ops = ops }

-- instructions of any form, or folded ones alone
pub data Form : Type 0 where
  any : Form
  fold : Form

-- one of them, or as many as there are
pub data Part : Type 0 where
  one : Form → Part
  many : Form → Part

module _ (source : List ℕ) (most : ℕ) where
  abbrev pub Left : List Token → List Token → Type 0
  Left s t = (x : Token) × (opening source).spelled s x t

  abbrev pub Right : List Token → List Token → Type 0
  Right s t = (x : Token) × (closing source).spelled s x t

  -- a parenthesis and a word
  abbrev pub LeftWord : List ℕ → List Token → List Token → Type 0
  LeftWord text s t = (m : List Token) × Left s m × (x : Token) × (keyword source text).spelled m x t

  -- the keyword of a block, its label and its type, where so many blocks are open
  abbrev pub Head : Opening → ℕ → List Token → Option Token → Option ValType → List Token → Type 0
  Head o d s label ty t = (sign_of source s ≡ sign.Heads o) × (heading source most d).spelled s (label, ty) t

  -- `else` or `end`, behind which the label may be repeated
  abbrev pub Mark : List ℕ → Option Token → List Token → List Token → Type 0
  Mark text label s t = (x : Token) × (m : List Token) × (keyword source text).spelled s x m × (y : Unit {0}) × (repeated source most label).spelled m y t

-- Where d blocks are open and us are the type uses so far, the tokens from s up to t spell the instructions `os`, and behind them the type
-- uses are vs.
pub data SpellsInstrs (source : List ℕ) (most : ℕ) : Part → ℕ → List TypeUse → List Token → List TypeUse → List Op → List Token → Type 0 where
  none : {f : Form} {d : ℕ} {us : List TypeUse} {s : List Token} → SpellsInstrs source most (many f) d us s us [] s
  more : {f : Form} {d : ℕ} {us vs ws : List TypeUse} {s t u : List Token} {os ps : List Op}
      → SpellsInstrs source most (one f) d us s vs os t → SpellsInstrs source most (many f) d vs t ws ps u → SpellsInstrs source most (many f) d us s ws (os ++ ps) u
  plain : {d : ℕ} {us : List TypeUse} {s t : List Token} (i : Fresh)
      → (instruction source).spelled s i t → SpellsInstrs source most (one any) d us s (uses_with us i) (op.Plain (plain_of us i) ∷ []) t
  -- block label type instr* end
  block : {d : ℕ} {us vs : List TypeUse} {s t u v : List Token} {os : List Op} (o : Opening) (label : Option Token) (ty : Option ValType)
      → Head source most o d s label ty t → SpellsInstrs source most (many any) (suc d) us t vs os u → Mark source most end_word label u v
      → SpellsInstrs source most (one any) d us s vs (op.Begin o label ty ∷ (os ++ op.End ∷ [])) v
  -- if label type instr* else instr* end
  if_else : {d : ℕ} {us vs ws : List TypeUse} {s t u v w x : List Token} {os ps : List Op} (label : Option Token) (ty : Option ValType)
      → Head source most If d s label ty t → SpellsInstrs source most (many any) (suc d) us t vs os u → Mark source most else_word label u v
      → SpellsInstrs source most (many any) (suc d) vs v ws ps w → Mark source most end_word label w x
      → SpellsInstrs source most (one any) d us s ws (op.Begin If label ty ∷ (os ++ op.Else ∷ (ps ++ op.End ∷ []))) x
  folded : {d : ℕ} {us vs : List TypeUse} {s t : List Token} {os : List Op}
      → SpellsInstrs source most (one fold) d us s vs os t → SpellsInstrs source most (one any) d us s vs os t
  -- ( plain folded* ) is folded* plain
  operands : {d : ℕ} {us vs : List TypeUse} {s t u v w : List Token} {os : List Op} (i : Fresh)
      → Left source most s t → (instruction source).spelled t i u → SpellsInstrs source most (many fold) d (uses_with us i) u vs os v → Right source most v w
      → SpellsInstrs source most (one fold) d us s vs (os ++ op.Plain (plain_of us i) ∷ []) w
  -- ( block label type instr* ) is block label type instr* end, and so is that of a loop
  folded_block : {d : ℕ} {us vs : List TypeUse} {s t u v w : List Token} {os : List Op} (o : Opening) (label : Option Token) (ty : Option ValType)
      → o ≢ If → Left source most s t → Head source most o d t label ty u → SpellsInstrs source most (many any) (suc d) us u vs os v → Right source most v w
      → SpellsInstrs source most (one fold) d us s vs (op.Begin o label ty ∷ (os ++ op.End ∷ [])) w
  -- ( if label type folded* ( then instr* ) ) is folded* if label type instr* end
  folded_if : {d : ℕ} {us vs ws : List TypeUse} {s t u v w x y z : List Token} {cs os : List Op} (label : Option Token) (ty : Option ValType)
      → Left source most s t → Head source most If d t label ty u → SpellsInstrs source most (many fold) d us u vs cs v
      → LeftWord source most (spelling word.Then) v w → SpellsInstrs source most (many any) (suc d) vs w ws os x → Right source most x y → Right source most y z
      → SpellsInstrs source most (one fold) d us s ws (cs ++ op.Begin If label ty ∷ (os ++ op.End ∷ [])) z
  -- the same with ( else instr* ), which is else instr*
  folded_if_else : {d : ℕ} {us vs ws xs : List TypeUse} {s t u v w x y z s' t' u' : List Token} {cs os ps : List Op} (label : Option Token) (ty : Option ValType)
      → Left source most s t → Head source most If d t label ty u → SpellsInstrs source most (many fold) d us u vs cs v
      → LeftWord source most (spelling word.Then) v w → SpellsInstrs source most (many any) (suc d) vs w ws os x → Right source most x y
      → LeftWord source most else_word y z → SpellsInstrs source most (many any) (suc d) ws z xs ps s' → Right source most s' t' → Right source most t' u'
      → SpellsInstrs source most (one fold) d us s xs (cs ++ op.Begin If label ty ∷ (os ++ op.Else ∷ (ps ++ op.End ∷ []))) u'
