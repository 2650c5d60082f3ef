-- Each keyword that is written is a keyword token.
use Rattle.std.proofs.Common.{◌≡◌, ℕ, ◌&&◌, Bool, true, false, List, [], ◌∷◌, ◌++◌, refl}
use Rattle.std.specs.Prelude.{codes, decimal}
use Rattle.ms_bytes.specs.Texts.{all_pass}
use Rattle.ms_types.specs.declared.types.ValType.{ValType}
use Rattle.ms_types.specs.declared.types.ValType.TheVariants.{I32}
use Rattle.ms_handle.specs.declared.handle.Kind.{Kind as HandleKind}
use Rattle.ms_handle.specs.declared.handle.Kind.TheVariants.{Heap}
use Rattle.ms_module.specs.Instructions.{else_word, end_word}
use Rattle.ms_module.specs.declared.numeric.Width.{Width}
use Rattle.ms_module.specs.declared.numeric.Width.TheVariants.{W32, W64}
use Rattle.ms_module.specs.declared.numeric.UnOp.{UnOp}
use Rattle.ms_module.specs.declared.numeric.UnOp.TheVariants.{Clz}
use Rattle.ms_module.specs.declared.numeric.BinOp.{BinOp}
use Rattle.ms_module.specs.declared.numeric.BinOp.TheVariants.{Add}
use Rattle.ms_module.specs.declared.numeric.RelOp.{RelOp}
use Rattle.ms_module.specs.declared.numeric.RelOp.TheVariants.{Eq}
use Rattle.ms_module.specs.declared.numeric.Numeric.{Numeric}
use Rattle.ms_module.specs.declared.numeric.Numeric.TheVariants.{Eqz, Compare, Unary, Binary, Wrap, ExtendS, ExtendU}
use Rattle.ms_module.specs.declared.access.LoadOp.{LoadOp}
use Rattle.ms_module.specs.declared.access.LoadOp.TheVariants.{I32Load}
use Rattle.ms_module.specs.declared.access.StoreOp.{StoreOp}
use Rattle.ms_module.specs.declared.access.StoreOp.TheVariants.{I32Store}
use Rattle.ms_module.specs.declared.access.Linear.{Linear}
use Rattle.ms_module.specs.declared.access.Linear.TheVariants as linear
use Rattle.ms_module.specs.declared.access.Segment.{Segment}
use Rattle.ms_module.specs.declared.access.Segment.TheVariants as segment
use Rattle.ms_module.specs.declared.builder.Opening.{Opening}
use Rattle.ms_module.specs.declared.builder.Opening.TheVariants as opening
use Rattle.ms_module.specs.declared.instr.Instr.{Instr}
use Rattle.ms_module.specs.declared.instr.Instr.TheVariants as instr
use Rattle.ms_text_lex.specs.declared.token.Kind.TheVariants.{Keyword}
use Rattle.ms_text_lex.specs.Classes.{is_idchar}
use Rattle.ms_text_grammar.specs.declared.word.Word.{Word}
use Rattle.ms_text_grammar.specs.declared.word.Word.TheVariants as word
use Rattle.ms_text_grammar.specs.Keywords.{align_is, offset_is, spelling}
use Rattle.ms_flat.specs.Keywords.{binary_word, compare_word, instr_word, linear_word, load_word, numeric_word, opening_word, segment_word, store_word, unary_word, value_word, width_word}
use Rattle.ms_text_write.specs.Instrs.{kind_word}
use Rattle.ms_text_write.proofs.LayoutSteps.{IsToken}
use Rattle.ms_text_write.proofs.LayoutNumbers.{decimal_idchars}

abbrev IsKeyword : List ℕ → Type 0
IsKeyword x = IsToken Keyword x

halves : (a b : Bool) → (a && b) ≡ true → (a ≡ true) × (b ≡ true)
halves true b h = (refl, h)
halves false b h = absurd (cc)

joined : (x y : List ℕ) → all_pass is_idchar x ≡ true → all_pass is_idchar y ≡ true → all_pass is_idchar (x ++ y) ≡ true
joined [] y h k = k
joined (b ∷ x) y h k = let p = halves (is_idchar b) (all_pass is_idchar x) h in rw p.0 (joined x y p.1 k)

pub spelling_token : (w : Word) → IsKeyword (spelling w)
spelling_token word.Module = record { chars = refl; first = refl; is = refl }
spelling_token w = record { chars = refl; first = refl; is = refl }

pub value_token : (ty : ValType) → IsKeyword (value_word ty)
value_token I32 = record { chars = refl; first = refl; is = refl }
value_token ty = record { chars = refl; first = refl; is = refl }

pub opening_token : (o : Opening) → IsKeyword (opening_word o)
opening_token opening.Block = record { chars = refl; first = refl; is = refl }
opening_token o = record { chars = refl; first = refl; is = refl }

pub kind_token : (k : HandleKind) → IsKeyword (kind_word k)
kind_token Heap = record { chars = refl; first = refl; is = refl }
kind_token k = record { chars = refl; first = refl; is = refl }

pub else_token : IsKeyword else_word
else_token = record { chars = refl; first = refl; is = refl }

pub end_token : IsKeyword end_word
end_token = record { chars = refl; first = refl; is = refl }

-- ---- numbers in a keyword

pub offset_token : (n : ℕ) → IsKeyword (offset_is ++ decimal n)
offset_token n = record { chars = joined offset_is (decimal n) refl (decimal_idchars n); first = refl; is = refl }

pub align_token : (n : ℕ) → IsKeyword (align_is ++ decimal n)
align_token n = record { chars = joined align_is (decimal n) refl (decimal_idchars n); first = refl; is = refl }

-- ---- instructions

unary_chars : (op : UnOp) → all_pass is_idchar (unary_word op) ≡ true
unary_chars Clz = refl
unary_chars op = refl

binary_chars : (op : BinOp) → all_pass is_idchar (binary_word op) ≡ true
binary_chars Add = refl
binary_chars op = refl

compare_chars : (op : RelOp) → all_pass is_idchar (compare_word op) ≡ true
compare_chars Eq = refl
compare_chars op = refl

-- what stands behind the width of a type
typed : (w : Width) (x : List ℕ) → all_pass is_idchar x ≡ true → IsKeyword (width_word w ++ x)
typed W32 x h = record { chars = h; first = refl; is = refl }
typed W64 x h = record { chars = h; first = refl; is = refl }

numeric_token : (i : Numeric) → IsKeyword (numeric_word i)
numeric_token (Eqz w) = typed w (codes "eqz") refl
numeric_token (Compare w op) = typed w (compare_word op) (compare_chars op)
numeric_token (Unary w op) = typed w (unary_word op) (unary_chars op)
numeric_token (Binary w op) = typed w (binary_word op) (binary_chars op)
numeric_token Wrap = record { chars = refl; first = refl; is = refl }
numeric_token ExtendS = record { chars = refl; first = refl; is = refl }
numeric_token ExtendU = record { chars = refl; first = refl; is = refl }

load_token : (op : LoadOp) → IsKeyword (load_word (codes "load") op)
load_token I32Load = record { chars = refl; first = refl; is = refl }
load_token op = record { chars = refl; first = refl; is = refl }

segload_token : (op : LoadOp) → IsKeyword (load_word (codes "segload") op)
segload_token I32Load = record { chars = refl; first = refl; is = refl }
segload_token op = record { chars = refl; first = refl; is = refl }

store_token : (op : StoreOp) → IsKeyword (store_word (codes "store") op)
store_token I32Store = record { chars = refl; first = refl; is = refl }
store_token op = record { chars = refl; first = refl; is = refl }

segstore_token : (op : StoreOp) → IsKeyword (store_word (codes "segstore") op)
segstore_token I32Store = record { chars = refl; first = refl; is = refl }
segstore_token op = record { chars = refl; first = refl; is = refl }

linear_token : (i : Linear) → IsKeyword (linear_word i)
linear_token (linear.Load op arg) = load_token op
linear_token (linear.Store op arg) = store_token op
linear_token linear.Size = record { chars = refl; first = refl; is = refl }
linear_token linear.Grow = record { chars = refl; first = refl; is = refl }

segment_token : (i : Segment) → IsKeyword (segment_word i)
segment_token (segment.Load op) = segload_token op
segment_token (segment.Store op) = segstore_token op
segment_token i = record { chars = refl; first = refl; is = refl }

pub instr_token : (i : Instr) → IsKeyword (instr_word i)
instr_token (instr.Numeric i) = numeric_token i
instr_token (instr.Linear i) = linear_token i
instr_token (instr.Segment i) = segment_token i
instr_token i = record { chars = refl; first = refl; is = refl }
