-- What the grammar takes of instructions that are no blocks, as they are written.
use Rattle.std.proofs.Common.{◌≡◌, ◌++◌, ◌||◌, ◌+◌, ◌<◌, ℕ, Bool, true, false, List, [], ◌∷◌, length, All, refl, sym, ap, subst, arith, eqb}
use Rattle.std.specs.Prelude.{map}
use Rattle.std.proofs.lemmas.Bool.Decides.{nat_tests}
use Rattle.std.proofs.lemmas.List.{length-append}
use Rattle.std.proofs.lemmas.List.Elements.{All-head, All-tail, All-cons, All-nil}
use Rattle.ms_handle.specs.declared.handle.Kind.{Kind as Segments}
use Rattle.ms_handle.specs.declared.handle.Kind.TheVariants.{Heap, Frame}
use Rattle.ms_module.specs.declared.numeric.Width.TheVariants.{W32, W64}
use Rattle.ms_module.specs.declared.numeric.Numeric.{Numeric}
use Rattle.ms_module.specs.declared.numeric.Numeric.TheVariants.{Eqz, Compare, Unary, Binary, Wrap, ExtendS, ExtendU}
use Rattle.ms_module.specs.declared.access.LoadOp.{LoadOp}
use Rattle.ms_module.specs.declared.access.LoadOp.TheVariants.{I32Load, I64Load, I32Load8S, I32Load8U, I32Load16S, I32Load16U, I64Load8S, I64Load8U, I64Load16S, I64Load16U, I64Load32S, I64Load32U}
use Rattle.ms_module.specs.declared.access.StoreOp.{StoreOp}
use Rattle.ms_module.specs.declared.access.StoreOp.TheVariants.{I32Store, I64Store, I32Store8, I32Store16, I64Store8, I64Store16, I64Store32}
use Rattle.ms_module.specs.declared.access.Linear.{Linear}
use Rattle.ms_module.specs.declared.access.Linear.TheVariants as linear
use Rattle.ms_module.specs.declared.access.Segment.{Segment}
use Rattle.ms_module.specs.declared.access.Segment.TheVariants as segment
use Rattle.ms_module.specs.declared.instr.Instr.{Instr}
use Rattle.ms_module.specs.declared.instr.Instr.TheVariants as instr
use Rattle.ms_module.specs.Accesses.{load_bytes, store_bytes}
use Rattle.ms_module.specs.Instructions.{opening_rows}
use Rattle.ms_module.specs.Numbered.{IsPlain}
use Rattle.ms_flat.specs.Keywords.{instr_word, load_word, numeric_word, store_word}
use Rattle.ms_text_lex.specs.declared.token.Kind.{Kind}
use Rattle.ms_text_lex.specs.declared.token.Kind.TheVariants.{Keyword}
use Rattle.ms_text_lex.specs.declared.token.Token.{Token}
use Rattle.ms_text_grammar.specs.declared.frame.Fresh.{Fresh}
use Rattle.ms_text_grammar.specs.declared.frame.Fresh.TheVariants as fresh
use Rattle.ms_text_grammar.specs.declared.frame.Sign.TheVariants as sign
use Rattle.ms_text_grammar.specs.declared.surface.Index.{Index}
use Rattle.ms_text_grammar.specs.declared.surface.Index.TheVariants.{Number}
use Rattle.ms_text_grammar.specs.declared.surface.Plain.TheVariants as plain
use Rattle.ms_text_grammar.specs.declared.word.Word.TheVariants as word
use Rattle.ms_text_grammar.specs.Keywords.{align_is, offset_is}
use Rattle.ms_text_grammar.specs.Tokens.{is_id, is_keyword, is_number, is_open}
use Rattle.ms_text_grammar.specs.Numbers.{if_so}
use Rattle.ms_text_grammar.specs.Instructions.{behind, form_of, fresh_of, instruction, kind, kind_of, labels, labels_go, next_label, operands}
use Rattle.ms_text_grammar.specs.Advances.{word_sign}
use Rattle.ms_text_write.specs.Instrs.{kind_word}
use Rattle.ms_text_write.proofs.Pieces as piece
use Rattle.ms_text_write.proofs.Pieces.{Piece, Shows, linear_pieces, operand_pieces, segment_pieces}
use Rattle.ms_text_write.proofs.Said.{use_of}
use Rattle.ms_text_write.proofs.Sayable.{Narrow, SayableInstr}
use Rattle.ms_text_write.proofs.FormsOfWords.{form_given, form_is}
use Rattle.ms_text_write.proofs.Gives.{Gives, first, first_is, gives, known, single}
use Rattle.ms_text_write.proofs.GrammarOfParts.{all_steps, index_given, numbered, starts_id, starts_open}
use Rattle.ms_text_write.proofs.GrammarOfTypes.{no_start, unnamed_use_given}
use Rattle.ms_text_write.proofs.GrammarOfNumbers.{fronted, load_size, mem_arg_given, narrow_constant, store_size, wide_constant}

-- ---- what may not stand behind an instruction: something that could be an operand of it

abbrev pub is_operand : Kind → List ℕ → Bool
is_operand k w = is_open k || (is_id k || (is_number k || (fronted offset_is k w || fronted align_is k w)))

abbrev pub IsCalm : List Piece → Type 0
IsCalm P = first is_operand P ≡ false

or_left : (a b : Bool) → (a || b) ≡ false → a ≡ false
or_left true b e = absurd cc
or_left false b e = refl

or_right : (a b : Bool) → (a || b) ≡ false → b ≡ false
or_right true b e = absurd cc
or_right false b e = e

or_true : (a : Bool) → (a || true) ≡ true
or_true true = refl
or_true false = refl

-- the tests that this has in it
record IsNone (P : List Piece) : Type 0 where
  opening : starts_open P ≡ false
  id : starts_id P ≡ false
  index : first (λ k w. is_id k || is_number k) P ≡ false
  offset : first (fronted offset_is) P ≡ false
  align : first (fronted align_is) P ≡ false

none_of : (P : List Piece) → IsCalm P → IsNone P
none_of [] e = record { opening = refl; id = refl; index = refl; offset = refl; align = refl }
none_of (p ∷ ps) e =
    let front = fronted offset_is p.kind p.text in
    let back = fronted align_is p.kind p.text in
    let a = or_right (is_open p.kind) (is_id p.kind || (is_number p.kind || (front || back))) e in
    let b = or_right (is_id p.kind) (is_number p.kind || (front || back)) a in
    let c = or_right (is_number p.kind) (front || back) b in
    let id : is_id p.kind ≡ false = or_left (is_id p.kind) (is_number p.kind || (front || back)) a in
    let number : is_number p.kind ≡ false = or_left (is_number p.kind) (front || back) b in
    record {
      opening = or_left (is_open p.kind) (is_id p.kind || (is_number p.kind || (front || back))) e;
      id = id;
      index = rw (id, number) refl;
      offset = or_left front back c;
      align = or_right front back c;
    }

pub calm_opens : (P : List Piece) → IsCalm P → starts_open P ≡ false
calm_opens P e = (none_of P e).opening

pub calm_id : (P : List Piece) → IsCalm P → starts_id P ≡ false
calm_id P e = (none_of P e).id

-- ---- words of instructions are no operands, and begin no turn of another kind

abbrev pub IsOther : List ℕ → Type 0
IsOther text = (word_sign text ≡ sign.Other) × (is_operand Keyword text ≡ false)

numeric_other : (i : Numeric) → IsOther (numeric_word i)
unfolding opening_rows
numeric_other (Eqz W32) = (refl, refl)
numeric_other (Compare W32 op) = (refl, refl)
numeric_other (Unary W32 op) = (refl, refl)
numeric_other (Binary W32 op) = (refl, refl)
numeric_other (Eqz W64) = (refl, refl)
numeric_other (Compare W64 op) = (refl, refl)
numeric_other (Unary W64 op) = (refl, refl)
numeric_other (Binary W64 op) = (refl, refl)
numeric_other Wrap = (refl, refl)
numeric_other ExtendS = (refl, refl)
numeric_other ExtendU = (refl, refl)

load_other : (text : List ℕ) (op : LoadOp) → IsOther (load_word text op)
unfolding opening_rows
load_other text I32Load = (refl, refl)
load_other text I64Load = (refl, refl)
load_other text I32Load8S = (refl, refl)
load_other text I32Load8U = (refl, refl)
load_other text I32Load16S = (refl, refl)
load_other text I32Load16U = (refl, refl)
load_other text I64Load8S = (refl, refl)
load_other text I64Load8U = (refl, refl)
load_other text I64Load16S = (refl, refl)
load_other text I64Load16U = (refl, refl)
load_other text I64Load32S = (refl, refl)
load_other text I64Load32U = (refl, refl)

store_other : (text : List ℕ) (op : StoreOp) → IsOther (store_word text op)
unfolding opening_rows
store_other text I32Store = (refl, refl)
store_other text I64Store = (refl, refl)
store_other text I32Store8 = (refl, refl)
store_other text I32Store16 = (refl, refl)
store_other text I64Store8 = (refl, refl)
store_other text I64Store16 = (refl, refl)
store_other text I64Store32 = (refl, refl)

pub word_other : (i : Instr) → IsPlain i → IsOther (instr_word i)
unfolding opening_rows
word_other instr.Unreachable h = (refl, refl)
word_other instr.Nop h = (refl, refl)
word_other (instr.Block ty body) h = absurd h
word_other (instr.Loop ty body) h = absurd h
word_other (instr.If ty first other) h = absurd h
word_other (instr.Br l) h = (refl, refl)
word_other (instr.BrIf l) h = (refl, refl)
word_other (instr.BrTable targets) h = (refl, refl)
word_other instr.Return h = (refl, refl)
word_other (instr.Call x) h = (refl, refl)
word_other (instr.CallIndirect x) h = (refl, refl)
word_other instr.Drop h = (refl, refl)
word_other instr.Select h = (refl, refl)
word_other (instr.LocalGet x) h = (refl, refl)
word_other (instr.LocalSet x) h = (refl, refl)
word_other (instr.LocalTee x) h = (refl, refl)
word_other (instr.GlobalGet x) h = (refl, refl)
word_other (instr.GlobalSet x) h = (refl, refl)
word_other (instr.I32Const n) h = (refl, refl)
word_other (instr.I64Const n) h = (refl, refl)
word_other (instr.Numeric i) h = numeric_other i
word_other (instr.Linear (linear.Load op arg)) h = load_other _ op
word_other (instr.Linear (linear.Store op arg)) h = store_other _ op
word_other (instr.Linear linear.Size) h = (refl, refl)
word_other (instr.Linear linear.Grow) h = (refl, refl)
word_other (instr.Segment segment.Null) h = (refl, refl)
word_other (instr.Segment (segment.New k)) h = (refl, refl)
word_other (instr.Segment (segment.Free k)) h = (refl, refl)
word_other (instr.Segment (segment.Add scale)) h = (refl, refl)
word_other (instr.Segment segment.Slice) h = (refl, refl)
word_other (instr.Segment segment.Eq) h = (refl, refl)
word_other (instr.Segment segment.IsNull) h = (refl, refl)
word_other (instr.Segment segment.Diff) h = (refl, refl)
word_other (instr.Segment segment.LoadHandle) h = (refl, refl)
word_other (instr.Segment segment.StoreHandle) h = (refl, refl)
word_other (instr.Segment (segment.Load op)) h = load_other _ op
word_other (instr.Segment (segment.Store op)) h = store_other _ op
word_other (instr.Segment segment.Seal) h = (refl, refl)

-- ---- what an instruction is taken as

abbrev pub fresh_said : Instr → Fresh
fresh_said (instr.BrTable targets) = fresh.Plain (plain.BrTable (map Number (targets.labels ++ targets.default ∷ [])))
fresh_said (instr.CallIndirect x) = fresh.Indirect (use_of x)
fresh_said i = fresh_of i

-- ---- labels

-- one at least, and each of them a number of 32 bits
abbrev Room : List Index → List ℕ → Type 0
Room ls xs = (0 < length ls + length xs) × All Narrow xs

more_room : (ls : List Index) (x : ℕ) (xs : List ℕ) → Room ls (x ∷ xs) → Room (ls ++ Number x ∷ []) xs
more_room ls x xs r = let l = length-append ls (Number x ∷ []) in (omega (arith, l), All-tail Narrow x xs r.1)

labels_shown : (xs : List ℕ) (x : ℕ) → map piece.number xs ++ piece.number x ∷ [] ≡ map piece.number (xs ++ x ∷ [])
labels_shown [] x = refl
labels_shown (y ∷ ys) x = ap (λ l. piece.number y ∷ l) (labels_shown ys x)

some_labels : (xs : List ℕ) (x : ℕ) → 0 < length (xs ++ x ∷ [])
some_labels [] x = omega arith
some_labels (y ∷ ys) x = omega arith

all_narrow : (xs : List ℕ) (x : ℕ) → All Narrow xs → Narrow x → All Narrow (xs ++ x ∷ [])
all_narrow [] x h k = All-cons Narrow x [] k (All-nil Narrow)
all_narrow (y ∷ ys) x h k = All-cons Narrow y (ys ++ x ∷ []) (All-head Narrow y ys h) (all_narrow ys x (All-tail Narrow y ys h) k)

-- what stands behind the keyword of an instruction is given
abbrev IsGiven : (source : List ℕ) → Instr → List Piece → Type 0
IsGiven source i P = Gives source (behind source (form_is i)).spelled (operand_pieces i ++ P) (λ x. x ≡ fresh_said i) P

module _ {source : List ℕ} where
  goes_on : (ls : List Index) (x : ℕ) (P : List Piece) (s : List Token) → Shows source s (piece.number x ∷ P) → labels_go source ls s ≡ true
  goes_on ls x P s h = rw (first_is (λ k w. is_id k || is_number k) s (piece.number x ∷ P) h) (or_true (eqb (length ls) 0))

  ends : (ls : List Index) (Q : List Piece) → Room ls [] → first (λ k w. is_id k || is_number k) Q ≡ false → (s : List Token) → Shows source s Q → labels_go source ls s ≡ false
  ends ls Q r e s h = let some : eqb (length ls) 0 ≡ false = let k : 0 < length ls + 0 = r.0 in grind (arith, nat_tests) in rw (first_is (λ k w. is_id k || is_number k) s Q h, e, some) refl

  label_given : (ls : List Index) (x : ℕ) (xs : List ℕ) (P : List Piece) → Room ls (x ∷ xs) → Gives source (next_label source ls).spelled (piece.number x ∷ P) (λ y. y ≡ ls ++ Number x ∷ []) P
  unfolding next_label
  label_given ls x xs P r = known (index_given x (All-head Narrow x xs r.1)) (gives (λ y. y ≡ ls ++ Number x ∷ []) refl)

  labels_given : (xs : List ℕ) (Q : List Piece) → 0 < length xs → All Narrow xs → first (λ k w. is_id k || is_number k) Q ≡ false → Gives source (labels source).spelled (map piece.number xs ++ Q) (λ y. y ≡ map Number xs) Q
  unfolding labels
  labels_given xs Q some h e =
      all_steps (λ ls s. labels_go source ls s) (λ ls. next_label source ls) piece.number Number Room Q more_room goes_on (λ ls r s g. ends ls Q r e s g) label_given [] xs (omega arith, h)

  -- ---- operands

  kind_given : {P : List Piece} (k : Segments) → Gives source (kind source).spelled (piece.keyword (kind_word k) ∷ P) (λ x. x ≡ k) P
  unfolding kind
  kind_given Heap = single (λ k w. if_so (is_keyword k) (kind_of w)) Heap refl
  kind_given Frame = single (λ k w. if_so (is_keyword k) (kind_of w)) Frame refl

  linear_given : (i : Linear) (P : List Piece) → IsPlain (instr.Linear i) → SayableInstr (instr.Linear i) → IsNone P → IsGiven source (instr.Linear i) P
  unfolding behind operands
  linear_given (linear.Load op arg) P a h n = known (mem_arg_given (load_bytes op) arg P (load_size op) h a n.offset n.align) (gives (λ x. x ≡ fresh_of (instr.Linear (linear.Load op arg))) refl)
  linear_given (linear.Store op arg) P a h n = known (mem_arg_given (store_bytes op) arg P (store_size op) h a n.offset n.align) (gives (λ x. x ≡ fresh_of (instr.Linear (linear.Store op arg))) refl)
  linear_given linear.Size P a h n = gives (λ x. x ≡ fresh_of (instr.Linear linear.Size)) refl
  linear_given linear.Grow P a h n = gives (λ x. x ≡ fresh_of (instr.Linear linear.Grow)) refl

  segment_given : (i : Segment) (P : List Piece) → SayableInstr (instr.Segment i) → IsGiven source (instr.Segment i) P
  unfolding behind operands
  segment_given segment.Null P h = gives (λ x. x ≡ fresh_said (instr.Segment segment.Null)) refl
  segment_given (segment.New k) P h = known (kind_given k) (gives (λ x. x ≡ fresh_said (instr.Segment (segment.New k))) refl)
  segment_given (segment.Free k) P h = known (kind_given k) (gives (λ x. x ≡ fresh_said (instr.Segment (segment.Free k))) refl)
  segment_given (segment.Add scale) P h = known (numbered scale h) (gives (λ x. x ≡ fresh_said (instr.Segment (segment.Add scale))) refl)
  segment_given segment.Slice P h = gives (λ x. x ≡ fresh_said (instr.Segment segment.Slice)) refl
  segment_given segment.Eq P h = gives (λ x. x ≡ fresh_said (instr.Segment segment.Eq)) refl
  segment_given segment.IsNull P h = gives (λ x. x ≡ fresh_said (instr.Segment segment.IsNull)) refl
  segment_given segment.Diff P h = gives (λ x. x ≡ fresh_said (instr.Segment segment.Diff)) refl
  segment_given segment.LoadHandle P h = gives (λ x. x ≡ fresh_said (instr.Segment segment.LoadHandle)) refl
  segment_given segment.StoreHandle P h = gives (λ x. x ≡ fresh_said (instr.Segment segment.StoreHandle)) refl
  segment_given (segment.Load op) P h = gives (λ x. x ≡ fresh_said (instr.Segment (segment.Load op))) refl
  segment_given (segment.Store op) P h = gives (λ x. x ≡ fresh_said (instr.Segment (segment.Store op))) refl
  segment_given segment.Seal P h = gives (λ x. x ≡ fresh_said (instr.Segment segment.Seal)) refl

  operands_given : (i : Instr) (P : List Piece) → IsPlain i → SayableInstr i → IsNone P → IsGiven source i P
  unfolding behind operands
  operands_given instr.Unreachable P a h n = gives (λ x. x ≡ fresh_said instr.Unreachable) refl
  operands_given instr.Nop P a h n = gives (λ x. x ≡ fresh_said instr.Nop) refl
  operands_given (instr.Block ty body) P a h n = absurd a
  operands_given (instr.Loop ty body) P a h n = absurd a
  operands_given (instr.If ty first other) P a h n = absurd a
  operands_given (instr.Br l) P a h n = known (index_given l h) (gives (λ x. x ≡ fresh_said (instr.Br l)) refl)
  operands_given (instr.BrIf l) P a h n = known (index_given l h) (gives (λ x. x ≡ fresh_said (instr.BrIf l)) refl)
  operands_given (instr.BrTable targets) P a h n =
      let all = targets.labels ++ targets.default ∷ [] in
      let shown = labels_given all P (some_labels targets.labels targets.default) (all_narrow targets.labels targets.default h.0 h.1) n.index in
      subst (λ ps. Gives source (behind source (form_is (instr.BrTable targets))).spelled (ps ++ P) (λ x. x ≡ fresh_said (instr.BrTable targets)) P) (sym (labels_shown targets.labels targets.default))
      (known shown (gives (λ x. x ≡ fresh_said (instr.BrTable targets)) refl))
  operands_given instr.Return P a h n = gives (λ x. x ≡ fresh_said instr.Return) refl
  operands_given (instr.Call l) P a h n = known (index_given l h) (gives (λ x. x ≡ fresh_said (instr.Call l)) refl)
  operands_given (instr.CallIndirect x) P a h n = known (unnamed_use_given x P h (no_start word.Param P n.opening) (no_start word.Result P n.opening)) (gives (λ y. y ≡ fresh_said (instr.CallIndirect x)) refl)
  operands_given instr.Drop P a h n = gives (λ x. x ≡ fresh_said instr.Drop) refl
  operands_given instr.Select P a h n = gives (λ x. x ≡ fresh_said instr.Select) refl
  operands_given (instr.LocalGet l) P a h n = known (index_given l h) (gives (λ x. x ≡ fresh_said (instr.LocalGet l)) refl)
  operands_given (instr.LocalSet l) P a h n = known (index_given l h) (gives (λ x. x ≡ fresh_said (instr.LocalSet l)) refl)
  operands_given (instr.LocalTee l) P a h n = known (index_given l h) (gives (λ x. x ≡ fresh_said (instr.LocalTee l)) refl)
  operands_given (instr.GlobalGet l) P a h n = known (index_given l h) (gives (λ x. x ≡ fresh_said (instr.GlobalGet l)) refl)
  operands_given (instr.GlobalSet l) P a h n = known (index_given l h) (gives (λ x. x ≡ fresh_said (instr.GlobalSet l)) refl)
  operands_given (instr.I32Const z) P a h n = known (narrow_constant z h) (gives (λ x. x ≡ fresh_said (instr.I32Const z)) refl)
  operands_given (instr.I64Const z) P a h n = known (wide_constant z h) (gives (λ x. x ≡ fresh_said (instr.I64Const z)) refl)
  operands_given (instr.Numeric i) P a h n = gives (λ x. x ≡ fresh_said (instr.Numeric i)) refl
  operands_given (instr.Linear i) P a h n = linear_given i P a h n
  operands_given (instr.Segment i) P a h n = segment_given i P h

  pub instruction_given : (i : Instr) (P : List Piece) → IsPlain i → SayableInstr i → IsCalm P → Gives source (instruction source).spelled (piece.keyword (instr_word i) ∷ (operand_pieces i ++ P)) (λ x. x ≡ fresh_said i) P
  unfolding instruction
  instruction_given i P a h e = known (single (λ k w. if_so (is_keyword k) (form_of w)) (form_is i) (form_given i a)) (operands_given i P a h (none_of P e))
