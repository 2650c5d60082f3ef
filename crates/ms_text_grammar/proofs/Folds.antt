-- What trees of instructions spell is spelled turn by turn, as the same instructions.
use Rattle.std.proofs.Common.{◌≡◌, ◌≢◌, ℕ, suc, ◌-◌, ◌==◌, ◌&&◌, Bool, true, false, List, [], ◌∷◌, ◌++◌, length, Option, Some, None, refl, sym, ap, subst, ◌∙◌, append_assoc, arith}
use Rattle.std.specs.Prelude.{codes}
use Rattle.std.specs.Str.{bytes_eq}
use Rattle.std.proofs.lemmas.Bool.Decides.{nat_tests}
use Rattle.std.proofs.lemmas.List.{append-nil}
use Rattle.std.proofs.lemmas.Slice.Eq.{bytes_eq-Decides}
use Rattle.ms_bytes.specs.Runs.{Runs, goes, rests}
use Rattle.ms_types.specs.declared.types.ValType.{ValType}
use Rattle.ms_text_lex.specs.declared.token.Kind.{Kind}
use Rattle.ms_text_lex.specs.declared.token.Kind.TheVariants as kinds
use Rattle.ms_text_lex.specs.declared.token.Token.{Token}
use Rattle.ms_text_lex.specs.Tokens.{text_of}
use Rattle.ms_module.specs.declared.builder.Opening.{Opening}
use Rattle.ms_module.specs.declared.builder.Opening.TheVariants.{Block, If, Loop}
use Rattle.ms_module.specs.Instructions.{else_word, end_word, load_rows, numeric_rows, opening_rows, operand_rows, segment_load_rows, segment_rows, segment_store_rows, store_rows}
use Rattle.ms_text_grammar.specs.declared.fault.TextFault.{TextFault}
use Rattle.ms_text_grammar.specs.declared.frame.Frame.{Frame}
use Rattle.ms_text_grammar.specs.declared.frame.Frame.TheVariants.{Arm, Condition, Flat, Folded, Operands, Other, Then}
use Rattle.ms_text_grammar.specs.declared.frame.Fresh.{Fresh}
use Rattle.ms_text_grammar.specs.declared.frame.Sign.{Sign}
use Rattle.ms_text_grammar.specs.declared.frame.Sign.TheVariants as sign
use Rattle.ms_text_grammar.specs.declared.surface.Op.{Op}
use Rattle.ms_text_grammar.specs.declared.surface.Op.TheVariants as op
use Rattle.ms_text_grammar.specs.declared.surface.TypeUse.{TypeUse}
use Rattle.ms_text_grammar.specs.declared.word.Word.TheVariants as word
use Rattle.ms_text_grammar.specs.Keywords.{spelling}
use Rattle.ms_text_grammar.specs.Tokens.{closes, is_close, is_keyword, is_open, is_word, next}
use Rattle.ms_text_grammar.specs.Faults.{kept}
use Rattle.ms_text_grammar.specs.Numbers.{if_so}
use Rattle.ms_text_grammar.specs.Parts.{closing, keyword, opening}
use Rattle.ms_text_grammar.specs.Instructions.{Form_, form_of, form_rows, instruction}
use Rattle.ms_text_grammar.specs.Advances.{State, advance_on, closed, condition, condition_on, else_arm, flat_block, flat_else, flat_plain, folded, folded_block, folded_on, folded_plain, heading, instructions, marked, may_else, plain_of, sign_of, uses_with, word_sign}
use Rattle.ms_text_grammar.specs.Bodies.{advance, body, body_goes, folded_body, inside_goes}
use Rattle.ms_text_grammar.specs.refinement.Folding.{Form, Left, LeftWord, Mark, Part, Right, SpellsInstrs}
use Rattle.ms_text_grammar.specs.refinement.Folding.Part.{many, one}
use Rattle.ms_text_grammar.specs.refinement.Folding as said

-- ---- what stands in front of what is spelled

pub kept_passes : (b : Bool) (t x : Token) → kept b t ≡ Some x → b ≡ true
kept_passes true t x e = refl
kept_passes false t x e = absurd cc

pub both_pass : (a b : Bool) → (a && b) ≡ true → (a ≡ true) × (b ≡ true)
both_pass true b e = (refl, e)
both_pass false b e = absurd cc

pub so_passes : {A : Type 0} (b : Bool) (o : Option A) (x : A) → if_so b o ≡ Some x → (b ≡ true) × (o ≡ Some x)
so_passes true o x e = (refl, e)
so_passes false o x e = absurd cc

-- no instruction has the word of a block
not_end : form_of end_word ≡ None
unfolding form_rows operand_rows numeric_rows load_rows store_rows segment_rows segment_load_rows segment_store_rows
not_end = refl

not_else : form_of else_word ≡ None
unfolding form_rows operand_rows numeric_rows load_rows store_rows segment_rows segment_load_rows segment_store_rows
not_else = refl

not_then : form_of (spelling word.Then) ≡ None
unfolding form_rows operand_rows numeric_rows load_rows store_rows segment_rows segment_load_rows segment_store_rows
not_then = refl

not_block : (form_of (codes "block") ≡ None) × (form_of (codes "loop") ≡ None) × (form_of (codes "if") ≡ None)
unfolding form_rows operand_rows numeric_rows load_rows store_rows segment_rows segment_load_rows segment_store_rows
not_block = (refl, refl, refl)

pub apart : (text other : List ℕ) (f : Form_) → form_of text ≡ Some f → form_of other ≡ None → bytes_eq text other ≡ false
apart text other f e none = go (bytes_eq text other) refl where
  go : (b : Bool) → bytes_eq text other ≡ b → b ≡ false
  go false h = refl
  go true h = let is : text ≡ other = (bytes_eq-Decides text other).0 h in let same : form_of other ≡ Some f = rw (← is) e in absurd cc

-- an instruction's word is none of a block
plain_word : (text : List ℕ) (f : Form_) → form_of text ≡ Some f → word_sign text ≡ sign.Other
unfolding opening_rows
plain_word text f e =
    rw (apart text end_word f e not_end, apart text else_word f e not_else, apart text (spelling word.Then) f e not_then, apart text (codes "block") f e not_block.0, apart text (codes "loop") f e not_block.1, apart text (codes "if") f e not_block.2) refl

module _ (source : List ℕ) where
  open_sign : (t : Token) (ts : List Token) → is_open t.kind ≡ true → sign_of source (t ∷ ts) ≡ sign.Left
  open_sign t ts e = rw e refl

  close_sign : (t : Token) (ts : List Token) → is_close t.kind ≡ true → sign_of source (t ∷ ts) ≡ sign.Right
  close_sign t ts e = go t.kind refl e where
    go : (k : Kind) → t.kind ≡ k → is_close k ≡ true → sign_of source (t ∷ ts) ≡ sign.Right
    go kinds.Open h c = absurd cc
    go kinds.Close h c = rw h refl
    go kinds.Id h c = absurd cc
    go kinds.Keyword h c = absurd cc
    go kinds.Number h c = absurd cc
    go kinds.Text h c = absurd cc
    go kinds.Reserved h c = absurd cc

  pub key_sign : (t : Token) (ts : List Token) → is_keyword t.kind ≡ true → sign_of source (t ∷ ts) ≡ word_sign (text_of source t)
  key_sign t ts e = go t.kind refl e where
    go : (k : Kind) → t.kind ≡ k → is_keyword k ≡ true → sign_of source (t ∷ ts) ≡ word_sign (text_of source t)
    go kinds.Open h c = absurd cc
    go kinds.Close h c = absurd cc
    go kinds.Id h c = absurd cc
    go kinds.Keyword h c = rw h refl
    go kinds.Number h c = absurd cc
    go kinds.Text h c = absurd cc
    go kinds.Reserved h c = absurd cc

  -- a sign that is no closing parenthesis
  abbrev IsRight : Sign → Bool
  IsRight sign.Right = true
  IsRight sign.Left = false
  IsRight sign.Ends = false
  IsRight sign.Elses = false
  IsRight sign.Thens = false
  IsRight (sign.Heads o) = false
  IsRight sign.Other = false

  not_closing : (s : List Token) (sg : Sign) → sign_of source s ≡ sg → IsRight sg ≡ false → closes s ≡ false
  not_closing [] sg e n = refl
  not_closing (t ∷ ts) sg e n = go (is_close t.kind) refl where
    go : (b : Bool) → is_close t.kind ≡ b → b ≡ false
    go false h = refl
    go true h = let right : sg ≡ sign.Right = sym e ∙ close_sign t ts h in let wrong : true ≡ false = sym (ap IsRight right) ∙ n in absurd cc

  left_sign : (s t : List Token) (x : Token) → (opening source).spelled s x t → sign_of source s ≡ sign.Left
  left_sign s t x h = subst (λ (l : List Token). sign_of source l ≡ sign.Left) (sym h.1) (open_sign h.0 t (kept_passes (is_open h.0.kind) h.0 x h.2))

  right_sign : (s t : List Token) (x : Token) → (closing source).spelled s x t → sign_of source s ≡ sign.Right
  right_sign s t x h = subst (λ (l : List Token). sign_of source l ≡ sign.Right) (sym h.1) (close_sign h.0 t (kept_passes (is_close h.0.kind) h.0 x h.2))

  keyword_sign : (text : List ℕ) (s t : List Token) (x : Token) → (keyword source text).spelled s x t → sign_of source s ≡ word_sign text
  keyword_sign text s t x h =
      let p = both_pass (is_keyword h.0.kind) (bytes_eq (text_of source h.0) text) (kept_passes (is_word source text h.0) h.0 x h.2) in
      let is : text_of source h.0 ≡ text = (bytes_eq-Decides (text_of source h.0) text).0 p.1 in
      subst (λ (l : List Token). sign_of source l ≡ word_sign text) (sym h.1) (key_sign h.0 t p.0 ∙ ap word_sign is)

  plain_sign : (s t : List Token) (i : Fresh) → (instruction source).spelled s i t → sign_of source s ≡ sign.Other
  unfolding instruction
  plain_sign s t i h =
      let e = h.2.0 in
      let p = so_passes (is_keyword e.kind) (form_of (text_of source e)) h.0 h.2.2 in
      subst (λ (l : List Token). sign_of source l ≡ sign.Other) (sym h.2.1) (key_sign e h.1 p.0 ∙ plain_word (text_of source e) h.0 p.1)

-- ---- turns

abbrev pub at : List Frame → ℕ → List TypeUse → List Op → State
at fs d us ops = record { frames = fs; blocks = d; uses = us; ops = ops }

-- frames in which instructions may stand
abbrev pub HoldsAny : List Frame → Type 0
HoldsAny [] = Unit {0}
HoldsAny (Flat label may ∷ fs) = Unit {0}
HoldsAny (Folded ∷ fs) = Unit {0}
HoldsAny (Arm ∷ fs) = Unit {0}
HoldsAny (Operands p ∷ fs) = ⊥
HoldsAny (Condition label ty ∷ fs) = ⊥
HoldsAny (Then ∷ fs) = ⊥
HoldsAny (Other ∷ fs) = ⊥

-- and folded ones
abbrev pub HoldsFold : List Frame → Type 0
HoldsFold (Operands p ∷ fs) = Unit {0}
HoldsFold (Condition label ty ∷ fs) = Unit {0}
HoldsFold [] = Unit {0}
HoldsFold (Flat label may ∷ fs) = Unit {0}
HoldsFold (Folded ∷ fs) = Unit {0}
HoldsFold (Arm ∷ fs) = Unit {0}
HoldsFold (Then ∷ fs) = ⊥
HoldsFold (Other ∷ fs) = ⊥

abbrev Holds : Form → List Frame → Type 0
Holds said.any fs = HoldsAny fs
Holds said.fold fs = HoldsFold fs

pub fold_too : (fs : List Frame) → HoldsAny fs → HoldsFold fs
fold_too [] h = tt
fold_too (Flat label may ∷ fs) h = tt
fold_too (Folded ∷ fs) h = tt
fold_too (Arm ∷ fs) h = tt
fold_too (Operands p ∷ fs) h = absurd h
fold_too (Condition label ty ∷ fs) h = absurd h
fold_too (Then ∷ fs) h = absurd h
fold_too (Other ∷ fs) h = absurd h

module _ (source : List ℕ) (most : ℕ) where
  plain_on : (fs : List Frame) (d : ℕ) (us : List TypeUse) (ops : List Op) (s t : List Token) (i : Fresh) → HoldsAny fs → (instruction source).spelled s i t
      → (advance_on source most (at fs d us ops) fs sign.Other).spelled s (at fs d (uses_with us i) (ops ++ op.Plain (plain_of us i) ∷ [])) t
  unfolding advance_on instructions flat_plain
  plain_on [] d us ops s t i p h = (i, t, h, (refl, refl))
  plain_on (Flat label may ∷ fs) d us ops s t i p h = (i, t, h, (refl, refl))
  plain_on (Folded ∷ fs) d us ops s t i p h = (i, t, h, (refl, refl))
  plain_on (Arm ∷ fs) d us ops s t i p h = (i, t, h, (refl, refl))
  plain_on (Operands x ∷ fs) d us ops s t i p h = absurd p
  plain_on (Condition label ty ∷ fs) d us ops s t i p h = absurd p
  plain_on (Then ∷ fs) d us ops s t i p h = absurd p
  plain_on (Other ∷ fs) d us ops s t i p h = absurd p

  block_on : (fs : List Frame) (d : ℕ) (us : List TypeUse) (ops : List Op) (s t : List Token) (o : Opening) (label : Option Token) (ty : Option ValType) → HoldsAny fs → (heading source most d).spelled s (label, ty) t
      → (advance_on source most (at fs d us ops) fs (sign.Heads o)).spelled s (at (Flat label (may_else o) ∷ fs) (suc d) us (ops ++ op.Begin o label ty ∷ [])) t
  unfolding advance_on instructions flat_block
  block_on [] d us ops s t o label ty p h = ((label, ty), t, h, (refl, refl))
  block_on (Flat l may ∷ fs) d us ops s t o label ty p h = ((label, ty), t, h, (refl, refl))
  block_on (Folded ∷ fs) d us ops s t o label ty p h = ((label, ty), t, h, (refl, refl))
  block_on (Arm ∷ fs) d us ops s t o label ty p h = ((label, ty), t, h, (refl, refl))
  block_on (Operands x ∷ fs) d us ops s t o label ty p h = absurd p
  block_on (Condition l y ∷ fs) d us ops s t o label ty p h = absurd p
  block_on (Then ∷ fs) d us ops s t o label ty p h = absurd p
  block_on (Other ∷ fs) d us ops s t o label ty p h = absurd p

  -- what stands behind the parenthesis of a folded instruction
  abbrev Begins : Sign → Type 0
  Begins (sign.Heads o) = Unit {0}
  Begins sign.Other = Unit {0}
  Begins sign.Left = ⊥
  Begins sign.Right = ⊥
  Begins sign.Ends = ⊥
  Begins sign.Elses = ⊥
  Begins sign.Thens = ⊥

  fold_on : (fs : List Frame) (d : ℕ) (us : List TypeUse) (ops : List Op) (s m t : List Token) (x : Token) (sg : Sign) (next : State) → HoldsFold fs → (opening source).spelled s x m → sign_of source m ≡ sg → Begins sg
      → (folded_on source most (at fs d us ops) sg).spelled m next t → (advance_on source most (at fs d us ops) fs sign.Left).spelled s next t
  unfolding advance_on instructions folded condition condition_on
  fold_on [] d us ops s m t x sg next p o e b h = (x, m, o, subst (λ g. (folded_on source most (at [] d us ops) g).spelled m next t) (sym e) h)
  fold_on (Flat l may ∷ fs) d us ops s m t x sg next p o e b h = (x, m, o, subst (λ g. (folded_on source most (at (Flat l may ∷ fs) d us ops) g).spelled m next t) (sym e) h)
  fold_on (Folded ∷ fs) d us ops s m t x sg next p o e b h = (x, m, o, subst (λ g. (folded_on source most (at (Folded ∷ fs) d us ops) g).spelled m next t) (sym e) h)
  fold_on (Arm ∷ fs) d us ops s m t x sg next p o e b h = (x, m, o, subst (λ g. (folded_on source most (at (Arm ∷ fs) d us ops) g).spelled m next t) (sym e) h)
  fold_on (Operands y ∷ fs) d us ops s m t x sg next p o e b h = (x, m, o, subst (λ g. (folded_on source most (at (Operands y ∷ fs) d us ops) g).spelled m next t) (sym e) h)
  fold_on (Condition l y ∷ fs) d us ops s m t x (sign.Heads z) next p o e b h = (x, m, o, subst (λ g. (condition_on source most l y fs (at (Condition l y ∷ fs) d us ops) g).spelled m next t) (sym e) h)
  fold_on (Condition l y ∷ fs) d us ops s m t x sign.Other next p o e b h = (x, m, o, subst (λ g. (condition_on source most l y fs (at (Condition l y ∷ fs) d us ops) g).spelled m next t) (sym e) h)
  fold_on (Condition l y ∷ fs) d us ops s m t x sign.Left next p o e b h = absurd b
  fold_on (Condition l y ∷ fs) d us ops s m t x sign.Right next p o e b h = absurd b
  fold_on (Condition l y ∷ fs) d us ops s m t x sign.Ends next p o e b h = absurd b
  fold_on (Condition l y ∷ fs) d us ops s m t x sign.Elses next p o e b h = absurd b
  fold_on (Condition l y ∷ fs) d us ops s m t x sign.Thens next p o e b h = absurd b
  fold_on (Then ∷ fs) d us ops s m t x sg next p o e b h = absurd p
  fold_on (Other ∷ fs) d us ops s m t x sg next p o e b h = absurd p

  then_on : (fs : List Frame) (d : ℕ) (us : List TypeUse) (ops : List Op) (s t : List Token) (label : Option Token) (ty : Option ValType) → LeftWord source most (spelling word.Then) s t
      → (advance_on source most (at (Condition label ty ∷ fs) d us ops) (Condition label ty ∷ fs) sign.Left).spelled s (at (Arm ∷ Then ∷ fs) (suc d) us (ops ++ op.Begin If label ty ∷ [])) t
  unfolding advance_on condition condition_on
  then_on fs d us ops s t label ty h =
      let e : sign_of source h.0 ≡ sign.Thens = keyword_sign source (spelling word.Then) h.0 t h.2 h.3 in
      (h.1.0, h.0, h.1.1, subst (λ g. (condition_on source most label ty fs (at (Condition label ty ∷ fs) d us ops) g).spelled h.0 (at (Arm ∷ Then ∷ fs) (suc d) us (ops ++ op.Begin If label ty ∷ [])) t) (sym e) (h.2, t, h.3, (refl, refl)))

  else_on : (fs : List Frame) (d : ℕ) (us : List TypeUse) (ops : List Op) (s t : List Token) → LeftWord source most else_word s t
      → (advance_on source most (at (Then ∷ fs) d us ops) (Then ∷ fs) sign.Left).spelled s (at (Arm ∷ Other ∷ fs) d us (ops ++ op.Else ∷ [])) t
  unfolding advance_on else_arm
  else_on fs d us ops s t h = (h.1.0, h.0, h.1.1, (h.2, t, h.3, (refl, refl)))

  end_on : (label : Option Token) (may : Bool) (fs : List Frame) (d : ℕ) (us : List TypeUse) (ops : List Op) (s t : List Token) → Mark source most end_word label s t
      → (advance_on source most (at (Flat label may ∷ fs) (suc d) us ops) (Flat label may ∷ fs) sign.Ends).spelled s (at fs (suc d - 1) us (ops ++ op.End ∷ [])) t
  unfolding advance_on marked
  end_on label may fs d us ops s t h = (h.0, h.1, h.2, (h.3, t, h.4, (refl, refl)))

  flat_else_on : (label : Option Token) (fs : List Frame) (d : ℕ) (us : List TypeUse) (ops : List Op) (s t : List Token) → Mark source most else_word label s t
      → (advance_on source most (at (Flat label true ∷ fs) d us ops) (Flat label true ∷ fs) sign.Elses).spelled s (at (Flat label false ∷ fs) d us (ops ++ op.Else ∷ [])) t
  unfolding advance_on flat_else marked
  flat_else_on label fs d us ops s t h = (h.0, h.1, h.2, (h.3, t, h.4, (refl, refl)))

  -- what a closing parenthesis leaves
  abbrev Closed : Frame → List Frame → ℕ → List TypeUse → List Op → State
  Closed (Operands p) fs d us ops = at fs d us (ops ++ op.Plain p ∷ [])
  Closed Folded fs d us ops = at fs (d - 1) us (ops ++ op.End ∷ [])
  Closed Arm fs d us ops = at fs d us ops
  Closed Then fs d us ops = at fs (d - 1) us (ops ++ op.End ∷ [])
  Closed Other fs d us ops = at fs (d - 1) us (ops ++ op.End ∷ [])
  Closed (Flat label may) fs d us ops = at fs d us ops
  Closed (Condition label ty) fs d us ops = at fs d us ops

  abbrev IsClosed : Frame → Type 0
  IsClosed (Flat label may) = ⊥
  IsClosed (Condition label ty) = ⊥
  IsClosed Folded = Unit {0}
  IsClosed Arm = Unit {0}
  IsClosed Then = Unit {0}
  IsClosed Other = Unit {0}
  IsClosed (Operands p) = Unit {0}

  close_on : (f : Frame) (fs : List Frame) (d : ℕ) (us : List TypeUse) (ops : List Op) (s t : List Token) → IsClosed f → Right source most s t
      → (advance_on source most (at (f ∷ fs) d us ops) (f ∷ fs) sign.Right).spelled s (Closed f fs d us ops) t
  unfolding advance_on instructions closed
  close_on (Operands p) fs d us ops s t c h = (h.0, t, h.1, (refl, refl))
  close_on Folded fs d us ops s t c h = (h.0, t, h.1, (refl, refl))
  close_on Arm fs d us ops s t c h = (h.0, t, h.1, (refl, refl))
  close_on Then fs d us ops s t c h = (h.0, t, h.1, (refl, refl))
  close_on Other fs d us ops s t c h = (h.0, t, h.1, (refl, refl))
  close_on (Flat label may) fs d us ops s t c h = absurd c
  close_on (Condition label ty) fs d us ops s t c h = absurd c

  -- ---- runs of turns

  module _ (going : State → List Token → Bool) (deep : (f : Frame) (fs : List Frame) (d : ℕ) (us : List TypeUse) (ops : List Op) (s : List Token) → going (at (f ∷ fs) d us ops) s ≡ true) where
    -- from the one state and text to the other
    record Leads (a : State) (s : List Token) (b : State) (t : List Token) : Type 0 where
      pub on : (last : State) (u : List Token) → Runs {F = TextFault} going (advance source most) b t last u → Runs {F = TextFault} going (advance source most) a s last u

    stays : {a : State} {s : List Token} → Leads a s a s
    stays = record { on = λ last u r. r }

    infixr 5 ◌&◌
    ◌&◌ : {a b c : State} {s t u : List Token} → Leads a s b t → Leads b t c u → Leads a s c u
    f & g = record { on = λ last u r. f.on last u (g.on last u r) }

    turn : {a b : State} {s t : List Token} (sg : Sign) → going a s ≡ true → sign_of source s ≡ sg → (advance_on source most a a.frames sg).spelled s b t → Leads a s b t
    unfolding advance
    turn {a = a} {b = b} {s = s} {t = t} sg g e h = record { on = λ last u r. goes b g (subst (λ x. (advance_on source most a a.frames x).spelled s b t) (sym e) h) r }

    -- the same state, put together otherwise
    same : {fs : List Frame} {us : List TypeUse} {a : State} {s t : List Token} (d e : ℕ) (xs ys : List Op) → d ≡ e → xs ≡ ys → Leads a s (at fs d us xs) t → Leads a s (at fs e us ys) t
    same {fs = fs} {us = us} {a = a} {s = s} {t = t} d e xs ys p q f =
        subst (λ (n : ℕ). Leads a s (at fs n us ys) t) p (subst (λ (l : List Op). Leads a s (at fs d us l) t) q f)

    abbrev On : List Frame → Type 0
    On fs = (d : ℕ) (us : List TypeUse) (ops : List Op) (s : List Token) → closes s ≡ false → going (at fs d us ops) s ≡ true

    inside : (f : Frame) (fs : List Frame) → On (f ∷ fs)
    inside f fs = λ d us ops s e. deep f fs d us ops s

    -- where the frames hold such instructions, turns take them
    abbrev Taken : Form → ℕ → List TypeUse → List Token → List TypeUse → List Op → List Token → Type 0
    Taken f d us s vs os t = (fs : List Frame) (ops : List Op) → Holds f fs → On fs → Leads (at fs d us ops) s (at fs d vs (ops ++ os)) t

    -- how a folded instruction is begun, and that turns lead on from there
    record Begun (fs : List Frame) (d : ℕ) (us : List TypeUse) (ops : List Op) (s : List Token) (b : State) (t : List Token) : Type 0 where
      pub inner : List Token
      pub left : Left source most s inner
      pub sg : Sign
      pub is : sign_of source inner ≡ sg
      pub begins : Begins sg
      pub next : State
      pub behind : List Token
      pub first : (folded_on source most (at fs d us ops) sg).spelled inner next behind
      pub rest : Leads next behind b t

    abbrev PartTaken : Part → ℕ → List TypeUse → List Token → List TypeUse → List Op → List Token → Type 0
    PartTaken (one said.any) d us s vs os t = Taken said.any d us s vs os t
    PartTaken (one said.fold) d us s vs os t = (fs : List Frame) (ops : List Op) → Begun fs d us ops s (at fs d vs (ops ++ os)) t
    PartTaken (many f) d us s vs os t = Taken f d us s vs os t

    close : (f : Frame) (fs : List Frame) (d : ℕ) (us : List TypeUse) (ops : List Op) {s t : List Token} → IsClosed f → Right source most s t → Leads (at (f ∷ fs) d us ops) s (Closed f fs d us ops) t
    close f fs d us ops {s = s} {t = t} c h = turn sign.Right (deep f fs d us ops s) (right_sign source s t h.0 h.1) (close_on f fs d us ops s t c h)

    ends : (label : Option Token) (may : Bool) (fs : List Frame) (d : ℕ) (us : List TypeUse) (ops : List Op) {s t : List Token} → Mark source most end_word label s t
        → Leads (at (Flat label may ∷ fs) (suc d) us ops) s (at fs (suc d - 1) us (ops ++ op.End ∷ [])) t
    ends label may fs d us ops {s = s} {t = t} h = turn sign.Ends (deep (Flat label may) fs (suc d) us ops s) (keyword_sign source end_word s h.1 h.0 h.2) (end_on label may fs d us ops s t h)

    elses : (label : Option Token) (fs : List Frame) (d : ℕ) (us : List TypeUse) (ops : List Op) {s t : List Token} → Mark source most else_word label s t
        → Leads (at (Flat label true ∷ fs) d us ops) s (at (Flat label false ∷ fs) d us (ops ++ op.Else ∷ [])) t
    elses label fs d us ops {s = s} {t = t} h = turn sign.Elses (deep (Flat label true) fs d us ops s) (keyword_sign source else_word s h.1 h.0 h.2) (flat_else_on label fs d us ops s t h)

    -- where the frames hold folded instructions, a turn begins it
    from_begun : (fs : List Frame) (d : ℕ) (us : List TypeUse) (ops : List Op) {s t : List Token} {b : State} → HoldsFold fs → On fs → Begun fs d us ops s b t → Leads (at fs d us ops) s b t
    from_begun fs d us ops {s = s} p on b =
        let left = left_sign source s b.inner b.left.0 b.left.1 in
        turn sign.Left (on d us ops s (not_closing source s sign.Left left refl)) left (fold_on fs d us ops s b.inner b.behind b.left.0 b.sg b.next p b.left.1 b.is b.begins b.first) & b.rest

    -- ---- operations one behind the other

    lists_block : (ops os : List Op) (b e : Op) → ((ops ++ b ∷ []) ++ os) ++ e ∷ [] ≡ ops ++ (b ∷ (os ++ e ∷ []))
    lists_block ops os b e = simp append_assoc refl

    lists_else : (ops os ps : List Op) (b l e : Op) → ((((ops ++ b ∷ []) ++ os) ++ l ∷ []) ++ ps) ++ e ∷ [] ≡ ops ++ (b ∷ (os ++ l ∷ (ps ++ e ∷ [])))
    lists_else ops os ps b l e = simp append_assoc refl

    lists_if : (ops cs os : List Op) (b e : Op) → (((ops ++ cs) ++ b ∷ []) ++ os) ++ e ∷ [] ≡ ops ++ (cs ++ b ∷ (os ++ e ∷ []))
    lists_if ops cs os b e = simp append_assoc refl

    lists_if_else : (ops cs os ps : List Op) (b l e : Op) → (((((ops ++ cs) ++ b ∷ []) ++ os) ++ l ∷ []) ++ ps) ++ e ∷ [] ≡ ops ++ (cs ++ b ∷ (os ++ l ∷ (ps ++ e ∷ [])))
    lists_if_else ops cs os ps b l e = simp append_assoc refl

    one_less : (d : ℕ) → suc d - 1 ≡ d
    one_less d = omega arith

    folded_head_on : (fs : List Frame) (d : ℕ) (us : List TypeUse) (ops : List Op) (o : Opening) (label : Option Token) (ty : Option ValType) (s t : List Token) → o ≢ If → (heading source most d).spelled s (label, ty) t
        → (folded_on source most (at fs d us ops) (sign.Heads o)).spelled s (at (Folded ∷ fs) (suc d) us (ops ++ op.Begin o label ty ∷ [])) t
    unfolding folded_on folded_block
    folded_head_on fs d us ops Block label ty s t n h = ((label, ty), t, h, (refl, refl))
    folded_head_on fs d us ops Loop label ty s t n h = ((label, ty), t, h, (refl, refl))
    folded_head_on fs d us ops If label ty s t n h = absurd (n refl)

    if_head_on : (fs : List Frame) (d : ℕ) (us : List TypeUse) (ops : List Op) (label : Option Token) (ty : Option ValType) (s t : List Token) → (heading source most d).spelled s (label, ty) t
        → (folded_on source most (at fs d us ops) (sign.Heads If)).spelled s (at (Condition label ty ∷ fs) d us ops) t
    unfolding folded_on folded_block
    if_head_on fs d us ops label ty s t h = ((label, ty), t, h, (refl, refl))

    plain_head_on : (fs : List Frame) (d : ℕ) (us : List TypeUse) (ops : List Op) (i : Fresh) (s t : List Token) → (instruction source).spelled s i t
        → (folded_on source most (at fs d us ops) sign.Other).spelled s (at (Operands (plain_of us i) ∷ fs) d (uses_with us i) ops) t
    unfolding folded_on folded_plain
    plain_head_on fs d us ops i s t h = (i, t, h, (refl, refl))

    thens : (fs : List Frame) (d : ℕ) (us : List TypeUse) (ops : List Op) (label : Option Token) (ty : Option ValType) {s t : List Token} → LeftWord source most (spelling word.Then) s t
        → Leads (at (Condition label ty ∷ fs) d us ops) s (at (Arm ∷ Then ∷ fs) (suc d) us (ops ++ op.Begin If label ty ∷ [])) t
    thens fs d us ops label ty {s = s} {t = t} h = turn sign.Left (deep (Condition label ty) fs d us ops s) (left_sign source s h.0 h.1.0 h.1.1) (then_on fs d us ops s t label ty h)

    other_arm : (fs : List Frame) (d : ℕ) (us : List TypeUse) (ops : List Op) {s t : List Token} → LeftWord source most else_word s t → Leads (at (Then ∷ fs) d us ops) s (at (Arm ∷ Other ∷ fs) d us (ops ++ op.Else ∷ [])) t
    other_arm fs d us ops {s = s} {t = t} h = turn sign.Left (deep Then fs d us ops s) (left_sign source s h.0 h.1.0 h.1.1) (else_on fs d us ops s t h)

    taken : {p : Part} {d : ℕ} {us vs : List TypeUse} {s t : List Token} {os : List Op} → SpellsInstrs source most p d us s vs os t → PartTaken p d us s vs os t
    taken {d = d} (said.none {us = us}) = λ fs ops p on. same d d ops (ops ++ []) refl (sym (append-nil ops)) stays
    taken {d = d} (said.more {f = said.any} {os = os} {ps = ps} a b) = λ fs ops p on.
        taken a fs ops p on & same d d ((ops ++ os) ++ ps) (ops ++ (os ++ ps)) refl (append_assoc ops os ps) (taken b fs (ops ++ os) p on)
    taken {d = d} {us = us} (said.more {f = said.fold} {os = os} {ps = ps} a b) = λ fs ops p on.
        from_begun fs d us ops p on (taken a fs ops) & same d d ((ops ++ os) ++ ps) (ops ++ (os ++ ps)) refl (append_assoc ops os ps) (taken b fs (ops ++ os) p on)
    taken {d = d} {us = us} {s = s} {t = t} (said.plain i h) = λ fs ops p on.
        let e = plain_sign source s t i h in
        turn sign.Other (on d us ops s (not_closing source s sign.Other e refl)) e (plain_on fs d us ops s t i p h)
    taken {d = d} {us = us} {s = s} (said.block {vs = vs} {t = t} {os = os} o label ty head inner mark) = λ fs ops p on.
        let begun = ops ++ op.Begin o label ty ∷ [] in
        same (suc d - 1) d ((begun ++ os) ++ op.End ∷ []) (ops ++ (op.Begin o label ty ∷ (os ++ op.End ∷ []))) (one_less d) (lists_block ops os (op.Begin o label ty) op.End)
        (turn (sign.Heads o) (on d us ops s (not_closing source s (sign.Heads o) head.0 refl)) head.0 (block_on fs d us ops s t o label ty p head.1)
        & taken inner (Flat label (may_else o) ∷ fs) begun tt (inside (Flat label (may_else o)) fs)
        & ends label (may_else o) fs d vs (begun ++ os) mark)
    taken {d = d} {us = us} {s = s} (said.if_else {vs = vs} {ws = ws} {t = t} {os = os} {ps = ps} label ty head inner mark other last) = λ fs ops p on.
        let begun = ops ++ op.Begin If label ty ∷ [] in
        let turned = (begun ++ os) ++ op.Else ∷ [] in
        same (suc d - 1) d ((turned ++ ps) ++ op.End ∷ []) (ops ++ (op.Begin If label ty ∷ (os ++ op.Else ∷ (ps ++ op.End ∷ [])))) (one_less d) (lists_else ops os ps (op.Begin If label ty) op.Else op.End)
        (turn (sign.Heads If) (on d us ops s (not_closing source s (sign.Heads If) head.0 refl)) head.0 (block_on fs d us ops s t If label ty p head.1)
        & taken inner (Flat label true ∷ fs) begun tt (inside (Flat label true) fs)
        & elses label fs (suc d) vs (begun ++ os) mark
        & taken other (Flat label false ∷ fs) turned tt (inside (Flat label false) fs)
        & ends label false fs d ws (turned ++ ps) last)
    taken {d = d} {us = us} (said.folded a) = λ fs ops p on. from_begun fs d us ops (fold_too fs p) on (taken a fs ops)
    taken {d = d} {us = us} (said.operands {vs = vs} {t = t} {u = u} {os = os} i l h inner r) = λ fs ops.
        let x = plain_of us i in
        record {
          inner = t;
          left = l;
          sg = sign.Other;
          is = plain_sign source t u i h;
          begins = tt;
          next = at (Operands x ∷ fs) d (uses_with us i) ops;
          behind = u;
          first = plain_head_on fs d us ops i t u h;
          rest =
              same d d ((ops ++ os) ++ op.Plain x ∷ []) (ops ++ (os ++ op.Plain x ∷ [])) refl (append_assoc ops os (op.Plain x ∷ []))
              (taken inner (Operands x ∷ fs) ops tt (inside (Operands x) fs)
              & close (Operands x) fs d vs (ops ++ os) tt r);
        }
    taken {d = d} {us = us} (said.folded_block {vs = vs} {t = t} {u = u} {os = os} o label ty n l head inner r) = λ fs ops.
        let begun = ops ++ op.Begin o label ty ∷ [] in
        record {
          inner = t;
          left = l;
          sg = sign.Heads o;
          is = head.0;
          begins = tt;
          next = at (Folded ∷ fs) (suc d) us begun;
          behind = u;
          first = folded_head_on fs d us ops o label ty t u n head.1;
          rest =
              same (suc d - 1) d ((begun ++ os) ++ op.End ∷ []) (ops ++ (op.Begin o label ty ∷ (os ++ op.End ∷ []))) (one_less d) (lists_block ops os (op.Begin o label ty) op.End)
              (taken inner (Folded ∷ fs) begun tt (inside Folded fs)
              & close Folded fs (suc d) vs (begun ++ os) tt r);
        }
    taken {d = d} {us = us} (said.folded_if {vs = vs} {ws = ws} {t = t} {u = u} {cs = cs} {os = os} label ty l head conditions th inner r q) = λ fs ops.
        let begun = (ops ++ cs) ++ op.Begin If label ty ∷ [] in
        record {
          inner = t;
          left = l;
          sg = sign.Heads If;
          is = head.0;
          begins = tt;
          next = at (Condition label ty ∷ fs) d us ops;
          behind = u;
          first = if_head_on fs d us ops label ty t u head.1;
          rest =
              same (suc d - 1) d ((begun ++ os) ++ op.End ∷ []) (ops ++ (cs ++ op.Begin If label ty ∷ (os ++ op.End ∷ []))) (one_less d) (lists_if ops cs os (op.Begin If label ty) op.End)
              (taken conditions (Condition label ty ∷ fs) ops tt (inside (Condition label ty) fs)
              & thens fs d vs (ops ++ cs) label ty th
              & taken inner (Arm ∷ Then ∷ fs) begun tt (inside Arm (Then ∷ fs))
              & close Arm (Then ∷ fs) (suc d) ws (begun ++ os) tt r
              & close Then fs (suc d) ws (begun ++ os) tt q);
        }
    taken {d = d} {us = us} (said.folded_if_else {vs = vs} {ws = ws} {xs = xs} {t = t} {u = u} {cs = cs} {os = os} {ps = ps} label ty l head conditions th inner r el other q z) = λ fs ops.
        let begun = (ops ++ cs) ++ op.Begin If label ty ∷ [] in
        let turned = (begun ++ os) ++ op.Else ∷ [] in
        record {
          inner = t;
          left = l;
          sg = sign.Heads If;
          is = head.0;
          begins = tt;
          next = at (Condition label ty ∷ fs) d us ops;
          behind = u;
          first = if_head_on fs d us ops label ty t u head.1;
          rest =
              same (suc d - 1) d ((turned ++ ps) ++ op.End ∷ []) (ops ++ (cs ++ op.Begin If label ty ∷ (os ++ op.Else ∷ (ps ++ op.End ∷ [])))) (one_less d) (lists_if_else ops cs os ps (op.Begin If label ty) op.Else op.End)
              (taken conditions (Condition label ty ∷ fs) ops tt (inside (Condition label ty) fs)
              & thens fs d vs (ops ++ cs) label ty th
              & taken inner (Arm ∷ Then ∷ fs) begun tt (inside Arm (Then ∷ fs))
              & close Arm (Then ∷ fs) (suc d) ws (begun ++ os) tt r
              & other_arm fs (suc d) ws (begun ++ os) el
              & taken other (Arm ∷ Other ∷ fs) turned tt (inside Arm (Other ∷ fs))
              & close Arm (Other ∷ fs) (suc d) xs (turned ++ ps) tt q
              & close Other fs (suc d) xs (turned ++ ps) tt z);
        }

  -- ---- bodies

  not_none : (n : ℕ) → (suc n == 0) ≡ false
  not_none n = grind (arith, nat_tests)

  some_open : (f : Frame) (fs : List Frame) → (length (f ∷ fs) == 0) ≡ false
  some_open f fs = not_none (length fs)

  goes_at : (fs : List Frame) (d : ℕ) (us : List TypeUse) (ops : List Op) (s : List Token) → closes s ≡ false → body_goes source most (at fs d us ops) s ≡ true
  goes_at [] d us ops s e = rw e refl
  goes_at (f ∷ fs) d us ops s e = rw (some_open f fs) refl

  pub body_taken : {us : List TypeUse} {s t : List Token} {os : List Op} → SpellsInstrs source most (many said.any) 0 [] s us os t → closes t ≡ true → (body source most).spelled s (record { uses = us; ops = os }) t
  unfolding body
  body_taken {us = us} {s = s} {t = t} {os = os} h c =
      let f = taken (body_goes source most) (λ f fs d us ops s. rw (some_open f fs) refl) h [] [] tt (λ d us ops s e. goes_at [] d us ops s e) in
      (at [] 0 us os, t, f.on (at [] 0 us os) t (rests (rw c refl)), (refl, refl))

  pub folded_taken : {us : List TypeUse} {s t : List Token} {os : List Op} → SpellsInstrs source most (one said.fold) 0 [] s us os t → (folded_body source most).spelled s (record { uses = us; ops = os }) t
  unfolding folded_body folded
  folded_taken {us = us} {s = s} {t = t} {os = os} h =
      let b = taken (inside_goes source most) (λ f fs d us ops s. rw (some_open f fs) refl) h [] [] in
      (b.next, b.behind, (b.left.0, b.inner, b.left.1, subst (λ g. (folded_on source most (at [] 0 [] []) g).spelled b.inner b.next b.behind) (sym b.is) b.first), (at [] 0 us os, t, b.rest.on (at [] 0 us os) t (rests refl), (refl, refl)))
