-- What is spelled turn by turn is a tree of instructions.
use Rattle.std.proofs.Common.{◌≡◌, ◌≢◌, ℕ, suc, ◌-◌, ◌==◌, ◌&&◌, Bool, true, false, not, List, [], ◌∷◌, ◌++◌, length, Option, refl, sym, ap, subst, ◌∙◌, append_assoc, arith}
use Rattle.std.proofs.lemmas.Bool.Decides.{nat_tests}
use Rattle.std.proofs.lemmas.List.{append-nil}
use Rattle.ms_bytes.specs.Runs.{Runs, goes, rests}
use Rattle.ms_types.specs.declared.types.ValType.{ValType}
use Rattle.ms_text_lex.specs.declared.token.Token.{Token}
use Rattle.ms_module.specs.declared.builder.Opening.{Opening}
use Rattle.ms_module.specs.declared.builder.Opening.TheVariants.{Block, If, Loop}
use Rattle.ms_module.specs.Instructions.{else_word, end_word}
use Rattle.ms_text_grammar.specs.declared.fault.TextFault.{TextFault}
use Rattle.ms_text_grammar.specs.declared.frame.Frame.{Frame}
use Rattle.ms_text_grammar.specs.declared.frame.Frame.TheVariants.{Arm, Condition, Flat, Folded, Operands, Other, Then}
use Rattle.ms_text_grammar.specs.declared.frame.Fresh.{Fresh}
use Rattle.ms_text_grammar.specs.declared.frame.Sign.{Sign}
use Rattle.ms_text_grammar.specs.declared.frame.Sign.TheVariants as sign
use Rattle.ms_text_grammar.specs.declared.surface.Body.{Body}
use Rattle.ms_text_grammar.specs.declared.surface.Op.{Op}
use Rattle.ms_text_grammar.specs.declared.surface.Op.TheVariants as op
use Rattle.ms_text_grammar.specs.declared.surface.Plain.{Plain}
use Rattle.ms_text_grammar.specs.declared.surface.TypeUse.{TypeUse}
use Rattle.ms_text_grammar.specs.declared.word.Word.TheVariants as word
use Rattle.ms_text_grammar.specs.Keywords.{spelling}
use Rattle.ms_text_grammar.specs.Tokens.{closes, is_close}
use Rattle.ms_text_grammar.specs.Parts.{closing}
use Rattle.ms_text_grammar.specs.Instructions.{instruction}
use Rattle.ms_text_grammar.specs.Advances.{State, advance_on, closed, condition, condition_on, else_arm, ended, flat_block, flat_else, flat_plain, folded, folded_block, folded_on, folded_plain, given, instructions, marked, may_else, plain_of, sign_of, uses_with}
use Rattle.ms_text_grammar.specs.Bodies.{advance, body, body_goes, folded_body, inside_goes}
use Rattle.ms_text_grammar.specs.refinement.Folding.{Head, Left, LeftWord, Mark, Part, Right, SpellsInstrs}
use Rattle.ms_text_grammar.specs.refinement.Folding.Part.{many, one}
use Rattle.ms_text_grammar.specs.refinement.Folding as said
use Rattle.ms_text_grammar.proofs.Folds.{HoldsAny, HoldsFold, at, fold_too, kept_passes}

-- What stands below all frames: the instructions of a body, or nothing more, behind the folded instruction of an offset.
data Root : Type 0 where
  in_body : Root
  in_offset : Root

-- What stands from here on where these frames are open: what is left of the innermost one, and then of those around it.
data Rest (source : List ℕ) (most : ℕ) : Root → List Frame → ℕ → List TypeUse → List Token → List TypeUse → List Op → List Token → Type 0 where
  top : {d : ℕ} {us vs : List TypeUse} {s t : List Token} {os : List Op} → SpellsInstrs source most (many said.any) d us s vs os t → Rest source most in_body [] d us s vs os t
  bottom : {d : ℕ} {us : List TypeUse} {s : List Token} → Rest source most in_offset [] d us s us [] s
  flat_ends : {r : Root} {label : Option Token} {may : Bool} {fs : List Frame} {d : ℕ} {us vs ws : List TypeUse} {s t u v : List Token} {os ps : List Op}
      → SpellsInstrs source most (many said.any) d us s vs os t → Mark source most end_word label t u → Rest source most r fs (d - 1) vs u ws ps v → Rest source most r (Flat label may ∷ fs) d us s ws (os ++ op.End ∷ ps) v
  flat_elses : {r : Root} {label : Option Token} {fs : List Frame} {d : ℕ} {us vs ws : List TypeUse} {s t u v : List Token} {os ps : List Op}
      → SpellsInstrs source most (many said.any) d us s vs os t → Mark source most else_word label t u → Rest source most r (Flat label false ∷ fs) d vs u ws ps v → Rest source most r (Flat label true ∷ fs) d us s ws (os ++ op.Else ∷ ps) v
  folded_ends : {r : Root} {fs : List Frame} {d : ℕ} {us vs ws : List TypeUse} {s t u v : List Token} {os ps : List Op}
      → SpellsInstrs source most (many said.any) d us s vs os t → Right source most t u → Rest source most r fs (d - 1) vs u ws ps v → Rest source most r (Folded ∷ fs) d us s ws (os ++ op.End ∷ ps) v
  arm_ends : {r : Root} {fs : List Frame} {d : ℕ} {us vs ws : List TypeUse} {s t u v : List Token} {os ps : List Op}
      → SpellsInstrs source most (many said.any) d us s vs os t → Right source most t u → Rest source most r fs d vs u ws ps v → Rest source most r (Arm ∷ fs) d us s ws (os ++ ps) v
  operands_end : {r : Root} {p : Plain} {fs : List Frame} {d : ℕ} {us vs ws : List TypeUse} {s t u v : List Token} {os ps : List Op}
      → SpellsInstrs source most (many said.fold) d us s vs os t → Right source most t u → Rest source most r fs d vs u ws ps v → Rest source most r (Operands p ∷ fs) d us s ws (os ++ op.Plain p ∷ ps) v
  condition_ends : {r : Root} {label : Option Token} {ty : Option ValType} {fs : List Frame} {d : ℕ} {us vs ws : List TypeUse} {s t u v : List Token} {os ps : List Op}
      → SpellsInstrs source most (many said.fold) d us s vs os t → LeftWord source most (spelling word.Then) t u → Rest source most r (Arm ∷ Then ∷ fs) (suc d) vs u ws ps v
      → Rest source most r (Condition label ty ∷ fs) d us s ws (os ++ op.Begin If label ty ∷ ps) v
  then_ends : {r : Root} {fs : List Frame} {d : ℕ} {us vs : List TypeUse} {s t u : List Token} {os : List Op} → Right source most s t → Rest source most r fs (d - 1) us t vs os u → Rest source most r (Then ∷ fs) d us s vs (op.End ∷ os) u
  then_elses : {r : Root} {fs : List Frame} {d : ℕ} {us vs : List TypeUse} {s t u : List Token} {os : List Op} → LeftWord source most else_word s t → Rest source most r (Arm ∷ Other ∷ fs) d us t vs os u → Rest source most r (Then ∷ fs) d us s vs (op.Else ∷ os) u
  other_ends : {r : Root} {fs : List Frame} {d : ℕ} {us vs : List TypeUse} {s t u : List Token} {os : List Op} → Right source most s t → Rest source most r fs (d - 1) us t vs os u → Rest source most r (Other ∷ fs) d us s vs (op.End ∷ os) u

none_more : (ops : List Op) → ops ≡ ops ++ []
none_more ops = sym (append-nil ops)

-- frames in which instructions may stand
abbrev AnyAt : List Frame → Root → Type 0
AnyAt [] in_body = Unit {0}
AnyAt [] in_offset = ⊥
AnyAt (f ∷ fs) r = HoldsAny (f ∷ fs)

-- and folded ones
abbrev FoldAt : List Frame → Root → Type 0
FoldAt [] in_body = Unit {0}
FoldAt [] in_offset = ⊥
FoldAt (f ∷ fs) r = HoldsFold (f ∷ fs)

fold_at : (fs : List Frame) (r : Root) → AnyAt fs r → FoldAt fs r
fold_at [] in_body h = tt
fold_at [] in_offset h = absurd h
fold_at (f ∷ fs) r h = fold_too (f ∷ fs) h

-- where a closing parenthesis ends the body, no turn is taken; nor is one behind an offset
abbrev MayGo : List Frame → Root → List Token → Type 0
MayGo [] in_body s = closes s ≡ false
MayGo [] in_offset s = ⊥
MayGo (f ∷ fs) r s = Unit {0}

may_hold : (r : Root) (s : List Token) → MayGo [] r s → AnyAt [] r
may_hold in_body s g = tt
may_hold in_offset s g = absurd g

module _ (source : List ℕ) (most : ℕ) where
  again : {r : Root} {fs : List Frame} {us vs : List TypeUse} {s t : List Token} (d e : ℕ) (xs ys : List Op) → d ≡ e → xs ≡ ys → Rest source most r fs d us s vs xs t → Rest source most r fs e us s vs ys t
  again {r = r} {fs = fs} {us = us} {vs = vs} {s = s} {t = t} d e xs ys p q x =
      subst (λ (n : ℕ). Rest source most r fs n us s vs ys t) p (subst (λ (l : List Op). Rest source most r fs d us s vs l t) q x)

  one_less : (d : ℕ) → suc d - 1 ≡ d
  one_less d = omega arith

  -- an instruction in front
  front : {z : Root} {fs : List Frame} {d : ℕ} {us vs ws : List TypeUse} {s t u : List Token} {os ps : List Op} → AnyAt fs z → SpellsInstrs source most (one said.any) d us s vs os t → Rest source most z fs d vs t ws ps u → Rest source most z fs d us s ws (os ++ ps) u
  front p a (top h) = top (said.more a h)
  front p a bottom = absurd p
  front {d = d} {os = os} p a (flat_ends {os = xs} {ps = ps} h k r) = again d d _ _ refl (append_assoc os xs (op.End ∷ ps)) (flat_ends (said.more a h) k r)
  front {d = d} {os = os} p a (flat_elses {os = xs} {ps = ps} h k r) = again d d _ _ refl (append_assoc os xs (op.Else ∷ ps)) (flat_elses (said.more a h) k r)
  front {d = d} {os = os} p a (folded_ends {os = xs} {ps = ps} h k r) = again d d _ _ refl (append_assoc os xs (op.End ∷ ps)) (folded_ends (said.more a h) k r)
  front {d = d} {os = os} p a (arm_ends {os = xs} {ps = ps} h k r) = again d d _ _ refl (append_assoc os xs ps) (arm_ends (said.more a h) k r)
  front p a (operands_end h k r) = absurd p
  front p a (condition_ends h k r) = absurd p
  front p a (then_ends k r) = absurd p
  front p a (then_elses k r) = absurd p
  front p a (other_ends k r) = absurd p

  -- a folded one in front
  fold_front : {z : Root} {fs : List Frame} {d : ℕ} {us vs ws : List TypeUse} {s t u : List Token} {os ps : List Op} → FoldAt fs z → SpellsInstrs source most (one said.fold) d us s vs os t → Rest source most z fs d vs t ws ps u → Rest source most z fs d us s ws (os ++ ps) u
  fold_front p a (top h) = top (said.more (said.folded a) h)
  fold_front p a bottom = absurd p
  fold_front {d = d} {os = os} p a (flat_ends {os = xs} {ps = ps} h k r) = again d d _ _ refl (append_assoc os xs (op.End ∷ ps)) (flat_ends (said.more (said.folded a) h) k r)
  fold_front {d = d} {os = os} p a (flat_elses {os = xs} {ps = ps} h k r) = again d d _ _ refl (append_assoc os xs (op.Else ∷ ps)) (flat_elses (said.more (said.folded a) h) k r)
  fold_front {d = d} {os = os} p a (folded_ends {os = xs} {ps = ps} h k r) = again d d _ _ refl (append_assoc os xs (op.End ∷ ps)) (folded_ends (said.more (said.folded a) h) k r)
  fold_front {d = d} {os = os} p a (arm_ends {os = xs} {ps = ps} h k r) = again d d _ _ refl (append_assoc os xs ps) (arm_ends (said.more (said.folded a) h) k r)
  fold_front {d = d} {os = os} p a (operands_end {p = x} {os = xs} {ps = ps} h k r) = again d d _ _ refl (append_assoc os xs (op.Plain x ∷ ps)) (operands_end (said.more a h) k r)
  fold_front {d = d} {os = os} p a (condition_ends {label = label} {ty = ty} {os = xs} {ps = ps} h k r) = again d d _ _ refl (append_assoc os xs (op.Begin If label ty ∷ ps)) (condition_ends (said.more a h) k r)
  fold_front p a (then_ends k r) = absurd p
  fold_front p a (then_elses k r) = absurd p
  fold_front p a (other_ends k r) = absurd p

  -- ---- a block that has begun, and what is left behind it

  is_if : (o : Opening) → true ≡ may_else o → o ≡ If
  is_if Block e = absurd cc
  is_if Loop e = absurd cc
  is_if If e = refl

  flat_else_whole : {z : Root} {fs : List Frame} {d : ℕ} {us vs xs : List TypeUse} {s t u v w : List Token} {os ps : List Op} (label : Option Token) (ty : Option ValType) → AnyAt fs z → Head source most If d s label ty t
      → SpellsInstrs source most (many said.any) (suc d) us t vs os u → Mark source most else_word label u v → Rest source most z (Flat label false ∷ fs) (suc d) vs v xs ps w
      → Rest source most z fs d us s xs (op.Begin If label ty ∷ (os ++ op.Else ∷ ps)) w
  flat_else_whole {d = d} {os = os} label ty p head h k (flat_ends {os = ys} {ps = zs} g l r) =
      again d d ((op.Begin If label ty ∷ (os ++ op.Else ∷ (ys ++ op.End ∷ []))) ++ zs) _ refl (lists os ys zs (op.Begin If label ty) op.Else op.End)
      (front p (said.if_else label ty head h k g l) (again (suc d - 1) d zs zs (one_less d) refl r)) where
        lists : (os ys zs : List Op) (b l e : Op) → (b ∷ (os ++ l ∷ (ys ++ e ∷ []))) ++ zs ≡ b ∷ (os ++ l ∷ (ys ++ e ∷ zs))
        lists os ys zs b l e = simp append_assoc refl

  flat_whole : {z : Root} {fs : List Frame} {d : ℕ} {us vs : List TypeUse} {s t u : List Token} {os : List Op} (o : Opening) (may : Bool) (label : Option Token) (ty : Option ValType) → may ≡ may_else o → AnyAt fs z → Head source most o d s label ty t
      → Rest source most z (Flat label may ∷ fs) (suc d) us t vs os u → Rest source most z fs d us s vs (op.Begin o label ty ∷ os) u
  flat_whole {d = d} o may label ty e p head (flat_ends {os = xs} {ps = ps} h k r) =
      again d d ((op.Begin o label ty ∷ (xs ++ op.End ∷ [])) ++ ps) _ refl (ap (λ (l : List Op). op.Begin o label ty ∷ l) (append_assoc xs (op.End ∷ []) ps))
      (front p (said.block o label ty head h k) (again (suc d - 1) d ps ps (one_less d) refl r))
  flat_whole {z = z} {fs = fs} {d = d} {us = us} {vs = ws} {s = s} {t = t} {u = end} o true label ty e p head (flat_elses {vs = vs} {t = u} {u = v} {os = xs} {ps = ps} h k r) =
      let if_head : Head source most If d s label ty t = subst (λ (x : Opening). Head source most x d s label ty t) (is_if o e) head in
      subst (λ (x : Opening). Rest source most z fs d us s ws (op.Begin x label ty ∷ (xs ++ op.Else ∷ ps)) end) (sym (is_if o e)) (flat_else_whole label ty p if_head h k r)

  -- ---- a folded instruction that has begun: it, and what is left behind it

  record Splits (z : Root) (fs : List Frame) (d : ℕ) (us : List TypeUse) (s : List Token) (vs : List TypeUse) (os : List Op) (u : List Token) : Type 0 where
    pub uses : List TypeUse
    pub behind : List Token
    pub ops : List Op
    pub others : List Op
    pub is : os ≡ ops ++ others
    pub first : SpellsInstrs source most (one said.fold) d us s uses ops behind
    pub rest : Rest source most z fs d uses behind vs others u

  split_front : {z : Root} {fs : List Frame} {d : ℕ} {us vs : List TypeUse} {s u : List Token} {os : List Op} → FoldAt fs z → Splits z fs d us s vs os u → Rest source most z fs d us s vs os u
  split_front {d = d} {os = os} p x = again d d (x.ops ++ x.others) os refl (sym x.is) (fold_front p x.first x.rest)

  folded_splits : {z : Root} {fs : List Frame} {d : ℕ} {us vs : List TypeUse} {s m t u : List Token} {os : List Op} (o : Opening) (label : Option Token) (ty : Option ValType) → o ≢ If → Left source most s m → Head source most o d m label ty t
      → Rest source most z (Folded ∷ fs) (suc d) us t vs os u → Splits z fs d us s vs (op.Begin o label ty ∷ os) u
  folded_splits {d = d} o label ty n l head (folded_ends {vs = ws} {u = v} {os = xs} {ps = ps} h k r) = record {
    uses = ws;
    behind = v;
    ops = op.Begin o label ty ∷ (xs ++ op.End ∷ []);
    others = ps;
    is = sym (ap (λ (l : List Op). op.Begin o label ty ∷ l) (append_assoc xs (op.End ∷ []) ps));
    first = said.folded_block o label ty n l head h k;
    rest = again (suc d - 1) d ps ps (one_less d) refl r;
  }

  operands_splits : {z : Root} {fs : List Frame} {d : ℕ} {us vs : List TypeUse} {s m t u : List Token} {os : List Op} (i : Fresh) → Left source most s m → (instruction source).spelled m i t
      → Rest source most z (Operands (plain_of us i) ∷ fs) d (uses_with us i) t vs os u → Splits z fs d us s vs os u
  operands_splits {us = us} i l head (operands_end {vs = ws} {u = v} {os = xs} {ps = ps} h k r) = record {
    uses = ws;
    behind = v;
    ops = xs ++ op.Plain (plain_of us i) ∷ [];
    others = ps;
    is = sym (append_assoc xs (op.Plain (plain_of us i) ∷ []) ps);
    first = said.operands i l head h k;
    rest = r;
  }

  lists_if : (cs xs ps : List Op) (b e : Op) → cs ++ b ∷ (xs ++ e ∷ ps) ≡ (cs ++ b ∷ (xs ++ e ∷ [])) ++ ps
  lists_if cs xs ps b e = simp append_assoc refl

  lists_if_else : (cs xs ys ps : List Op) (b l e : Op) → cs ++ b ∷ (xs ++ l ∷ (ys ++ e ∷ ps)) ≡ (cs ++ b ∷ (xs ++ l ∷ (ys ++ e ∷ []))) ++ ps
  lists_if_else cs xs ys ps b l e = simp append_assoc refl

  if_splits : {z : Root} {fs : List Frame} {d : ℕ} {us vs : List TypeUse} {s m t u : List Token} {os : List Op} (label : Option Token) (ty : Option ValType) → Left source most s m → Head source most If d m label ty t
      → Rest source most z (Condition label ty ∷ fs) d us t vs os u → Splits z fs d us s vs os u
  if_splits {d = d} label ty l head (condition_ends {os = cs} h th (arm_ends {vs = ws} {os = xs} g r (then_ends {t = v} {os = ps} q rest))) = record {
    uses = ws;
    behind = v;
    ops = cs ++ op.Begin If label ty ∷ (xs ++ op.End ∷ []);
    others = ps;
    is = lists_if cs xs ps (op.Begin If label ty) op.End;
    first = said.folded_if label ty l head h th g r q;
    rest = again (suc d - 1) d ps ps (one_less d) refl rest;
  }
  if_splits {d = d} label ty l head (condition_ends {os = cs} h th (arm_ends {os = xs} g r (then_elses el (arm_ends {vs = ws} {os = ys} o q (other_ends {t = v} {os = ps} y rest))))) = record {
    uses = ws;
    behind = v;
    ops = cs ++ op.Begin If label ty ∷ (xs ++ op.Else ∷ (ys ++ op.End ∷ []));
    others = ps;
    is = lists_if_else cs xs ys ps (op.Begin If label ty) op.Else op.End;
    first = said.folded_if_else label ty l head h th g r el o q y;
    rest = again (suc d - 1) d ps ps (one_less d) refl rest;
  }

-- ---- turns

module _ (source : List ℕ) (most : ℕ) (root : Root) where
  -- what a turn gives, and that what is left behind it is left before it with that in front
  abbrev Turns : List Frame → ℕ → List TypeUse → List Op → List Token → State → List Token → Type 0
  Turns fs d us ops s next t =
      (o : List Op) × (next.ops ≡ ops ++ o) × ((vs : List TypeUse) (os : List Op) (u : List Token) → Rest source most root next.frames next.blocks next.uses t vs os u → Rest source most root fs d us s vs (o ++ os) u)

  -- a turn that begins a folded instruction
  abbrev FoldTurns : List Frame → ℕ → List TypeUse → List Op → List Token → State → List Token → Type 0
  FoldTurns fs d us ops s next t =
      (o : List Op) × (next.ops ≡ ops ++ o) × ((vs : List TypeUse) (os : List Op) (u : List Token) → Rest source most root next.frames next.blocks next.uses t vs os u → Splits source most root fs d us s vs (o ++ os) u)

  to : (fs : List Frame) (d : ℕ) (us : List TypeUse) (ops : List Op) (s : List Token) (a b : State) (m t : List Token) → b ≡ a → m ≡ t → Turns fs d us ops s a m → Turns fs d us ops s b t
  to fs d us ops s a b m t e q h = subst (λ (x : State). Turns fs d us ops s x t) (sym e) (subst (λ (l : List Token). Turns fs d us ops s a l) q h)

  plain_turns : (fs : List Frame) (d : ℕ) (us : List TypeUse) (ops : List Op) (s : List Token) (next : State) (t : List Token) → AnyAt fs root → (flat_plain source most (at fs d us ops)).spelled s next t → Turns fs d us ops s next t
  unfolding flat_plain
  plain_turns fs d us ops s next t p h =
      to fs d us ops s (at fs d (uses_with us h.0) (ops ++ op.Plain (plain_of us h.0) ∷ [])) next h.1 t h.3.0 h.3.1
      (op.Plain (plain_of us h.0) ∷ [], refl, λ vs os u r. front source most p (said.plain h.0 h.2) r)

  block_turns : (fs : List Frame) (d : ℕ) (us : List TypeUse) (ops : List Op) (s : List Token) (next : State) (t : List Token) (o : Opening) → AnyAt fs root → sign_of source s ≡ sign.Heads o → (flat_block source most (at fs d us ops) o).spelled s next t → Turns fs d us ops s next t
  unfolding flat_block
  block_turns fs d us ops s next t o p e h =
      to fs d us ops s (at (Flat h.0.0 (may_else o) ∷ fs) (suc d) us (ops ++ op.Begin o h.0.0 h.0.1 ∷ [])) next h.1 t h.3.0 h.3.1
      (op.Begin o h.0.0 h.0.1 ∷ [], refl, λ vs os u r. flat_whole source most o (may_else o) h.0.0 h.0.1 refl p (e, h.2) r)

  folds_to : (fs : List Frame) (d : ℕ) (us : List TypeUse) (ops : List Op) (s : List Token) (a b : State) (m t : List Token) → b ≡ a → m ≡ t → FoldTurns fs d us ops s a m → FoldTurns fs d us ops s b t
  folds_to fs d us ops s a b m t e q h = subst (λ (x : State). FoldTurns fs d us ops s x t) (sym e) (subst (λ (l : List Token). FoldTurns fs d us ops s a l) q h)

  plain_folds : (fs : List Frame) (d : ℕ) (us : List TypeUse) (ops : List Op) (s m : List Token) (next : State) (t : List Token) → Left source most s m → (folded_plain source most (at fs d us ops)).spelled m next t → FoldTurns fs d us ops s next t
  unfolding folded_plain
  plain_folds fs d us ops s m next t l h =
      folds_to fs d us ops s (at (Operands (plain_of us h.0) ∷ fs) d (uses_with us h.0) ops) next h.1 t h.3.0 h.3.1
      ([], none_more ops, λ vs os u r. operands_splits source most h.0 l h.2 r)

  block_folds : (fs : List Frame) (d : ℕ) (us : List TypeUse) (ops : List Op) (s m : List Token) (next : State) (t : List Token) (o : Opening) → Left source most s m → sign_of source m ≡ sign.Heads o
      → (folded_block source most (at fs d us ops) o).spelled m next t → FoldTurns fs d us ops s next t
  unfolding folded_block
  block_folds fs d us ops s m next t If l e h =
      folds_to fs d us ops s (at (Condition h.0.0 h.0.1 ∷ fs) d us ops) next h.1 t h.3.0 h.3.1
      ([], none_more ops, λ vs os u r. if_splits source most h.0.0 h.0.1 l (e, h.2) r)
  block_folds fs d us ops s m next t Block l e h =
      folds_to fs d us ops s (at (Folded ∷ fs) (suc d) us (ops ++ op.Begin Block h.0.0 h.0.1 ∷ [])) next h.1 t h.3.0 h.3.1
      (op.Begin Block h.0.0 h.0.1 ∷ [], refl, λ vs os u r. folded_splits source most Block h.0.0 h.0.1 (λ x. absurd cc) l (e, h.2) r)
  block_folds fs d us ops s m next t Loop l e h =
      folds_to fs d us ops s (at (Folded ∷ fs) (suc d) us (ops ++ op.Begin Loop h.0.0 h.0.1 ∷ [])) next h.1 t h.3.0 h.3.1
      (op.Begin Loop h.0.0 h.0.1 ∷ [], refl, λ vs os u r. folded_splits source most Loop h.0.0 h.0.1 (λ x. absurd cc) l (e, h.2) r)

  on_folds : (fs : List Frame) (d : ℕ) (us : List TypeUse) (ops : List Op) (s m : List Token) (next : State) (t : List Token) (sg : Sign) → Left source most s m → sign_of source m ≡ sg
      → (folded_on source most (at fs d us ops) sg).spelled m next t → FoldTurns fs d us ops s next t
  unfolding folded_on
  on_folds fs d us ops s m next t (sign.Heads o) l e h = block_folds fs d us ops s m next t o l e h
  on_folds fs d us ops s m next t sign.Left l e h = plain_folds fs d us ops s m next t l h
  on_folds fs d us ops s m next t sign.Right l e h = plain_folds fs d us ops s m next t l h
  on_folds fs d us ops s m next t sign.Ends l e h = plain_folds fs d us ops s m next t l h
  on_folds fs d us ops s m next t sign.Elses l e h = plain_folds fs d us ops s m next t l h
  on_folds fs d us ops s m next t sign.Thens l e h = plain_folds fs d us ops s m next t l h
  on_folds fs d us ops s m next t sign.Other l e h = plain_folds fs d us ops s m next t l h

  folds : (fs : List Frame) (d : ℕ) (us : List TypeUse) (ops : List Op) (s : List Token) (next : State) (t : List Token) → (folded source most (at fs d us ops)).spelled s next t → FoldTurns fs d us ops s next t
  unfolding folded
  folds fs d us ops s next t h = on_folds fs d us ops s h.1 next t (sign_of source h.1) (h.0, h.2) refl h.3

  -- where folded instructions may stand
  fold_front_turns : (fs : List Frame) (d : ℕ) (us : List TypeUse) (ops : List Op) (s : List Token) (next : State) (t : List Token) → FoldAt fs root → FoldTurns fs d us ops s next t → Turns fs d us ops s next t
  fold_front_turns fs d us ops s next t p h = (h.0, h.1, λ vs os u r. split_front source most p (h.2 vs os u r))

  fold_on_turns : (fs : List Frame) (d : ℕ) (us : List TypeUse) (ops : List Op) (s m : List Token) (next : State) (t : List Token) (sg : Sign) → FoldAt fs root → Left source most s m → sign_of source m ≡ sg
      → (folded_on source most (at fs d us ops) sg).spelled m next t → Turns fs d us ops s next t
  fold_on_turns fs d us ops s m next t sg p l e h = fold_front_turns fs d us ops s next t p (on_folds fs d us ops s m next t sg l e h)

  fold_turns : (fs : List Frame) (d : ℕ) (us : List TypeUse) (ops : List Op) (s : List Token) (next : State) (t : List Token) → FoldAt fs root → (folded source most (at fs d us ops)).spelled s next t → Turns fs d us ops s next t
  fold_turns fs d us ops s next t p h = fold_front_turns fs d us ops s next t p (folds fs d us ops s next t h)

  condition_turns : (label : Option Token) (ty : Option ValType) (fs : List Frame) (d : ℕ) (us : List TypeUse) (ops : List Op) (s : List Token) (next : State) (t : List Token)
      → (condition source most label ty fs (at (Condition label ty ∷ fs) d us ops)).spelled s next t → Turns (Condition label ty ∷ fs) d us ops s next t
  unfolding condition condition_on
  condition_turns label ty fs d us ops s next t h = go (sign_of source h.1) refl h.3 where
    go : (sg : Sign) → sign_of source h.1 ≡ sg → (condition_on source most label ty fs (at (Condition label ty ∷ fs) d us ops) sg).spelled h.1 next t → Turns (Condition label ty ∷ fs) d us ops s next t
    go sign.Thens e k =
        to (Condition label ty ∷ fs) d us ops s (at (Arm ∷ Then ∷ fs) (suc d) us (ops ++ op.Begin If label ty ∷ [])) next k.1 t k.3.0 k.3.1
        (op.Begin If label ty ∷ [], refl, λ vs os u r. condition_ends said.none (h.1, (h.0, h.2), k.0, k.2) r)
    go (sign.Heads o) e k = fold_on_turns (Condition label ty ∷ fs) d us ops s h.1 next t (sign.Heads o) tt (h.0, h.2) e k
    go sign.Left e k = fold_on_turns (Condition label ty ∷ fs) d us ops s h.1 next t sign.Left tt (h.0, h.2) e k
    go sign.Right e k = fold_on_turns (Condition label ty ∷ fs) d us ops s h.1 next t sign.Right tt (h.0, h.2) e k
    go sign.Ends e k = fold_on_turns (Condition label ty ∷ fs) d us ops s h.1 next t sign.Ends tt (h.0, h.2) e k
    go sign.Elses e k = fold_on_turns (Condition label ty ∷ fs) d us ops s h.1 next t sign.Elses tt (h.0, h.2) e k
    go sign.Other e k = fold_on_turns (Condition label ty ∷ fs) d us ops s h.1 next t sign.Other tt (h.0, h.2) e k

  else_turns : (fs : List Frame) (d : ℕ) (us : List TypeUse) (ops : List Op) (s : List Token) (next : State) (t : List Token) → (else_arm source most fs (at (Then ∷ fs) d us ops)).spelled s next t → Turns (Then ∷ fs) d us ops s next t
  unfolding else_arm
  else_turns fs d us ops s next t h =
      let k = h.3 in
      to (Then ∷ fs) d us ops s (at (Arm ∷ Other ∷ fs) d us (ops ++ op.Else ∷ [])) next k.1 t k.3.0 k.3.1
      (op.Else ∷ [], refl, λ vs os u r. then_elses (h.1, (h.0, h.2), k.0, k.2) r)

  closed_turns : (fs gs : List Frame) (d e : ℕ) (us vs : List TypeUse) (ops xs : List Op) (s : List Token) (next : State) (t : List Token) → (closed source most (at gs e vs xs)).spelled s next t
      → (Right source most s t → Turns fs d us ops s (at gs e vs xs) t) → Turns fs d us ops s next t
  unfolding closed
  closed_turns fs gs d e us vs ops xs s next t h f =
      let r : Right source most s t = (h.0, subst (λ (l : List Token). (closing source).spelled s h.0 l) h.3.1 h.2) in
      subst (λ (x : State). Turns fs d us ops s x t) (sym h.3.0) (f r)

  marked_turns : (text : List ℕ) (label : Option Token) (fs gs : List Frame) (d e : ℕ) (us vs : List TypeUse) (ops xs : List Op) (s : List Token) (next : State) (t : List Token) → (marked source most text label (at gs e vs xs)).spelled s next t
      → (Mark source most text label s t → Turns fs d us ops s (at gs e vs xs) t) → Turns fs d us ops s next t
  unfolding marked
  marked_turns text label fs gs d e us vs ops xs s next t h f =
      let k = h.3 in
      let m : Mark source most text label s k.1 = (h.0, h.1, h.2, k.0, k.2) in
      subst (λ (x : State). Turns fs d us ops s x t) (sym k.3.0) (f (subst (λ (l : List Token). Mark source most text label s l) k.3.1 m))

  -- instructions, and then a closing parenthesis
  instr_turns : (fs gs : List Frame) (d e : ℕ) (us : List TypeUse) (ops xs : List Op) (s : List Token) (next : State) (t : List Token) (sg : Sign) → AnyAt fs root → sign_of source s ≡ sg
      → (instructions source most (at fs d us ops) (at gs e us xs) sg).spelled s next t → (Right source most s t → Turns fs d us ops s (at gs e us xs) t) → Turns fs d us ops s next t
  unfolding instructions
  instr_turns fs gs d e us ops xs s next t sign.Left p q h f = fold_turns fs d us ops s next t (fold_at fs root p) h
  instr_turns fs gs d e us ops xs s next t (sign.Heads o) p q h f = block_turns fs d us ops s next t o p q h
  instr_turns fs gs d e us ops xs s next t sign.Right p q h f = closed_turns fs gs d e us us ops xs s next t h f
  instr_turns fs gs d e us ops xs s next t sign.Ends p q h f = plain_turns fs d us ops s next t p h
  instr_turns fs gs d e us ops xs s next t sign.Elses p q h f = plain_turns fs d us ops s next t p h
  instr_turns fs gs d e us ops xs s next t sign.Thens p q h f = plain_turns fs d us ops s next t p h
  instr_turns fs gs d e us ops xs s next t sign.Other p q h f = plain_turns fs d us ops s next t p h

  right_closes : (s t : List Token) → Right source most s t → closes s ≡ true
  right_closes s t h = subst (λ (l : List Token). closes l ≡ true) (sym h.1.1) (kept_passes (is_close h.1.0.kind) h.1.0 h.0 h.1.2)

  never_both : (b : Bool) → b ≡ true → b ≡ false → ⊥
  never_both true e f = absurd cc
  never_both false e f = absurd cc

  else_word_turns : (label : Option Token) (may : Bool) (fs : List Frame) (d : ℕ) (us : List TypeUse) (ops : List Op) (s : List Token) (next : State) (t : List Token) → (flat_else source most label may fs (at (Flat label may ∷ fs) d us ops)).spelled s next t
      → Turns (Flat label may ∷ fs) d us ops s next t
  unfolding flat_else
  else_word_turns label true fs d us ops s next t h =
      marked_turns else_word label (Flat label true ∷ fs) (Flat label false ∷ fs) d d us us ops (ops ++ op.Else ∷ []) s next t h (λ k. (op.Else ∷ [], refl, λ vs os u r. flat_elses said.none k r))
  else_word_turns label false fs d us ops s next t h = absurd h

  flat_turns : (label : Option Token) (may : Bool) (fs : List Frame) (d : ℕ) (us : List TypeUse) (ops : List Op) (s : List Token) (next : State) (t : List Token) (sg : Sign) → sign_of source s ≡ sg
      → (advance_on source most (at (Flat label may ∷ fs) d us ops) (Flat label may ∷ fs) sg).spelled s next t → Turns (Flat label may ∷ fs) d us ops s next t
  unfolding advance_on
  flat_turns label may fs d us ops s next t sign.Ends e h =
      marked_turns end_word label (Flat label may ∷ fs) fs d (d - 1) us us ops (ops ++ op.End ∷ []) s next t h (λ k. (op.End ∷ [], refl, λ vs os u r. flat_ends said.none k r))
  flat_turns label may fs d us ops s next t sign.Elses e h = else_word_turns label may fs d us ops s next t h
  flat_turns label may fs d us ops s next t sign.Left e h = fold_turns (Flat label may ∷ fs) d us ops s next t tt h
  flat_turns label may fs d us ops s next t (sign.Heads o) e h = block_turns (Flat label may ∷ fs) d us ops s next t o tt e h
  flat_turns label may fs d us ops s next t sign.Right e h = plain_turns (Flat label may ∷ fs) d us ops s next t tt h
  flat_turns label may fs d us ops s next t sign.Thens e h = plain_turns (Flat label may ∷ fs) d us ops s next t tt h
  flat_turns label may fs d us ops s next t sign.Other e h = plain_turns (Flat label may ∷ fs) d us ops s next t tt h

  operand_ends : (p : Plain) (fs : List Frame) (d : ℕ) (us : List TypeUse) (ops : List Op) (s : List Token) (next : State) (t : List Token) → (closed source most (given fs p (at (Operands p ∷ fs) d us ops))).spelled s next t → Turns (Operands p ∷ fs) d us ops s next t
  operand_ends p fs d us ops s next t h = closed_turns (Operands p ∷ fs) fs d d us us ops (ops ++ op.Plain p ∷ []) s next t h (λ r. (op.Plain p ∷ [], refl, λ vs os u k. operands_end said.none r k))

  operand_turns : (p : Plain) (fs : List Frame) (d : ℕ) (us : List TypeUse) (ops : List Op) (s : List Token) (next : State) (t : List Token) (sg : Sign)
      → (advance_on source most (at (Operands p ∷ fs) d us ops) (Operands p ∷ fs) sg).spelled s next t → Turns (Operands p ∷ fs) d us ops s next t
  unfolding advance_on
  operand_turns p fs d us ops s next t sign.Left h = fold_turns (Operands p ∷ fs) d us ops s next t tt h
  operand_turns p fs d us ops s next t (sign.Heads o) h = operand_ends p fs d us ops s next t h
  operand_turns p fs d us ops s next t sign.Right h = operand_ends p fs d us ops s next t h
  operand_turns p fs d us ops s next t sign.Ends h = operand_ends p fs d us ops s next t h
  operand_turns p fs d us ops s next t sign.Elses h = operand_ends p fs d us ops s next t h
  operand_turns p fs d us ops s next t sign.Thens h = operand_ends p fs d us ops s next t h
  operand_turns p fs d us ops s next t sign.Other h = operand_ends p fs d us ops s next t h

  if_turns : (label : Option Token) (ty : Option ValType) (fs : List Frame) (d : ℕ) (us : List TypeUse) (ops : List Op) (s : List Token) (next : State) (t : List Token) (sg : Sign)
      → (advance_on source most (at (Condition label ty ∷ fs) d us ops) (Condition label ty ∷ fs) sg).spelled s next t → Turns (Condition label ty ∷ fs) d us ops s next t
  unfolding advance_on
  if_turns label ty fs d us ops s next t sign.Left h = condition_turns label ty fs d us ops s next t h
  if_turns label ty fs d us ops s next t (sign.Heads o) h = absurd h
  if_turns label ty fs d us ops s next t sign.Right h = absurd h
  if_turns label ty fs d us ops s next t sign.Ends h = absurd h
  if_turns label ty fs d us ops s next t sign.Elses h = absurd h
  if_turns label ty fs d us ops s next t sign.Thens h = absurd h
  if_turns label ty fs d us ops s next t sign.Other h = absurd h

  then_turn_ends : (fs : List Frame) (d : ℕ) (us : List TypeUse) (ops : List Op) (s : List Token) (next : State) (t : List Token) → (closed source most (ended fs (at (Then ∷ fs) d us ops))).spelled s next t → Turns (Then ∷ fs) d us ops s next t
  then_turn_ends fs d us ops s next t h = closed_turns (Then ∷ fs) fs d (d - 1) us us ops (ops ++ op.End ∷ []) s next t h (λ r. (op.End ∷ [], refl, λ vs os u k. then_ends r k))

  then_turns : (fs : List Frame) (d : ℕ) (us : List TypeUse) (ops : List Op) (s : List Token) (next : State) (t : List Token) (sg : Sign) → (advance_on source most (at (Then ∷ fs) d us ops) (Then ∷ fs) sg).spelled s next t → Turns (Then ∷ fs) d us ops s next t
  unfolding advance_on
  then_turns fs d us ops s next t sign.Left h = else_turns fs d us ops s next t h
  then_turns fs d us ops s next t (sign.Heads o) h = then_turn_ends fs d us ops s next t h
  then_turns fs d us ops s next t sign.Right h = then_turn_ends fs d us ops s next t h
  then_turns fs d us ops s next t sign.Ends h = then_turn_ends fs d us ops s next t h
  then_turns fs d us ops s next t sign.Elses h = then_turn_ends fs d us ops s next t h
  then_turns fs d us ops s next t sign.Thens h = then_turn_ends fs d us ops s next t h
  then_turns fs d us ops s next t sign.Other h = then_turn_ends fs d us ops s next t h

  shut_no_turn : (r : Root) (s t : List Token) → MayGo [] r s → Right source most s t → ⊥
  shut_no_turn in_body s t g h = never_both (closes s) (right_closes s t h) g
  shut_no_turn in_offset s t g h = absurd g

  advance_turns : (fs : List Frame) (d : ℕ) (us : List TypeUse) (ops : List Op) (s : List Token) (next : State) (t : List Token) (sg : Sign) → sign_of source s ≡ sg → MayGo fs root s
      → (advance_on source most (at fs d us ops) fs sg).spelled s next t → Turns fs d us ops s next t
  unfolding advance_on
  advance_turns [] d us ops s next t sg e g h = instr_turns [] [] d d us ops ops s next t sg (may_hold root s g) e h (λ r. absurd (shut_no_turn root s t g r))
  advance_turns (Flat label may ∷ fs) d us ops s next t sg e g h = flat_turns label may fs d us ops s next t sg e h
  advance_turns (Folded ∷ fs) d us ops s next t sg e g h =
      instr_turns (Folded ∷ fs) fs d (d - 1) us ops (ops ++ op.End ∷ []) s next t sg tt e h (λ r. (op.End ∷ [], refl, λ vs os u k. folded_ends said.none r k))
  advance_turns (Arm ∷ fs) d us ops s next t sg e g h = instr_turns (Arm ∷ fs) fs d d us ops ops s next t sg tt e h (λ r. ([], none_more ops, λ vs os u k. arm_ends said.none r k))
  advance_turns (Operands p ∷ fs) d us ops s next t sg e g h = operand_turns p fs d us ops s next t sg h
  advance_turns (Condition label ty ∷ fs) d us ops s next t sg e g h = if_turns label ty fs d us ops s next t sg h
  advance_turns (Then ∷ fs) d us ops s next t sg e g h = then_turns fs d us ops s next t sg h
  advance_turns (Other ∷ fs) d us ops s next t sg e g h = closed_turns (Other ∷ fs) fs d (d - 1) us us ops (ops ++ op.End ∷ []) s next t h (λ r. (op.End ∷ [], refl, λ vs os u k. other_ends r k))

-- ---- runs of turns

module _ (source : List ℕ) (most : ℕ) where
  not_none : (n : ℕ) → (suc n == 0) ≡ false
  not_none n = grind (arith, nat_tests)

  may_go : (fs : List Frame) (s : List Token) → not ((length fs == 0) && closes s) ≡ true → MayGo fs in_body s
  may_go [] s e = go (closes s) e where
    go : (b : Bool) → not b ≡ true → b ≡ false
    go false e = refl
    go true e = absurd cc
  may_go (f ∷ fs) s e = tt

  -- what is left where the turns end
  Left_over : List Frame → ℕ → List TypeUse → List Op → List Token → List Op → List TypeUse → List Token → Type 0
  Left_over fs d us ops s last vs u = (os : List Op) × (last ≡ ops ++ os) × Rest source most in_body fs d us s vs os u × (closes u ≡ true)

  at_rest : (fs : List Frame) (d : ℕ) (us : List TypeUse) (ops : List Op) (s : List Token) → not ((length fs == 0) && closes s) ≡ false → Left_over fs d us ops s ops us s
  unfolding Left_over
  at_rest [] d us ops s e = go (closes s) refl e where
    go : (b : Bool) → closes s ≡ b → not b ≡ false → Left_over [] d us ops s ops us s
    go true h e = ([], none_more ops, top said.none, h)
    go false h e = absurd cc
  at_rest (f ∷ fs) d us ops s e = absurd (wrong (subst (λ (b : Bool). not (b && closes s) ≡ false) (not_none (length fs)) e)) where
    wrong : true ≡ false → ⊥
    wrong x = absurd cc

  trees : {st last : State} {s u : List Token} → Runs {F = TextFault} (body_goes source most) (advance source most) st s last u → Left_over st.frames st.blocks st.uses st.ops s last.ops last.uses u
  unfolding advance Left_over
  trees {st = st} {s = s} (rests e) = at_rest st.frames st.blocks st.uses st.ops s e
  trees {st = st} {last = last} {s = s} {u = u} (goes {t = t} next g h r) =
      let on = trees r in
      let turn = advance_turns source most in_body st.frames st.blocks st.uses st.ops s next t (sign_of source s) refl (may_go st.frames s g) h in
      (turn.0 ++ on.0, on.1 ∙ ap (λ (l : List Op). l ++ on.0) turn.1 ∙ append_assoc st.ops turn.0 on.0, turn.2 last.uses on.0 u on.2, on.3)

  of_root : {d : ℕ} {us vs : List TypeUse} {s t : List Token} {os : List Op} → Rest source most in_body [] d us s vs os t → SpellsInstrs source most (many said.any) d us s vs os t
  of_root (top h) = h

  -- a body that is spelled is a tree, up to a closing parenthesis
  pub body_is_tree : (s : List Token) (b : Body) (t : List Token) → (body source most).spelled s b t → SpellsInstrs source most (many said.any) 0 [] s b.uses b.ops t × (closes t ≡ true)
  unfolding body Left_over
  body_is_tree s b t h =
      let k = trees h.2 in
      let tree : SpellsInstrs source most (many said.any) 0 [] s h.0.uses h.0.ops h.1 = subst (λ (l : List Op). SpellsInstrs source most (many said.any) 0 [] s h.0.uses l h.1) (sym k.1) (of_root k.2) in (
        subst (λ (l : List Token). SpellsInstrs source most (many said.any) 0 [] s b.uses b.ops l) h.3.1 (subst (λ (x : Body). SpellsInstrs source most (many said.any) 0 [] s x.uses x.ops h.1) (sym h.3.0) tree),
        subst (λ (l : List Token). closes l ≡ true) h.3.1 k.3,
      )

  -- ---- offsets

  may_go_inside : (fs : List Frame) (s : List Token) → not (length fs == 0) ≡ true → MayGo fs in_offset s
  may_go_inside [] s e = absurd (wrong e) where
    wrong : false ≡ true → ⊥
    wrong x = absurd cc
  may_go_inside (f ∷ fs) s e = tt

  Left_inside : List Frame → ℕ → List TypeUse → List Op → List Token → List Op → List TypeUse → List Token → Type 0
  Left_inside fs d us ops s last vs u = (os : List Op) × (last ≡ ops ++ os) × Rest source most in_offset fs d us s vs os u

  at_end : (fs : List Frame) (d : ℕ) (us : List TypeUse) (ops : List Op) (s : List Token) → not (length fs == 0) ≡ false → Left_inside fs d us ops s ops us s
  unfolding Left_inside
  at_end [] d us ops s e = ([], none_more ops, bottom)
  at_end (f ∷ fs) d us ops s e = absurd (wrong (subst (λ (b : Bool). not b ≡ false) (not_none (length fs)) e)) where
    wrong : true ≡ false → ⊥
    wrong x = absurd cc

  trees_inside : {st last : State} {s u : List Token} → Runs {F = TextFault} (inside_goes source most) (advance source most) st s last u → Left_inside st.frames st.blocks st.uses st.ops s last.ops last.uses u
  unfolding advance Left_inside
  trees_inside {st = st} {s = s} (rests e) = at_end st.frames st.blocks st.uses st.ops s e
  trees_inside {st = st} {last = last} {s = s} {u = u} (goes {t = t} next g h r) =
      let on = trees_inside r in
      let turn = advance_turns source most in_offset st.frames st.blocks st.uses st.ops s next t (sign_of source s) refl (may_go_inside st.frames s g) h in
      (turn.0 ++ on.0, on.1 ∙ ap (λ (l : List Op). l ++ on.0) turn.1 ∙ append_assoc st.ops turn.0 on.0, turn.2 last.uses on.0 u on.2)

  with_bottom : {d e : ℕ} {us vs ws : List TypeUse} {s m u : List Token} {xs ps : List Op} → SpellsInstrs source most (one said.fold) d us s vs xs m → Rest source most in_offset [] e vs m ws ps u → SpellsInstrs source most (one said.fold) d us s ws (xs ++ ps) u
  with_bottom {d = d} {us = us} {vs = vs} {s = s} {m = m} {xs = xs} h bottom = subst (λ (l : List Op). SpellsInstrs source most (one said.fold) d us s vs l m) (none_more xs) h

  of_split : {vs : List TypeUse} {s u : List Token} {os : List Op} → Splits source most in_offset [] 0 [] s vs os u → SpellsInstrs source most (one said.fold) 0 [] s vs os u
  of_split {vs = vs} {s = s} {u = u} x = subst (λ (l : List Op). SpellsInstrs source most (one said.fold) 0 [] s vs l u) (sym x.is) (with_bottom x.first x.rest)

  -- an offset that is spelled is one folded instruction
  pub offset_is_tree : (s : List Token) (b : Body) (t : List Token) → (folded_body source most).spelled s b t → SpellsInstrs source most (one said.fold) 0 [] s b.uses b.ops t
  unfolding folded_body Left_inside
  offset_is_tree s b t h =
      let l = h.3 in
      let k = folds source most in_offset [] 0 [] [] s h.0 h.1 h.2 in
      let on = trees_inside l.2 in
      let all : l.0.ops ≡ k.0 ++ on.0 = on.1 ∙ ap (λ (x : List Op). x ++ on.0) k.1 in
      let tree : SpellsInstrs source most (one said.fold) 0 [] s l.0.uses (k.0 ++ on.0) l.1 = of_split (k.2 l.0.uses on.0 l.1 on.2) in
      let same_ops : SpellsInstrs source most (one said.fold) 0 [] s l.0.uses l.0.ops l.1 = subst (λ (x : List Op). SpellsInstrs source most (one said.fold) 0 [] s l.0.uses x l.1) (sym all) tree in
      subst (λ (x : List Token). SpellsInstrs source most (one said.fold) 0 [] s b.uses b.ops x) l.3.1 (subst (λ (x : Body). SpellsInstrs source most (one said.fold) 0 [] s x.uses x.ops l.1) (sym l.3.0) same_ops)
