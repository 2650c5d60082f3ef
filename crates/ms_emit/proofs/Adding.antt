-- What is added in parts: each of the builder's calls, and parts one behind the other.
use Rattle.std.proofs.Common.{◌≡◌, ◌∙◌, ℕ, suc, ◌<◌, Bool, true, false, List, [], ◌∷◌, length, Option, refl, sym, ap, arith, subst}
use Rattle.ms_types.specs.declared.types.ValType.{ValType}
use Rattle.ms_module.specs.Building.{State, after_else, begun, closed, in_second, is_after_else, may_else, placed, started}
use Rattle.ms_module.specs.declared.builder.Open.{Open}
use Rattle.ms_module.specs.declared.builder.Opening.{Opening}
use Rattle.ms_module.specs.declared.builder.Opening.TheVariants.{Block, Loop, If}
use Rattle.ms_module.specs.declared.instr.Instr.{Instr}
use Rattle.ms_emit.specs.Codes.{Code, Coded, added_in, block, choice, emitted, no_code, one, repeat, second_added, ◌⨾◌}
use Rattle.ms_emit.specs.refinement.Parts.{Adds, HasRoom, IsWhole}
use Rattle.ms_emit.proofs.Emitting.{after_else_room, begun_room, emits_block, emits_choice, emits_nothing, emits_one, emits_only, emits_repeat, emits_then, emitted_room, started_in, then_whole}

-- an equation gives all
from_equation : (old new : State) (c : Code) → IsWhole c → (HasRoom old → new ≡ emitted old c) → Adds old new c
from_equation old new c whole e = record {
  whole = whole;
  is = e;
  room = λ room. subst HasRoom (sym (e room)) (emitted_room old c room);
}

pub adds_nothing : (st : State) → Adds st st no_code
adds_nothing st = from_equation st st no_code (λ n e. refl) (λ room. sym (emits_nothing st room))

pub adds_one : (old new : State) (i : Instr) → new ≡ placed old i → Adds old new (one i)
adds_one old new i e = from_equation old new (one i) (λ n none. refl) (λ room. e ∙ emits_one old room i)

pub adds_then : (s0 s1 s2 : State) (a b : Code) → Adds s0 s1 a → Adds s1 s2 b → Adds s0 s2 (a ⨾ b)
adds_then s0 s1 s2 a b x y =
    from_equation s0 s2 (a ⨾ b) (then_whole a b x.whole y.whole)
    (λ room. y.is (x.room room) ∙ ap (λ (s : State). emitted s b) (x.is room) ∙ emits_then s0 room a b x.whole)

pub adds_block : (s0 s1 s2 s3 : State) (ty : Option ValType) (a : Code) → s1 ≡ begun s0 Block ty → Adds s1 s2 a → s3 ≡ closed s2 → Adds s0 s3 (block ty a)
adds_block s0 s1 s2 s3 ty a e1 x e3 =
    from_equation s0 s3 (block ty a) (λ n none. absurd cc) (λ room.
    e3 ∙ ap closed (x.is (subst HasRoom (sym e1) (begun_room s0 Block ty)) ∙ ap (λ (s : State). emitted s a) e1) ∙ emits_block s0 room ty a)

pub adds_repeat : (s0 s1 s2 s3 : State) (ty : Option ValType) (a : Code) → s1 ≡ begun s0 Loop ty → Adds s1 s2 a → s3 ≡ closed s2 → Adds s0 s3 (repeat ty a)
adds_repeat s0 s1 s2 s3 ty a e1 x e3 =
    from_equation s0 s3 (repeat ty a) (λ n none. absurd cc) (λ room.
    e3 ∙ ap closed (x.is (subst HasRoom (sym e1) (begun_room s0 Loop ty)) ∙ ap (λ (s : State). emitted s a) e1) ∙ emits_repeat s0 room ty a)

-- an `if` without an `else`
pub adds_only : (s0 s1 s2 s3 : State) (ty : Option ValType) (a : Code) → s1 ≡ begun s0 If ty → Adds s1 s2 a → s3 ≡ closed s2 → Adds s0 s3 (choice ty a no_code)
adds_only s0 s1 s2 s3 ty a e1 x e3 =
    from_equation s0 s3 (choice ty a no_code) (λ n none. absurd cc) (λ room.
    e3 ∙ ap closed (x.is (subst HasRoom (sym e1) (begun_room s0 If ty)) ∙ ap (λ (s : State). emitted s a) e1) ∙ emits_only s0 room ty a)

pub adds_choice : (s0 s1 s2 s3 s4 s5 : State) (ty : Option ValType) (a b : Code)
    → s1 ≡ begun s0 If ty → Adds s1 s2 a → s3 ≡ after_else s2 → Adds s3 s4 b → s5 ≡ closed s4 → Adds s0 s5 (choice ty a b)
adds_choice s0 s1 s2 s3 s4 s5 ty a b e1 x e3 y e5 =
    let room1 = subst HasRoom (sym e1) (begun_room s0 If ty) in
    let q2 : s2 ≡ emitted (begun s0 If ty) a = x.is room1 ∙ ap (λ (s : State). emitted s a) e1 in
    let room3 = subst HasRoom (sym e3) (after_else_room s2 (x.room room1)) in
    let q4 : s4 ≡ emitted (after_else (emitted (begun s0 If ty) a)) b =
    y.is room3 ∙ ap (λ (s : State). emitted s b) (e3 ∙ ap after_else q2) in
    from_equation s0 s5 (choice ty a b) (λ n none. absurd cc) (λ room. e5 ∙ ap closed q4 ∙ emits_choice s0 room ty a b)

-- ---- the builder may go on: an `else`, or the end of a block

-- as many blocks are open as before
depth_kept : (st : State) (c : Code) → length (emitted st c).blocks ≡ length st.blocks
depth_kept st c = by (is_after_else st.blocks) where
  inside : (bs : List Open) (n : ℕ) → length (in_second n bs) ≡ length bs
  inside [] n = refl
  inside (o ∷ bs) n = refl

  begins : (b : Bool) → length (started_in b st).blocks ≡ length st.blocks
  begins true = inside st.blocks (length st.seqs)
  begins false = refl

  behind : (is : List Instr) (x : Coded) → length (started st).blocks ≡ length st.blocks → length (second_added is st x).blocks ≡ length st.blocks
  behind [] x e = refl
  behind (i ∷ is) x e = e

  by : (b : Bool) → length (added_in b st c).blocks ≡ length st.blocks
  by true = behind (c (suc (length st.seqs))).instrs (c (suc (length st.seqs))) (begins (is_after_else st.blocks))
  by false = refl

pub else_may_come : (s0 s1 s2 : State) (ty : Option ValType) (a : Code) → s1 ≡ begun s0 If ty → Adds s1 s2 a → may_else s2.blocks ≡ true
else_may_come s0 s1 s2 ty a e1 x =
    ap (λ (s : State). may_else s.blocks) (x.is (subst HasRoom (sym e1) (begun_room s0 If ty)) ∙ ap (λ (s : State). emitted s a) e1)

pub block_is_open : (s0 s1 s2 : State) (o : Opening) (ty : Option ValType) (a : Code) → s1 ≡ begun s0 o ty → Adds s1 s2 a → 0 < length s2.blocks
block_is_open s0 s1 s2 o ty a e1 x =
    let q = x.is (subst HasRoom (sym e1) (begun_room s0 o ty)) ∙ ap (λ (s : State). emitted s a) e1 in
    subst (λ (s : State). 0 < length s.blocks) (sym q) (omega arith)

pub second_is_open : (s0 s1 s2 s3 s4 : State) (ty : Option ValType) (a b : Code)
    → s1 ≡ begun s0 If ty → Adds s1 s2 a → s3 ≡ after_else s2 → Adds s3 s4 b → 0 < length s4.blocks
second_is_open s0 s1 s2 s3 s4 ty a b e1 x e3 y =
    let room1 = subst HasRoom (sym e1) (begun_room s0 If ty) in
    let q2 : s2 ≡ emitted (begun s0 If ty) a = x.is room1 ∙ ap (λ (s : State). emitted s a) e1 in
    let room3 = subst HasRoom (sym e3) (after_else_room s2 (x.room room1)) in
    let depth : length s4.blocks ≡ length (after_else (emitted (begun s0 If ty) a)).blocks =
    ap (λ (s : State). length s.blocks) (y.is room3) ∙ depth_kept s3 b ∙ ap (λ (s : State). length s.blocks) (e3 ∙ ap after_else q2) in
    omega (arith, depth)
