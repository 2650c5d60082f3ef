use Rattle.std.proofs.Common.{◌≡◌, ◌+◌, ◌<◌, ◌∷◌, [], ℕ, suc, List, add-one, ap, arith, drop, get_or, length, refl, subst, sym}
use Rattle.std.proofs.lemmas.List.{drop_more}
use Rattle.ms_module.specs.Building.{State}
use Rattle.ms_module.specs.declared.access.Segment.TheVariants.{Add, Store}
use Rattle.ms_module.specs.declared.access.StoreOp.TheVariants.{I32Store8}
use Rattle.ms_module.specs.declared.instr.Instr.TheVariants.{LocalGet, Segment}
use Rattle.ms_emit.specs.Codes.{Code, plain, ◌⨾◌}
use Rattle.ms_emit.specs.refinement.Parts.{Adds}
use Rattle.c_code.specs.Operations.{i32, i64}
use Rattle.c_code.specs.Statements.{bytes_put}
use Rattle.c_code.specs.Targets.{Target, scratch_handle}
use Rattle.c_emit.proofs.Items.{IsLeft, items_are_added, less_is_left}
use Rattle.c_emit.proofs.blocks.put_each.Goals as goal

abbrev put : (handle i byte : ℕ) → Code
put h i b = plain (LocalGet h ∷ i64 i ∷ Segment (Add 1) ∷ i32 b ∷ Segment (Store I32Store8) ∷ [])

byte_is_added : (t : Target) (s0 s1 s2 : State) (bytes : List ℕ) (h i : ℕ) (whole : Code) → h ≡ scratch_handle t → i < length bytes
    → IsLeft s0 s1 (bytes_put t i (drop i bytes)) whole → Adds s1 s2 (put h i (get_or bytes i 0)) → IsLeft s0 s2 (bytes_put t (i + 1) (drop (i + 1) bytes)) whole
byte_is_added t s0 s1 s2 bytes h i whole is l left x =
    let here = put (scratch_handle t) i (get_or bytes i 0) in
    let e : bytes_put t (suc i) (drop (i + 1) bytes) ≡ bytes_put t (i + 1) (drop (i + 1) bytes) = rw add-one refl in
    less_is_left s0 s1 s2 here (bytes_put t (i + 1) (drop (i + 1) bytes)) whole
    (subst (λ (c : Code). IsLeft s0 s1 (here ⨾ c) whole) e (subst (λ (bs : List ℕ). IsLeft s0 s1 (bytes_put t i bs) whole) (drop_more bytes i 0 l) left))
    (subst (λ (n : ℕ). Adds s1 s2 (put n i (get_or bytes i 0))) is x)

pub loop-byte-preserved : goal.loop-byte-preserved
loop-byte-preserved c =
    let at = c.loop-byte.invariant.0 in (
      ap (λ (n : ℕ). n + 1) at,
      λ site is. byte_is_added site _ _ _ c.args.bytes.now c.args.handle c.loop-byte.i _ is (omega (arith, at, c.loop-byte-test.true))
          (c.loop-byte.invariant.1 site is) (subst (λ (n : ℕ). Adds c.loop-byte.body c.put_byte.new.body (put c.args.handle c.loop-byte.i (get_or c.args.bytes.now n 0))) (sym at) c.in_ok-put_byte.ensures),
    )

pub returns : goal.returns
returns c = λ site is. items_are_added (bytes_put site c.loop-byte.i) refl _ _ c.args.bytes.now c.loop-byte.i _ (omega (arith, c.loop-byte.invariant.0, c.loop-byte-test.false)) (c.loop-byte.invariant.1 site is)
