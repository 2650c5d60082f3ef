-- Pointers that are moved where they stand, in a plain variable or where another pointer leads (C11, 6.5.2.4, 6.5.3.1 and 6.5.16.2).
use Rattle.std.proofs.Common.{◌≡◌, ◌⊎◌, inl, inr, List, [], ◌∷◌, Bool, true, false, None, Some, refl, sym, ap, ◌∙◌, subst}
use Rattle.std.specs.Prelude.{if◌then◌else◌}
use Rattle.ms_linear.specs.declared.value.Value.{Value as Word}
use Rattle.ms_linear.specs.declared.value.Value.TheVariants.{Handle}
use Rattle.ms_module.specs.declared.instr.Instr.TheVariants.{LocalGet, LocalTee}
use Rattle.c_types.specs.declared.integers.IntType.TheVariants.{LongLong}
use Rattle.c_types.specs.declared.types.Scalar.{Scalar}
use Rattle.c_types.specs.declared.types.Scalar.TheVariants as scalars
use Rattle.c_types.specs.Types.{Ty, integer, pointer, scalar_of}
use Rattle.c_typed.specs.declared.ops.Variable.{Variable}
use Rattle.c_meaning.specs.Values.{Value}
use Rattle.c_meaning.specs.Objects as objects
use Rattle.c_meaning.specs.Objects.{read, write}
use Rattle.c_meaning.specs.Accesses.{hold}
use Rattle.c_meaning.specs.World.{plain as held, World, Does, ◌>>=◌, ◌>>◌, pure, alter, ask}
use Rattle.c_meaning.specs.Expressions as meaning
use Rattle.c_meaning.specs.Expressions.{Spot, at, back_if, fetch, variable}
use Rattle.ms_emit.specs.Codes.{Code, plain, one, no_code, ◌⨾◌}
use Rattle.c_code.specs.Expressions.{begun_over_old, begun_with_old, ended, moved, put, updated}
use Rattle.c_code.specs.Operations.{load}
use Rattle.c_code.specs.Targets.{get, scratch_of, scratch_place}
use Rattle.ms_relate.specs.refinement.Homes.{Home, handle}
use Rattle.ms_relate.proofs.Growing.{Extends, handle_still}
use Rattle.c_runs.proofs.Goes.{after_after}
use Rattle.c_runs.proofs.Values.{value_still, word_still}
use Rattle.c_runs.proofs.Related.{Env, IsSlot, IsValue, extends_trans, pushes}
use Rattle.c_runs.proofs.Ops.{OpIn, Stack, op_look_in, op_over_in, op_seen_in, op_then_in, same}
use Rattle.c_runs.proofs.Nodes.{Always, Leaves, PlainAt, Spot_of, behind_place, gone, remains, set_gives, write_runs}
use Rattle.c_runs.proofs.Steps.{op_store}
use Rattle.c_runs.proofs.Cells.{IsSpot, Leads, LeadsTo, ends_there, lead_still, op_old, op_over_old, spot_pushed}
use Rattle.c_runs.proofs.Updates.{code_assoc}
use Rattle.c_runs.proofs.Moves.{bytes, goes_by_runs}

module _ (E : Env) (t : Ty) (slot : IsSlot E.unit.structs t) (back : Bool) (c : Code) (y : Does Value) (rc : Leaves E c (integer LongLong) y) where
  abbrev P : List Home → Value → Stack
  P = pushes E (pointer t)

  abbrev Is : List Home → Value → Type 0
  Is = IsValue E (pointer t)

  abbrev change : Code
  change = moved (bytes E t slot) back c

  -- what a pointer becomes
  abbrev goes : Value → Does Value
  goes v = meaning.integer y >>= (λ i. pure (objects.moved (bytes E t slot) (back_if back i) v))

  -- it is written, and one of the two is given
  abbrev puts : Spot → Bool → Value → Value → Does Value
  puts q old v new = meaning.store q new >> pure (if old then v else new)

  abbrev behind_old : Spot → Bool → Value → Does Value
  behind_old q old v = meaning.integer y >>= (λ i. let new = objects.moved (bytes E t slot) (back_if back i) v in meaning.store q new >> pure (if old then v else new))

  abbrev behind_spot : Bool → Spot → Does Value
  behind_spot old q = fetch q >>= behind_old q old

  same_meaning : (q : Spot) (old : Bool) (v : Value) (w : World) → (goes v >>= puts q old v) w ≡ behind_old q old v w
  same_meaning q old v w = after_after (meaning.integer y w) (λ i. pure (objects.moved (bytes E t slot) (back_if back i) v)) (puts q old v)

  -- the pointer that is on top changes, over others, and code is behind it
  changed_then : (gs : List Home) (v : Value) (okv : Is gs v) (under : Stack) (post : List Home → Value → Stack) (q : Spot) (old : Bool) (d : Code)
      → ((hs : List Home) → Extends gs hs → (new : Value) → Is hs new → OpIn E hs d (λ vs. P hs new (under vs)) post Is (puts q old v new))
      → OpIn E gs (change ⨾ d) (λ vs. P gs v (under vs)) post Is (behind_old q old v)
  changed_then gs v okv under post q old d h =
      op_seen_in E gs (change ⨾ d) (λ vs. P gs v (under vs)) post Is (goes v >>= puts q old v) (behind_old q old v) (same_meaning q old v)
      (op_then_in E gs change d (λ vs. P gs v (under vs)) (λ hs new vs. P hs new (under vs)) post Is Is (goes v) (puts q old v)
      (op_over_in E gs change (P gs v) under P Is (goes v) (goes_by_runs E t slot c y rc gs v okv back)) h)

  -- ---- a plain variable

  module _ (x : Variable) (at_x : PlainAt E x (pointer t)) where
    abbrev X : Spot
    X = variable x

    abbrev pub whole : Bool → Does Value
    whole old = Spot_of E x >>= behind_spot old

    abbrev Ends : Code → Bool → Bool → Type 0
    Ends d k old = (hs : List Home) (v new : Value) → Is hs v → Is hs new → OpIn E hs d (P hs new) (remains E k (pointer t)) Is (puts X old v new)

    ends : (k old : Bool) (s : Scalar) → (k ≡ false) ⊎ (old ≡ false) → Ends (ended E.target k (Some x) s) k old
    ends true true s (inl e) hs v new okv okn = absurd cc
    ends true true s (inr e) hs v new okv okn = absurd cc
    ends true false s e hs v new okv okn = write_runs E x (pointer t) at_x hs new okn true s
    ends false false s e hs v new okv okn = write_runs E x (pointer t) at_x hs new okn false s
    ends false true s e hs v new okv okn = set_gives E x (pointer t) at_x hs new okn v okv

    one_value : (k old : Bool) (d : Code) → Ends d k old → OpIn E [] (one (get E.target x) ⨾ change ⨾ d) same (remains E k (pointer t)) Is (whole old)
    one_value k old d e =
        let g = one (get E.target x) in
        behind_place E x (pointer t) at_x (g ⨾ change ⨾ d) same (remains E k (pointer t)) Is (behind_spot old)
        (op_then_in E [] g (change ⨾ d) same P (remains E k (pointer t)) Is Is (fetch X) (behind_old X old) at_x.fetches
        (λ gs grown v okv.
        changed_then gs v okv same (remains E k (pointer t)) X old d
        (λ hs grown' new okn. e hs v new (value_still E.unit.structs E.places gs hs grown' (pointer t) v okv) okn)))

    -- the old value remains below
    two_values : (s : Scalar) → OpIn E [] (begun_over_old E.target (Some x) no_code s ⨾ change ⨾ put E.target (Some x) s) same P Is (whole true)
    two_values s =
        let g = begun_over_old E.target (Some x) no_code s in
        let d = put E.target (Some x) s in
        behind_place E x (pointer t) at_x (g ⨾ change ⨾ d) same P Is (behind_spot true)
        (op_then_in E [] g (change ⨾ d) same (λ hs v vs. P hs v (P hs v vs)) P Is Is (fetch X) (behind_old X true) at_x.fetches_twice
        (λ gs grown v okv.
        changed_then gs v okv (P gs v) P X true d
        (λ hs grown' new okn.
        op_look_in E hs d (λ vs. P hs new (P gs v vs)) (λ js u. P gs v) P (λ js. Always E) Is (hold x (held new)) (λ u. pure v)
        (op_over_in E hs d (P hs new) (P gs v) (λ js. gone E) (λ js. Always E) (hold x (held new)) (at_x.sets hs new okn))
        (λ js grown'' u ok.
        let far = extends_trans gs hs js grown' grown'' in
        (v, refl, λ vs. ap (λ (z : Word). z ∷ vs) (sym (word_still E.unit.structs E.places gs js far (pointer t) v okv)), value_still E.unit.structs E.places gs js far (pointer t) v okv)))))

    pub advance_plain : (k old : Bool) (pl : Code) → OpIn E [] (updated E.target k old (Some x) pl scalars.Pointer change) same (remains E k (pointer t)) Is (whole old)
    advance_plain true true pl = two_values scalars.Pointer
    advance_plain true false pl = one_value true false (ended E.target true (Some x) scalars.Pointer) (ends true false scalars.Pointer (inr refl))
    advance_plain false true pl = one_value false true (ended E.target false (Some x) scalars.Pointer) (ends false true scalars.Pointer (inl refl))
    advance_plain false false pl = one_value false false (ended E.target false (Some x) scalars.Pointer) (ends false false scalars.Pointer (inl refl))

  -- ---- a place that another pointer leads to

  module _ (pl : Code) (place : Does Spot) (lead : Leads E pl (pointer t) place) where
    abbrev S : Scalar
    S = scalars.Pointer

    is_pointer : scalar_of (pointer t) ≡ Some S
    is_pointer = ap (λ (b : Bool). Some (if b then scalars.Function else scalars.Pointer)) slot.is_data

    abbrev whole_there : Bool → Does Value
    whole_there old = place >>= behind_spot old

    abbrev H : List Home → Value → Stack
    H hs p vs = Handle (handle hs p) ∷ vs

    still : (gs hs : List Home) → Extends gs hs → (p : Value) → LeadsTo E (pointer t) gs p → LeadsTo E (pointer t) hs p
    still gs hs grown p of_p = lead_still E (pointer t) S tt is_pointer gs hs grown p of_p

    -- the handle below is that of more homes
    over_still : (gs hs : List Home) → Extends gs hs → (p new : Value) → LeadsTo E (pointer t) gs p → (under : Stack) (d : Code) (post : List Home → Value → Stack) (z : Does Value)
        → OpIn E hs d (λ vs. P hs new (H hs p (under vs))) post Is z → OpIn E hs d (λ vs. P hs new (H gs p (under vs))) post Is z
    over_still gs hs grown p new of_p under d post z h =
        subst (λ (st : Stack). OpIn E hs d st post Is z) (λ j vs. P hs new (Handle (handle_still E.unit.structs E.places gs hs grown (pointer (pointer t)) p of_p j) ∷ under vs)) h

    end_value : (k old : Bool) → (k ≡ false) ⊎ (old ≡ false) → (a b : Value) → k ≡ true → (if old then a else b) ≡ b
    end_value k false e a b q = refl
    end_value k true (inl f) a b q = absurd (let z : false ≡ true = sym f ∙ q in cc)
    end_value k true (inr f) a b q = absurd cc

    either : (old : Bool) (a b : Value) (hs : List Home) → Is hs a → Is hs b → Is hs (if old then a else b)
    either true a b hs oka okb = oka
    either false a b hs oka okb = okb

    -- one of the two values remains, or none
    one_there : (k old : Bool) → (k ≡ false) ⊎ (old ≡ false) → OpIn E [] (begun_with_old E.target None pl S ⨾ (change ⨾ ended E.target k None S)) same (remains E k (pointer t)) Is (whole_there old)
    one_there k old e =
        let reads = plain (LocalTee (scratch_place E.target) ∷ LocalGet (scratch_place E.target) ∷ load S ∷ []) in
        let rest = change ⨾ ended E.target k None S in
        subst (λ (z : Code). OpIn E [] z same (remains E k (pointer t)) Is (whole_there old)) (sym (code_assoc pl reads rest))
        (op_then_in E [] pl (reads ⨾ rest) same (spot_pushed E) (remains E k (pointer t)) (IsSpot E (pointer t)) Is place (behind_spot old) lead (λ gs grown q ok. by gs q ok))
      where
        by : (gs : List Home) (q : Spot) → IsSpot E (pointer t) gs q
            → OpIn E gs (plain (LocalTee (scratch_place E.target) ∷ LocalGet (scratch_place E.target) ∷ load S ∷ []) ⨾ (change ⨾ ended E.target k None S)) (spot_pushed E gs q) (remains E k (pointer t)) Is (behind_spot old q)
        by gs (variable x) ok = absurd ok
        by gs (at p) ok =
            let d = ended E.target k None S in
            op_then_in E gs (plain (LocalTee (scratch_place E.target) ∷ LocalGet (scratch_place E.target) ∷ load S ∷ [])) (change ⨾ d) (H gs p) (λ hs v vs. P hs v (H gs p vs)) (remains E k (pointer t)) Is Is (ask (λ os. read os p)) (behind_old (at p) old)
            (op_old E (pointer t) S tt is_pointer gs p ok)
            (λ hs grown v okv.
            changed_then hs v okv (H gs p) (remains E k (pointer t)) (at p) old d
            (λ js grown' new okn.
            let far = extends_trans gs hs js grown grown' in
            over_still gs js far p new ok same d (remains E k (pointer t)) (puts (at p) old v new)
            (ends_there E (pointer t) S tt is_pointer k js p new (still gs js far p ok) okn (if old then v else new) (end_value k old e v new) (either old v new js (value_still E.unit.structs E.places hs js grown' (pointer t) v okv) okn))))

    -- the old value remains below
    two_there : OpIn E [] (begun_over_old E.target None pl S ⨾ (change ⨾ put E.target None S)) same P Is (whole_there true)
    two_there =
        let reads = plain (LocalTee (scratch_place E.target) ∷ load S ∷ LocalTee (scratch_of E.target S) ∷ LocalGet (scratch_place E.target) ∷ LocalGet (scratch_of E.target S) ∷ []) in
        let rest = change ⨾ put E.target None S in
        subst (λ (z : Code). OpIn E [] z same P Is (whole_there true)) (sym (code_assoc pl reads rest))
        (op_then_in E [] pl (reads ⨾ rest) same (spot_pushed E) P (IsSpot E (pointer t)) Is place (behind_spot true) lead (λ gs grown q ok. by gs q ok))
      where
        by : (gs : List Home) (q : Spot) → IsSpot E (pointer t) gs q
            → OpIn E gs (plain (LocalTee (scratch_place E.target) ∷ load S ∷ LocalTee (scratch_of E.target S) ∷ LocalGet (scratch_place E.target) ∷ LocalGet (scratch_of E.target S) ∷ []) ⨾ (change ⨾ put E.target None S)) (spot_pushed E gs q) P Is (behind_spot true q)
        by gs (variable x) ok = absurd ok
        by gs (at p) ok =
            let d = put E.target None S in
            op_then_in E gs (plain (LocalTee (scratch_place E.target) ∷ load S ∷ LocalTee (scratch_of E.target S) ∷ LocalGet (scratch_place E.target) ∷ LocalGet (scratch_of E.target S) ∷ [])) (change ⨾ d) (H gs p) (λ hs v vs. P hs v (H gs p (P hs v vs))) P Is Is (ask (λ os. read os p)) (behind_old (at p) true)
            (op_over_old E (pointer t) S tt is_pointer gs p ok)
            (λ hs grown v okv.
            changed_then hs v okv (λ vs. H gs p (P hs v vs)) P (at p) true d
            (λ js grown' new okn.
            let far = extends_trans gs hs js grown grown' in
            over_still gs js far p new ok (P hs v) d P (puts (at p) true v new)
            (op_look_in E js d (λ vs. P js new (H js p (P hs v vs))) (λ ks u. P hs v) P (λ ks. Always E) Is (alter (λ os. write os p new)) (λ u. pure v)
            (op_over_in E js d (λ vs. P js new (H js p vs)) (P hs v) (λ ks. gone E) (λ ks. Always E) (alter (λ os. write os p new)) (op_store E (pointer t) S tt is_pointer js p (still gs js far p ok) new okn))
            (λ ks grown'' u ok'.
            let farther = extends_trans hs js ks grown' grown'' in
            (v, refl, λ vs. ap (λ (z : Word). z ∷ vs) (sym (word_still E.unit.structs E.places hs ks farther (pointer t) v okv)), value_still E.unit.structs E.places hs ks farther (pointer t) v okv)))))

    pub advance_there : (k old : Bool) → OpIn E [] (updated E.target k old None pl S change) same (remains E k (pointer t)) Is (whole_there old)
    advance_there true true = two_there
    advance_there true false = one_there true false (inr refl)
    advance_there false true = one_there false true (inl refl)
    advance_there false false = one_there false false (inl refl)
