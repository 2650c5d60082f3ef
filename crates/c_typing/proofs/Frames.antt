-- What the indices in the code of each function of a module name: globals, locals, and what is used.
use Rattle.std.proofs.Common.{◌≡◌, ℕ, zero, suc, ◌+◌, ◌<◌, List, [], ◌∷◌, ◌++◌, length, Bool, true, false, Option, Some, None, refl, sym, ap, ◌∙◌, arith, subst, inr, append_assoc}
use Rattle.std.specs.List.{All, list_any}
use Rattle.std.proofs.lemmas.List.Elements.{All-cons, All-nil}
use Rattle.std.proofs.lemmas.Option.{get_or_from_slice_get, none-some, same_Some, slice_get-map, slice_get_within}
use Rattle.std.specs.Prelude.{slice_get, cond, drop, map, option_map, replicate, ◌||◌, ◌==◌}
use Rattle.ms_types.specs.declared.types.FuncType.{FuncType}
use Rattle.ms_types.specs.declared.types.GlobalType.{GlobalType}
use Rattle.ms_types.specs.declared.types.Limits.{Limits}
use Rattle.ms_types.specs.declared.types.ValType.{ValType}
use Rattle.ms_types.specs.declared.types.ValType.TheVariants as vals
use Rattle.ms_module.specs.declared.module.Global.{Global as GlobalEntry}
use Rattle.ms_rules.specs.Context.{Context, all_globals, all_tables, context_of, inside, sigs_of_funcs}
use Rattle.c_types.specs.Layout.{Layout, layout_at, members_in}
use Rattle.c_types.specs.Types.{Ty, void, function, struct, Tys, no_types, is_function, scalar_of}
use Rattle.c_types.specs.Types as ty
use Rattle.c_typed.specs.declared.ops.Variable.{Variable}
use Rattle.c_typed.specs.declared.ops.Variable.TheVariants.{Local, Global}
use Rattle.c_typed.specs.Tree.{Function, Stmt, Typed}
use Rattle.c_typed.specs.refinement.Types.{IsObject}
use Rattle.c_typed.specs.Units.{IsFunction, IsWellTyped, list_of, literals_in, numbers}
use Rattle.c_code.specs.Functions.{held_as, locals, scratch_locals, signature, slots_from}
use Rattle.c_code.specs.Modules.{compiled, first_of, global_of, globals_from, imported, is_object_in, literal_globals, no_slots, start_target, index_of, target}
use Rattle.c_code.specs.Targets.{Target}
use Rattle.c_code.specs.Uses as uses
use Rattle.c_code.specs.Uses.{Use, calls, copies, names, through}
use Rattle.c_typing.proofs.Bodies.{ParamsHeld}
use Rattle.c_typing.proofs.Indices.{called, index_at, no_imported_globals, no_imported_tables, sig_at, sig_through}
use Rattle.c_typing.proofs.Lists.{numbers_is, slice_left, slice_right, upto}
use Rattle.c_typing.proofs.Names.{Each, Holds, IsNamed, TypeOf, var}
use Rattle.c_typing.proofs.Sound.{AreSound, AreSoundNames, HasScalar, IsSoundObject, sized_is, sound_of_type, Sound}
use Rattle.std.proofs.lemmas.List.{length-map}
use Rattle.c_typed.specs.refinement.Expressions.{IsMember}

pub each_all : {A : Type 0} (P : A → Type 0) (xs : List A) → Each P xs → All P xs
each_all P [] h = All-nil P
each_all P (x ∷ xs) h = All-cons P x xs h.0 (each_all P xs h.1)

pub all_at : {A : Type 0} (P : A → Type 0) (xs : List A) (n : ℕ) (x : A) → slice_get xs n ≡ Some x → All P xs → P x
all_at P xs n x e h = subst P (get_or_from_slice_get xs n x x e) (h n x (slice_get_within xs n x e))

-- ---- globals

module _ (u : Typed) where
  abbrev Own : List GlobalType
  Own = map (λ (g : GlobalEntry). g.ty) (globals_from u 0 u.globals ++ literal_globals u (literals_in u.made))

  globals_are : all_globals (compiled u) ≡ Own
  globals_are = ap (λ (l : List GlobalType). l ++ Own) (no_imported_globals u (imported u))

  own_at : (k : ℕ) (ts : List Ty) (n : ℕ) (t : Ty) → slice_get ts n ≡ Some t
      → slice_get (globals_from u k ts) n ≡ Some (global_of u (held_as (no_slots u (Global (k + n))) t))
  own_at k [] n t e = absurd (none-some t e)
  own_at k (q ∷ ts) zero t e = let z : k ≡ k + 0 = omega arith in
      ap (λ (m : ℕ). Some (global_of u (held_as (no_slots u (Global m)) q))) z
      ∙ ap (λ (w : Ty). Some (global_of u (held_as (no_slots u (Global (k + 0))) w))) (same_Some q t e)
  own_at k (q ∷ ts) (suc n) t e = let z : suc k + n ≡ k + suc n = omega arith in
      own_at (suc k) ts n t e ∙ ap (λ (m : ℕ). Some (global_of u (held_as (no_slots u (Global m)) t))) z

  own_length : (k : ℕ) (ts : List Ty) → length (globals_from u k ts) ≡ length ts
  own_length k [] = refl
  own_length k (t ∷ ts) = ap suc (own_length (suc k) ts)

  literal_in : (m n : ℕ) → n < m → slice_get (literal_globals u m) n ≡ Some (global_of u vals.Handle)
  literal_in zero n lt = absurd (omega (arith, lt))
  literal_in (suc m) zero lt = refl
  literal_in (suc m) (suc n) lt = literal_in m n (omega (arith, lt))

  pub global_at : (n : ℕ) (t : Ty) → slice_get u.globals n ≡ Some t
      → slice_get (all_globals (compiled u)) n ≡ Some (var (held_as (no_slots u (Global n)) t))
  global_at n t e =
      let z : 0 + n ≡ n = omega arith in
      ap (λ (l : List GlobalType). slice_get l n) globals_are
      ∙ slice_get-map (λ (g : GlobalEntry). g.ty) (globals_from u 0 u.globals ++ literal_globals u (literals_in u.made)) n
      ∙ ap (option_map (λ (g : GlobalEntry). g.ty)) (slice_left (globals_from u 0 u.globals)
      (literal_globals u (literals_in u.made)) n (global_of u (held_as (no_slots u (Global (0 + n))) t))
      (own_at 0 u.globals n t e))
      ∙ ap (λ (m : ℕ). Some (var (held_as (no_slots u (Global m)) t))) z

  pub literal_at : (n : ℕ) → n < literals_in u.made → slice_get (all_globals (compiled u)) (length u.globals + n) ≡ Some
      (var vals.Handle)
  literal_at n lt =
      ap (λ (l : List GlobalType). slice_get l (length u.globals + n)) globals_are
      ∙ slice_get-map (λ (g : GlobalEntry). g.ty) (globals_from u 0 u.globals ++ literal_globals u (literals_in u.made))
      (length u.globals + n)
      ∙ ap (option_map (λ (g : GlobalEntry). g.ty)) (slice_right (globals_from u 0 u.globals)
      (literal_globals u (literals_in u.made)) (length u.globals + n) n (ap (λ (m : ℕ). m + n) (sym (own_length 0 u.globals)))
      ∙ literal_in (literals_in u.made) n lt)

  pub one_table : 0 < length (all_tables (compiled u))
  one_table = let e = ap (λ (l : List Limits). length (l ++ (compiled u).tables)) (no_imported_tables u (imported u)) in
      omega (arith, e)

-- ---- locals

module _ (t : Target) where
  slots_at : (k : ℕ) (us : List Ty) (n : ℕ) (q : Ty) → slice_get us n ≡ Some q
      → slice_get (slots_from t k us) n ≡ Some (held_as (t.is_object (Local (k + n))) q)
  slots_at k [] n q e = absurd (none-some q e)
  slots_at k (w ∷ us) zero q e = let z : k ≡ k + 0 = omega arith in
      ap (λ (m : ℕ). Some (held_as (t.is_object (Local m)) w)) z
      ∙ ap (λ (v : Ty). Some (held_as (t.is_object (Local (k + 0))) v)) (same_Some w q e)
  slots_at k (w ∷ us) (suc n) q e = let z : suc k + n ≡ k + suc n = omega arith in
      slots_at (suc k) us n q e ∙ ap (λ (m : ℕ). Some (held_as (t.is_object (Local m)) q)) z

  slots_length : (k : ℕ) (us : List Ty) → length (slots_from t k us) ≡ length us
  slots_length k [] = refl
  slots_length k (w ∷ us) = ap suc (slots_length (suc k) us)

  pub waiting_in : (m n : ℕ) → n < m → slice_get (replicate m vals.I32) n ≡ Some vals.I32
  waiting_in zero n lt = absurd (omega (arith, lt))
  waiting_in (suc m) zero lt = refl
  waiting_in (suc m) (suc n) lt = waiting_in m n (omega (arith, lt))

  neither : (a b : Bool) → a || b ≡ false → (a ≡ false) × (b ≡ false)
  neither true b e = absurd cc
  neither false b e = (refl, e)

  -- no parameter is an object: the first slots are the parameters
  front : (k : ℕ) (us more : List Ty) → list_any (λ n. t.is_object (Local n)) (upto k (length us)) ≡ false
      → slots_from t k (us ++ more) ≡ map (held_as false) us ++ slots_from t (k + length us) more
  front k [] more e = let z : k ≡ k + 0 = omega arith in ap (λ (m : ℕ). slots_from t m more) z
  front k (w ∷ us) more e =
      let p = neither (t.is_object (Local k)) (list_any (λ n. t.is_object (Local n)) (upto (suc k) (length us))) e in
      let z : suc k + length us ≡ k + suc (length us) = omega arith in
      ap (λ (b : Bool). held_as b w ∷ slots_from t (suc k) (us ++ more)) p.0
      ∙ ap (λ (l : List ValType). held_as false w ∷ l) (front (suc k) us more p.1)
      ∙ ap (λ (m : ℕ). held_as false w ∷ (map (held_as false) us ++ slots_from t m more)) z

drop_front : {A : Type 0} (xs ys : List A) → drop (length xs) (xs ++ ys) ≡ ys
drop_front [] ys = refl
drop_front (x ∷ xs) ys = drop_front xs ys

not_zero : (k : ℕ) (p : ℕ → Bool) → list_any p (numbers k) ≡ true → k == 0 ≡ false
not_zero zero p e = absurd cc
not_zero (suc k) p e = grind arith

-- where the slots stand among the locals
module _ (u : Typed) (f : Function) (s : Stmt) (us more : List Ty) (waits : ℕ) where
  abbrev pub Slots : List Ty
  Slots = us ++ more

  abbrev pub Is : Variable → Bool
  Is = is_object_in u s Slots

  abbrev pub To : ℕ → Target
  To first = target u Is first (first + length Slots)

  abbrev Ends : Target → List ValType
  Ends t = slots_from t 0 Slots ++ scratch_locals t waits

  laid : (pre : List ValType) × (length pre ≡ first_of u Is (length us)) ×
      (map (held_as false) us ++ locals (To (first_of u Is (length us))) (length us) Slots waits ≡ pre ++ Ends
      (To (first_of u Is (length us))))
  laid = by (list_any (λ n. Is (Local n)) (numbers (length us))) refl where
    l : length (map (held_as false) us) ≡ length us
    l = length-map us (held_as false)

    by : (b : Bool) → list_any (λ n. Is (Local n)) (numbers (length us)) ≡ b
        → (pre : List ValType) × (length pre ≡ cond b (length us) 0) ×
        (map (held_as false) us ++ locals (To (cond b (length us) 0)) (length us) Slots waits ≡ pre ++ Ends
        (To (cond b (length us) 0)))
    by true e =
        let t = To (length us) in (
          map (held_as false) us,
          l,
          ap
              (λ (z : Bool). map (held_as false) us ++
              ((cond z (drop (length us) (slots_from t 0 Slots)) (slots_from t 0 Slots)) ++ scratch_locals t waits))
              (not_zero (length us) (λ n. Is (Local n)) e),
        )
    by false e =
        let t = To 0 in
        let eq = front t 0 us more (ap (list_any (λ n. Is (Local n))) (sym (numbers_is (length us))) ∙ e) in
        let cut : drop (length us) (slots_from t 0 Slots) ≡ slots_from t (0 + length us) more =
        ap (λ (n : ℕ). drop n (slots_from t 0 Slots)) (sym l) ∙ ap (drop (length (map (held_as false) us))) eq
        ∙ drop_front (map (held_as false) us) (slots_from t (0 + length us) more) in (
          [],
          refl,
          ap (λ (x : List ValType). map (held_as false) us ++ (x ++ scratch_locals t waits)) cut
              ∙ sym (append_assoc (map (held_as false) us) (slots_from t (0 + length us) more) (scratch_locals t waits))
              ∙ ap (λ (x : List ValType). x ++ scratch_locals t waits) (sym eq),
        )

  abbrev pub First : ℕ
  First = first_of u Is (length us)

  abbrev pub L : List ValType
  L = map (held_as false) us ++ locals (To First) (length us) Slots waits

  pub at_slot : (n : ℕ) (q : Ty) → slice_get Slots n ≡ Some q → slice_get L (First + n) ≡ Some (held_as (Is (Local n)) q)
  at_slot n q e =
      let pre = laid.0 in
      let t = To First in
      let z : 0 + n ≡ n = omega arith in
      ap (λ (l : List ValType). slice_get l (First + n)) laid.2
      ∙ slice_right pre (Ends t) (First + n) n (ap (λ (m : ℕ). m + n) (sym laid.1))
      ∙ slice_left (slots_from t 0 Slots) (scratch_locals t waits) n (held_as (Is (Local (0 + n))) q) (slots_at t 0 Slots n q e)
      ∙ ap (λ (m : ℕ). Some (held_as (Is (Local m)) q)) z

  pub at_scratch : (i : ℕ) (v : ValType) → slice_get (scratch_locals (To First) waits) i ≡ Some v
      → slice_get L (First + length Slots + i) ≡ Some v
  at_scratch i v e =
      let pre = laid.0 in
      let t = To First in
      let z : First + length Slots + i ≡ length pre + (length Slots + i) = let l = laid.1 in omega (arith, l) in
      ap (λ (l : List ValType). slice_get l (First + length Slots + i)) laid.2
      ∙ slice_right pre (Ends t) (First + length Slots + i) (length Slots + i) z
      ∙ slice_right (slots_from t 0 Slots) (scratch_locals t waits) (length Slots + i) i
      (ap (λ (m : ℕ). m + i) (sym (slots_length t 0 Slots))) ∙ e

  pub at_param : (n : ℕ) (q : Ty) → slice_get us n ≡ Some q → slice_get L n ≡ Some (held_as false q)
  at_param n q e = slice_left (map (held_as false) us) (locals (To First) (length us) Slots waits) n (held_as false q)
      (slice_get-map (held_as false) us n ∙ ap (option_map (held_as false)) e)

  pub at_waiting : (d : ℕ) → d < waits → slice_get L (First + length Slots + 4 + d) ≡ Some vals.I32
  at_waiting d lt =
      let z : First + length Slots + 4 + d ≡ First + length Slots + (4 + d) = omega arith in
      let y : 4 + d ≡ suc (suc (suc (suc d))) = omega arith in
      ap (slice_get L) z ∙ at_scratch (4 + d) vals.I32 (ap (slice_get (scratch_locals (To First) waits)) y ∙ waiting_in
      (To First) waits d lt)

  pub at_first : slice_get L (First + length Slots) ≡ Some vals.I32
  at_first = let z : First + length Slots ≡ First + length Slots + 0 = omega arith in
      ap (slice_get L) z ∙ at_scratch 0 vals.I32 refl

pub params_held : (c : Context) (t : Target) (k : ℕ) (us : List Ty)
    → ((n : ℕ) (q : Ty) → slice_get us n ≡ Some q → (slice_get c.locals (k + n) ≡ Some (held_as false q)) × Holds c t
    (Local (k + n)) (held_as (t.is_object (Local (k + n))) q)) → Each HasScalar us → ParamsHeld c t k us
params_held c t k [] h s = tt
params_held c t k (w ∷ us) h s =
    let z : k + 0 ≡ k = omega arith in
    let a = h 0 w refl in (
      subst (λ (m : ℕ). slice_get c.locals m ≡ Some (held_as false w)) z a.0,
      subst (λ (m : ℕ). Holds c t (Local m) (held_as (t.is_object (Local m)) w)) z a.1,
      s.0,
      params_held c t (suc k) us (λ n q e. let y : k + suc n ≡ suc k + n = omega arith in
          subst (λ (m : ℕ). (slice_get c.locals m ≡ Some (held_as false q)) × Holds c t (Local m)
          (held_as (t.is_object (Local m)) q)) y (h (suc n) q e)) s.1,
    )

pub scalars_of : (ps : Tys) → AreSound ps → Each HasScalar (list_of ps)
scalars_of no_types h = tt
scalars_of (ty.types t ts) h = (h.0, scalars_of ts h.2)

-- ---- what uses name, and what types are

module _ (u : Typed) where
  abbrev pub C0 : Context
  C0 = context_of (compiled u)

  abbrev pub Fs : List Ty
  Fs = map (λ (f : Function). f.ty) u.functions

  pub funcs_at : (i n : ℕ) (sig : FuncType) → slice_get (sigs_of_funcs (compiled u)) i ≡ Some n
      → slice_get (compiled u).sigs n ≡ Some sig → slice_get C0.funcs i ≡ Some (Some sig)
  funcs_at i n sig e g = slice_get-map (λ (j : ℕ). slice_get (compiled u).sigs j) (sigs_of_funcs (compiled u)) i ∙ ap
      (option_map (λ (j : ℕ). slice_get (compiled u).sigs j)) e ∙ ap Some g

  -- the function of a number whose type is known
  function_at : (n : ℕ) (q : Ty) → slice_get Fs n ≡ Some q → (f : Function) × (slice_get u.functions n ≡ Some f) × (f.ty ≡ q)
  function_at n q e = by (slice_get u.functions n) refl (sym (slice_get-map (λ (f : Function). f.ty) u.functions n) ∙ e) where
    by : (o : Option Function) → slice_get u.functions n ≡ o
        → option_map (λ (f : Function). f.ty) (slice_get u.functions n) ≡ Some q
        → (f : Function) × (slice_get u.functions n ≡ Some f) × (f.ty ≡ q)
    by None a b = absurd (none-some q (ap (option_map (λ (f : Function). f.ty)) (sym a) ∙ b))
    by (Some f) a b = (f, a, same_Some f.ty q (ap (option_map (λ (f : Function). f.ty)) (sym a) ∙ b))

  use_named : (pre rest : List Use) (x : Use) → uses.uses u ≡ pre ++ x ∷ rest → IsNamed C0 (start_target u) Fs x
  use_named pre rest (calls n) e = λ r ps at.
      let f = function_at n (function r ps) at in
      funcs_at (index_of u n) (3 + n) (signature (function r ps))
      (index_at u n (slice_get_within u.functions n f.0 f.1) (inr (called u n pre rest e)))
      (sig_at u n f.0 f.1 ∙ ap (λ (q : Ty). Some (signature q)) f.2)
  use_named pre rest (through f) e = sig_through u f pre rest e
  use_named pre rest (names n) e = tt
  use_named pre rest (copies n) e = tt

  named_from : (pre rest : List Use) → uses.uses u ≡ pre ++ rest → Each (IsNamed C0 (start_target u) Fs) rest
  named_from pre [] e = tt
  named_from pre (x ∷ rest) e =
      (use_named pre rest x e, named_from (pre ++ x ∷ []) rest (e ∙ sym (append_assoc pre (x ∷ []) rest)))

  pub uses_named : Each (IsNamed C0 (start_target u) Fs) (uses.uses u)
  uses_named = named_from [] (uses.uses u) refl

  -- the same in any function
  pub in_function : (locals : List ValType) (k : Option ValType) (p : Variable → Bool) (a b : ℕ) (us : List Use)
      → Each (IsNamed C0 (start_target u) Fs) us → Each
      (IsNamed (inside C0 locals k) (target u p a b) Fs) us
  in_function locals k p a b [] h = tt
  in_function locals k p a b (calls n ∷ us) h = (h.0, in_function locals k p a b us h.1)
  in_function locals k p a b (through n ∷ us) h = (h.0, in_function locals k p a b us h.1)
  in_function locals k p a b (names n ∷ us) h = (h.0, in_function locals k p a b us h.1)
  in_function locals k p a b (copies n ∷ us) h = (h.0, in_function locals k p a b us h.1)

  module _ (w : IsWellTyped u) where
    object_sound : (q : Ty) → IsObject u.structs q → IsSoundObject q
    object_sound q h = (sized_is u.structs q h.1.0, sound_of_type u.structs q h.0)

    pub sound_with : (slots : List Ty) → All (IsObject u.structs) slots → AreSoundNames u.structs u.globals slots Fs
    sound_with slots all = record { variable = v; member = m; function = g } where
      v : (x : Variable) (q : Ty) → TypeOf u.globals slots x q → IsSoundObject q
      v (Local n) q e = object_sound q (all_at (IsObject u.structs) slots n q e all)
      v (Global n) q e = object_sound q (all_at (IsObject u.structs) u.globals n q e w.globals)

      m : (n i : ℕ) (q : Ty) → IsMember u.structs n i q → IsSoundObject q
      m n i q e = by (layout_at u.structs n) refl e where
        by : (o : Option Layout) → layout_at u.structs n ≡ o → slice_get (members_in o) i ≡ Some q → IsSoundObject q
        by None a b = absurd (none-some q b)
        by (Some l) a b = object_sound q (all_at (IsObject u.structs) l.members i q b (w.structs n l a).1)

      g : (n : ℕ) (q : Ty) → slice_get Fs n ≡ Some q → (is_function q ≡ true) × Sound q
      g n q e =
          let f = function_at n q e in
          let h = all_at (IsFunction u) u.functions n f.0 f.1 w.functions in (
            ap is_function (sym f.2 ∙ h.2),
            subst (λ (x : Ty). Sound x) f.2
                (sound_of_type u.structs f.0.ty h.3),
          )
