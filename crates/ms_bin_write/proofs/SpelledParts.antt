-- What sections hold is spelled as it is written.
use Rattle.std.proofs.Common.{◌≡◌, ℕ, ◌+◌, ◌<◌, ◌≤◌, ◌^◌, Bool, true, false, List, [], ◌∷◌, ◌++◌, length, replicate, inl, inr, refl, sym, ap, subst, ◌∙◌, arith, append_assoc}
use Rattle.std.specs.Prelude.{map}
use Rattle.std.specs.List.{flat_map}
use Rattle.std.proofs.lemmas.Bool.{eq-eqb, le-leb}
use Rattle.std.proofs.lemmas.List.{append-nil, length-append, length-replicate, length-map}
use Rattle.ms_bytes.specs.Repetition.{each, repeat}
use Rattle.ms_types.specs.declared.types.ValType.{ValType}
use Rattle.ms_types.specs.declared.types.ValType.TheVariants.{I32, I64, Handle}
use Rattle.ms_module.specs.declared.instr.Instr.{Instr}
use Rattle.ms_module.specs.declared.module.ImportDesc.TheVariants as imported
use Rattle.ms_module.specs.declared.module.Func.{Func}
use Rattle.ms_module.specs.declared.module.Global.{Global}
use Rattle.ms_module.specs.declared.module.ExportDesc.TheVariants as exported
use Rattle.ms_module.specs.declared.module.Element.{Element}
use Rattle.ms_module.specs.declared.module.Fill.{Fill}
use Rattle.ms_module.specs.refinement.Nesting.{NestsWithin}
use Rattle.ms_bin_grammar.specs.Bounds.{Bounds}
use Rattle.ms_bin_grammar.specs.Numbers.{number, vec}
use Rattle.ms_bin_grammar.specs.Sizes.{name, sized}
use Rattle.ms_bin_grammar.specs.Body.{body}
use Rattle.ms_bin_grammar.specs.Module.{element, export, export_desc, fill, func, funcs, global, import, import_desc, locals, more_locals}
use Rattle.ms_bin_write.specs.Parts.{number_bytes, sized_bytes, vec_bytes}
use Rattle.ms_bin_write.specs.Types.{global_type_bytes, limits_bytes, table_bytes, value_code}
use Rattle.ms_bin_write.specs.Instrs.{body_bytes}
use Rattle.ms_flat.specs.refinement.Ranges.{AllFit, CodeFits, ExportDescFits, ImportDescFits, NumberFits}
use Rattle.ms_bin_write.specs.refinement.Ranges.{ExportFits, FuncFits, ImportFits, NameFits}
use Rattle.ms_bin_write.specs.Written.{Group, element_bytes, export_bytes, export_desc_bytes, fill_bytes, func_bytes, global_bytes, group_bytes, groups, import_bytes, import_desc_bytes, joined, locals_bytes, same_type}
use Rattle.ms_bin_write.proofs.Counts.{count_few, number_some, sized_len}
use Rattle.ms_bin_write.proofs.Spelled.{Anything, Law, all_anything, back_few, before, front_few, global_type_law, limits_law, name_law, number_before, number_law, sized_law, table_law, value_law, vec_law}
use Rattle.ms_bin_write.proofs.SpelledBodies.{body_law, body_some}

-- ---- imports and exports

import_desc_law : Law import_desc import_desc_bytes ImportDescFits
unfolding import_desc
import_desc_law (imported.Func x) h small t = (0x00, number_bytes x ++ t, refl, inl (refl, (x, t, number_law x t h, (refl, refl))))
import_desc_law (imported.Table l) h small t = (0x01, table_bytes l ++ t, refl, inr ((λ e. omega arith), inl (refl, (l, t, table_law l h (omega arith) t, (refl, refl)))))
import_desc_law (imported.Memory l) h small t =
    (0x02, limits_bytes l ++ t, refl, inr ((λ e. omega arith), inr ((λ e. omega arith), inl (refl, (l, t, limits_law l h (omega arith) t, (refl, refl))))))
import_desc_law (imported.Global g) h small t =
    (0x03, global_type_bytes g ++ t, refl, inr ((λ e. omega arith), inr ((λ e. omega arith), inr ((λ e. omega arith), inl (refl, (g, t, global_type_law g t, (refl, refl)))))))

-- a name in front of something else
name_before : (x b t : List ℕ) → NameFits x → length (sized_bytes x) < 2 ^ 32 → name.spelled ((sized_bytes x ++ b) ++ t) x (b ++ t)
name_before x b t h small = before name sized_bytes NameFits name_law x b t h small

pub import_law : Law import import_bytes ImportFits
unfolding import
import_law i h small t =
    let desc = import_desc_bytes i.desc in
    let rest = sized_bytes i.name ++ desc in
    let few = back_few (sized_bytes i.«module») rest small in (
      i.«module»,
      rest ++ t,
      name_before i.«module» rest t h.0 (front_few (sized_bytes i.«module») rest small),
      (
        i.name,
        desc ++ t,
        name_before i.name desc t h.1 (front_few (sized_bytes i.name) desc few),
        (i.desc, t, import_desc_law i.desc h.2 (back_few (sized_bytes i.name) desc few) t, (refl, refl)),
      ),
    )

export_desc_law : Law export_desc export_desc_bytes ExportDescFits
unfolding export_desc
export_desc_law (exported.Func x) h small t = (0x00, number_bytes x ++ t, refl, inl (refl, (x, t, number_law x t h, (refl, refl))))
export_desc_law (exported.Table x) h small t = (0x01, number_bytes x ++ t, refl, inr ((λ e. omega arith), inl (refl, (x, t, number_law x t h, (refl, refl)))))
export_desc_law (exported.Memory x) h small t = (0x02, number_bytes x ++ t, refl, inr ((λ e. omega arith), inr ((λ e. omega arith), inl (refl, (x, t, number_law x t h, (refl, refl))))))
export_desc_law (exported.Global x) h small t =
    (0x03, number_bytes x ++ t, refl, inr ((λ e. omega arith), inr ((λ e. omega arith), inr ((λ e. omega arith), inl (refl, (x, t, number_law x t h, (refl, refl)))))))

pub export_law : Law export export_bytes ExportFits
unfolding export
export_law e h small t =
    let desc = export_desc_bytes e.desc in (
      e.name,
      desc ++ t,
      name_before e.name desc t h.0 (front_few (sized_bytes e.name) desc small),
      (e.desc, t, export_desc_law e.desc h.1 (back_few (sized_bytes e.name) desc small) t, (refl, refl)),
    )

-- ---- globals, elements and data, within bounds

pub indices_law : Law (vec number) (vec_bytes number_bytes) (AllFit NumberFits)
indices_law = vec_law number number_bytes NumberFits (λ n lt small t. number_law n t lt) number_some

module _ (bounds : Bounds) where
  -- a body that keeps them
  abbrev pub CodeKeeps : List (List Instr) → Type 0
  CodeKeeps ss = CodeFits ss × NestsWithin bounds.blocks ss 0

  code_law : Law (body bounds.blocks) body_bytes CodeKeeps
  code_law ss h small t = body_law bounds.blocks ss h.0 h.1 small t

  abbrev pub GlobalKeeps : Global → Type 0
  GlobalKeeps g = CodeKeeps g.init

  pub global_law : Law (global bounds) global_bytes GlobalKeeps
  unfolding global
  global_law g h small t =
      let init = body_bytes g.init in
      let few = back_few (global_type_bytes g.ty) init small in
      (g.ty, init ++ t, global_type_law g.ty (init ++ t), (g.init, t, code_law g.init h few t, (refl, refl)))

  abbrev pub ElementKeeps : Element → Type 0
  ElementKeeps e = (e.table < 2 ^ 32) × CodeKeeps e.offset × AllFit NumberFits e.funcs

  pub element_law : Law (element bounds) element_bytes ElementKeeps
  unfolding element
  element_law e h small t =
      let funcs = vec_bytes number_bytes e.funcs in
      let rest = body_bytes e.offset ++ funcs in
      let few = back_few (number_bytes e.table) rest small in (
        e.table,
        rest ++ t,
        number_before e.table rest t h.0,
        (
          e.offset,
          funcs ++ t,
          before (body bounds.blocks) body_bytes CodeKeeps code_law e.offset funcs t h.1 (front_few (body_bytes e.offset) funcs few),
          (e.funcs, t, indices_law e.funcs h.2 (back_few (body_bytes e.offset) funcs few) t, (refl, refl)),
        ),
      )

  abbrev pub FillKeeps : Fill → Type 0
  FillKeeps f = (f.memory < 2 ^ 32) × CodeKeeps f.offset

  pub fill_law : Law (fill bounds) fill_bytes FillKeeps
  unfolding fill sized_bytes
  fill_law f h small t =
      let content = sized_bytes f.bytes in
      let rest = body_bytes f.offset ++ content in
      let few = back_few (number_bytes f.memory) rest small in
      let last = back_few (body_bytes f.offset) content few in (
        f.memory,
        rest ++ t,
        number_before f.memory rest t h.0,
        (
          f.offset,
          content ++ t,
          before (body bounds.blocks) body_bytes CodeKeeps code_law f.offset content t h.1 (front_few (body_bytes f.offset) content few),
          (length f.bytes, f.bytes ++ t, number_before (length f.bytes) f.bytes t (back_few (number_bytes (length f.bytes)) f.bytes last), (f.bytes, t, (refl, refl), (refl, refl))),
        ),
      )

-- ---- locals

-- the locals of runs
abbrev pub expanded : List Group → List ValType
expanded [] = []
expanded (g ∷ gs) = replicate g.count g.ty ++ expanded gs

same_is : (a b : ValType) → same_type a b ≡ true → a ≡ b
same_is I32 I32 e = refl
same_is I64 I64 e = refl
same_is Handle Handle e = refl
same_is I32 I64 e = absurd cc
same_is I32 Handle e = absurd cc
same_is I64 I32 e = absurd cc
same_is I64 Handle e = absurd cc
same_is Handle I32 e = absurd cc
same_is Handle I64 e = absurd cc

expanded-joined : (ty : ValType) (gs : List Group) → expanded (joined ty gs) ≡ ty ∷ expanded gs
expanded-joined ty [] = refl
expanded-joined ty (g ∷ gs) = go (same_type ty g.ty) refl where
  go : (b : Bool) → same_type ty g.ty ≡ b → expanded (joined ty (g ∷ gs)) ≡ ty ∷ expanded (g ∷ gs)
  go true e = rw e (ap (λ (u : ValType). u ∷ (replicate g.count g.ty ++ expanded gs)) (sym (same_is ty g.ty e)))
  go false e = rw e refl

expanded-groups : (tys : List ValType) → expanded (groups tys) ≡ tys
expanded-groups [] = refl
expanded-groups (ty ∷ tys) = expanded-joined ty (groups tys) ∙ ap (λ (l : List ValType). ty ∷ l) (expanded-groups tys)

some_group : (g : Group) → Anything g → 1 ≤ length (group_bytes g)
some_group g h = omega (arith, length-append (number_bytes g.count) (value_code g.ty ∷ []))

module _ (bounds : Bounds) where
  groups_law : (gs : List Group) (so_far : List ValType) → length so_far + length (expanded gs) ≤ bounds.locals → length (expanded gs) < 2 ^ 32 → (t : List ℕ)
      → (repeat (more_locals bounds) (length gs) so_far).spelled (flat_map group_bytes gs ++ t) (so_far ++ expanded gs) t
  unfolding repeat more_locals
  groups_law [] so_far le small t = (append-nil so_far, refl)
  groups_law (g ∷ gs) so_far le small t =
      let rest = flat_map group_bytes gs in
      let run = replicate g.count g.ty in
      let both = length-append run (expanded gs) in
      let n = length-replicate g.count g.ty in
      let m = length-append so_far run in
      let ih = groups_law gs (so_far ++ run) (omega arith) (omega arith) t in
      let here : number.spelled (group_bytes g ++ (rest ++ t)) g.count (value_code g.ty ∷ (rest ++ t)) = number_before g.count (value_code g.ty ∷ []) (rest ++ t) (omega arith) in
      let front = subst (λ (s : List ℕ). number.spelled s g.count (value_code g.ty ∷ (rest ++ t))) (sym (append_assoc (group_bytes g) rest t)) here in (
        so_far ++ run,
        rest ++ t,
        (g.count, value_code g.ty ∷ (rest ++ t), (front, le-leb (length so_far + g.count) bounds.locals (omega arith)), (g.ty, rest ++ t, value_law g.ty (rest ++ t), (refl, refl))),
        subst (λ (l : List ValType). (repeat (more_locals bounds) (length gs) (so_far ++ run)).spelled (rest ++ t) l t) (append_assoc so_far run (expanded gs)) ih,
      )

  locals_law : (tys : List ValType) → length tys ≤ bounds.locals → length tys < 2 ^ 32 → length (locals_bytes tys) < 2 ^ 32 → (t : List ℕ) → (locals bounds).spelled (locals_bytes tys ++ t) tys t
  unfolding locals vec_bytes
  locals_law tys le small few t =
      let gs = groups tys in
      let is = expanded-groups tys in
      let rest = flat_map group_bytes gs in
      let count = count_few group_bytes Anything some_group gs (all_anything gs) in
      let within : 0 + length (expanded gs) ≤ bounds.locals = omega (arith, subst (λ (l : List ValType). length l ≤ bounds.locals) (sym is) le) in
      let body = groups_law gs [] within (subst (λ (l : List ValType). length l < 2 ^ 32) (sym is) small) t in (
        length gs,
        rest ++ t,
        number_before (length gs) rest t (omega (arith, back_few (number_bytes (length gs)) rest few)),
        subst (λ (l : List ValType). (repeat (more_locals bounds) (length gs) []).spelled (rest ++ t) l t) is body,
      )

  -- ---- functions

  abbrev pub FuncKeeps : Func → Type 0
  FuncKeeps f = FuncFits f × NestsWithin bounds.blocks f.body 0 × (length f.locals ≤ bounds.locals)

  func_law : (f : Func) → FuncKeeps f → length (locals_bytes f.locals ++ body_bytes f.body) < 2 ^ 32 → (func bounds f.sig).spelled (locals_bytes f.locals ++ body_bytes f.body) f []
  unfolding func
  func_law f h few =
      let code = body_law bounds.blocks f.body h.0.1 h.1 (back_few (locals_bytes f.locals) (body_bytes f.body) few) [] in (
        f.locals,
        body_bytes f.body,
        locals_law f.locals h.2 h.0.0 (front_few (locals_bytes f.locals) (body_bytes f.body) few) (body_bytes f.body),
        (f.body, [], subst (λ (s : List ℕ). (body bounds.blocks).spelled s f.body []) (append-nil (body_bytes f.body)) code, (refl, refl)),
      )

  each_law : (fs : List Func) → AllFit FuncKeeps fs → length (flat_map func_bytes fs) < 2 ^ 32 → (t : List ℕ)
      → (each (λ sig. sized (func bounds sig)) (map (λ f. f.sig) fs)).spelled (flat_map func_bytes fs ++ t) fs t
  unfolding each
  each_law [] h few t = (refl, refl)
  each_law (f ∷ fs) h few t =
      let entry = locals_bytes f.locals ++ body_bytes f.body in
      let rest = flat_map func_bytes fs in
      let small : length entry < 2 ^ 32 = omega (arith, sized_len entry, front_few (func_bytes f) rest few) in
      let here = sized_law (func bounds f.sig) entry f small (func_law f h.0 small) (rest ++ t) in (
        f,
        rest ++ t,
        subst (λ (s : List ℕ). (sized (func bounds f.sig)).spelled s f (rest ++ t)) (sym (append_assoc (func_bytes f) rest t)) here,
        (fs, t, each_law fs h.1 (back_few (func_bytes f) rest few) t, (refl, refl)),
      )

  func_some : (f : Func) → FuncKeeps f → 1 ≤ length (func_bytes f)
  func_some f h = omega (arith, sized_len (locals_bytes f.locals ++ body_bytes f.body), length-append (locals_bytes f.locals) (body_bytes f.body), body_some f.body)

  pub funcs_law : (fs : List Func) → AllFit FuncKeeps fs → length (vec_bytes func_bytes fs) < 2 ^ 32 → (t : List ℕ) → (funcs bounds (map (λ f. f.sig) fs)).spelled (vec_bytes func_bytes fs ++ t) fs t
  unfolding funcs vec_bytes
  funcs_law fs h few t =
      let rest = flat_map func_bytes fs in
      let small = back_few (number_bytes (length fs)) rest few in
      let count = count_few func_bytes FuncKeeps func_some fs h in
      (length fs, rest ++ t, (number_before (length fs) rest t (omega arith), eq-eqb (length fs) (length (map (λ f. f.sig) fs)) (sym (length-map fs (λ f. f.sig)))), each_law fs h small t)
