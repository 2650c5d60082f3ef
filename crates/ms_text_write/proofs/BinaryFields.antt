-- What holds of all fields of a module that are spelled in bytes.
use Rattle.std.proofs.Common.{ℕ, ◌+◌, ◌<◌, ◌≤◌, inl, inr, List, [], ◌∷◌, ◌++◌, length, replicate, subst, arith}
use Rattle.std.specs.Prelude.{All}
use Rattle.std.proofs.lemmas.Bool.{leb-true}
use Rattle.std.proofs.lemmas.List.{length-append, length-replicate}
use Rattle.std.proofs.lemmas.List.Elements.{All-rest}
use Rattle.ms_types.specs.declared.types.GlobalType.{GlobalType}
use Rattle.ms_types.specs.declared.types.Limits.{Limits}
use Rattle.ms_types.specs.declared.types.ValType.{ValType}
use Rattle.ms_module.specs.declared.module.ImportDesc.{ImportDesc}
use Rattle.ms_module.specs.declared.module.Func.{Func}
use Rattle.ms_module.specs.declared.module.Global.{Global}
use Rattle.ms_module.specs.declared.module.ExportDesc.{ExportDesc}
use Rattle.ms_bin_grammar.specs.Bounds.{usual}
use Rattle.ms_text_grammar.specs.Bounds as text
use Rattle.ms_bin_grammar.specs.Numbers.{number}
use Rattle.ms_bin_grammar.specs.Sizes.{sized}
use Rattle.ms_bin_grammar.specs.Types.{global_type, limits, mutability, table_type}
use Rattle.ms_bin_grammar.specs.Module.{element, export, export_desc, fill, func, funcs, global, import, import_desc, locals, more_locals}
use Rattle.ms_text_write.proofs.Sayable.{Narrow, SayableBody, SayableElement, SayableExport, SayableExportDesc, SayableFill, SayableFunc, SayableImport, SayableImportDesc, SayableLimits}
use Rattle.ms_text_write.proofs.BinaryParts.{AllSpelled, each_holds, ends, front_bytes, back_bytes, marks_hold, name_holds, number_holds, repeat_holds, sized_holds, vec_holds}
use Rattle.ms_text_write.proofs.BinaryBodies.{Any, body_holds, val_type_holds}
use Rattle.ms_text_write.proofs.Showable.{AreBytes}

-- ---- types

pub limits_hold : AllSpelled limits (λ l. SayableLimits l)
unfolding limits
limits_hold s x t bs h =
    let P : Limits → Type 0 = λ l. SayableLimits l in
    let bytes = All-rest (λ b. b < 256) h.0 h.1 s h.2 bs in
    elim h.3 [
      | inl k ↦
          let j = k.1 in
          let min = number_holds h.1 j.0 j.1 bytes j.2 in
          ends P j.3 (min.0, tt) min.1
      | inr k ↦ elim k.1 [
        | inl k ↦
            let j = k.1 in
            let min = number_holds h.1 j.0 j.1 bytes j.2 in
            let max = number_holds j.1 j.3.0 j.3.1 min.1 j.3.2 in
            ends P j.3.3 (min.0, max.0) max.1
        | inr k ↦ absurd k.1
      ]
    ]

pub table_type_holds : AllSpelled table_type (λ l. SayableLimits l)
unfolding table_type
table_type_holds s x t bs h = limits_hold h.1 x t (marks_hold (0x70 ∷ []) s h.1 bs h.2) h.3

mutability_holds : AllSpelled mutability (λ b. Any b)
unfolding mutability
mutability_holds s x t bs h =
    let bytes = All-rest (λ b. b < 256) h.0 h.1 s h.2 bs in
    elim h.3 [
      | inl k ↦ ends (λ b. Any b) k.1 tt bytes
      | inr k ↦ elim k.1 [ inl k ↦ ends (λ b. Any b) k.1 tt bytes | inr k ↦ absurd k.1 ]
    ]

global_type_holds : AllSpelled global_type (λ (g : GlobalType). Any g)
unfolding global_type
global_type_holds s x t bs h =
    let ty = val_type_holds s h.0 h.1 bs h.2 in
    let mutable = mutability_holds h.1 h.3.0 h.3.1 ty.1 h.3.2 in
    ends (λ (g : GlobalType). Any g) h.3.3 tt mutable.1

-- ---- imports

import_desc_holds : AllSpelled import_desc (λ d. SayableImportDesc d)
unfolding import_desc
import_desc_holds s x t bs h =
    let P : ImportDesc → Type 0 = λ d. SayableImportDesc d in
    let bytes = All-rest (λ b. b < 256) h.0 h.1 s h.2 bs in
    elim h.3 [
      | inl k ↦ let j = k.1 in let n = number_holds h.1 j.0 j.1 bytes j.2 in ends P j.3 n.0 n.1
      | inr k ↦ elim k.1 [
        | inl k ↦ let j = k.1 in let l = table_type_holds h.1 j.0 j.1 bytes j.2 in ends P j.3 l.0 l.1
        | inr k ↦ elim k.1 [
          | inl k ↦ let j = k.1 in let l = limits_hold h.1 j.0 j.1 bytes j.2 in ends P j.3 l.0 l.1
          | inr k ↦ elim k.1 [
            | inl k ↦ let j = k.1 in let g = global_type_holds h.1 j.0 j.1 bytes j.2 in ends P j.3 tt g.1
            | inr k ↦ absurd k.1
          ]
        ]
      ]
    ]

pub import_holds : AllSpelled import (λ i. SayableImport i)
unfolding import
import_holds s x t bs h =
    let source = name_holds s h.0 h.1 bs h.2 in
    let known_as = name_holds h.1 h.3.0 h.3.1 source.1 h.3.2 in
    let k = h.3.3 in
    let desc = import_desc_holds h.3.1 k.0 k.1 known_as.1 k.2 in
    ends (λ i. SayableImport i) k.3 (record { from = source.0; known_as = known_as.0; desc = desc.0 }) desc.1

-- ---- globals

pub global_holds : AllSpelled (global usual) (λ (g : Global). SayableBody usual.blocks g.init)
unfolding global
global_holds s x t bs h =
    let ty = global_type_holds s h.0 h.1 bs h.2 in
    let init = body_holds usual.blocks h.1 h.3.0 h.3.1 ty.1 h.3.2 in
    ends (λ (g : Global). SayableBody usual.blocks g.init) h.3.3 init.0 init.1

-- ---- exports

export_desc_holds : AllSpelled export_desc (λ d. SayableExportDesc d)
unfolding export_desc
export_desc_holds s x t bs h =
    let P : ExportDesc → Type 0 = λ d. SayableExportDesc d in
    let bytes = All-rest (λ b. b < 256) h.0 h.1 s h.2 bs in
    elim h.3 [
      | inl k ↦ let j = k.1 in let n = number_holds h.1 j.0 j.1 bytes j.2 in ends P j.3 n.0 n.1
      | inr k ↦ elim k.1 [
        | inl k ↦ let j = k.1 in let n = number_holds h.1 j.0 j.1 bytes j.2 in ends P j.3 n.0 n.1
        | inr k ↦ elim k.1 [
          | inl k ↦ let j = k.1 in let n = number_holds h.1 j.0 j.1 bytes j.2 in ends P j.3 n.0 n.1
          | inr k ↦ elim k.1 [
            | inl k ↦ let j = k.1 in let n = number_holds h.1 j.0 j.1 bytes j.2 in ends P j.3 n.0 n.1
            | inr k ↦ absurd k.1
          ]
        ]
      ]
    ]

pub export_holds : AllSpelled export (λ e. SayableExport e)
unfolding export
export_holds s x t bs h =
    let known_as = name_holds s h.0 h.1 bs h.2 in
    let desc = export_desc_holds h.1 h.3.0 h.3.1 known_as.1 h.3.2 in
    ends (λ e. SayableExport e) h.3.3 (record { name = known_as.0; desc = desc.0 }) desc.1

-- ---- entries of tables and bytes of memories

pub element_holds : AllSpelled (element usual) (λ e. SayableElement text.usual e)
unfolding element
element_holds s x t bs h =
    let table = number_holds s h.0 h.1 bs h.2 in
    let offset = body_holds usual.blocks h.1 h.3.0 h.3.1 table.1 h.3.2 in
    let k = h.3.3 in
    let indices = vec_holds number Narrow number_holds h.3.1 k.0 k.1 offset.1 k.2 in
    ends (λ e. SayableElement text.usual e) k.3 (record { table = table.0; offset = offset.0; funcs = indices.0 }) indices.1

pub fill_holds : AllSpelled (fill usual) (λ f. SayableFill text.usual f)
unfolding fill
fill_holds s x t bs h =
    let memory = number_holds s h.0 h.1 bs h.2 in
    let offset = body_holds usual.blocks h.1 h.3.0 h.3.1 memory.1 h.3.2 in
    let k = h.3.3 in
    let count = number_holds h.3.1 k.0 k.1 offset.1 k.2 in
    let content = k.3.0 in
    let all = subst (λ (l : List ℕ). AreBytes l) k.3.2.1 count.1 in
    ends (λ f. SayableFill text.usual f) k.3.3 (record { memory = memory.0; offset = offset.0; bytes = front_bytes content k.3.1 all }) (back_bytes content k.3.1 all)

-- ---- functions

-- so many locals at the most
abbrev Few : List ValType → Type 0
Few tys = length tys ≤ usual.locals

more_few : (before : List ValType) (n : ℕ) (ty : ValType) → length before + n ≤ usual.locals → Few (before ++ replicate n ty)
more_few before n ty le = omega (arith, length-append before (replicate n ty), length-replicate n ty)

more_locals_hold : (before : List ValType) → Few before → AllSpelled (more_locals usual before) Few
unfolding more_locals
more_locals_hold before few s x t bs h =
    let count = number_holds s h.0 h.1 bs h.2.0 in
    let ty = val_type_holds h.1 h.3.0 h.3.1 count.1 h.3.2 in
    ends Few h.3.3 (more_few before h.0 h.3.0 (leb-true (length before + h.0) usual.locals h.2.1)) ty.1

locals_hold : AllSpelled (locals usual) Few
unfolding locals
locals_hold s x t bs h =
    let count = number_holds s h.0 h.1 bs h.2 in
    repeat_holds (more_locals usual) Few more_locals_hold h.0 [] (omega arith) h.1 x t count.1 h.3

func_holds : (sig : ℕ) → Narrow sig → AllSpelled (func usual sig) (λ f. SayableFunc text.usual f)
unfolding func
func_holds sig n s x t bs h =
    let declared = locals_hold s h.0 h.1 bs h.2 in
    let instrs = body_holds usual.blocks h.1 h.3.0 h.3.1 declared.1 h.3.2 in
    ends (λ f. SayableFunc text.usual f) h.3.3 (record { sig = n; few = declared.0; body = instrs.0 }) instrs.1

pub funcs_hold : (sigs : List ℕ) → All Narrow sigs → AllSpelled (funcs usual sigs) (λ (fs : List Func). All (λ f. SayableFunc text.usual f) fs)
unfolding funcs
funcs_hold sigs ns s x t bs h =
    let count = number_holds s h.0 h.1 bs h.2.0 in
    each_holds (λ sig. sized (func usual sig)) Narrow (λ f. SayableFunc text.usual f) (λ sig n. sized_holds (func usual sig) (λ f. SayableFunc text.usual f) (func_holds sig n)) sigs ns h.1 x t count.1 h.3
