-- What is known of a module that was written, and bounds that it keeps.
use Rattle.std.proofs.Common.{◌≡◌, ℕ, zero, suc, ◌+◌, ◌<◌, ◌≤◌, Bool, true, false, List, [], ◌∷◌, ◌++◌, length, refl, subst, arith}
use Rattle.std.specs.Prelude.{Option, Some, None, All}
use Rattle.std.proofs.lemmas.List.Elements.{All-cons, All-head, All-nil, All-tail}
use Rattle.ms_types.specs.declared.types.Limits.{Limits}
use Rattle.ms_types.specs.declared.types.ValType.{ValType}
use Rattle.ms_module.specs.declared.access.Linear.{Linear}
use Rattle.ms_module.specs.declared.access.Linear.TheVariants as linear
use Rattle.ms_module.specs.declared.access.Segment.{Segment}
use Rattle.ms_module.specs.declared.access.Segment.TheVariants as segment
use Rattle.ms_module.specs.declared.builder.Arm.{Arm}
use Rattle.ms_module.specs.declared.builder.Arm.TheVariants.{First, Second, AfterElse}
use Rattle.ms_module.specs.declared.builder.Open.{Open}
use Rattle.ms_module.specs.declared.builder.Opening.TheVariants.{Block, If, Loop}
use Rattle.ms_module.specs.declared.instr.Instr.{Instr}
use Rattle.ms_module.specs.declared.instr.Instr.TheVariants as instr
use Rattle.ms_module.specs.declared.module.Module.{Module}
use Rattle.ms_module.specs.declared.module.Import.{Import}
use Rattle.ms_module.specs.declared.module.ImportDesc.{ImportDesc}
use Rattle.ms_module.specs.declared.module.ImportDesc.TheVariants as imported
use Rattle.ms_module.specs.declared.module.Func.{Func}
use Rattle.ms_module.specs.declared.module.Global.{Global}
use Rattle.ms_module.specs.declared.module.Export.{Export}
use Rattle.ms_module.specs.declared.module.ExportDesc.{ExportDesc}
use Rattle.ms_module.specs.declared.module.ExportDesc.TheVariants as exported
use Rattle.ms_module.specs.declared.module.Element.{Element}
use Rattle.ms_module.specs.declared.module.Fill.{Fill}
use Rattle.ms_module.specs.Building.{IsNumbered, State, begun, closed, closed_in, current, first_state, is_after_else, placed, put, started, after_else, whole}
use Rattle.ms_module.specs.refinement.Nesting.{NestsWithin}
use Rattle.ms_module.proofs.Nesting.{nests}
use Rattle.ms_flat.specs.Flat.{Item, Plain, Begin, Else, End, flat}
use Rattle.ms_flat.specs.refinement.Rebuilt.{after}
use Rattle.ms_flat.proofs.Arriving.{flat_leads}
use Rattle.ms_text_grammar.specs.Bounds.{Bounds}
use Rattle.ms_text_write.specs.refinement.Limits.{KeepsBounds, most_parens}
use Rattle.ms_text_write.proofs.BinaryParts.{signed_is}
use Rattle.ms_flat.specs.refinement.Ranges.{AllFit, CodeFits, ElementFits, ExportDescFits, GlobalFits, ImportDescFits, InstrFits, ItemFits, LimitsFit, LinearFits, NumberFits, NumberFitsIf, SegmentFits}
use Rattle.ms_text_write.specs.refinement.Ranges.{ByteFits, ExportFits, FillFits, FuncFits, ImportFits, NameFits, PartsFit, UsesFit}
use Rattle.ms_text_write.proofs.Sayable.{Narrow, Sayable, SayableBody, SayableElement, SayableExport, SayableExportDesc, SayableFill, SayableFunc, SayableImport, SayableImportDesc, SayableInstr, SayableLimits, SayableLinear, SayableMax, SayableName, SayableSegment}
use Rattle.ms_text_write.proofs.Showable.{AreBytes, CanBeShown, HasNames}
use Rattle.ms_text_write.proofs.ModuleSaid.{Bodies, EachOf}

-- ---- facts of all items

all_fit : {A : Type 0} (P Q : A → Type 0) → ((x : A) → P x → Q x) → (xs : List A) → AllFit P xs → All Q xs
all_fit P Q f [] h = All-nil Q
all_fit P Q f (x ∷ xs) h = All-cons Q x xs (f x h.0) (all_fit P Q f xs h.1)

both_fit : {A : Type 0} (P Q R : A → Type 0) → ((x : A) → P x → Q x → R x) → (xs : List A) → AllFit P xs → All Q xs → All R xs
both_fit P Q R f [] h g = All-nil R
both_fit P Q R f (x ∷ xs) h g = All-cons R x xs (f x h.0 (All-head Q x xs g)) (both_fit P Q R f xs h.1 (All-tail Q x xs g))

each_fit : {A : Type 0} (P Q : A → Type 0) → ((x : A) → P x → Q x) → (xs : List A) → AllFit P xs → EachOf Q xs
each_fit P Q f [] h = tt
each_fit P Q f (x ∷ xs) h = (f x h.0, each_fit P Q f xs h.1)

-- ---- the instructions of all sequences are among the items

append_fit : {A : Type 0} (P : A → Type 0) (xs ys : List A) → AllFit P xs → AllFit P ys → AllFit P (xs ++ ys)
append_fit P [] ys h g = g
append_fit P (x ∷ xs) ys h g = (h.0, append_fit P xs ys h.1 g)

put_fit : (ss : List (List Instr)) (k : ℕ) (i : Instr) → InstrFits i → AllFit (λ is. AllFit InstrFits is) ss → AllFit (λ is. AllFit InstrFits is) (put ss k i)
put_fit [] k i f h = tt
put_fit (s ∷ ss) zero i f h = (append_fit InstrFits s (i ∷ []) h.0 (f, tt), h.1)
put_fit (s ∷ ss) (suc k) i f h = (h.0, put_fit ss k i f h.1)

whole_fits : (a : Arm) (ty : Option ValType) (n : ℕ) → InstrFits (whole a ty n)
whole_fits (First Block) ty n = tt
whole_fits (First Loop) ty n = tt
whole_fits (First If) ty n = tt
whole_fits AfterElse ty n = tt
whole_fits (Second before) ty n = tt

abbrev AllInRange : State → Type 0
AllInRange st = AllFit (λ is. AllFit InstrFits is) st.seqs

started_fits : (st : State) → AllInRange st → AllInRange (started st)
started_fits st h = go (is_after_else st.blocks) refl where
  go : (b : Bool) → is_after_else st.blocks ≡ b → AllInRange (started st)
  go false e = rw e h
  go true e = rw e (append_fit (λ is. AllFit InstrFits is) st.seqs ([] ∷ []) h (tt, tt))

closed_fits : (os : List Open) (ss : List (List Instr)) → AllFit (λ is. AllFit InstrFits is) ss → AllInRange (closed_in os ss)
closed_fits [] ss h = h
closed_fits (o ∷ os) ss h = put_fit ss (current os) (whole o.arm o.ty o.seq) (whole_fits o.arm o.ty o.seq) h

after_fits : (st : State) (xs : List Item) → AllFit ItemFits xs → AllInRange st → AllInRange (after st xs)
after_fits st [] f h = h
after_fits st (Plain i ∷ xs) f h = after_fits (placed st i) xs f.1 (put_fit (started st).seqs (current (started st).blocks) i f.0 (started_fits st h))
after_fits st (Begin opening ty ∷ xs) f h = after_fits (begun st opening ty) xs f.1 (append_fit (λ is. AllFit InstrFits is) (started st).seqs ([] ∷ []) (started_fits st h) (tt, tt))
after_fits st (Else ∷ xs) f h = after_fits (after_else st) xs f.1 h
after_fits st (End ∷ xs) f h = after_fits (closed st) xs f.1 (closed_fits st.blocks st.seqs h)

code_fits : (ss : List (List Instr)) → CodeFits ss → AllFit (λ is. AllFit InstrFits is) ss
code_fits ss h = subst (λ (st : State). AllInRange st) (flat_leads ss h.0).0 (after_fits first_state (flat ss) h.1 (tt, tt))

-- ---- parts

number_said : (n : ℕ) → NumberFits n → Narrow n
number_said n h = h

if_said : (o : Option ℕ) → NumberFitsIf o → SayableMax o
if_said None h = tt
if_said (Some n) h = h

limits_said : (l : Limits) → LimitsFit l → SayableLimits l
limits_said l h = (h.0, if_said l.max h.1)

name_said : (bs : List ℕ) → NameFits bs → SayableName bs
name_said bs h = (all_fit ByteFits (λ b. b < 256) (λ b i. i) bs h.0, h.1)

linear_said : (i : Linear) → LinearFits i → SayableLinear i
linear_said (linear.Load op arg) h = h.1
linear_said (linear.Store op arg) h = h.1
linear_said _ h = tt

segment_said : (i : Segment) → SegmentFits i → SayableSegment i
segment_said (segment.Add scale) h = h
segment_said _ h = tt

instr_said : (i : Instr) → InstrFits i → SayableInstr i
instr_said (instr.BrTable t) h = (all_fit NumberFits Narrow number_said t.labels h.0, h.1)
instr_said (instr.I32Const n) h = signed_is 32 n h
instr_said (instr.I64Const n) h = signed_is 64 n h
instr_said (instr.Linear i) h = linear_said i h
instr_said (instr.Segment i) h = segment_said i h
instr_said _ h = h

body_said : (most : ℕ) (ss : List (List Instr)) → CodeFits ss → NestsWithin most ss 0 → SayableBody most ss
body_said most ss h shallow = record {
  numbered = h.0;
  shallow = shallow;
  ranges = all_fit (λ is. AllFit InstrFits is) (λ is. All SayableInstr is) (λ is f. all_fit InstrFits SayableInstr instr_said is f) ss (code_fits ss h);
}

-- ---- fields

import_desc_said : (d : ImportDesc) → ImportDescFits d → SayableImportDesc d
import_desc_said (imported.Func x) h = h
import_desc_said (imported.Table l) h = limits_said l h
import_desc_said (imported.Memory l) h = limits_said l h
import_desc_said (imported.Global g) h = tt

import_said : (i : Import) → ImportFits i → SayableImport i
import_said i h = record { from = name_said i.«module» h.0; known_as = name_said i.name h.1; desc = import_desc_said i.desc h.2 }

export_desc_said : (d : ExportDesc) → ExportDescFits d → SayableExportDesc d
export_desc_said (exported.Func x) h = h
export_desc_said (exported.Table x) h = h
export_desc_said (exported.Memory x) h = h
export_desc_said (exported.Global x) h = h

export_said : (e : Export) → ExportFits e → SayableExport e
export_said e h = record { name = name_said e.name h.0; desc = export_desc_said e.desc h.1 }

element_said : (bounds : Bounds) (e : Element) → ElementFits e → NestsWithin bounds.blocks e.offset 0 → SayableElement bounds e
element_said bounds e h n = record { table = h.0; offset = body_said bounds.blocks e.offset h.1 n; funcs = all_fit NumberFits Narrow number_said e.funcs h.2 }

fill_said : (bounds : Bounds) (f : Fill) → FillFits f → NestsWithin bounds.blocks f.offset 0 → SayableFill bounds f
fill_said bounds f h n = record { memory = h.0; offset = body_said bounds.blocks f.offset h.1 n; bytes = all_fit ByteFits (λ b. b < 256) (λ b i. i) f.bytes h.2 }

funcs_said : (bounds : Bounds) (fs : List Func) → AllFit FuncFits fs → All (λ f. NestsWithin bounds.blocks f.body 0) fs → All (λ f. length f.locals ≤ bounds.locals) fs → All (SayableFunc bounds) fs
funcs_said bounds [] h n l = All-nil (SayableFunc bounds)
funcs_said bounds (f ∷ fs) h n l =
    let one : SayableFunc bounds f = record {
      sig = h.0.0;
      few = All-head (λ f. length f.locals ≤ bounds.locals) f fs l;
      body = body_said bounds.blocks f.body h.0.1 (All-head (λ f. NestsWithin bounds.blocks f.body 0) f fs n);
    } in
    All-cons (SayableFunc bounds) f fs one (funcs_said bounds fs h.1 (All-tail (λ f. NestsWithin bounds.blocks f.body 0) f fs n) (All-tail (λ f. length f.locals ≤ bounds.locals) f fs l))

-- ---- modules

pub sayable : (bounds : Bounds) (m : Module) → PartsFit m → UsesFit m → KeepsBounds bounds m → Sayable bounds m
sayable bounds m parts uses kept = record {
  imports = all_fit ImportFits SayableImport import_said m.imports parts.imports;
  funcs = funcs_said bounds m.funcs parts.funcs kept.blocks.funcs kept.locals;
  tables = all_fit LimitsFit SayableLimits limits_said m.tables parts.tables;
  memories = all_fit LimitsFit SayableLimits limits_said m.memories parts.memories;
  globals = both_fit GlobalFits (λ g. NestsWithin bounds.blocks g.init 0) (λ (g : Global). SayableBody bounds.blocks g.init) (λ g h n. body_said bounds.blocks g.init h n) m.globals parts.globals kept.blocks.globals;
  exports = all_fit ExportFits SayableExport export_said m.exports uses.exports;
  start = if_said m.start uses.start;
  elements = both_fit ElementFits (λ e. NestsWithin bounds.blocks e.offset 0) (SayableElement bounds) (element_said bounds) m.elements uses.elements kept.blocks.elements;
  fills = both_fit FillFits (λ f. NestsWithin bounds.blocks f.offset 0) (SayableFill bounds) (fill_said bounds) m.fills uses.fills kept.blocks.fills;
}

pub can_be_shown : (m : Module) → PartsFit m → UsesFit m → CanBeShown m
can_be_shown m parts uses = record {
  imports = all_fit ImportFits (λ i. HasNames i) (λ i h. record { from = (name_said i.«module» h.0).0; known_as = (name_said i.name h.1).0 }) m.imports parts.imports;
  exports = all_fit ExportFits (λ e. AreBytes e.name) (λ e h. (name_said e.name h.0).0) m.exports uses.exports;
  fills = all_fit FillFits (λ f. AreBytes f.bytes) (λ f h. all_fit ByteFits (λ b. b < 256) (λ b i. i) f.bytes h.2) m.fills uses.fills;
}

pub bodies : (m : Module) → PartsFit m → UsesFit m → Bodies m
bodies m parts uses = record {
  funcs = each_fit FuncFits (λ f. IsNumbered f.body) (λ f h. h.1.0) m.funcs parts.funcs;
  globals = each_fit GlobalFits (λ g. IsNumbered g.init) (λ g h. h.0) m.globals parts.globals;
  elements = each_fit ElementFits (λ e. IsNumbered e.offset) (λ e h. h.1.0) m.elements uses.elements;
  fills = each_fit FillFits (λ f. IsNumbered f.offset) (λ f h. h.1.0) m.fills uses.fills;
}

-- ---- bounds that a module keeps

-- how many items all lists have
total : {A X : Type 0} → (A → List X) → List A → ℕ
total items [] = 0
total items (x ∷ xs) = length (items x) + total items xs

all_nest : {A : Type 0} (code : A → List (List Instr)) (xs : List A) → EachOf (λ x. IsNumbered (code x)) xs → (d : ℕ) → total code xs ≤ d → All (λ x. NestsWithin d (code x) 0) xs
unfolding total
all_nest code [] h d le = All-nil (λ x. NestsWithin d (code x) 0)
all_nest code (x ∷ xs) h d le =
    All-cons (λ x. NestsWithin d (code x) 0) x xs (nests d (code x) h.0 (omega arith)) (all_nest code xs h.1 d (omega arith))

all_few : {A X : Type 0} (items : A → List X) (xs : List A) (n : ℕ) → total items xs ≤ n → All (λ x. length (items x) ≤ n) xs
unfolding total
all_few items [] n le = All-nil (λ x. length (items x) ≤ n)
all_few items (x ∷ xs) n le = All-cons (λ x. length (items x) ≤ n) x xs (omega arith) (all_few items xs n (omega arith))

depth : Module → ℕ
depth m = total (λ f. f.body) m.funcs + total (λ g. g.init) m.globals + total (λ e. e.offset) m.elements + total (λ f. f.offset) m.fills

pub wide : Module → Bounds
wide m = record { blocks = depth m; locals = total (λ f. f.locals) m.funcs; parens = most_parens }

pub keeps_wide : (m : Module) → Bodies m → KeepsBounds (wide m) m
unfolding depth wide
keeps_wide m b = record {
  blocks = record {
    funcs = all_nest (λ f. f.body) m.funcs b.funcs (depth m) (omega arith);
    globals = all_nest (λ g. g.init) m.globals b.globals (depth m) (omega arith);
    elements = all_nest (λ e. e.offset) m.elements b.elements (depth m) (omega arith);
    fills = all_nest (λ f. f.offset) m.fills b.fills (depth m) (omega arith);
  };
  locals = all_few (λ f. f.locals) m.funcs (total (λ f. f.locals) m.funcs) (omega arith);
  parens = omega arith;
}
