-- What is known of a module that was written, and bounds that it keeps.
use Rattle.std.proofs.Common.{◌≡◌, ℕ, ◌+◌, ◌<◌, ◌≤◌, ◌^◌, List, [], ◌∷◌, ◌++◌, length, inl, inr, sym, subst, arith, append_assoc}
use Rattle.std.specs.Prelude.{All}
use Rattle.std.proofs.lemmas.Bool.{cases_lt}
use Rattle.std.proofs.lemmas.List.Elements.{All-cons, All-head, All-nil, All-tail}
use Rattle.ms_module.specs.declared.instr.Instr.{Instr}
use Rattle.ms_module.specs.declared.module.Module.{Module}
use Rattle.ms_module.specs.refinement.Nesting.{NestsWithin}
use Rattle.ms_module.proofs.Nesting.{nests}
use Rattle.ms_bin_grammar.specs.Bounds.{Bounds}
use Rattle.ms_bin_grammar.specs.Module.{Spells, SpellsWithin}
use Rattle.ms_bin_write.specs.Parts.{number_bytes, vec_bytes}
use Rattle.ms_bin_write.specs.Types.{func_type_bytes, limits_bytes, table_bytes}
use Rattle.ms_flat.specs.refinement.Ranges.{AllFit, CodeFits, ElementFits, GlobalFits}
use Rattle.ms_bin_write.specs.refinement.Ranges.{FillFits, FuncFits, ModuleFits}
use Rattle.ms_bin_write.specs.Written.{IsLarge, IsTooMany, KeepsBounds, codes, element_bytes, elements, export_bytes, fill_bytes, func_bytes, global_bytes, import_bytes, sigs_of, exports, fills, globals, imports, indices, memories, tables, types, written}
use Rattle.ms_bin_write.proofs.SpelledParts.{ElementKeeps, FillKeeps, FuncKeeps, GlobalKeeps}
use Rattle.ms_bin_grammar.proofs.Wider.{one_spelled}
use Rattle.ms_bin_write.proofs.SpelledModule.{Keeps, module_spelled}

-- ---- facts of all items

fit_all : {A : Type 0} (P : A → Type 0) (xs : List A) → All P xs → AllFit P xs
fit_all P [] h = tt
fit_all P (x ∷ xs) h = (All-head P x xs h, fit_all P xs (All-tail P x xs h))

all_fit : {A : Type 0} (P : A → Type 0) (xs : List A) → AllFit P xs → All P xs
all_fit P [] h = All-nil P
all_fit P (x ∷ xs) h = All-cons P x xs h.0 (all_fit P xs h.1)

fit_map : {A : Type 0} (P Q : A → Type 0) → ((x : A) → P x → Q x) → (xs : List A) → AllFit P xs → AllFit Q xs
fit_map P Q f [] h = tt
fit_map P Q f (x ∷ xs) h = (f x h.0, fit_map P Q f xs h.1)

both_fit : {A : Type 0} (P Q R : A → Type 0) → ((x : A) → P x → Q x → R x) → (xs : List A) → AllFit P xs → AllFit Q xs → AllFit R xs
both_fit P Q R f [] h g = tt
both_fit P Q R f (x ∷ xs) h g = (f x h.0 g.0, both_fit P Q R f xs h.1 g.1)

few : {A : Type 0} (text : A → List ℕ) (xs : List A) → (IsTooMany text xs → ⊥) → length (vec_bytes text xs) < 2 ^ 32
few text xs not_many = elim (cases_lt (length (vec_bytes text xs)) (2 ^ 32)) [ inl lt ↦ lt | inr le ↦ absurd (not_many le) ]

pub keeps : (bounds : Bounds) (m : Module) → ModuleFits m → ¬ (IsLarge m) → KeepsBounds bounds m → Keeps bounds m
keeps bounds m fits small kept = record {
  sigs = few func_type_bytes m.sigs (λ h. small (types h));
  imports = (fits.imports, few import_bytes m.imports (λ h. small (imports h)));
  indices = (fits.indices, few number_bytes (sigs_of m.funcs) (λ h. small (indices h)));
  tables = (fits.tables, few table_bytes m.tables (λ h. small (tables h)));
  memories = (fits.memories, few limits_bytes m.memories (λ h. small (memories h)));
  globals = (both_fit GlobalFits (λ g. NestsWithin bounds.blocks g.init 0) (GlobalKeeps bounds) (λ g h n. (h, n)) m.globals fits.globals (fit_all (λ g. NestsWithin bounds.blocks g.init 0) m.globals kept.blocks.globals), few global_bytes m.globals (λ h. small (globals h)));
  exports = (fits.exports, few export_bytes m.exports (λ h. small (exports h)));
  start = fits.start;
  elements = (both_fit ElementFits (λ e. NestsWithin bounds.blocks e.offset 0) (ElementKeeps bounds) (λ e h n. (h.0, (h.1, n), h.2)) m.elements fits.elements (fit_all (λ e. NestsWithin bounds.blocks e.offset 0) m.elements kept.blocks.elements), few element_bytes m.elements (λ h. small (elements h)));
  funcs = (both_fit (λ f. FuncFits f × NestsWithin bounds.blocks f.body 0) (λ f. length f.locals ≤ bounds.locals) (FuncKeeps bounds) (λ f h n. (h.0, h.1, n)) m.funcs (both_fit FuncFits (λ f. NestsWithin bounds.blocks f.body 0) (λ f. FuncFits f × NestsWithin bounds.blocks f.body 0) (λ f h n. (h, n)) m.funcs fits.funcs (fit_all (λ f. NestsWithin bounds.blocks f.body 0) m.funcs kept.blocks.funcs)) (fit_all (λ f. length f.locals ≤ bounds.locals) m.funcs kept.locals), few func_bytes m.funcs (λ h. small (codes h)));
  fills = (both_fit FillFits (λ f. NestsWithin bounds.blocks f.offset 0) (FillKeeps bounds) (λ f h n. (h.0, (h.1, n))) m.fills fits.fills (fit_all (λ f. NestsWithin bounds.blocks f.offset 0) m.fills kept.blocks.fills), few fill_bytes m.fills (λ h. small (fills h)));
}

-- ---- bounds that a module keeps

-- how many sequences all bodies have
total : {A : Type 0} → (A → List (List Instr)) → List A → ℕ
total code [] = 0
total code (x ∷ xs) = length (code x) + total code xs

all_nest : {A : Type 0} (code : A → List (List Instr)) (xs : List A) → AllFit (λ x. CodeFits (code x)) xs → (d : ℕ) → total code xs ≤ d → All (λ x. NestsWithin d (code x) 0) xs
unfolding total
all_nest code [] h d le = All-nil (λ x. NestsWithin d (code x) 0)
all_nest code (x ∷ xs) h d le =
    All-cons (λ x. NestsWithin d (code x) 0) x xs (nests d (code x) h.0.0 (omega arith)) (all_nest code xs h.1 d (omega arith))

depth : Module → ℕ
depth m = total (λ f. f.body) m.funcs + total (λ g. g.init) m.globals + total (λ e. e.offset) m.elements + total (λ f. f.offset) m.fills

wide : Module → Bounds
wide m = record { blocks = depth m; locals = 0xFFFF_FFFF }

keeps_wide : (m : Module) → ModuleFits m → KeepsBounds (wide m) m
unfolding depth wide
keeps_wide m fits = record {
  blocks = record {
    funcs = all_nest (λ f. f.body) m.funcs (fit_map FuncFits (λ f. CodeFits f.body) (λ f h. h.1) m.funcs fits.funcs) (depth m) (omega arith);
    globals = all_nest (λ g. g.init) m.globals fits.globals (depth m) (omega arith);
    elements = all_nest (λ e. e.offset) m.elements (fit_map ElementFits (λ e. CodeFits e.offset) (λ e h. h.1) m.elements fits.elements) (depth m) (omega arith);
    fills = all_nest (λ f. f.offset) m.fills (fit_map FillFits (λ f. CodeFits f.offset) (λ f h. h.1) m.fills fits.fills) (depth m) (omega arith);
  };
  locals = all_fit (λ f. length f.locals ≤ 0xFFFF_FFFF) m.funcs (fit_map FuncFits (λ f. length f.locals ≤ 0xFFFF_FFFF) (λ f h. omega (arith, h.0)) m.funcs fits.funcs);
}

-- ---- all of it

module _ (m : Module) (fits : ModuleFits m) (small : ¬ (IsLarge m)) (bytes : List ℕ) (is : bytes ≡ written m) where
  pub spelled_within : (bounds : Bounds) → KeepsBounds bounds m → SpellsWithin bounds bytes m
  spelled_within bounds kept = subst (λ (s : List ℕ). SpellsWithin bounds s m) (sym is) (module_spelled bounds m (keeps bounds m fits small kept))

  pub spelled : Spells bytes m
  unfolding wide
  spelled = (wide m, omega arith, spelled_within (wide m) (keeps_wide m fits))

  pub no_other : (other : Module) → Spells bytes other → other ≡ m
  no_other other h = one_spelled h.0 spelled.0 bytes other m h.2 spelled.2

-- ---- eleven parts, one after the other

pub eleven : (a b c d e f g h i j k l p1 p2 p3 p4 p5 p6 p7 p8 p9 p10 p11 : List ℕ)
    → b ≡ a ++ p1 → c ≡ b ++ p2 → d ≡ c ++ p3 → e ≡ d ++ p4 → f ≡ e ++ p5 → g ≡ f ++ p6 → h ≡ g ++ p7 → i ≡ h ++ p8 → j ≡ i ++ p9 → k ≡ j ++ p10 → l ≡ k ++ p11
    → l ≡ a ++ (p1 ++ (p2 ++ (p3 ++ (p4 ++ (p5 ++ (p6 ++ (p7 ++ (p8 ++ (p9 ++ (p10 ++ p11))))))))))
eleven a b c d e f g h i j k l p1 p2 p3 p4 p5 p6 p7 p8 p9 p10 p11 q1 q2 q3 q4 q5 q6 q7 q8 q9 q10 q11 = rw (q11, q10, q9, q8, q7, q6, q5, q4, q3, q2, q1) (simp append_assoc)
