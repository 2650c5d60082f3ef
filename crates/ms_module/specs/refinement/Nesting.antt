-- How deep blocks are in one another (WebAssembly 1.0, 2.4.5).
use Rattle.std.specs.Prelude.{ℕ, zero, suc, List, [], ◌∷◌, Some, None, All}
use Rattle.ms_module.specs.declared.instr.Instr.{Instr}
use Rattle.ms_module.specs.declared.instr.Instr.TheVariants.{Block, Loop, If}
use Rattle.ms_module.specs.declared.module.Module.{Module}
use Rattle.ms_module.specs.Numbered.{sequence_at}

-- what holds of each sequence that an instruction names
abbrev pub OfNamed : (ℕ → Type 0) → Instr → Type 0
OfNamed P (Block ty body) = P body
OfNamed P (Loop ty body) = P body
OfNamed P (If ty first None) = P first
OfNamed P (If ty first (Some second)) = P first × P second
OfNamed P _ = Unit {0}

abbrev pub OfAllNamed : (ℕ → Type 0) → List Instr → Type 0
OfAllNamed P [] = Unit {0}
OfAllNamed P (i ∷ is) = OfNamed P i × OfAllNamed P is

-- At most d blocks are in one another in the sequence of number k.
abbrev pub NestsWithin : ℕ → List (List Instr) → ℕ → Type 0
NestsWithin zero ss k = OfAllNamed (λ n. ⊥) (sequence_at ss k)
NestsWithin (suc d) ss k = OfAllNamed (λ n. NestsWithin d ss n) (sequence_at ss k)

-- At most d blocks are in one another in each body and each constant expression of the module.
pub record ModuleNestsWithin (d : ℕ) (m : Module) : Type 0 where
  pub funcs : All (λ f. NestsWithin d f.body 0) m.funcs
  pub globals : All (λ g. NestsWithin d g.init 0) m.globals
  pub elements : All (λ e. NestsWithin d e.offset 0) m.elements
  pub fills : All (λ f. NestsWithin d f.offset 0) m.fills
