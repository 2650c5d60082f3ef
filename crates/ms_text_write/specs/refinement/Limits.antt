-- The bounds within which a text is read.
use Rattle.std.specs.Prelude.{ℕ, ◌≤◌, All, length}
use Rattle.ms_module.specs.declared.module.Module.{Module}
use Rattle.ms_module.specs.refinement.Nesting.{ModuleNestsWithin}
use Rattle.ms_text_grammar.specs.Bounds.{Bounds}

-- how many parentheses are in one another at most in a text that is written: instructions are flat
abbrev pub most_parens : ℕ
most_parens = 4

-- The module has at most so many blocks in one another, and a function at most so many locals.
pub record KeepsBounds (bounds : Bounds) (m : Module) : Type 0 where
  pub blocks : ModuleNestsWithin bounds.blocks m
  pub locals : All (λ f. length f.locals ≤ bounds.locals) m.funcs
  pub parens : most_parens ≤ bounds.parens
