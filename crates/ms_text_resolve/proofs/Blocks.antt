-- No block is open behind a balanced body.
use Rattle.std.proofs.Common.{◌≡◌, ◌≤◌, ℕ, List, [], ◌∷◌, length, drop, refl, subst}
use Rattle.std.proofs.Math.ListN.{drop_of_length-le}
use Rattle.ms_module.specs.declared.builder.Open.{Open}
use Rattle.ms_text_grammar.specs.declared.surface.Op.{Op}
use Rattle.ms_text_grammar.specs.refinement.Balance.{Balanced}
use Rattle.ms_text_resolve.specs.refinement.Steps.{elses_of}

none_left : (blocks : List Open) → elses_of blocks ≡ [] → length blocks ≡ 0
none_left [] e = refl
none_left (o ∷ os) e = absurd cc

pub all_closed : (blocks : List Open) (ops : List Op) (i : ℕ) → length ops ≤ i → Balanced (elses_of blocks) (drop i ops) → length blocks ≡ 0
all_closed blocks ops i le h = none_left blocks (subst (λ (l : List Op). Balanced (elses_of blocks) l) (drop_of_length-le ops le) h)
