use Rattle.std.specs.Prelude.{◌≡◌, List, ℕ, true}
use Rattle.std.specs.Str.{is_utf8}
use Rattle.std.proofs.Common.{subst}
use Rattle.std.proofs.lemmas.Str.{is_utf8-from_IsUtf8}
use Rattle.ms_bin_write.specs.refinement.Ranges.{NameFits}
use Rattle.ms_bin_write.proofs.Counts.{on_ok}
use Rattle.ms_bin_write.proofs.parts.NameItem.write.Goals as goal

pub returns-clause-within : goal.returns-clause-within
returns-clause-within c =
    on_ok c.write_sized.result (NameFits c.args.self.now) (subst (λ (bs : List ℕ). is_utf8 bs ≡ true) c.as_str.ensures (is_utf8-from_IsUtf8 c.as_str.result.now c.as_str.utf8))
