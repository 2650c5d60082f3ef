use Rattle.std.proofs.Common.{◌≡◌, length, arith, ap}
use Rattle.std.proofs.lemmas.Grind.{common_steps}
use Rattle.ms_bin_write.specs.Parts.{number_bytes}
use Rattle.ms_bin_write.proofs.Counts.{number_len}
use Rattle.ms_bin_write.proofs.writer.write_start.Goals as goal

pub returns-clause-large : goal.returns-clause-large
returns-clause-large c = λ e.
    let content : c.as_slice.result.now ≡ number_bytes c.in-Some.index = grind (arith, common_steps) in
    let large = c.write_section.ensures.large e in
    omega (arith, ap length content, number_len c.in-Some.index (omega arith))
