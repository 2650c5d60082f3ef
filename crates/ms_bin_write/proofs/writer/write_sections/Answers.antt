use Rattle.std.proofs.Common.{◌≡◌, ◌++◌}
use Rattle.ms_bin_write.specs.Written.{fill_bytes, part_bytes, sections_bytes}
use Rattle.ms_bin_write.proofs.Counts.{on_ok_too}
use Rattle.ms_bin_write.proofs.Kept.{eleven}
use Rattle.ms_bin_write.proofs.writer.write_sections.Goals as goal

pub returns-clause-written : goal.returns-clause-written
unfolding sections_bytes
returns-clause-written c =
    let old = c.args.out.now.items in
    let before = c.write_code_section.new.out.items in
    let all = c.write_part-7.new.out.items in
    let last = part_bytes 11 fill_bytes c.args.«module».now.fills in
    on_ok_too c.write_part-7.result (all ≡ before ++ last) (all ≡ old ++ sections_bytes c.args.«module».now) c.write_part-7.ensures.written (λ e.
    eleven old _ _ _ _ _ _ _ _ _ before all _ _ _ _ _ _ _ _ _ _ last c.in_ok-write_part.ensures.written c.in_ok-write_part-2.ensures.written c.in_ok-write_function_section.ensures.written
    c.in_ok-write_table_section.ensures.written c.in_ok-write_part-3.ensures.written c.in_ok-write_part-4.ensures.written c.in_ok-write_part-5.ensures.written c.in_ok-write_start.ensures.written
    c.in_ok-write_part-6.ensures.written c.in_ok-write_code_section.ensures.written e)
