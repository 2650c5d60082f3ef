use Rattle.std.proofs.Common.{◌≡◌, arith}
use Rattle.std.proofs.lemmas.Grind.{common_steps}
use Rattle.ms_text_write.specs.Shown.{shown}
use Rattle.ms_text_write.proofs.ModuleSpelled.{written_only, written_spells, written_within}
use Rattle.ms_text_write.proofs.writer.write.Goals as goal

pub returns-clause-spelled : goal.returns-clause-spelled
returns-clause-spelled c =
    let m = c.args.«module».now in
    let text = c.extend_from_slice.new.self.items in
    let is : text ≡ shown m = grind (arith, common_steps) in
    written_spells m c.in_ok-write_parts.ensures.within c.in_ok-write_uses.ensures.within text is

pub returns-clause-within : goal.returns-clause-within
returns-clause-within c =
    let m = c.args.«module».now in
    let text = c.extend_from_slice.new.self.items in
    let is : text ≡ shown m = grind (arith, common_steps) in
    λ bounds kept. written_within m c.in_ok-write_parts.ensures.within c.in_ok-write_uses.ensures.within text is bounds kept

pub returns-clause-only : goal.returns-clause-only
returns-clause-only c =
    let m = c.args.«module».now in
    let text = c.extend_from_slice.new.self.items in
    let is : text ≡ shown m = grind (arith, common_steps) in
    λ other h. written_only m c.in_ok-write_parts.ensures.within c.in_ok-write_uses.ensures.within text is other h
