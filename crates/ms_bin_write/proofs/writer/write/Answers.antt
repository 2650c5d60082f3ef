use Rattle.std.proofs.Common.{◌≡◌, arith}
use Rattle.std.proofs.lemmas.Grind.{common_steps}
use Rattle.ms_bin_write.specs.Written.{written}
use Rattle.ms_bin_write.proofs.Kept.{no_other, spelled, spelled_within}
use Rattle.ms_bin_write.proofs.writer.write.Goals as goal

pub returns-clause-spelled : goal.returns-clause-spelled
returns-clause-spelled c =
    let m = c.args.«module».now in
    let bytes = c.write_sections.new.out.items in
    let s = c.in_ok-write_sections.ensures in
    let is : bytes ≡ written m = grind (arith, common_steps) in
    spelled m s.within s.small bytes is

pub returns-clause-within : goal.returns-clause-within
returns-clause-within c =
    let m = c.args.«module».now in
    let bytes = c.write_sections.new.out.items in
    let s = c.in_ok-write_sections.ensures in
    let is : bytes ≡ written m = grind (arith, common_steps) in
    λ bounds kept. spelled_within m s.within s.small bytes is bounds kept

pub returns-clause-only : goal.returns-clause-only
returns-clause-only c =
    let m = c.args.«module».now in
    let bytes = c.write_sections.new.out.items in
    let s = c.in_ok-write_sections.ensures in
    let is : bytes ≡ written m = grind (arith, common_steps) in
    λ other h. no_other m s.within s.small bytes is other h
