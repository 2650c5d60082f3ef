use Rattle.std.proofs.Common.{refl}
use Rattle.clap.specs.Words.{found_of}
use Rattle.clap.specs.ValueTests.{is_unsigned_in}
use Rattle.ms_command_line.proofs.Getters.{number_given, number_reads, text_is, text_passes, text_there}
use Rattle.ms_command_line.proofs.matched.number.Goals as goal

pub unwrap-requires : goal.unwrap-requires
unwrap-requires c = text_there c.get_str.result (found_of c.args.matches.now) c.args.name.now (is_unsigned_in c.args._least c.args._most) c.get_str.ensures c.requires

pub unwrap-requires-2 : goal.unwrap-requires-2
unwrap-requires-2 c =
    let is = text_is c.get_str.result (found_of c.args.matches.now) c.args.name.now c.unwrap.result c.get_str.ensures c.unwrap.ensures in
    let test = text_passes c.unwrap.result.now (found_of c.args.matches.now) c.args.name.now (is_unsigned_in c.args._least c.args._most) is c.requires in
    let read = number_reads c.args._least c.args._most c.unwrap.result.now c.parse.result test c.parse.ensures.value.0 in
    rw read.0 refl

pub returns : goal.returns
returns c =
    let is = text_is c.get_str.result (found_of c.args.matches.now) c.args.name.now c.unwrap.result c.get_str.ensures c.unwrap.ensures in
    let test = text_passes c.unwrap.result.now (found_of c.args.matches.now) c.args.name.now (is_unsigned_in c.args._least c.args._most) is c.requires in
    let given = number_given c.args.name.now c.args._least c.args._most c.unwrap.result.now (found_of c.args.matches.now) c.parse.result c.unwrap-2.result is test c.parse.ensures.value.0 c.unwrap-2.ensures in
    record { value = given.0; range = given.1 }
