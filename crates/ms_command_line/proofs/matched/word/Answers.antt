use Rattle.std.proofs.Common.{ap, true, Option, []}
use Rattle.std.specs.Prelude.{unwrap_or}
use Rattle.clap.specs.Words.{Text, found_of}
use Rattle.ms_command_line.proofs.Getters.{text_is, text_there}
use Rattle.ms_command_line.proofs.matched.word.Goals as goal

pub unwrap-requires : goal.unwrap-requires
unwrap-requires c = text_there c.get_str.result (found_of c.args.matches.now) c.args.name.now (λ _. true) c.get_str.ensures c.requires

pub returns : goal.returns
returns c = ap (λ (o : Option Text). unwrap_or o []) (text_is c.get_str.result (found_of c.args.matches.now) c.args.name.now c.unwrap.result c.get_str.ensures c.unwrap.ensures)
