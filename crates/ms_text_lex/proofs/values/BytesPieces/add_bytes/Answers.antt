use Rattle.std.proofs.Common.{rules}
use Rattle.ms_text_lex.proofs.StringRuns.{after_bytes_of}
use Rattle.ms_text_lex.proofs.values.BytesPieces.add_bytes.Goals as goal

pub returns : goal.returns
returns c = rw (after_bytes_of c.args.self.now c.args.bytes.now) search rules
