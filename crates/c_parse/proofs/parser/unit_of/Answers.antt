use Rattle.c_parse.proofs.Parsing.{first_at, none_read, read_fails, low_fails, low_goes, ends_so}
use Rattle.c_parse.proofs.parser.unit_of.Goals as goal

pub returns-in_default : goal.returns-in_default
returns-in_default c = none_read c.args.tokens.now c.new.result c.in_default.ensures.item.3 c.new.ensures

pub loop-token-init : goal.loop-token-init
loop-token-init c = first_at c.args.tokens.now c.in-Some.first.now c.new-parser.result c.new-2.result c.in-Some.ensures.item.1 c.in-Some.ensures.item.3.0 c.new-parser.ensures c.new-2.ensures

pub returns-in-Err : goal.returns-in-Err
returns-in-Err c =
    read_fails c.args.tokens.now c.args.end c.loop-token.token-index c.token-item.result c.loop-token.parser c.in-Err.fault c.loop-token-test.true c.token-item.is c.loop-token.invariant c.in-Err.ensures

pub returns-in-Err-low_enough : goal.returns-in-Err-low_enough
returns-in-Err-low_enough c =
    low_fails c.args.tokens.now c.args.end c.loop-token.token-index c.token-item.result c.loop-token.parser c.in-Ok.next c.in-Err-low_enough.fault c.loop-token-test.true c.token-item.is c.loop-token.invariant c.in-Ok.ensures c.in-Err-low_enough.ensures

pub loop-token-preserved : goal.loop-token-preserved
loop-token-preserved c =
    low_goes c.args.tokens.now c.loop-token.token-index c.token-item.result c.loop-token.parser c.in-Ok.next c.in-Ok-low_enough.low c.loop-token-test.true c.token-item.is c.loop-token.invariant c.in-Ok.ensures c.in-Ok-low_enough.ensures

pub returns : goal.returns
returns c = ends_so c.args.tokens.now c.args.end c.loop-token.token-index c.loop-token.parser c.finish.result c.loop-token-test.false c.loop-token.invariant c.finish.ensures
