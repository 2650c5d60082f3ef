use Rattle.std.proofs.Common.{sym, ◌∙◌}
use Rattle.std.proofs.lemmas.Result.{err_from_is_err_and}
use Rattle.ms_text_lex.specs.Readers.{fault_of}
use Rattle.ms_text_lex.proofs.StringRuns.{end_stays, ends, fails, fewer, on, over_end}
use Rattle.ms_text_lex.proofs.strings.take_pieces.Goals as goal

pub returns-then-not-no_quote : goal.returns-then-not-no_quote
returns-then-not-no_quote g c =
    let l = c.loop in (
      ends g.S.Pieces.after c.args.c.now.end _ l.state c.add_bytes.new.self l.c c.rest-text.result.now c.plain_len-n.result l.invariant.so_far l.invariant.same_end c.rest-text.ensures c.plain_len-n.ensures.run
          c.in_ok-add_bytes.ensures c.skip.new.self c.skip.ensures (sym c.no_quote.ensures ∙ c.if-not-no_quote.true),
      end_stays g.S.Pieces.after c.args.c.now.end _ l.state c.add_bytes.new.self l.c c.rest-text.result.now c.plain_len-n.result l.invariant.so_far l.invariant.same_end c.rest-text.ensures c.plain_len-n.ensures.run
          c.in_ok-add_bytes.ensures c.skip.new.self c.skip.ensures,
    )

pub returns-in_err-piece : goal.returns-in_err-piece
returns-in_err-piece g c =
    let l = c.loop in
    let p = err_from_is_err_and c.from_residual-in_err-piece.result c.from_residual-in_err-piece.ensures.1 in
    rw (p.1, p.2)
    (fails g.S.Pieces.after c.args.c.now.end _ l.state c.add_bytes.new.self l.c c.rest-text.result.now c.plain_len-n.result l.invariant.so_far l.invariant.same_end c.rest-text.ensures c.plain_len-n.ensures.run
    c.in_ok-add_bytes.ensures c.skip.new.self c.skip.ensures (fault_of c.in_err-piece.field-0.0) (sym c.no_quote.ensures ∙ c.if-not-no_quote.false) c.in_err-piece.ensures)

pub loop-preserved : goal.loop-preserved
loop-preserved g c =
    let l = c.loop in
    let e = c.in_ok-piece.ensures in
    let goes = sym c.no_quote.ensures ∙ c.if-not-no_quote.false in
    record {
      so_far =
          on g.S.Pieces.after c.args.c.now.end _ l.state c.add_bytes.new.self l.c c.rest-text.result.now c.plain_len-n.result l.invariant.so_far l.invariant.same_end c.rest-text.ensures c.plain_len-n.ensures.run
          c.in_ok-add_bytes.ensures c.skip.new.self c.skip.ensures c.in_ok-piece.piece c.next_piece.new.c.left goes e.0 c.add.new.self c.in_ok-add.ensures;
      same_end =
          e.1 ∙ end_stays g.S.Pieces.after c.args.c.now.end _ l.state c.add_bytes.new.self l.c c.rest-text.result.now c.plain_len-n.result l.invariant.so_far l.invariant.same_end c.rest-text.ensures c.plain_len-n.ensures.run
          c.in_ok-add_bytes.ensures c.skip.new.self c.skip.ensures;
      few =
          fewer g.S.Pieces.after c.args.c.now.end _ l.state c.add_bytes.new.self l.c c.rest-text.result.now c.plain_len-n.result l.invariant.so_far l.invariant.same_end c.rest-text.ensures c.plain_len-n.ensures.run
          c.in_ok-add_bytes.ensures c.skip.new.self c.skip.ensures c.in_ok-piece.piece c.next_piece.new.c.left goes e.0 l.counter c.len-most.result l.invariant.few;
    }

pub returns : goal.returns
returns g c =
    let l = c.loop in
    rw c.broken.ensures (over_end g.S.Pieces.after c.args.c.now.end _ l.state l.c.end l.c.left l.counter c.len-most.result l.invariant.so_far l.invariant.same_end l.invariant.few c.loop-test.false)
