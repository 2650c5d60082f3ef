use Rattle.std.proofs.Common.{◌≡◌, ◌≤◌, drop}
use Rattle.ms_text_grammar.specs.Bounds.{usual}
use Rattle.ms_text_grammar.specs.Scans.{too_deep}
use Rattle.ms_text_read.proofs.scans.too_deep.Given as goal

abbrev pub invariant-loop-token : goal.invariant-loop-token
invariant-loop-token l = record {
  same : too_deep usual.parens l.depth (drop l.token-index l.tokens) ≡ too_deep usual.parens 0 l.tokens;
  small : l.depth ≤ usual.parens;
}
