use Rattle.std.proofs.Common.{◌≡◌, drop}
use Rattle.ms_bytes.specs.Repetition.{each}
use Rattle.ms_bin_grammar.specs.Bounds.{usual}
use Rattle.ms_bin_grammar.specs.Module.{func}
use Rattle.ms_bin_grammar.specs.Sizes.{sized}
use Rattle.ms_bin_read.proofs.Loops.{with_front}
use Rattle.ms_bin_read.proofs.funcs.each_func.Given as goal

abbrev pub invariant-loop-sig : goal.invariant-loop-sig
invariant-loop-sig l = record {
  so_far : with_front l.funcs ((each (λ sig. sized (func usual sig)) (drop l.sig-index l.sigs)).read l.c.end l.c.left) ≡ (each (λ sig. sized (func usual sig)) l.sigs).read l.fn.c.end l.fn.c.left;
  same_end : l.c.end ≡ l.fn.c.end;
}
