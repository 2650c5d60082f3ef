use Rattle.std.proofs.Common.{◌≡◌, ◌∙◌, Some, ap, sym}
use Rattle.c_code.specs.Expressions.{bytes_in, is_bit, is_null, number_in}
use Rattle.c_compile.specs.declared.known.Known.{Known}
use Rattle.c_compile.specs.refinement.Known as known
use Rattle.c_compile.proofs.Sizes.{at_size}
use Rattle.c_compile.proofs.known.known_of.Goals as goal

pub returns-in-SizeOf-clause-number : goal.returns-in-SizeOf-clause-number
returns-in-SizeOf-clause-number c =
    let w = c.in-SizeOf in
    let is = ap (λ (k : Known). known.number_in k) (sym c.size.ensures.is) in
    at_size (λ e. number_in e ≡ known.number_in c.size.result) c.args.e.now w.n w.field-1 w.is (λ p. is) (λ e. is) is

pub returns-in-SizeOf-clause-bytes : goal.returns-in-SizeOf-clause-bytes
returns-in-SizeOf-clause-bytes c =
    let w = c.in-SizeOf in
    let is = ap (λ (k : Known). known.bytes_in k) (sym c.size.ensures.is) in
    at_size (λ e. bytes_in e ≡ known.bytes_in c.size.result) c.args.e.now w.n w.field-1 w.is (λ p. is) (λ e. is) (ap (λ n. Some n) c.size.ensures.bits ∙ is)

pub returns-in-SizeOf-clause-null : goal.returns-in-SizeOf-clause-null
returns-in-SizeOf-clause-null c =
    let w = c.in-SizeOf in
    let is = ap (λ (k : Known). known.is_null k) (sym c.size.ensures.is) in
    at_size (λ e. is_null e ≡ known.is_null c.size.result) c.args.e.now w.n w.field-1 w.is (λ p. is) (λ e. is) is

pub returns-in-SizeOf-clause-bit : goal.returns-in-SizeOf-clause-bit
returns-in-SizeOf-clause-bit c =
    let w = c.in-SizeOf in
    let is = ap (λ (k : Known). known.is_bit k) (sym c.size.ensures.is) in
    at_size (λ e. is_bit e ≡ known.is_bit c.size.result) c.args.e.now w.n w.field-1 w.is (λ p. is) (λ e. is) is
