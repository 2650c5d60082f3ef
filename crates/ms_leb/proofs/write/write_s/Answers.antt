use Rattle.std.specs.Prelude.{◌≡◌, ◌++◌, OnOk, ℤ, pos, negsuc}
use Rattle.std.proofs.Common.{arith, subst, sym}
use Rattle.std.proofs.lemmas.Int.{ints}
use Rattle.ms_leb.specs.Shortest.{shortest_signed}
use Rattle.ms_leb.proofs.Spelling.{signed_shortest, signed_spelled}
use Rattle.ms_leb.proofs.write.write_s.Goals as goal

pub returns-then-value-lt0-clause-ok : goal.returns-then-value-lt0-clause-ok
unfolding shortest_signed
returns-then-value-lt0-clause-ok c =
    let e : c.args.value ≡ negsuc c.complement.result = omega (arith, ints) in
    subst (λ (v : ℤ). OnOk c.put_signed.result (c.put_signed.new.out.items ≡ c.args.out.now.items ++ shortest_signed v)) (sym e) c.put_signed.ensures.ok

pub returns-then-value-lt0-clause-spelled : goal.returns-then-value-lt0-clause-spelled
returns-then-value-lt0-clause-spelled c = λ bits within. signed_spelled bits c.args.value within

pub returns-then-value-lt0-clause-shortest : goal.returns-then-value-lt0-clause-shortest
returns-then-value-lt0-clause-shortest c = λ bits other small h. signed_shortest bits c.args.value other small h

pub returns-clause-ok : goal.returns-clause-ok
unfolding shortest_signed
returns-clause-ok c =
    let e : c.args.value ≡ pos c.magnitude.result = omega (arith, ints) in
    subst (λ (v : ℤ). OnOk c.put_signed-2.result (c.put_signed-2.new.out.items ≡ c.args.out.now.items ++ shortest_signed v)) (sym e) c.put_signed-2.ensures.ok

pub returns-clause-spelled : goal.returns-clause-spelled
returns-clause-spelled c = λ bits within. signed_spelled bits c.args.value within

pub returns-clause-shortest : goal.returns-clause-shortest
returns-clause-shortest c = λ bits other small h. signed_shortest bits c.args.value other small h
