use Rattle.std.proofs.Common.{◌≤◌, ◌+◌, ◌∙◌, length, rules, arith}
use Rattle.ms_tagged.specs.Bytes.{data_of, pieces}
use Rattle.ms_tagged.proofs.Numbers.{length-data_of}
use Rattle.ms_tagged.proofs.Ranges.{length-written}
use Rattle.ms_tagged.proofs.tests.write.Goals as goal

pub returns-after-address-capacity : goal.returns-after-address-capacity
returns-after-address-capacity g c =
    let within : c.in-Put.address + c.in-Put.width ≤ length (g.T.Tagged.bytes c.args.memory.now) = search rules in
    length-written c.in-Put.address (data_of c.in-Put.width c.in-Put.value) (g.T.Tagged.bytes c.args.memory.now) (g.T.Tagged.bytes c.put.new.self) c.put.ensures (omega (arith, length-data_of c.in-Put.width c.in-Put.value)) ∙ c.requires

pub returns-after-address-capacity-2 : goal.returns-after-address-capacity-2
returns-after-address-capacity-2 g c =
    let within : c.in-PutHandle.address + 16 ≤ length (g.T.Tagged.bytes c.args.memory.now) = search rules in
    length-written c.in-PutHandle.address (pieces c.in-PutHandle.handle) (g.T.Tagged.bytes c.args.memory.now) (g.T.Tagged.bytes c.put_handle.new.self) c.put_handle.ensures within ∙ c.requires
