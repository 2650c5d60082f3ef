use Rattle.std.proofs.Common.{◌≡◌, ◌++◌, drop}
use Rattle.ms_text_resolve.specs.refinement.Gathered.{Each}
use Rattle.ms_text_resolve.proofs.gather.gathered.Given as goal

abbrev pub invariant-loop-field : goal.invariant-loop-field
invariant-loop-field g l =
    let left = g.P.Part.all l.context l.part (drop l.field-index l.fields) in
    let whole = g.P.Part.all l.context l.initial.part l.fields in
    record {
      fits : Each g.P.Part.fits (drop l.field-index l.fields);
      values : left.value ≡ whole.value;
      wrongs : l.wrong.items ++ left.wrong ≡ l.initial.wrong.items ++ whole.wrong;
    }
