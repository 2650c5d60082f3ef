use Rattle.std.proofs.Common.{◌≡◌, ◌∙◌, ◌++◌, List, ℕ, codes, subst}
use Rattle.std.specs.Prelude.{IfOk}
use Rattle.std.specs.Fmt.{decimal}
use Rattle.std.specs.String.{string_bytes}
use Rattle.ms_run.proofs.standing.standing_line.Goals as goal

pub returns : goal.returns
returns c =
    let of_end = c.as_str.ensures.value ∙ c.in_ok-end.ensures in
    rw of_end at (rw c.apart_word.ensures at c.line_of.ensures)
