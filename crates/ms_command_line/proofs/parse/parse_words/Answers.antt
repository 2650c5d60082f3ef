use Rattle.std.proofs.Common.{◌∙◌, ap, sym, inl, inr, map, option_and_then, List}
use Rattle.clap.specs.Words.{Row, Text}
use Rattle.ms_command_line.specs.Asked.{asked_by}
use Rattle.ms_command_line.proofs.Complete.{has_kind, names_command, no_fault, refused_words, taken_asks, taken_complete, taken_whole}
use Rattle.ms_command_line.proofs.parse.parse_words.Goals as goal

pub request_of-requires : goal.request_of-requires
request_of-requires c =
    let words : List Text = map (λ w. w.now) c.args.words.now in
    let done = taken_complete words (no_fault _ words c.in-Ok.ensures.shape c.in-Ok-try_get_matches_from.ensures.kinds) in
    (done.0, names_command _ words c.in-Ok-try_get_matches_from.matches c.in-Ok.ensures.shape c.in-Ok-try_get_matches_from.ensures.matches ∙ done.1, done.2)

pub returns-in-Ok-try_get_matches_from-clause-answers : goal.returns-in-Ok-try_get_matches_from-clause-answers
returns-in-Ok-try_get_matches_from-clause-answers c =
    let words : List Text = map (λ w. w.now) c.args.words.now in
    let named = names_command _ words c.in-Ok-try_get_matches_from.matches c.in-Ok.ensures.shape c.in-Ok-try_get_matches_from.ensures.matches in
    taken_asks words (no_fault _ words c.in-Ok.ensures.shape c.in-Ok-try_get_matches_from.ensures.kinds)
    ∙ ap (option_and_then (λ (p : Text × List Row). asked_by p.0 p.1)) (sym named) ∙ c.request_of.ensures.asked

pub returns-in-Ok-try_get_matches_from-clause-whole : goal.returns-in-Ok-try_get_matches_from-clause-whole
returns-in-Ok-try_get_matches_from-clause-whole c =
    let words : List Text = map (λ w. w.now) c.args.words.now in
    taken_whole words (no_fault _ words c.in-Ok.ensures.shape c.in-Ok-try_get_matches_from.ensures.kinds)

pub returns : goal.returns
returns c =
    let words : List Text = map (λ w. w.now) c.args.words.now in
    record {
      answers = elim (has_kind _ words c.in-Err.error c.in-Ok.ensures.shape c.in-Err.ensures.kinds) [
        | inl memory ↦ absurd (c.in_default-kind.not-OutOfMemory (c.kind.ensures ∙ memory))
        | inr among ↦ refused_words words _ among
      ];
      whole = tt;
      ranges = tt;
    }
