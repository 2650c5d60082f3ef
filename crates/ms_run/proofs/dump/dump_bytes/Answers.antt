use Rattle.std.proofs.Common.{◌≡◌, ◌∙◌, ◌++◌, ◌+◌, List, ℕ, [], ◌∷◌, append_assoc, ap, sym, subst, drop, arith}
use Rattle.std.specs.Prelude.{flat_map}
use Rattle.ms_tagged.specs.Bytes.{range}
use Rattle.ms_run.specs.Telling.{byte_word, bytes_word, shown_word}
use Rattle.ms_run.proofs.Dumping.{byte_grows, bytes_done, word_of_range}
use Rattle.ms_run.proofs.dump.dump_bytes.Goals as goal

pub loop-place-init : goal.loop-place-init
loop-place-init g c =
    let bytes = c.args.segments.now.bytes in
    let made = c.args.lines.now.items in
    let word = flat_map byte_word (range c.args.base c.args.size bytes) in
    let some = c.if-size-eq0.false in
    ap (λ (x : List ℕ). x ++ word) c.in_ok-push.ensures.items
    ∙ (append_assoc made (32 ∷ []) word ∙ ap (λ (x : List ℕ). made ++ x) (sym (word_of_range bytes c.args.base c.args.size (omega (arith, some)) c.requires.within)))

pub loop-place-preserved : goal.loop-place-preserved
loop-place-preserved g c =
    let bytes = c.args.segments.now.bytes in
    let l = c.loop-place in
    ap (λ (x : List ℕ). x ++ flat_map byte_word (drop (l.place + 1) (range c.args.base c.args.size bytes))) c.in_ok-extend_from_slice.ensures.items
    ∙ byte_grows l.lines.items c.digits_of-digits.result _ bytes c.args.base c.args.size l.place c.loop-place-test.true c.requires.within (c.digits_of-digits.ensures ∙ ap shown_word c.shown.ensures) l.invariant

pub returns : goal.returns
returns g c =
    let bytes = c.args.segments.now.bytes in
    let l = c.loop-place in
    let all = c.args.lines.now.items ++ bytes_word (range c.args.base c.args.size bytes) in
    let past = c.loop-place-test.false in
    let within = l.auto.place-end in
    let at_end : l.place ≡ c.args.size = omega (arith, past, within) in
    bytes_done l.lines.items all bytes c.args.base c.args.size
    (subst (λ j. l.lines.items ++ flat_map byte_word (drop j (range c.args.base c.args.size bytes)) ≡ all) at_end l.invariant)
