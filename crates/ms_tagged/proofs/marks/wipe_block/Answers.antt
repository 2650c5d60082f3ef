use Rattle.std.proofs.Common.{◌∙◌, inl, inr, sym, arith}
use Rattle.std.proofs.lemmas.Bool.{false≢true}
use Rattle.ms_tagged.proofs.Wiping.{blank-wiped, block-none, wipes-blank}
use Rattle.ms_tagged.proofs.marks.wipe_block.Goals as goal

pub returns-then-not-is_marked-clause-wipes : goal.returns-then-not-is_marked-clause-wipes
returns-then-not-is_marked-clause-wipes c =
    wipes-blank c.args.plain.now c.args.masks.now c.args.written.now c.args.from c.args.to c.requires.blank
    (λ i above below. block-none c.args.written.now c.args.from i (omega arith) (λ marked. false≢true (sym c.if-not-is_marked.true ∙ c.is_marked.ensures.1 marked)))

pub returns-then-size-lt-BLOCK-clause-blank : goal.returns-then-size-lt-BLOCK-clause-blank
returns-then-size-lt-BLOCK-clause-blank c =
    blank-wiped c.args.plain.now c.args.masks.now c.args.written.now c.zero.new.plain c.zero.new.masks c.args.written.now c.args.from c.args.to c.requires.blank c.zero.ensures (λ i out none. none)

pub returns-clause-blank : goal.returns-clause-blank
returns-clause-blank c =
    blank-wiped c.args.plain.now c.args.masks.now c.args.written.now c.zero.new.plain c.zero.new.masks c.unmark_block.new.written c.args.from c.args.to c.requires.blank c.zero.ensures
    (λ i out none. sym (c.unmark_block.ensures.others i (λ same. elim out [ inl below ↦ omega arith | inr above ↦ omega arith ])) ∙ none)
