use Rattle.std.proofs.Common.{◌+◌, ◌≤◌, Some, length, replicate, sym, ◌∙◌, arith, ap, subst}
use Rattle.std.proofs.lemmas.List.{length-replicate}
use Rattle.ms_tagged.specs.Bytes.{Data}
use Rattle.ms_tagged.proofs.Ranges.{length-written}
use Rattle.ms_segment.specs.Memory.{IsSound, Memory}
use Rattle.ms_segment.proofs.Calls.{after-entered, placed-of}
use Rattle.ms_segment.proofs.Sound.{IsSound-entered}
use Rattle.ms_segment.proofs.Placing.{place-within}
use Rattle.ms_segment.proofs.segments.Segments.enter.Goals as goal

pub enter-requires-clause-placed : goal.enter-requires-clause-placed
enter-requires-clause-placed g c =
    placed-of (g.T.Tagged.bytes c.self.inside.tagged) (g.G.Gaps.live c.self.inside.gaps) c.self.inside.made c.self.inside.accesses (g.G.Gaps.addresses c.self.inside.gaps) c.args.n (Some c.args.base) c.args.self.now c.self.view_is c.self.invariant.0 c.requires.placed

pub invariant_of-self : goal.invariant_of-self
invariant_of-self g c =
    let bytes = g.T.Tagged.bytes c.self.inside.tagged in
    let after = after-entered bytes (g.T.Tagged.bytes c.clear.new.self) (g.G.Gaps.live c.self.inside.gaps) (g.G.Gaps.live c.enter.new.self) c.self.inside.made c.self.inside.accesses c.args.base c.args.n c.args.kind c.args.self.now c.self.view_is c.clear.ensures c.enter.ensures.live in
    let sound : IsSound c.args.self.now = subst IsSound c.self.view_is c.self.invariant.1 in
    let within : c.args.base + length (replicate c.args.n (Data 0)) ≤ length bytes = omega (arith, length-replicate c.args.n (Data 0), ap (λ (m : Memory). length m.bytes) c.self.view_is, place-within c.args.self.now.live (length c.args.self.now.bytes) c.args.n c.args.base c.requires.placed) in
    let as_long = length-written c.args.base (replicate c.args.n (Data 0)) bytes (g.T.Tagged.bytes c.clear.new.self) c.clear.ensures within in
    (c.enter.ensures.addresses ∙ (c.self.invariant.0 ∙ sym as_long), subst IsSound (sym after) (IsSound-entered c.args.self.now c.args.base c.args.n c.args.kind sound c.requires.few c.requires.placed))

pub returns-clause-sound : goal.returns-clause-sound
returns-clause-sound g c =
    let after = after-entered (g.T.Tagged.bytes c.self.inside.tagged) (g.T.Tagged.bytes c.clear.new.self) (g.G.Gaps.live c.self.inside.gaps) (g.G.Gaps.live c.enter.new.self) c.self.inside.made c.self.inside.accesses c.args.base c.args.n c.args.kind c.args.self.now c.self.view_is c.clear.ensures c.enter.ensures.live in
    let sound : IsSound c.args.self.now = subst IsSound c.self.view_is c.self.invariant.1 in
    subst IsSound (sym after) (IsSound-entered c.args.self.now c.args.base c.args.n c.args.kind sound c.requires.few c.requires.placed)
