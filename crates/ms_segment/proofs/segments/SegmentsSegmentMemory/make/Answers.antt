use Rattle.std.proofs.Common.{sym, subst, arith}
use Rattle.ms_event.specs.declared.event.Event.TheVariants as events
use Rattle.ms_handle.specs.declared.handle.Handle.TheVariants as handles
use Rattle.ms_segment.specs.Memory.{IsFit, Memory}
use Rattle.ms_segment.proofs.Calls.{Makes-entered, Makes-refused}
use Rattle.ms_segment.proofs.Functions.{makes_alone}
use Rattle.ms_segment.proofs.Fits.{IsFit-entered, IsFit-made}
use Rattle.ms_segment.proofs.segments.SegmentsSegmentMemory.make.Goals as goal

pub returns-in-Some-clause-made : goal.returns-in-Some-clause-made
returns-in-Some-clause-made g c =
    Makes-entered c.args.self.now c.enter.new.self c.args.n c.in-Some.base c.args.kind c.enter.result.0 c.enter.result.1 c.in-Some.ensures.place c.enter.ensures.handle c.enter.ensures.event c.enter.ensures.made

pub returns-in-Some-clause-fits : goal.returns-in-Some-clause-fits
returns-in-Some-clause-fits g c =
    IsFit-made c.args.self.now c.enter.new.self c.in-Some.base c.args.n c.args.kind c.enter.result.0 (omega arith) c.place.ensures.sound c.enter.ensures.handle c.enter.ensures.made

pub returns-in-Some-clause-others : goal.returns-in-Some-clause-others
returns-in-Some-clause-others g c =
    λ h fit. subst (λ (m : Memory). IsFit m h) (sym c.enter.ensures.made) (IsFit-entered c.args.self.now c.in-Some.base c.args.n c.args.kind h fit)

pub returns-in-None-clause-made : goal.returns-in-None-clause-made
returns-in-None-clause-made g c = Makes-refused c.args.self.now c.args.n c.args.kind c.in-None.ensures.place

pub returns-in-Some-clause-call : goal.returns-in-Some-clause-call
returns-in-Some-clause-call g c =
    makes_alone c.args.self.now c.enter.new.self c.args.n c.args.kind c.enter.result.0 c.enter.result.1 (Makes-entered c.args.self.now c.enter.new.self c.args.n c.in-Some.base c.args.kind c.enter.result.0 c.enter.result.1 c.in-Some.ensures.place c.enter.ensures.handle c.enter.ensures.event c.enter.ensures.made)

pub returns-in-None-clause-call : goal.returns-in-None-clause-call
returns-in-None-clause-call g c =
    makes_alone c.args.self.now c.args.self.now c.args.n c.args.kind handles.Null (events.Refused c.args.n) (Makes-refused c.args.self.now c.args.n c.args.kind c.in-None.ensures.place)
