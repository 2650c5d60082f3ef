use Rattle.std.proofs.Common.{refl}
use Rattle.ms_outside.proofs.Kept.{by_name-updated}
use Rattle.ms_outside.proofs.sure_shelf.SureShelf.add.Goals as goal

pub returns-clause-ok : goal.returns-clause-ok
returns-clause-ok c =
    rw (by_name-updated (λ v. v.items) c.self.inside.kept c.insert.new.self _ c.args.bytes c.in_ok-insert.ensures.updates, c.in_ok-key.ensures.ok, ← c.self.view_is) refl
