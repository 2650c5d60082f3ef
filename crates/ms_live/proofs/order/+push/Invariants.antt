use Rattle.ms_live.proofs.order.+push.Given as goal

abbrev pub decreases-push : goal.decreases-push
decreases-push l = l.level
