use Rattle.std.proofs.Common.{ap, subst}
use Rattle.model.specs.History.{GoesOn}
use Rattle.store.specs.View.{view}
use Rattle.console.proofs.desk.Desk.finish.Goals as goal

pub returns-clause-history : goal.returns-clause-history
returns-clause-history g c d m =
    let e = c.reply-reply.ensures in
    subst (λ r. GoesOn g.K.Kind.shape (view g.K.Kind c.args.store.now) d r (view g.K.Kind c.reply-reply.new.store)) (ap (λ a. a.reply) e.answer) (e.history d m)
