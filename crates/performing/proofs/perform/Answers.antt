use Rattle.model.proofs.Histories.{goes_on}
use Rattle.steps.specs.Keeping.{state}
use Rattle.performing.proofs.perform.Goals as goal

-- a call that is answered as its definition says goes on with every history
pub returns-clause-history : goal.returns-clause-history
returns-clause-history g c =
    let t = g.S.Stacked in
    goes_on g.S.Records.shape (state t c.args.store.now) c.args.call c.reply.result (state t c.reply.new.store) c.reply.ensures.answer
