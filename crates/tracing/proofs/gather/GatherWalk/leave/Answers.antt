use Rattle.model.proofs.Gathers.{gather_leave_within, gather_given_small, gather_front_small}
use Rattle.tracing.proofs.gather.GatherWalk.leave.Goals as goal

pub give_up-requires : goal.give_up-requires
give_up-requires g c =
    let y = g.S.Stacked.progress c.args.store.now in
    let k = g.S.Records.shape in
    let ready = c.requires.ready in
    let I = ready.fits.0 in
    record {
      named = gather_leave_within k y c.args.t ready.rest I;
      few = (gather_front_small k y _ I, gather_given_small k y c.args.t ready.rest I ready.fits.1);
    }
