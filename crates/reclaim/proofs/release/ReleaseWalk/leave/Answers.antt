use native.Mathlib.Omega.{arith}
use Rattle.model.proofs.Releases.{leave_few, front_small}
use Rattle.reclaim.proofs.release.ReleaseWalk.leave.Goals as goal

pub finish-requires : goal.finish-requires
finish-requires g c =
    let y = g.S.Stacked.progress c.args.store.now in
    let k = g.S.Records.shape in
    let ready = c.requires.ready in
    let I = ready.fits.0 in
    record {
      named = I.tidy.0.inside;
      few = (front_small k y _ I, omega (arith, ready.fits.1, leave_few k y c.args.t ready.rest I));
    }
