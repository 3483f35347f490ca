use native.Mathlib.Omega.{arith}
use Rattle.model.proofs.Listing.{list_room}
use Rattle.reclaim.proofs.release.ReleaseWalk.visit.Goals as goal

pub suspect-requires : goal.suspect-requires
suspect-requires g c =
    let y = g.S.Stacked.progress c.args.store.now in
    let I = c.requires.ready.fits.0 in
    let w = I.tidy.0.inside in
    record {
      named = w;
      small = omega (arith, w.1, I.few);
      listing = λ still. list_room g.S.Records.shape y _ c.args.t I w still;
    }
