use Rattle.std.proofs.Common.{[], ◌∷◌, sym, subst, arith}
use Rattle.model.specs.Releasing.{Releasing, FewGiven}
use Rattle.model.specs.Walk.Task.{visit}
use Rattle.model.proofs.Unharmed.{release_keeps_few}
use Rattle.steps.proofs.freeing.lower.Goals as goal

pub walk-requires : goal.walk-requires
walk-requires g c =
    let k = g.S.Records.shape in
    let y = g.S.Stacked.progress c.args.store.now in
    let t = c.args.t in
    let e = c.follow.ensures in
    let f = (release_keeps_few k).follows y t [] c.if-t-eq0.false (c.requires.owing, c.requires.few) in
    let fits = subst (λ z. Releasing k z (visit t ∷ []) × FewGiven z) (sym e.meaning) f.fits in
    record {
      fits = fits;
      stack = omega (arith, g.met.S.Records.room c.follow.new.store);
    }
