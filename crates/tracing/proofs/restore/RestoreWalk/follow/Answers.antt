use mathlib.Core.Path.{ap}
use native.Mathlib.Omega.{arith}
use Rattle.model.proofs.Restores.{restoring_small}
use Rattle.tracing.proofs.restore.RestoreWalk.follow.Goals as goal

pub alter_head-requires-clause-allowed : goal.alter_head-requires-clause-allowed
alter_head-requires-clause-allowed g c =
    let y = g.S.Stacked.progress c.args.store.now in
    let ready = c.requires.ready in
    λ h e. omega (
      arith,
      ap (λ x. x.count) e,
      restoring_small g.S.Records.shape y c.args.t ready.rest c.requires.named ready.fits g.met.S.Records.narrow.1,
    )
