use Rattle.std.proofs.Common.{◌≡◌, length}
use Rattle.model.specs.Collection.{gather_one}
use Rattle.collection.proofs.Serves.{Gatherings}
use Rattle.collection.proofs.Turns.{InTurn}
use Rattle.collection.proofs.lists.gather.Given as goal

-- the records up to i are served
abbrev pub invariant-loop-i : goal.invariant-loop-i
invariant-loop-i g l =
    let S = g.S.Stacked in
    let k = g.S.Records.shape in
    InTurn (gather_one k) (Gatherings k) l.left l.i (S.progress l.initial.store) (S.table l.initial.store) (S.progress l.store)
    (S.table l.store)
    × (length (S.stack l.store) ≡ length (S.stack l.initial.store))
