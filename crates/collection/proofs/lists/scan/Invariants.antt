use Rattle.std.proofs.Common.{◌≡◌, length}
use Rattle.model.specs.Collection.{scan_one}
use Rattle.collection.proofs.Serves.{Scans}
use Rattle.collection.proofs.Turns.{InTurn}
use Rattle.collection.proofs.lists.scan.Given as goal

-- the records up to i are served
abbrev pub invariant-loop-i : goal.invariant-loop-i
invariant-loop-i g l =
    let S = g.S.Stacked in
    InTurn scan_one (Scans g.S.Records.shape) l.listed l.i
    (S.progress l.initial.store) (S.table l.initial.store) (S.progress l.store) (S.table l.store)
    × (length (S.stack l.store) ≡ length (S.stack l.initial.store))
