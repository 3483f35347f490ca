use Rattle.std.proofs.Common.{◌≡◌, ◌≤◌, length}
use Rattle.model.specs.Collection.{mark_one}
use Rattle.model.proofs.MarkLaws.{MarkList}
use Rattle.collection.proofs.Turns.{InTurn}
use Rattle.collection.proofs.lists.mark.Given as goal

-- the records up to i are served, and no more of them are on the list again
abbrev pub invariant-loop-i : goal.invariant-loop-i
invariant-loop-i g l =
    let S = g.S.Stacked in
    let k = g.S.Records.shape in
    InTurn (mark_one k) (MarkList k) l.n l.i (S.progress l.initial.store) (S.table l.initial.store) (S.progress l.store) (S.table l.store)
    × ((length (S.progress l.store).store.candidates ≤ l.i)
    × (length (S.stack l.store) ≡ length (S.stack l.initial.store)))
