use Rattle.std.proofs.Common.{◌≡◌, length}
use Rattle.walks.proofs.Stacks.{todo}
use Rattle.walks.proofs.Loops.{Loop, course, left, weight}
use Rattle.model.proofs.Walks.{settle}
use Rattle.walks.proofs.run.walk.Given as goal

-- the tasks of the stack end where those of the loop's beginning did
abbrev pub invariant-loop-top : goal.invariant-loop-top
invariant-loop-top g l =
    let S = g.S.Stacked in
    let W = g.W.Walk in
    let y = S.progress l.initial.store in
    let work = S.stack l.initial.store in
    Loop (course S.width W.rule W.fits W.room W.spare l.base work y)
    (settle W.rule (left (length y.store.rows) l.base l.initial.top) (todo y.store.rows work l.base l.initial.top) y)
    l.top (S.stack l.store) (S.progress l.store) ×
    (W.apart (S.table l.store) ≡ W.apart (S.table l.initial.store))

abbrev pub decreases-loop-top : goal.decreases-loop-top
decreases-loop-top g l =
    let S = g.S.Stacked in
    let W = g.W.Walk in
    weight (course S.width W.rule W.fits W.room W.spare l.base (S.stack l.initial.store) (S.progress l.initial.store))
    l.top (S.stack l.store) (S.progress l.store)
