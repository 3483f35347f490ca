use Rattle.std.proofs.Common.{◌≡◌, take, count_by}
use Rattle.store.proofs.counts.count_used.Given as goal

-- those up to here are counted
abbrev pub invariant-loop-head : goal.invariant-loop-head
invariant-loop-head l = l.used ≡ count_by (λ h. h.used) (take l.head-index l.heads)
