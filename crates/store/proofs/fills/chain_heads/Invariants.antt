use Rattle.std.proofs.Common.{◌≡◌, map, take}
use Rattle.std.specs.List.{range_with_len}
use Rattle.model.specs.Calls.{next_free}
use Rattle.model.specs.Headers.{header, free_header}
use Rattle.store.proofs.fills.chain_heads.Given as goal

abbrev pub invariant-loop-i : goal.invariant-loop-i
invariant-loop-i l = map header (take l.i l.heads) ≡ map (λ r. free_header (next_free l.n r)) (range_with_len 1 l.i)
