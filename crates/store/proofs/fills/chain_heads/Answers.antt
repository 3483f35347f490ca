use Rattle.std.proofs.Common.{◌≡◌, ◌+◌, length, take, arith}
use Rattle.std.proofs.lemmas.Grind.{common_steps}
use Rattle.std.proofs.lemmas.List.{take_more_set, map_push}
use Rattle.std.proofs.lemmas.List.FromFn.{map-range_with_len_more}
use Rattle.model.specs.Calls.{next_free}
use Rattle.model.specs.Headers.{header, free_header}
use Rattle.store.proofs.fills.chain_heads.Goals as goal

pub loop-i-preserved : goal.loop-i-preserved
loop-i-preserved c =
    let hs = c.loop-i.heads in
    let n = length c.args.heads.now in
    let i = c.loop-i.i in
    let next : c.if-i-n.next ≡ next_free n (i + 1) = grind (arith, common_steps) in
    let value = c.free.ensures.value in
    let taken = take_more_set hs i c.free.result (omega arith) in
    let pushed = map_push header (take i hs) c.free.result in
    let more = map-range_with_len_more (λ r. free_header (next_free n r)) 1 i (i + 1) (omega arith) in
    cc
