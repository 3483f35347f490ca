use Rattle.std.proofs.Common.{◌≢◌, sym, arith}
use Rattle.model.specs.Lawful.{Links}
use Rattle.model.proofs.LawfulCalls.{held_from_test}
use Rattle.steps.specs.Keeping.{state}
use Rattle.linking.proofs.load_link.Goals as goal

pub add_hold-requires : goal.add_hold-requires
add_hold-requires g c =
    let v = state g.S.Stacked c.args.store.now in
    let h = held_from_test v c.args.r c.requires.held in
    let t = c.link-t.result in
    let ne : t ≢ 0 = c.if-t-eq0.false in
    let ties : Links v c.args.r t = (omega arith, (c.args.l, sym c.link-t.ensures.value)) in
    record { lawful = c.requires.lawful; used = c.requires.lawful.links_used c.args.r t h.0 ties }
