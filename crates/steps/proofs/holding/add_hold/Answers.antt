use Rattle.std.proofs.Common.{rules, ◌≡◌, ◌<◌, sym, ap, ◌∙◌, subst, arith}
use Rattle.std.proofs.lemmas.Bool.{false≢true}
use Rattle.model.specs.Lawful.{Lawful}
use Rattle.model.specs.State.{head, with_head}
use Rattle.model.specs.Headers.{raised, held_more}
use Rattle.model.specs.declared.calls.Reply.TheVariants.{Number}
use Rattle.model.proofs.Accepted.{hold_more_accepted}
use Rattle.model.proofs.LawfulCalls.{count_small, lawful_held_more}
use Rattle.steps.specs.Keeping.{state}
use Rattle.steps.specs.Replies.{leaving}
use Rattle.steps.proofs.holding.add_hold.Goals as goal

pub raised-requires : goal.raised-requires
raised-requires g c =
    let s = c.args.store.now in
    record {
      lawful = omega (
        arith,
        count_small g.S.Records.shape (state g.S.Stacked s) c.requires.lawful g.met.S.Fields.bounded c.args.r c.requires.used.0,
        ap (λ h. h.count) c.read_head-head.ensures.value,
      );
    }

pub returns : goal.returns
returns g c =
    let k = g.S.Records.shape in
    let v = state g.S.Stacked c.args.store.now in
    let r = c.args.r in
    let old = c.read_head-head.ensures.value in
    let new = c.held_more.ensures.value ∙ ap held_more (c.raised.ensures.value ∙ ap raised old) in
    let below : c.read_head-head.result.holds < 1000 = search rules in
    let few : (head v r).holds < 1000 = omega (arith, below, ap (λ h. h.holds) old) in
    let after : state g.S.Stacked c.write_head.new.self ≡ with_head v r (held_more (raised (head v r))) =
    ap (λ y. y.store) c.write_head.ensures.after ∙ ap (with_head v r) new in
    record {
      answer = ap (leaving (Number c.args.answer)) after ∙ sym (hold_more_accepted v r c.args.answer few);
      lawful = subst (Lawful k) (sym after) (lawful_held_more k v r c.requires.lawful c.requires.used few);
      untouched = λ e. absurd (false≢true e);
    }
