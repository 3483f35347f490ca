use Rattle.std.proofs.Common.{rules, ◌≡◌, sym, ap, ◌∙◌, subst, arith}
use Rattle.model.specs.Calls.{taken}
use Rattle.model.specs.State.{Within, with_head, with_front}
use Rattle.model.specs.Headers.{made_header}
use Rattle.model.specs.declared.calls.Call.TheVariants.{Make}
use Rattle.model.specs.declared.calls.Reply.TheVariants.{Number}
use Rattle.model.proofs.Accepted.{make_accepted}
use Rattle.model.proofs.LawfulCalls.{front_free}
use Rattle.steps.specs.Keeping.{state}
use Rattle.steps.specs.Replies.{leaving}
use Rattle.steps.proofs.Keeps.{lawful_kept}
use Rattle.steps.proofs.freeing.take_front.Goals as goal

pub read_head-next-requires : goal.read_head-next-requires
read_head-next-requires g c =
    let v = state g.S.Stacked c.args.store.now in
    let f = front_free g.S.Records.shape v c.requires.lawful (λ e. omega (arith, c.requires.front, e)) in
    record { named = subst (Within v) (sym c.requires.front.1) f.within }

pub write_head-requires : goal.write_head-requires
write_head-requires g c =
    let v = state g.S.Stacked c.args.store.now in
    let f = front_free g.S.Records.shape v c.requires.lawful (λ e. omega (arith, c.requires.front, e)) in
    record { named = subst (Within v) (sym c.requires.front.1) f.within }

pub returns : goal.returns
returns g c =
    let k = g.S.Records.shape in
    let v = state g.S.Stacked c.args.store.now in
    let z = state g.S.Stacked c.set_front.new.self in
    let r = c.args.r in
    let after : z ≡ taken v r =
    ap (λ y. y.store) c.set_front.ensures.after
    ∙ ap (with_front (g.S.Stacked.progress c.write_head.new.self).store) (search rules)
    ∙ ap (λ y. with_front y.store c.read_head-next.result.next) c.write_head.ensures.after
    ∙ ap (λ h. with_front (with_head v r h) c.read_head-next.result.next) c.made.ensures.value
    ∙ ap (λ h. with_front (with_head v r made_header) h.next) c.read_head-next.ensures.value in
    let answer =
    ap (leaving (Number r)) after ∙ ap (λ x. leaving (Number x) (taken v x)) c.requires.front.1
    ∙ sym (make_accepted v (λ e. omega (arith, c.requires.front, e))) in
    record {
      after = answer;
      lawful = lawful_kept k v z Make (Number r) c.requires.lawful answer;
    }
