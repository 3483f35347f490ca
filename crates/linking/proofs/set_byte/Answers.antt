use Rattle.std.proofs.Common.{sym, ap, ◌∙◌}
use Rattle.std.proofs.lemmas.Bool.{lt-ltb}
use Rattle.model.specs.Calls.{byte_answer}
use Rattle.model.specs.declared.calls.Call.TheVariants.{Byte}
use Rattle.model.specs.declared.calls.Reply.TheVariants.{Done}
use Rattle.model.proofs.Accepted.{asked_yes}
use Rattle.steps.specs.Keeping.{state}
use Rattle.steps.specs.Replies.{leaving}
use Rattle.steps.proofs.Keeps.{lawful_kept}
use Rattle.linking.proofs.set_byte.Goals as goal

pub returns : goal.returns
returns g c =
    let k = g.S.Records.shape in
    let v = state g.S.Stacked c.args.store.now in
    let z = state g.S.Stacked c.put_byte.new.self in
    let r = c.args.r in
    let b = c.args.b in
    let after = c.put_byte.ensures.after in
    let answer =
    ap (λ y. leaving Done y.store) after
    ∙ sym (asked_yes v (λ _. byte_answer v r b c.args.v) _ _ c.requires.held (lt-ltb b k.bytes c.requires.field)) in
    record {
      after = answer;
      lawful = lawful_kept k v z (Byte r b c.args.v) Done c.requires.lawful answer;
    }
