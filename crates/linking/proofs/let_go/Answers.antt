use Rattle.std.proofs.Common.{rules, ◌≡◌, [], ◌∷◌, sym, refl, ap, ◌∙◌, subst}
use Rattle.model.specs.Calls.{started, given_ups, drop_answer}
use Rattle.model.specs.Release.{lower, turn}
use Rattle.model.specs.Releasing.{Releasing, FewGiven}
use Rattle.model.specs.State.{head, with_head}
use Rattle.model.specs.Headers.{held_less}
use Rattle.model.specs.Walk.Task.{follow}
use Rattle.model.specs.declared.calls.Call.TheVariants.{Drop}
use Rattle.model.specs.declared.calls.Reply.TheVariants.{Number}
use Rattle.model.proofs.Accepted.{asked_yes}
use Rattle.model.proofs.LawfulCalls.{held_from_test}
use Rattle.model.proofs.Owing.{owing_drop}
use Rattle.steps.specs.Keeping.{state}
use Rattle.steps.specs.Replies.{leaving}
use Rattle.steps.proofs.Keeps.{lawful_kept, few_start}
use Rattle.reclaim.proofs.Turned.{turned}
use Rattle.linking.proofs.let_go.Goals as goal

pub lower-requires : goal.lower-requires
lower-requires g c =
    let k = g.S.Records.shape in
    let S = g.S.Stacked in
    let v = state S c.args.store.now in
    let r = c.args.r in
    let begun : S.progress c.alter_head.new.store ≡ started (with_head v r (held_less (head v r))) =
    turned held_less _ _ r (λ a b p. search (rules, p)) c.alter_head.ensures.after ∙ ap (λ y. turn y r (held_less (head y.store r))) c.start.ensures.after in
    let owing = owing_drop k v r c.requires.lawful (held_from_test v r c.requires.held) in
    record {
      owing = subst (λ y. Releasing k y (follow r ∷ [])) (sym begun) owing;
      few = subst FewGiven (sym begun) (few_start k (with_head v r (held_less (head v r))) (follow r ∷ []) owing);
    }

pub returns : goal.returns
returns g c =
    let k = g.S.Records.shape in
    let S = g.S.Stacked in
    let v = state S c.args.store.now in
    let r = c.args.r in
    let begun : S.progress c.alter_head.new.store ≡ started (with_head v r (held_less (head v r))) =
    turned held_less _ _ r (λ a b p. search (rules, p)) c.alter_head.ensures.after ∙ ap (λ y. turn y r (held_less (head y.store r))) c.start.ensures.after in
    let after = c.lower.ensures.after ∙ ap (λ y. lower k y r) begun in
    let answer =
    ap (λ n. leaving (Number n) (state S c.lower.new.store)) c.given.ensures.value ∙ ap given_ups after
    ∙ sym (asked_yes v (λ _. drop_answer k v r) _ _ c.requires.held refl) in
    record {
      answer = answer;
      lawful = lawful_kept k v (state S c.lower.new.store) (Drop r) (Number c.given.result) c.requires.lawful answer;
    }
