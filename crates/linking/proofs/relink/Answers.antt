use Rattle.std.proofs.Common.{◌≡◌, ℕ, ◌-◌, ◌<◌, ◌≤◌, eqb, [], ◌∷◌, length, get_or, sym, refl, ap, ◌∙◌, subst, ⊎_elim, arith}
use Rattle.std.proofs.lemmas.List.{length-set}
use Rattle.std.proofs.lemmas.Bool.{cond_both, lt-ltb}
use Rattle.kinds.specs.Rows.{with_link}
use Rattle.model.specs.Calls.{started, given_ups, raised_at, relinked, link_answer}
use Rattle.model.specs.Release.{moved, lower}
use Rattle.model.specs.Releasing.{Releasing, FewGiven}
use Rattle.model.specs.State.{State, Within, head, row, with_head, with_row}
use Rattle.model.specs.Headers.{raised}
use Rattle.model.specs.Walk.Task.{follow}
use Rattle.model.specs.declared.calls.Call.TheVariants.{Link}
use Rattle.model.specs.declared.calls.Reply.TheVariants.{Number}
use Rattle.model.proofs.Accepted.{asked_yes}
use Rattle.model.proofs.LawfulAnswers.{target_from_test, owing_relinked}
use Rattle.model.proofs.LawfulCalls.{count_small}
use Rattle.steps.specs.Keeping.{state}
use Rattle.steps.specs.Replies.{leaving}
use Rattle.steps.proofs.Keeps.{lawful_kept, few_start}
use Rattle.linking.proofs.relink.Goals as goal

raised_rows : (v : State) (t : ℕ) → (raised_at v t).rows ≡ v.rows
raised_rows v t = cond_both (eqb t 0) v (with_head v t (raised (head v t))) (λ y. y.rows ≡ v.rows) (λ _. refl) (λ _. refl)

relinked_size : (v : State) (r l t : ℕ) → length (relinked (raised_at v t) r l t).rows ≡ length v.rows
relinked_size v r l t = length-set (raised_at v t).rows (r - 1) _ ∙ ap length (raised_rows v t)

pub raise-requires : goal.raise-requires
raise-requires g c =
    let k = g.S.Records.shape in
    let v = state g.S.Stacked c.args.store.now in
    let t = c.args.t in
    let p = target_from_test v c.args.r t c.requires.held in
    let first : Within v 1 = (omega arith, omega (arith, p.0.0)) in
    let e = c.start.ensures.after in
    record {
      within =
          omega (arith, ap (λ y. length y.store.rows) e, ⊎_elim {C = t ≤ length v.rows} (λ z. omega (arith, z)) (λ h. h.0.1) p.1);
      few =
          omega (
            arith,
            ap (λ y. (head y.store t).count) e,
            ⊎_elim {C = (head v t).count < 4294967295}
                (λ z. omega (arith, ap (λ y. (head v y).count) z, count_small k v c.requires.lawful g.met.S.Fields.bounded 1 first))
                (λ h. omega (arith, count_small k v c.requires.lawful g.met.S.Fields.bounded t h.0)) p.1,
          );
    }

pub lower-requires : goal.lower-requires
lower-requires g c =
    let k = g.S.Records.shape in
    let S = g.S.Stacked in
    let v = state S c.args.store.now in
    let r = c.args.r in
    let l = c.args.l in
    let t = c.args.t in
    let begun : S.progress c.write_link.new.self ≡ started (relinked (raised_at v t) r l t) =
    c.write_link.ensures.after
    ∙ ap (λ y. moved y (with_row y.store r (with_link (row y.store r) l t)))
    (c.raise.ensures.after ∙ ap (λ y. moved y (raised_at y.store t)) c.start.ensures.after) in
    let old : c.link-old.result ≡ get_or (row v r).links l 0 =
    c.link-old.ensures.value ∙ ap (λ y. get_or (row y.store r).links l 0) c.start.ensures.after in
    let p = target_from_test v r t c.requires.held in
    let owing = owing_relinked k v r l t c.requires.lawful p.0 p.1 c.requires.field in
    record {
      owing = subst (λ y. Releasing k y (follow c.link-old.result ∷ [])) (sym begun)
          (subst (λ u. Releasing k (started (relinked (raised_at v t) r l t)) (follow u ∷ [])) (sym old) owing);
      few = subst FewGiven (sym begun) (few_start k (relinked (raised_at v t) r l t) (follow (get_or (row v r).links l 0) ∷ []) owing);
    }

pub returns : goal.returns
returns g c =
    let k = g.S.Records.shape in
    let S = g.S.Stacked in
    let v = state S c.args.store.now in
    let r = c.args.r in
    let l = c.args.l in
    let t = c.args.t in
    let begun : S.progress c.write_link.new.self ≡ started (relinked (raised_at v t) r l t) =
    c.write_link.ensures.after
    ∙ ap (λ y. moved y (with_row y.store r (with_link (row y.store r) l t)))
    (c.raise.ensures.after ∙ ap (λ y. moved y (raised_at y.store t)) c.start.ensures.after) in
    let old : c.link-old.result ≡ get_or (row v r).links l 0 =
    c.link-old.ensures.value ∙ ap (λ y. get_or (row y.store r).links l 0) c.start.ensures.after in
    let p = target_from_test v r t c.requires.held in
    let owing = owing_relinked k v r l t c.requires.lawful p.0 p.1 c.requires.field in
    let after =
    c.lower.ensures.after ∙ ap (λ y. lower k y c.link-old.result) begun ∙ ap (lower k (started (relinked (raised_at v t) r l t))) old in
    let answer =
    ap (λ n. leaving (Number n) (state S c.lower.new.store)) c.given.ensures.value ∙ ap given_ups after
    ∙ sym (asked_yes v (λ _. link_answer k v r l t) _ _ c.requires.held (lt-ltb l k.links c.requires.field)) in
    record {
      answer = answer;
      lawful = lawful_kept k v (state S c.lower.new.store) (Link r l t) (Number c.given.result) c.requires.lawful answer;
    }
