use Rattle.std.proofs.Common.{◌≡◌, ◌+◌, length, take, fold, sym, ap, ◌∙◌, subst, arith}
use Rattle.model.specs.Collected.{AfterMark}
use Rattle.model.specs.Collection.{mark_one, marked, list_taken}
use Rattle.model.proofs.MarkLaws.{MarkList, mark_turn, mark_law}
use Rattle.collection.proofs.Serves.{mark_begun, mark_serves}
use Rattle.collection.proofs.Turns.{turn_ready, turn_next, turn_all, drop_later}
use Rattle.collection.proofs.lists.mark.Goals as goal

pub mark_one-requires : goal.mark_one-requires
mark_one-requires g c =
    let k = g.S.Records.shape in
    let S = g.S.Stacked in
    let start = S.progress c.args.store.now in
    let y = S.progress c.loop-i.store in
    let e = c.take_list.ensures in
    let begun = mark_begun k start _ c.listed-n.result _ _ c.listed-n.ensures.table e.aside e.after c.requires.lawful in
    let M = turn_ready (mark_one k) (MarkList k) _ _ _ _ y _ c.loop-i.invariant.0 c.loop-i-test.true _ c.candidate-r.ensures.value start begun in
    record {
      serving = mark_serves k start y c.candidate-r.result _ M c.requires.few (omega (arith, c.loop-i.invariant.1.0, c.loop-i-test.true, c.listed-n.ensures.room));
    }

pub loop-i-preserved : goal.loop-i-preserved
loop-i-preserved g c =
    let k = g.S.Records.shape in
    let S = g.S.Stacked in
    let z = c.mark_one.ensures in
    let i = c.loop-i.i in (
      turn_next (mark_one k) (MarkList k) _ _ _ _ _ _ c.loop-i.invariant.0 c.loop-i-test.true _ c.candidate-r.ensures.value
          (S.progress c.mark_one.new.store) (S.table c.mark_one.new.store) z.meaning
          (λ x M. mark_turn k x _ _ _ M)
          (drop_later _ (i + 1) _ _ (omega (arith, c.loop-i.invariant.1.0)) z.aside),
      (omega (arith, z.short, c.loop-i.invariant.1.0), z.wide ∙ c.loop-i.invariant.1.1),
    )

pub returns : goal.returns
returns g c =
    let k = g.S.Records.shape in
    let S = g.S.Stacked in
    let start = S.progress c.args.store.now in
    let e = c.take_list.ensures in
    let n = c.listed-n.result in
    let all : c.loop-i.i ≡ n = omega (arith, c.loop-i-test.false, c.loop-i.auto.i-end) in
    let meaning : S.progress c.loop-i.store ≡ marked k start =
    turn_all (mark_one k) (MarkList k) n _ _ _ _ _ c.loop-i.invariant.0 all
    ∙ ap (λ y. fold (mark_one k) y (take n (S.table c.take_list.new.self))) e.after
    ∙ ap (λ t. fold (mark_one k) (list_taken start) (take n t)) e.aside
    ∙ ap (fold (mark_one k) (list_taken start)) (sym c.listed-n.ensures.table) in
    record {
      meaning = meaning;
      law = subst (AfterMark k start) (sym meaning) (mark_law k start c.requires.lawful);
      wide = c.loop-i.invariant.1.1 ∙ ap length e.kept;
    }
