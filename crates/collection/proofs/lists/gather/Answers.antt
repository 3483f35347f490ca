use Rattle.std.proofs.Common.{◌≡◌, ◌+◌, length, take, drop, fold, sym, ap, ◌∙◌, subst, arith}
use Rattle.model.specs.Collected.{AfterCollection}
use Rattle.model.specs.Collection.{gather_one, gathered, list_taken}
use Rattle.model.proofs.GatherLaws.{gather_turn, gather_law}
use Rattle.collection.proofs.Serves.{gather_begun, gather_serves, Gatherings}
use Rattle.collection.proofs.Turns.{turn_inside, turn_ready, turn_next, turn_all}
use Rattle.collection.proofs.lists.gather.Goals as goal

pub candidate-next-requires : goal.candidate-next-requires
candidate-next-requires g c =
    let k = g.S.Records.shape in
    record {
      inside = omega (arith, turn_inside (gather_one k) (Gatherings k) _ _ _ _ _ _ c.loop-i.invariant.0 c.loop-i-test.true);
    }

pub gather_one-requires : goal.gather_one-requires
gather_one-requires g c =
    let k = g.S.Records.shape in
    let S = g.S.Stacked in
    let start = S.progress c.args.store.now in
    let y = S.progress c.loop-i.store in
    let m = c.requires.scanned in
    let e = c.take_list.ensures in
    let begun = gather_begun k start _ c.listed-left.result _ _ c.listed-left.ensures.table e.aside m.0 e.after m.1.0 m.1.1.0 m.1.1.1 in
    let L = turn_ready (gather_one k) (Gatherings k) _ _ _ _ y _ c.loop-i.invariant.0 c.loop-i-test.true _ c.candidate-next.ensures.value (m.0, start) begun in
    record {
      serving = gather_serves k m.0 start y c.candidate-next.result _ L;
    }

pub loop-i-preserved : goal.loop-i-preserved
loop-i-preserved g c =
    let k = g.S.Records.shape in
    let S = g.S.Stacked in
    let z = c.gather_one.ensures in (
      turn_next (gather_one k) (Gatherings k) _ _ _ _ _ _ c.loop-i.invariant.0 c.loop-i-test.true _ c.candidate-next.ensures.value
          (S.progress c.gather_one.new.store) (S.table c.gather_one.new.store) z.meaning
          (λ x L. gather_turn k x.0 x.1 _ _ _ L)
          (ap (drop (c.loop-i.i + 1)) z.aside),
      z.wide ∙ c.loop-i.invariant.1,
    )

pub returns : goal.returns
returns g c =
    let k = g.S.Records.shape in
    let S = g.S.Stacked in
    let start = S.progress c.args.store.now in
    let e = c.take_list.ensures in
    let n = c.listed-left.result in
    let all : c.loop-i.i ≡ n = omega (arith, c.loop-i-test.false, c.loop-i.auto.i-end) in
    let meaning : S.progress c.loop-i.store ≡ gathered k start =
    turn_all (gather_one k) (Gatherings k) n _ _ _ _ _ c.loop-i.invariant.0 all
    ∙ ap (λ y. fold (gather_one k) y (take n (S.table c.take_list.new.self))) e.after
    ∙ ap (λ t. fold (gather_one k) (list_taken start) (take n t)) e.aside
    ∙ ap (fold (gather_one k) (list_taken start)) (sym c.listed-left.ensures.table) in
    record {
      meaning = meaning;
      law = λ b law few a. subst (AfterCollection k b) (sym meaning) (gather_law k b start law few a);
      wide = c.loop-i.invariant.1 ∙ ap length e.kept;
    }
