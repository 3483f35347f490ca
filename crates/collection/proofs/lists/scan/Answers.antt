use Rattle.std.proofs.Common.{◌≡◌, ◌+◌, drop, fold, sym, refl, ap, ◌∙◌, subst, arith}
use Rattle.model.specs.Collected.{AfterScan}
use Rattle.model.specs.Collection.{scan_one, scanned}
use Rattle.model.proofs.ScanLaws.{scan_begins, scan_turn, scan_law}
use Rattle.collection.proofs.Serves.{scan_begun, Scans}
use Rattle.collection.proofs.Turns.{turn_inside, turn_ready, turn_next, turn_all}
use Rattle.collection.proofs.lists.scan.Goals as goal

pub candidate-root-requires : goal.candidate-root-requires
candidate-root-requires g c = record {
  inside = omega (arith, turn_inside scan_one (Scans g.S.Records.shape) _ _ _ _ _ _ c.loop-i.invariant.0 c.loop-i-test.true);
}

pub walk-requires : goal.walk-requires
walk-requires g c =
    let k = g.S.Records.shape in
    let S = g.S.Stacked in
    let start = S.progress c.args.store.now in
    let y = S.progress c.loop-i.store in
    let m = c.requires.marked in
    let begun = scan_begun k start start c.listed-listed.result _ _ c.listed-listed.ensures.table refl m.0 refl m.1.0 m.1.1 in
    let L = turn_ready scan_one (Scans k) _ _ _ _ y _ c.loop-i.invariant.0 c.loop-i-test.true _ c.candidate-root.ensures.value (m.0, start) begun in
    let I = scan_begins k m.0 start y c.candidate-root.result _ L in
    record {
      fits = I;
      stack = omega (arith, g.met.S.Records.room c.loop-i.store);
    }

pub loop-i-preserved : goal.loop-i-preserved
loop-i-preserved g c =
    let k = g.S.Records.shape in
    let S = g.S.Stacked in
    let z = c.walk.ensures in (
      turn_next scan_one (Scans k) _ _ _ _ _ _ c.loop-i.invariant.0 c.loop-i-test.true _ c.candidate-root.ensures.value
          (S.progress c.walk.new.store) (S.table c.walk.new.store) z.meaning
          (λ x L. scan_turn k x.0 x.1 _ _ _ L)
          (ap (drop (c.loop-i.i + 1)) z.aside),
      z.wide ∙ c.loop-i.invariant.1,
    )

pub returns : goal.returns
returns g c =
    let k = g.S.Records.shape in
    let S = g.S.Stacked in
    let start = S.progress c.args.store.now in
    let n = c.listed-listed.result in
    let all : c.loop-i.i ≡ n = omega (arith, c.loop-i-test.false, c.loop-i.auto.i-end) in
    let meaning : S.progress c.loop-i.store ≡ scanned start =
    turn_all scan_one (Scans k) n _ _ _ _ _ c.loop-i.invariant.0 all ∙ ap (fold scan_one start) (sym c.listed-listed.ensures.table) in
    record {
      meaning = meaning;
      law = λ b law m. subst (AfterScan k b) (sym meaning) (scan_law k b start law m);
      wide = c.loop-i.invariant.1;
    }
