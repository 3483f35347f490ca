use Rattle.std.proofs.Common.{◌%◌, ◌<◌, ◌≤◌, length, refl, ap, ◌∙◌, arith}
use Rattle.model.proofs.Entries.{walk_laws}
use Rattle.walks.proofs.Loops.{at_top, end, first, follow_ready, followed, free, inside, leave_ready, low, named, onward, onward_end, turn_begun, turn_empty, turn_leave, advance, visit_ready, visit_small}
use Rattle.walks.proofs.run.walk.Goals as goal

pub loop-top-init : goal.loop-top-init
loop-top-init g c =
    let f = first _ _ _ _ g.met.W.Walk.keeps g.W.Walk.spare _ _ _ _ c.requires.fits c.links-p.ensures.bound (g.met.S.Stacked.few c.args.store.now) c.requires.stack in
    (onward (turn_begun g.met.W.Walk.keeps f c.begin-top.ensures.begun).0, refl)

pub leave-requires : goal.leave-requires
leave-requires g c =
    let f : g.S.Stacked.width ≤ c.entry-n.result % 32 = omega (arith, c.links-p.ensures.value, c.if-i-p.true) in
    record { ready = leave_ready g.met.W.Walk.keeps c.loop-top.invariant.0 c.loop-top-test.true c.entry-n.ensures.value f }

pub loop-top-smaller-then-i-p : goal.loop-top-smaller-then-i-p
loop-top-smaller-then-i-p g c =
    let f : g.S.Stacked.width ≤ c.entry-n.result % 32 = omega (arith, c.links-p.ensures.value, c.if-i-p.true) in
    (turn_leave g.met.W.Walk.keeps c.loop-top.invariant.0 c.loop-top-test.true c.entry-n.ensures.value f c.leave.ensures.meaning c.leave.ensures.kept).1

pub loop-top-preserved-then-i-p : goal.loop-top-preserved-then-i-p
loop-top-preserved-then-i-p g c =
    let f : g.S.Stacked.width ≤ c.entry-n.result % 32 = omega (arith, c.links-p.ensures.value, c.if-i-p.true) in (
      (turn_leave g.met.W.Walk.keeps c.loop-top.invariant.0 c.loop-top-test.true c.entry-n.ensures.value f c.leave.ensures.meaning c.leave.ensures.kept).0,
      c.leave.ensures.aside ∙ c.loop-top.invariant.1,
    )

pub put-requires : goal.put-requires
put-requires g c =
    let a = c.loop-top.invariant.0 in
    let up = c.loop-top-test.true in
    let o = at_top g.met.W.Walk.keeps a up c.entry-n.ensures.value in
    record {
      inside = omega (arith, inside a up, up);
      small = omega (arith, o.1, a.bounds.few);
    }

pub link-t-requires : goal.link-t-requires
link-t-requires g c =
    let o = named g.met.W.Walk.keeps c.loop-top.invariant.0 c.loop-top-test.true c.entry-n.ensures.value in
    let e = ap (λ y. length y.store.rows) c.put.ensures.same in
    record {
      named = (o.0, omega (arith, o.1, e));
      linked = omega (arith, c.links-p.ensures.value, c.if-i-p.false);
    }

pub follow-requires : goal.follow-requires
follow-requires g c =
    let f : c.entry-n.result % 32 < g.S.Stacked.width = omega (arith, c.links-p.ensures.value, c.if-i-p.false) in
    let m = advance g.met.W.Walk.keeps c.loop-top.invariant.0 c.loop-top-test.true c.entry-n.ensures.value f c.put.ensures.same c.put.ensures.after c.link-t.ensures.value in
    record { ready = follow_ready g.met.W.Walk.keeps m; named = c.if-t-ne0.true }

pub begin-top-requires-then-t-ne0 : goal.begin-top-requires-then-t-ne0
begin-top-requires-then-t-ne0 g c =
    let f : c.entry-n.result % 32 < g.S.Stacked.width = omega (arith, c.links-p.ensures.value, c.if-i-p.false) in
    let m = advance g.met.W.Walk.keeps c.loop-top.invariant.0 c.loop-top-test.true c.entry-n.ensures.value f c.put.ensures.same c.put.ensures.after c.link-t.ensures.value in
    let v = followed g.met.W.Walk.keeps m c.if-t-ne0.true c.follow.ensures.meaning c.follow.ensures.kept in
    let size = v.going.size in
    record {
      ready = visit_ready g.met.W.Walk.keeps v;
      named = visit_small g.met.W.Walk.keeps v;
      stack = omega (arith, size, ap g.W.Walk.spare size, low v, v.bounds.wide, v.bounds.tall);
      free = free g.met.W.Walk.keeps v;
    }

pub loop-top-smaller-then-t-ne0 : goal.loop-top-smaller-then-t-ne0
loop-top-smaller-then-t-ne0 g c =
    let f : c.entry-n.result % 32 < g.S.Stacked.width = omega (arith, c.links-p.ensures.value, c.if-i-p.false) in
    let m = advance g.met.W.Walk.keeps c.loop-top.invariant.0 c.loop-top-test.true c.entry-n.ensures.value f c.put.ensures.same c.put.ensures.after c.link-t.ensures.value in
    let v = followed g.met.W.Walk.keeps m c.if-t-ne0.true c.follow.ensures.meaning c.follow.ensures.kept in
    (turn_begun g.met.W.Walk.keeps v c.begin-top-then-t-ne0.ensures.begun).1

pub loop-top-preserved-then-t-ne0 : goal.loop-top-preserved-then-t-ne0
loop-top-preserved-then-t-ne0 g c =
    let f : c.entry-n.result % 32 < g.S.Stacked.width = omega (arith, c.links-p.ensures.value, c.if-i-p.false) in
    let m = advance g.met.W.Walk.keeps c.loop-top.invariant.0 c.loop-top-test.true c.entry-n.ensures.value f c.put.ensures.same c.put.ensures.after c.link-t.ensures.value in
    let v = followed g.met.W.Walk.keeps m c.if-t-ne0.true c.follow.ensures.meaning c.follow.ensures.kept in (
      (turn_begun g.met.W.Walk.keeps v c.begin-top-then-t-ne0.ensures.begun).0,
      c.begin-top-then-t-ne0.ensures.aside ∙ c.follow.ensures.aside ∙ ap g.W.Walk.apart c.put.ensures.aside ∙ c.loop-top.invariant.1,
    )

pub loop-top-smaller : goal.loop-top-smaller
loop-top-smaller g c =
    let f : c.entry-n.result % 32 < g.S.Stacked.width = omega (arith, c.links-p.ensures.value, c.if-i-p.false) in
    let m = advance g.met.W.Walk.keeps c.loop-top.invariant.0 c.loop-top-test.true c.entry-n.ensures.value f c.put.ensures.same c.put.ensures.after c.link-t.ensures.value in
    (turn_empty g.met.W.Walk.keeps m c.if-t-ne0.false).1

pub loop-top-preserved : goal.loop-top-preserved
loop-top-preserved g c =
    let f : c.entry-n.result % 32 < g.S.Stacked.width = omega (arith, c.links-p.ensures.value, c.if-i-p.false) in
    let m = advance g.met.W.Walk.keeps c.loop-top.invariant.0 c.loop-top-test.true c.entry-n.ensures.value f c.put.ensures.same c.put.ensures.after c.link-t.ensures.value in (
      (turn_empty g.met.W.Walk.keeps m c.if-t-ne0.false).0,
      ap g.W.Walk.apart c.put.ensures.aside ∙ c.loop-top.invariant.1,
    )

pub returns : goal.returns
returns g c =
    let f = first _ _ _ _ g.met.W.Walk.keeps g.W.Walk.spare _ _ _ _ c.requires.fits c.links-p.ensures.bound (g.met.S.Stacked.few c.args.store.now) c.requires.stack in
    let b = c.begin-top.ensures.begun in
    let a = c.loop-top.invariant.0 in
    let z = end a c.loop-top-test.false in
    record {
      meaning = z.0 ∙ onward_end (turn_begun g.met.W.Walk.keeps f b).0;
      laws = walk_laws _ _ _ _ g.met.W.Walk.keeps _ g.met.W.Walk.opens _ _ c.requires.fits;
      fits = z.1;
      wide = a.bounds.wide ∙ b.wide;
      below = a.bounds.below ∙ b.below;
      aside = c.loop-top.invariant.1 ∙ c.begin-top.ensures.aside;
    }
