use Rattle.std.proofs.Common.{◌≡◌, ◌+◌, true, [], ◌∷◌, length, drop, sym, ap, ◌∙◌, arith}
use Rattle.std.proofs.lemmas.List.{drop-set-lt, length-append}
use Rattle.model.specs.Collection.{kept_listed}
use Rattle.model.specs.Release.{at}
use Rattle.model.specs.Headers.{is_purple}
use Rattle.collection.proofs.Serves.{mark_purple}
use Rattle.collection.proofs.Turns.{marking_steady}
use Rattle.collection.proofs.lists.mark_one.Goals as goal

pub push-requires : goal.push-requires
push-requires g c =
    let k = g.S.Records.shape in
    let y = g.S.Stacked.progress c.args.store.now in
    let m = marking_steady k y c.args.r c.requires.serving.walks in
    let e = c.walk.ensures.meaning in
    record {
      small = omega (arith, c.requires.serving.inside, c.requires.serving.walks.sized.few);
      room =
          omega (
            arith,
            c.requires.serving.room,
            ap (λ z. length z.store.candidates) e,
            ap (λ z. length z.store.rows) e,
            ap length m.candidates_same,
            ap length m.rows_same,
          );
    }

pub returns-then-is_purple : goal.returns-then-is_purple
returns-then-is_purple g c =
    let k = g.S.Records.shape in
    let y = g.S.Stacked.progress c.args.store.now in
    let r = c.args.r in
    let m = marking_steady k y r c.requires.serving.walks in
    let e = c.walk.ensures.meaning in
    let many : length (g.S.Stacked.progress c.walk.new.store).store.candidates ≡ length y.store.candidates =
    ap (λ z. length z.store.candidates) e ∙ ap length m.candidates_same in
    let purple : is_purple (at y r).colour ≡ true =
    sym (ap (λ h. is_purple h.colour) c.read_head.ensures.value) ∙ sym c.if-is_purple.ensures.value in
    record {
      meaning = c.push.ensures.after ∙ ap (λ z. kept_listed z r) e ∙ sym (mark_purple k y r purple);
      wide = ap length c.push.ensures.kept ∙ c.walk.ensures.wide;
      aside =
          ap (drop (length y.store.candidates + 1)) c.push.ensures.table
          ∙ drop-set-lt (length y.store.candidates + 1) _ _ r (omega (arith, many))
          ∙ ap (drop (length y.store.candidates + 1)) c.walk.ensures.aside;
      short = omega (arith, ap (λ z. length z.store.candidates) c.push.ensures.after, length-append (g.S.Stacked.progress c.walk.new.store).store.candidates (r ∷ []), many);
    }
