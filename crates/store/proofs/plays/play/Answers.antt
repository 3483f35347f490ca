use Rattle.std.proofs.Common.{◌≡◌, ◌+◌, min, [], length, get_or, take, set, sym, ◌∙◌, subst, arith}
use Rattle.std.proofs.lemmas.List.{take_more, take_more_set, length-take-le}
use Rattle.model.specs.History.{After, events, then}
use Rattle.model.specs.declared.calls.Call.TheVariants.{Make}
use Rattle.model.proofs.Histories.{after_none, every_history, events_push, events_all}
use Rattle.store.specs.Sizes.{size_over}
use Rattle.store.specs.View.{view}
use Rattle.std.proofs.lemmas.Grind.{common_steps}
use Rattle.store.proofs.Fitting.{size_few}
use Rattle.store.proofs.plays.play.Goals as goal

pub loop-i-preserved : goal.loop-i-preserved
loop-i-preserved g c =
    let i = c.loop-i.i in
    let cs = c.args.calls.now in
    let rs = c.loop-i.replies in
    let r = c.perform.result in
    let more : events (take (i + 1) cs) (take (i + 1) (set rs i r)) ≡ then (events (take i cs) (take i rs)) (get_or cs i Make) r =
    let called = take_more cs i Make (omega arith) in
    let answered = take_more_set rs i r (omega arith) in
    let pushed = events_push (take i cs) (take i rs) (get_or cs i Make) r (length-take-le i cs (omega arith) ∙ sym (length-take-le i rs (omega arith))) in
    cc in
    record {
      goes_on = λ n a. subst (λ es. After g.K.Kind.shape n es (view g.K.Kind c.perform.new.self)) (sym more) (c.perform.ensures.history n _ (c.loop-i.invariant.goes_on n a)).0;
      rest = grind (arith, common_steps);
    }

pub returns-clause-answers : goal.returns-clause-answers
returns-clause-answers g c =
    let k = g.K.Kind.shape in
    let size = size_over c.args.tables in
    let made = c.new-store.ensures.store in
    let none = subst (After k size []) (sym made) (after_none k size (size_few c.args.tables)) in
    let all : c.loop-i.i ≡ min (length c.args.calls.now) (length c.loop-i.replies) = omega (arith, c.min-i-end.ensures) in
    subst (λ es. After k size es (view g.K.Kind c.loop-i.store)) (events_all c.loop-i.i c.args.calls.now c.loop-i.replies all) (c.loop-i.invariant.goes_on size none)

pub returns-clause-history : goal.returns-clause-history
returns-clause-history g c = (every_history g.K.Kind.shape (size_over c.args.tables) _ _ (returns-clause-answers g c)).1
