use Rattle.std.proofs.Common.{◌≡◌, ℕ, [], take, drop}
use Rattle.model.specs.History.{After, events}
use Rattle.store.specs.View.{view}
use Rattle.store.proofs.plays.play.Given as goal

abbrev pub invariant-loop-i : goal.invariant-loop-i
invariant-loop-i g l = record {
  goes_on :
      (n : ℕ) → After g.K.Kind.shape n [] (view g.K.Kind l.initial.store) →
      After g.K.Kind.shape n (events (take l.i l.calls) (take l.i l.replies)) (view g.K.Kind l.store);
  rest : drop l.i l.replies ≡ drop l.i l.initial.replies;
}
