-- A store that a call leaves as the call's definition says is lawful.
use Rattle.std.proofs.Common.{◌≡◌, ℕ, suc, List, [], ◌∷◌, length, sym, ap, ◌∙◌, subst, ⊎_elim, arith}
use Rattle.kinds.specs.Rows.{Shape}
use Rattle.std.proofs.lemmas.List.Sums.{count_by-le-length}
use Rattle.std.proofs.lemmas.Bool.{cases_eq}
use Rattle.model.specs.Calls.{answered, started}
use Rattle.model.specs.Lawful.{Lawful}
use Rattle.model.specs.Release.{lower, releasing}
use Rattle.model.specs.Releasing.{Releasing, FewGiven, counted_room}
use Rattle.model.specs.State.{State}
use Rattle.model.specs.Walk.{Progress, Task}
use Rattle.model.specs.Walk.Task.{follow, visit}
use Rattle.model.specs.declared.calls.Call.{Call}
use Rattle.model.specs.declared.calls.Reply.{Reply}
use Rattle.model.proofs.LawfulAnswers.{lawful_answered}
use Rattle.model.proofs.Lowering.{lower_walked}
use Rattle.model.proofs.Releases.{release_keeps}
use Rattle.model.proofs.Walks.{walk_keeps}
use Rattle.steps.specs.Replies.{leaving}

pub lawful_kept : (k : Shape) (s z : State) (c : Call) (r : Reply) → Lawful k s → leaving r z ≡ answered k s c → Lawful k z
lawful_kept k s z c r law e = subst (Lawful k) (sym (ap (λ a. a.store) e)) (lawful_answered k s law c)

-- where nothing is given up yet, there is room for every give-up
pub few_start : (k : Shape) (v : State) (Q : List Task) → Releasing k (started v) Q → FewGiven (started v)
few_start k v Q I = omega (arith, I.few, I.heads_fit, count_by-le-length (λ h. h.used) v.heads)

-- there are as many records after a release as before
pub lower_size :
    (k : Shape) (g : Progress) (t : ℕ) → Releasing k g (follow t ∷ []) → length (lower k g t).store.rows ≡ length g.store.rows
lower_size k g t I = ⊎_elim
    (λ e. ap (λ x. length (lower k g x).store.rows) e)
    (λ n.
    let K = release_keeps k in
    let f = K.follows g t [] n I in
    let y = (releasing k).follow g t in
    let w = walk_keeps k.links (releasing k) (Releasing k) counted_room K (suc (length y.store.rows)) y t []
    (omega (arith, K.most y (visit t ∷ []) f.fits)) f.fits in
    ap (λ z. length z.store.rows) (lower_walked k g t n) ∙ w.size ∙ ap length f.rows)
    (cases_eq t 0)
