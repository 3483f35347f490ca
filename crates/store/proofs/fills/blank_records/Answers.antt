use Rattle.std.proofs.Common.{◌≡◌, ◌+◌, [], ◌∷◌, ◌++◌, map, length, replicate, refl, ap, ◌∙◌, rules, arith, length-append}
use Rattle.std.proofs.lemmas.Fn.{chained_keeps}
use Rattle.std.proofs.lemmas.List.{map_push, replicate_more}
use Rattle.kinds.specs.Rows.{blank}
use Rattle.store.proofs.fills.blank_records.Goals as goal

pub returns : goal.returns
returns g c =
    let row = g.K.Kind.row in
    let b = blank g.K.Kind.shape in
    let filled = chained_keeps _ (λ xs _. map row xs ≡ replicate (length xs) b)
    (λ xs q x v j called.
    let e : row x ≡ b = search rules in
    let pushed = map_push row xs x in
    let more = replicate_more (length xs) b in
    let n : length (xs ++ x ∷ []) ≡ length xs + 1 = omega (arith, length-append xs (x ∷ [])) in
    cc)
    _ _ _ refl c.fill_with.ensures.ran.1 in
    record { after = filled ∙ ap (λ n. replicate n b) c.fill_with.ensures.len }
