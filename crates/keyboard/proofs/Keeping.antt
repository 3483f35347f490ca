-- A buffer that keeps the first 81 bytes. Assumes nothing.
use Rattle.std.proofs.Common.{◌≡◌, ℕ, ◌<◌, List, [], ◌∷◌, ◌++◌, length, take, sym, ◌∙◌, ⊎_elim, arith}
use Rattle.std.proofs.lemmas.List.{length-take-le, length_push, take_all, take-append-le, take_at}
use Rattle.std.proofs.lemmas.Bool.{cases_lt, lt-leb}
use Rattle.keyboard.specs.Laws.{Suffices}
use Rattle.keyboard.specs.Lines.{meaning}

pub kept_more : (bs : List ℕ) (b : ℕ) → length bs < 81 → take 81 (bs ++ b ∷ []) ≡ bs ++ b ∷ []
kept_more bs b free = take_all 81 _ (omega (arith, length_push bs b))

pub kept_full : (bs : List ℕ) (b : ℕ) → length bs ≡ 81 → take 81 (bs ++ b ∷ []) ≡ bs
kept_full bs b full = take_at bs (b ∷ []) 81 full

-- what is kept of a line, one byte on
pub kept_next : (line : List ℕ) (b : ℕ) → take 81 (take 81 line ++ b ∷ []) ≡ take 81 (line ++ b ∷ [])
kept_next line b =
    ⊎_elim
    (λ short. rw (take_all 81 line (omega arith)))
    (λ long. take_at (take 81 line) (b ∷ []) 81 (length-take-le 81 line long) ∙ sym (take-append-le 81 line (b ∷ []) long))
    (cases_lt (length line) 81)

-- a line of 81 bytes or more means no call, and so does what is kept of it
pub kept_means : (line : List ℕ) → meaning (take 81 line) ≡ meaning line
kept_means line =
    ⊎_elim
    (λ short. rw (take_all 81 line (omega arith)))
    (λ long. rw (length-take-le 81 line long, lt-leb (length line) 80 long))
    (cases_lt (length line) 81)

pub suffices : Suffices 81
suffices = record { next = kept_next; means = kept_means }
