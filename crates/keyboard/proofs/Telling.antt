-- Replies that differ have answer lines that differ. Assumes nothing.
use Rattle.std.proofs.Common.{◌≡◌, ℕ, ◌^◌, ◌<◌, List, ◌++◌, get_or, codes, decimal, refl, ap, arith}
use Rattle.std.specs.Fmt.{digits}
use Rattle.std.proofs.lemmas.Fmt.{decimal_injective, decimal_is_IsNumeral, decimal_nonempty}
use Rattle.std.proofs.lemmas.Str.Parse.{digit_at}
use Rattle.std.proofs.lemmas.List.{append_cancel_left, append_cancel_right, get_or_append_left}
use Rattle.model.specs.Refusals.{number_of}
use Rattle.model.specs.declared.calls.Reply.{Reply}
use Rattle.model.specs.declared.calls.Reply.TheVariants.{Number, Nothing, Done, Refused}
use Rattle.keyboard.specs.Answers.{line_feed}
use Rattle.keyboard.specs.Laws.{Tells}
use Rattle.keyboard.specs.Worked.{AnswersRight}

same_number : (words : List ℕ) (m n : ℕ) → m < 2 ^ 64 → n < 2 ^ 64 → words ++ (decimal m ++ line_feed) ≡ words ++ (decimal n ++ line_feed) → m ≡ n
same_number words m n fm fn e =
    decimal_injective m n fm fn (append_cancel_right (decimal m) (decimal n) line_feed (append_cancel_left words _ _ e))

-- a number begins with a digit, and not with the n of `none`
digit_not_n : (n : ℕ) → n < 2 ^ 64 → get_or (decimal n ++ line_feed) 0 0 < 110
digit_not_n n small =
    let d = ascii_first n small in
    rw (get_or_append_left (decimal n) line_feed 0 0 (decimal_nonempty n small)) d
  where
    ascii_first : (m : ℕ) → m < 2 ^ 64 → get_or (decimal m) 0 0 < 110
    ascii_first m h = let x = digit_at (decimal m) 0 (decimal_is_IsNumeral m h).0.1 (decimal_nonempty m h) in omega (arith, x)

pub tells : (a : Reply) → Tells a
tells (Number m) (Number n) fa fb e = same_number (codes "ok ") m n fa fb e
tells (Number m) Nothing fa fb e = omega (arith, ap (λ l. get_or l 3 0) e, digit_not_n m fa)
tells (Number m) Done fa fb e = omega (arith, ap (λ l. get_or l 2 0) e)
tells (Number m) (Refused b) fa fb e = omega (arith, ap (λ l. get_or l 0 0) e)
tells Nothing (Number n) fa fb e = omega (arith, ap (λ l. get_or l 3 0) e, digit_not_n n fb)
tells Nothing Nothing fa fb e = tt
tells Nothing Done fa fb e = omega (arith, ap (λ l. get_or l 2 0) e)
tells Nothing (Refused b) fa fb e = omega (arith, ap (λ l. get_or l 0 0) e)
tells Done (Number n) fa fb e = omega (arith, ap (λ l. get_or l 2 0) e)
tells Done Nothing fa fb e = omega (arith, ap (λ l. get_or l 2 0) e)
tells Done Done fa fb e = tt
tells Done (Refused b) fa fb e = omega (arith, ap (λ l. get_or l 0 0) e)
tells (Refused a) (Number n) fa fb e = omega (arith, ap (λ l. get_or l 0 0) e)
tells (Refused a) Nothing fa fb e = omega (arith, ap (λ l. get_or l 0 0) e)
tells (Refused a) Done fa fb e = omega (arith, ap (λ l. get_or l 0 0) e)
tells (Refused a) (Refused b) fa fb e = same_number (codes "refused ") (number_of a) (number_of b) fa fb e

-- each worked reply has the line of its entry
pub answers_right : AnswersRight
unfolding digits
answers_right = (refl, (refl, (refl, (refl, (refl, (refl, (refl, tt)))))))
