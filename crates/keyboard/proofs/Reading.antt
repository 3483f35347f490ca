-- Reading a numeral digit by digit. Assumes nothing.
use Rattle.std.proofs.Common.{◌≡◌, ℕ, ◌+◌, ◌-◌, ◌*◌, ◌^◌, ◌<◌, ◌≤◌, true, false, ◌&&◌, List, length, get_or, drop, Some, None, decimal, sym, refl, ap, ◌∙◌, ⊎_elim, mul_comm, pow-suc, add-one, arith}
use Rattle.std.specs.Char.{is_ascii_digit}
use Rattle.std.specs.Str.{all_ascii_digits}
use Rattle.std.proofs.lemmas.Fmt.{decimal_digit, decimal_nonempty, decimal-digits_value, digits_decimal, first_decimal, length-decimal-le, digits_value-decimal}
use Rattle.std.proofs.lemmas.List.{at_drop_more, at_drop_all}
use Rattle.std.proofs.lemmas.Str.Parse.{IsNumeralModel, numerals_by_fold, tells_all_ascii_digits, digits_value_short}
use Rattle.std.proofs.lemmas.Bool.{cases_lt}
use Rattle.std.proofs.lemmas.Bool.Decides.{nat_tests}
use Rattle.keyboard.specs.Laws.{DecimalsBelow}
use Rattle.keyboard.specs.Lines.{written_after, plain, numeral}

-- i digits of w are read, and they write n
pub record Read (w : List ℕ) (i n : ℕ) : Type 0 where
  pub digits : all_ascii_digits (drop i w) ≡ all_ascii_digits w
  pub value : written_after n (drop i w) ≡ written_after 0 w
  pub small : n < 10 ^ i

pub read_more : (w : List ℕ) (i n : ℕ) → Read w i n → i < length w → is_ascii_digit (get_or w i 0) ≡ true → Read w (i + 1) (10 * n + (get_or w i 0 - 48))
read_more w i n h within digit =
    record {
      digits = let e : all_ascii_digits (drop i w) ≡ (is_ascii_digit (get_or w i 0) && all_ascii_digits (drop (i + 1) w)) = at_drop_more all_ascii_digits w i 0 within in sym (rw digit at e) ∙ h.digits;
      value = let e = at_drop_more (written_after n) w i 0 within in sym e ∙ h.value;
      small = rw (add-one, pow-suc) (grind (arith, nat_tests));
    }

-- a byte that is no digit
pub refused : (w : List ℕ) (i n : ℕ) → Read w i n → i < length w → is_ascii_digit (get_or w i 0) ≡ false → None ≡ numeral w
refused w i n h within other =
    let e : all_ascii_digits (drop i w) ≡ (is_ascii_digit (get_or w i 0) && all_ascii_digits (drop (i + 1) w)) = at_drop_more all_ascii_digits w i 0 within in
    let none : all_ascii_digits w ≡ false = sym h.digits ∙ rw other at e in
    rw none

-- every byte was a digit
pub accepted : (w : List ℕ) (i n : ℕ) → Read w i n → length w ≤ i → plain w ≡ true → Some n ≡ numeral w
accepted w i n h past shaped =
    let all = sym h.digits ∙ at_drop_all all_ascii_digits w i past in
    let value = sym (at_drop_all (written_after n) w i past) ∙ h.value in
    rw (all, shaped, ← value)

-- the shelf's laws of digits, for the numbers that are read here
own : IsNumeralModel (λ w. all_ascii_digits w ≡ true) (written_after 0)
own = numerals_by_fold _ tells_all_ascii_digits written_after (record { empty = λ n. refl; more = λ n c cs digit. rw (mul_comm 10 n) })

-- what a numeral is: digits, few of them, with no 0 in front, and their number
numeral_parts : (w : List ℕ) (n : ℕ) → numeral w ≡ Some n → (all_ascii_digits w ≡ true) × (1 ≤ length w) × (length w ≤ 5) × (get_or w 0 0 ≡ 48 → length w ≡ 1) × (written_after 0 w ≡ n)
numeral_parts w n e = (grind (arith, nat_tests), grind (arith, nat_tests), grind (arith, nat_tests), λ zero. grind (arith, nat_tests), grind (arith, nat_tests))

pub decimal_from_numeral : (w : List ℕ) (n : ℕ) → numeral w ≡ Some n → (n < 100000) × (w ≡ decimal n)
decimal_from_numeral w n e =
    let h = numeral_parts w n e in
    let small : written_after 0 w < 100000 = digits_value_short own w 5 h.0 h.2 in
    (omega arith, sym (decimal-digits_value own w h.0 h.1 h.3 (omega arith)) ∙ ap decimal h.4)

-- the decimal of a number begins with 0 only if the number is 0
plain_decimal : (n : ℕ) → n < 2 ^ 64 → get_or (decimal n) 0 0 ≡ 48 → length (decimal n) ≤ 1
plain_decimal n fits zero =
    ⊎_elim
    (λ some. absurd (omega (arith, first_decimal n some fits)))
    (λ none. omega (arith, ap length (decimal_digit n (omega arith))))
    (cases_lt 0 n)

pub numeral_from_decimal : (w : List ℕ) (n : ℕ) → n < 100000 → w ≡ decimal n → numeral w ≡ Some n
numeral_from_decimal w n small e =
    let fits : n < 2 ^ 64 = omega arith in
    let some = decimal_nonempty n fits in
    let few = length-decimal-le 5 n (omega arith) (omega arith) fits in
    let front = plain_decimal n fits in
    let shaped : plain (decimal n) ≡ true = grind (arith, nat_tests) in
    rw (e, digits_decimal own n fits, shaped, digits_value-decimal own n fits)

pub decimals : DecimalsBelow 100000
decimals w n = (decimal_from_numeral w n, λ h. numeral_from_decimal w n h.0 h.1)
