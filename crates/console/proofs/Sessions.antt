-- Bytes that are typed one by one give the output to the whole input.
use Rattle.std.proofs.Common.{◌≡◌, ℕ, Bool, true, false, cond, eqb, List, [], ◌∷◌, ◌++◌, length, take, sym, refl, ap, ◌∙◌, append_assoc, arith}
use Rattle.std.proofs.lemmas.List.{append-nil}
use Rattle.std.proofs.lemmas.Bool.{cond-false, ne_eqb}
use Rattle.std.specs.Fmt.{digits}
use Rattle.kinds.specs.Rows.{Shape}
use Rattle.keyboard.specs.Answers.{answer_line}
use Rattle.keyboard.proofs.Keeping.{kept_next, kept_means}
use Rattle.model.specs.Calls.{Answered}
use Rattle.model.specs.State.{State}
use Rattle.model.specs.Walk.{walk, runs}
use Rattle.console.specs.Session.{Lined, in_front, lined, all_told, Typed, Whole}
use Rattle.console.specs.Worked.{SessionsRight}
use Rattle.console.specs.Told.{Stroke, told, told_by, finished}

abbrev step : ℕ → Lined → Lined
step a m = cond (eqb a 10) (record { lines = [] ∷ m.lines; rest = m.rest }) (in_front a m.lines m.rest)

-- a line feed at the end ends what was begun
abbrev fed : Lined → Lined
fed m = record { lines = m.lines ++ (m.rest ∷ []); rest = [] }

step_fed : (a : ℕ) (m : Lined) → step a (fed m) ≡ fed (step a m)
step_fed a m = by_test (eqb a 10) m.lines m.rest
  where
    by_test :
        (t : Bool) (ls : List (List ℕ)) (r : List ℕ) →
        cond t (record { lines = [] ∷ (ls ++ (r ∷ [])); rest = [] }) (in_front a (ls ++ (r ∷ [])) [])
        ≡ fed (cond t (record { lines = [] ∷ ls; rest = r }) (in_front a ls r))
    by_test true ls r = refl
    by_test false [] r = refl
    by_test false (l ∷ ls) r = refl

lined_feed : (bs : List ℕ) → lined (bs ++ (10 ∷ [])) ≡ fed (lined bs)
lined_feed [] = refl
lined_feed (a ∷ bs) = ap (step a) (lined_feed bs) ∙ step_fed a (lined bs)

-- any other byte is added to what was begun
abbrev added : ℕ → Lined → Lined
added b m = record { lines = m.lines; rest = m.rest ++ (b ∷ []) }

step_added : (a b : ℕ) (m : Lined) → step a (added b m) ≡ added b (step a m)
step_added a b m = by_test (eqb a 10) m.lines m.rest
  where
    by_test :
        (t : Bool) (ls : List (List ℕ)) (r : List ℕ) →
        cond t (record { lines = [] ∷ ls; rest = r ++ (b ∷ []) }) (in_front a ls (r ++ (b ∷ [])))
        ≡ added b (cond t (record { lines = [] ∷ ls; rest = r }) (in_front a ls r))
    by_test true ls r = refl
    by_test false [] r = refl
    by_test false (l ∷ ls) r = refl

lined_byte : (bs : List ℕ) (b : ℕ) → eqb b 10 ≡ false → lined (bs ++ (b ∷ [])) ≡ added b (lined bs)
lined_byte [] b n = cond-false (eqb b 10) _ _ n
lined_byte (a ∷ bs) b n = ap (step a) (lined_byte bs b n) ∙ step_added a b (lined bs)

-- one more line
told_push :
    (k : Shape) (s : State) (ls : List (List ℕ)) (l : List ℕ) →
    ((all_told k s (ls ++ (l ∷ []))).output ≡ (all_told k s ls).output ++ answer_line (told k (all_told k s ls).store l).reply)
    × ((all_told k s (ls ++ (l ∷ []))).store ≡ (told k (all_told k s ls).store l).store)
told_push k s [] l = (append-nil (answer_line (told k s l).reply), refl)
told_push k s (m ∷ ls) l =
    let a : Answered = told k s m in
    let on = told_push k a.store ls l in
    (ap (λ o. answer_line a.reply ++ o) on.0 ∙ sym (append_assoc (answer_line a.reply) _ _), on.1)

-- what is kept of a line is answered as the line
kept_told : (k : Shape) (s : State) (line : List ℕ) → told k s (take 81 line) ≡ told k s line
kept_told k s line = ap (told_by k s) (kept_means line)

module _ (k : Shape) (s : State) (input output line : List ℕ) (t : State) (so_far : Typed k s input output line t) where
  -- the line, finished, is one more line that is answered
  same_told : told k t line ≡ told k (all_told k s (lined input).lines).store (lined input).rest
  same_told =
      ap (told k t) so_far.line_so_far ∙ kept_told k t (lined input).rest
      ∙ ap (λ x. told k x (lined input).rest) so_far.store_so_far

  more_output :
      output ++ answer_line (told k t line).reply ≡ (all_told k s ((lined input).lines ++ ((lined input).rest ∷ []))).output
  more_output =
      ap (λ o. o ++ answer_line (told k t line).reply) so_far.output_so_far
      ∙ ap (λ (a : Answered). (all_told k s (lined input).lines).output ++ answer_line a.reply) same_told
      ∙ sym (told_push k s (lined input).lines (lined input).rest).0

  more_store : (told k t line).store ≡ (all_told k s ((lined input).lines ++ ((lined input).rest ∷ []))).store
  more_store = ap (λ (a : Answered). a.store) same_told ∙ sym (told_push k s (lined input).lines (lined input).rest).1

  -- A line feed: the line is answered, and the next begins.
  pub typed_line :
      (b : ℕ) (l o : List ℕ) (z : State) → b ≡ 10 → record { line = l; output = o; store = z } ≡ finished (told k t line) →
      Typed k s (input ++ (b ∷ [])) (output ++ o) l z
  typed_line b l o z feed e =
      rw feed record {
        output_so_far =
            ap (λ (x : Stroke). output ++ x.output) e ∙ more_output
            ∙ sym (ap (λ m. (all_told k s m.lines).output) (lined_feed input));
        line_so_far = ap (λ (x : Stroke). x.line) e ∙ sym (ap (λ m. take 81 m.rest) (lined_feed input));
        store_so_far =
            ap (λ (x : Stroke). x.store) e ∙ more_store ∙ sym (ap (λ m. (all_told k s m.lines).store) (lined_feed input));
      }

  -- Any other byte: the line goes on.
  pub typed_byte :
      (b : ℕ) (l : List ℕ) → (b ≡ 10 → ⊥) → l ≡ take 81 (line ++ (b ∷ [])) → Typed k s (input ++ (b ∷ [])) (output ++ []) l t
  typed_byte b l other e =
      let whole = lined_byte input b (ne_eqb b 10 other) in
      record {
        output_so_far = append-nil output ∙ so_far.output_so_far ∙ sym (ap (λ m. (all_told k s m.lines).output) whole);
        line_so_far =
            e ∙ ap (λ l. take 81 (l ++ (b ∷ []))) so_far.line_so_far ∙ kept_next (lined input).rest b
            ∙ sym (ap (λ m. take 81 m.rest) whole);
        store_so_far = so_far.store_so_far ∙ sym (ap (λ m. (all_told k s m.lines).store) whole);
      }

  -- the kept part is empty just where the line is
  same_empty : eqb (length line) 0 ≡ eqb (length (lined input).rest) 0
  same_empty = ap (λ l. eqb (length l) 0) so_far.line_so_far ∙ by_rest (lined input).rest
    where
      by_rest : (r : List ℕ) → eqb (length (take 81 r)) 0 ≡ eqb (length r) 0
      by_rest [] = refl
      by_rest (b ∷ r) =
          ne_eqb (length (take 81 (b ∷ r))) 0 (λ z. omega arith) ∙ sym (ne_eqb (length (b ∷ r)) 0 (λ z. omega arith))

  -- The end of a last line without a line feed.
  pub typed_last :
      (l o : List ℕ) (z : State) → eqb (length line) 0 ≡ false →
      record { line = l; output = o; store = z } ≡ finished (told k t line) → Whole k s input (output ++ o) z
  typed_last l o z some e =
      let ls = ap (λ ls. (lined input).lines ++ ls) (cond-false (eqb (length (lined input).rest) 0) [] ((lined input).rest ∷ []) (sym same_empty ∙ some)) in
      record {
        whole_output = ap (λ (x : Stroke). output ++ x.output) e ∙ more_output ∙ sym (ap (λ ls. (all_told k s ls).output) ls);
        store_after = ap (λ (x : Stroke). x.store) e ∙ more_store ∙ sym (ap (λ ls. (all_told k s ls).store) ls);
      }

-- each worked session gives the output that its entry says
pub sessions_right : SessionsRight
unfolding digits walk runs
sessions_right = (refl, (refl, (refl, tt)))
