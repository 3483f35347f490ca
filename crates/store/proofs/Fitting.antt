-- How many records a store over lent tables has, and what its tables mean once they are filled.
use Rattle.std.proofs.Common.{◌≡◌, ℕ, ◌*◌, ◌≤◌, zero, suc, min, List, [], ◌∷◌, ◌++◌, drop, map, length, take, replicate, sym, refl, ap, ◌∙◌, arith}
use Rattle.std.specs.List.{range_with_len}
use Rattle.std.proofs.Math.Seq.{take-append_seam}
use Rattle.std.proofs.lemmas.List.{length-take-le}
use Rattle.std.proofs.lemmas.Grind.{common_steps}
use Rattle.kinds.specs.Rows.{Row, blank}
use Rattle.kinds.specs.declared.kind.Kind.{Ghosts}
use Rattle.model.specs.Calls.{new, next_free}
use Rattle.model.specs.Headers.{Header, header, free_header}
use Rattle.model.specs.State.{State}
use Rattle.model.specs.declared.heads.Head.{Head}
use Rattle.store.specs.Sizes.{size_over}
use Rattle.store.specs.Tables.{table_test, table_size}
use Rattle.store.specs.declared.tables.Tables.{Tables}

-- tables that pass their test have the lengths that a store wants
pub record Fitting (n heads list work : ℕ) : Type 0 where
  pub some : n ≡ 0 → ⊥
  pub few : n ≤ 4095
  pub heads_same : heads ≡ n
  pub list_same : list ≡ n
  pub work_room : 2 * n ≤ work

module _ (n heads list work : ℕ) where
  pub fitting : table_test n heads list work ≡ 0 → Fitting n heads list work
  fitting e = record {
    some = λ z. grind (arith, common_steps);
    few = grind (arith, common_steps);
    heads_same = grind (arith, common_steps);
    list_same = grind (arith, common_steps);
    work_room = grind (arith, common_steps);
  }

  pub size_fitting : table_test n heads list work ≡ 0 → table_size n heads list work ≡ n
  size_fitting e = grind (arith, common_steps)

  pub size_refused : (table_test n heads list work ≡ 0 → ⊥) → table_size n heads list work ≡ 0
  size_refused e = grind (arith, common_steps)

module _ {K : Type 0} (t : Tables K) where
  pub size_few : size_over t ≤ 4095
  size_few = grind (arith, common_steps)

  pub size_within : (size_over t ≤ length t.records.now) × (size_over t ≤ length t.heads.now)
  size_within = (grind (arith, common_steps), grind (arith, common_steps))

-- the entries that were written at the front of a table are its first n
front_written : {X : Type 0} (n : ℕ) (old written : List X) → length written ≡ length (take n old) → n ≤ length old → take n (written ++ drop n old) ≡ written
front_written n old written k room =
    ap (λ i. take i (written ++ drop n old)) (sym (k ∙ length-take-le n old room)) ∙ take-append_seam written (drop n old)

-- where none are written, all is as it was
pub none_written : {X : Type 0} (n : ℕ) (old written : List X) → length written ≡ length (take n old) → n ≡ 0 → written ++ drop n old ≡ old
none_written zero old [] k z = refl
none_written zero old (x ∷ xs) k z = absurd (omega arith)
none_written (suc n) old written k z = absurd (omega arith)

abbrev free_state : List Header → List Row → ℕ → State
free_state hs ws f = record { heads = hs; rows = ws; candidates = []; front = f }

-- blank records and chained heads in front, an empty list, and the first record at the front of the chain
pub made :
    {K : Type 0} (g : Ghosts K) (t : Tables K) (n front : ℕ) (blanked : List K) (chained : List Head) →
    n ≡ size_over t → front ≡ min n 1 →
    length blanked ≡ length (take n t.records.now) → length chained ≡ length (take n t.heads.now) →
    map g.row blanked ≡ replicate (length (take n t.records.now)) (blank g.shape) →
    map header chained ≡ map (λ r. free_header (next_free (length (take n t.heads.now)) r)) (range_with_len 1 (length (take n t.heads.now))) →
    free_state (map header (take n (chained ++ drop n t.heads.now))) (map g.row (take n (blanked ++ drop n t.records.now))) front ≡ new g.shape (size_over t)
made g t n front blanked chained same first k j rows chain =
    let within = size_within t in
    let a : n ≤ length t.records.now = omega (arith, same, within.0) in
    let b : n ≤ length t.heads.now = omega (arith, same, within.1) in
    let m = length-take-le n t.records.now a ∙ same in
    let l = length-take-le n t.heads.now b ∙ same in
    let ws = ap (map g.row) (front_written n t.records.now blanked k a) ∙ rows ∙ ap (λ i. replicate i (blank g.shape)) m in
    let xs = ap (map header) (front_written n t.heads.now chained j b) ∙ chain ∙ ap (λ i. map (λ x. free_header (next_free i x)) (range_with_len 1 i)) l in
    let one = first ∙ ap (λ i. min i 1) same in
    cc
