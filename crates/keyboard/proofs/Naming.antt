-- What the first word of a line says of its form. Assumes nothing.
use Rattle.std.proofs.Common.{◌≡◌, ℕ, suc, false, List, [], ◌∷◌, Some, None, Option, ap, ◌∙◌, ⊎_elim, MatchOption}
use Rattle.std.specs.Str.{bytes_eq}
use Rattle.std.proofs.lemmas.Slice.Eq.{HasBytesAt, text_from_reads, bytes_eq-Decides}
use Rattle.std.proofs.lemmas.Bool.{cases_Bool}
use Rattle.keyboard.specs.declared.forms.Form.{Form}
use Rattle.keyboard.specs.declared.forms.Form.TheVariants.{Make, Hold, Load, Link, Byte, Look, Drop, Tally}
use Rattle.keyboard.specs.Lines.{form}
use Rattle.keyboard.specs.Names.{name_of, Reads, Names, Nameless}

reads_at : (w : List ℕ) (i : ℕ) (p : List ℕ) → Reads w i p → HasBytesAt w i p
reads_at w i [] h = tt
reads_at w i (c ∷ p) h = (h.0, reads_at w (suc i) p h.1)

named : (w : List ℕ) (f : Form) → Names w f → w ≡ name_of f
named w f h = text_from_reads w (name_of f) h.0 (reads_at w 0 (name_of f) h.1)

names_own : (f : Form) → Names (name_of f) f
names_own Make = search
names_own Hold = search
names_own Load = search
names_own Link = search
names_own Byte = search
names_own Look = search
names_own Drop = search
names_own Tally = search

unlike : (w : List ℕ) (f : Form) → (Names w f → ⊥) → bytes_eq w (name_of f) ≡ false
unlike w f other =
    ⊎_elim
    (λ same. absurd (other (rw ((bytes_eq-Decides w (name_of f)).0 same) (names_own f))))
    (λ e. e)
    (cases_Bool (bytes_eq w (name_of f)))

nameless : (w : List ℕ) (ws : List (List ℕ)) → Nameless w → form (w ∷ ws) ≡ None
nameless w ws h =
    rw (
      unlike w Make h.0,
      unlike w Hold h.1,
      unlike w Load h.2,
      unlike w Link h.3,
      unlike w Byte h.4,
      unlike w Look h.5,
      unlike w Drop h.6,
      unlike w Tally h.7,
    )

-- the words `all` begin with a word that names the form r, or no form
pub by_name : (r : Option Form) (all : List (List ℕ)) (w : List ℕ) (ws : List (List ℕ)) → all ≡ w ∷ ws → MatchOption r (Nameless w) (λ f. Names w f) → MatchOption r (form all ≡ None) (λ f. all ≡ name_of f ∷ ws)
by_name None all w ws split h = rw split (nameless w ws h)
by_name (Some f) all w ws split h = split ∙ ap (λ x. x ∷ ws) (named w f h)
