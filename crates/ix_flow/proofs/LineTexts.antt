-- The line of a piece, written part by part.
use Rattle.std.proofs.Common.{◌≡◌, ◌≤◌, ◌+◌, ◌-◌, ℕ, List, [], ◌∷◌, ◌++◌, length, take, drop, codes, Option, sym, ap, ◌∙◌, append_assoc, get_or, subst, arith}
use Rattle.std.{proofs.lemmas.Option.get_or_from_slice_get, specs.{Fmt.decimal, List.flat_map}}
use Rattle.ix_label.specs.{Category.{Categories, bottom}, Spelling.spelling}
use Rattle.ix_model.specs.{history.History.History, opening.Opening.opening_world}
use Rattle.ix_flow.specs.{Lines.{Piece, piece_line, pieces_from, place_text}, Lowerings.{first_fall, label_of, via}, Origins.Origin, Reads.between, Sides.origin_at, Tracking.IsUnder}
use Rattle.ix_flow.specs.declared.source.Source.{Source}
use Rattle.ix_label.specs.declared.form.Form.TheVariants as form
use Rattle.ix_flow.specs.declared.source.Source.TheVariants as source

-- what is put behind a text in seven parts
seven : (o a b c d e f g p q r s t u v : List ℕ) → a ≡ o ++ p → b ≡ a ++ q → c ≡ b ++ r → d ≡ c ++ s → e ≡ d ++ t → f ≡ e ++ u → g ≡ f ++ v → g ≡ o ++ (p ++ (q ++ (r ++ (s ++ (t ++ (u ++ v))))))
seven o a b c d e f g p q r s t u v one two three four five six last =
    last ∙ ap (λ x. x ++ v) (six ∙ ap (λ x. x ++ u) (five ∙ ap (λ x. x ++ t) (four ∙ ap (λ x. x ++ s) (three ∙ ap (λ x. x ++ r) (two ∙ ap (λ x. x ++ q) one))))) ∙ simp append_assoc

module _ (h : History) (place o first count : ℕ) (out : List ℕ) {a b c d e f g : List ℕ} (one : a ≡ out ++ (decimal place ++ codes " ")) (two : b ≡ a ++ (decimal first ++ codes " "))
    (three : c ≡ b ++ (decimal count ++ codes " ")) (labels : List Categories) (seen : Categories) (fall : Option ℕ) (number label : ℕ) (src : Source)
    (looked : seen ≡ get_or labels label bottom) where
  -- the parts, where one names a source, and others its number and the number of the byte
  line_of : (word : List ℕ) (that k : ℕ) (l : Categories) (via : Option ℕ) → d ≡ c ++ word → e ≡ d ++ (decimal that ++ codes " ") → f ≡ e ++ (decimal k ++ codes " ")
      → g ≡ f ++ (spelling form.Two seen ++ codes " " ++ place_text fall ++ codes "\n") → seen ≡ l → fall ≡ via
      → g ≡ out ++ (decimal place ++ codes " " ++ decimal first ++ codes " " ++ decimal count ++ codes " " ++
      (word ++ decimal that ++ codes " " ++ decimal k ++ codes " " ++ (spelling form.Two l ++ codes " " ++ place_text via)) ++ codes "\n")
  line_of word that k l via four five six last is down =
      seven _ a b c d e f g (decimal place ++ codes " ") _ _ _ _ _
      _ one two three four five six
      (last ∙ ap (λ x. f ++ (spelling form.Two x ++ codes " " ++ place_text fall ++ codes "\n")) is ∙ ap (λ x. f ++ (spelling form.Two l ++ codes " " ++ place_text x ++ codes "\n")) down)
      ∙ simp append_assoc

  pub line_of_write : (that start : ℕ) → src ≡ source.Write that start label → IsUnder labels src (label_of h (origin_at src number)) → fall ≡ first_fall (opening_world h.config) 1 h.events o that
      → d ≡ c ++ codes "write " → e ≡ d ++ (decimal that ++ codes " ") → f ≡ e ++ (decimal (number - start) ++ codes " ")
      → g ≡ f ++ (spelling form.Two seen ++ codes " " ++ place_text fall ++ codes "\n") → g ≡ out ++ piece_line h place o (record { first = first; count = count; origin = origin_at src number })
  unfolding via
  line_of_write that start is under down four five six last =
      line_of _ _ _ _ _ four five six last
      (looked ∙ get_or_from_slice_get labels label _ bottom
      (subst (λ x. IsUnder labels x (label_of h (origin_at x number))) is under)) down
      ∙ ap (λ x. out ++ piece_line h place o (record { first = first; count = count; origin = origin_at x number })) (sym is)

  pub line_of_file : (object : ℕ) → src ≡ source.File object label → IsUnder labels src (label_of h (origin_at src number)) → fall ≡ first_fall (opening_world h.config) 1 h.events o 0
      → d ≡ c ++ codes "file " → e ≡ d ++ (decimal object ++ codes " ") → f ≡ e ++ (decimal number ++ codes " ")
      → g ≡ f ++ (spelling form.Two seen ++ codes " " ++ place_text fall ++ codes "\n") → g ≡ out ++ piece_line h place o (record { first = first; count = count; origin = origin_at src number })
  unfolding via
  line_of_file object is under down four five six last =
      line_of _ _ _ _ _ four five six last
      (looked ∙ get_or_from_slice_get labels label _ bottom
      (subst (λ x. IsUnder labels x (label_of h (origin_at x number))) is under)) down
      ∙ ap (λ x. out ++ piece_line h place o (record { first = first; count = count; origin = origin_at x number })) (sym is)

-- ---- one piece after the other
pub next_told : (line : Piece → List ℕ) (base out new : List ℕ) (p : Piece) (pieces rest all : List Piece) → pieces ≡ p ∷ rest → new ≡ out ++ line p
    → out ++ flat_map line pieces ≡ base ++ flat_map line all
    → new ++ flat_map line rest ≡ base ++ flat_map line all
next_told line base out new p pieces rest all split text told =
    ap (λ x. x ++ flat_map line rest) text ∙ append_assoc out _ _ ∙ ap (λ ps. out ++ flat_map line ps) (sym split) ∙ told

pub next_counted : (n k : ℕ) (p : Piece) (pieces rest : List Piece) → pieces ≡ p ∷ rest → n + length pieces ≡ k → n + 1 + length rest ≡ k
next_counted n k p pieces rest split told = omega (arith, ap length split, told)

pub none_left : (k front number to : ℕ) (origins : List Origin) → to ≤ number → pieces_from k (between front number to origins) ≡ []
unfolding pieces_from
none_left k front number to origins end = ap (λ n. pieces_from k (take n (drop (number - front) origins))) (let z : to - number ≡ 0 = omega (arith, end) in z)

pub all_left : (front from to n m : ℕ) (origins : List Origin) → n ≡ from → m ≡ to → pieces_from (n - from) (between front n m origins) ≡ pieces_from 0 (between front from to origins)
all_left front from to n m origins first last =
    ap (λ x. pieces_from (x - from) (between front x m origins)) first
    ∙ ap (λ y. pieces_from (from - from) (between front from y origins)) last
    ∙ ap (λ k. pieces_from k (between front from to origins)) (omega arith)
