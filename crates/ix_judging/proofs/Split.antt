-- Texts of bytes and their lines.
use Rattle.std.proofs.Common.{◌≡◌, ℕ, zero, suc, ◌==◌, Bool, true, false, List, [], ◌∷◌, ◌++◌, take, length, refl, sym, ap, ◌∙◌, append_assoc, append-nil, if◌then◌else◌}
use Rattle.std.{specs.List.list_all, proofs.lemmas.Bool.{and_parts, and_from, eqb-true}}
use Rattle.ix_judging.specs.{Judge.Text, Bytes.{feeds, is_empty, is_line, joined, split, with_byte, with_feed}}

-- ---- a byte in front, as it is a line feed or not
abbrev put : ℕ → Text (List ℕ) → Bool → Text (List ℕ)
put b t is = if is then with_feed t.lines t.whole else with_byte b t.lines t.whole

-- ---- a line in front
-- these lines, and then those of a text
abbrev pub lines_then : List (List ℕ) → Text (List ℕ) → Text (List ℕ)
lines_then lines t = record { lines = lines ++ t.lines; whole = t.whole }

line_first : (b : ℕ) (l bytes : List ℕ) → (is_line l ≡ true → split (l ++ bytes) ≡ lines_then (l ∷ []) (split bytes))
    → (x : Bool) → (b == 10) ≡ x → (if x then is_empty l else is_line l) ≡ true
    → put b (split (l ++ bytes)) x ≡ lines_then ((b ∷ l) ∷ []) (split bytes)
line_first b [] bytes rest true is empty = ap (λ n. lines_then ((n ∷ []) ∷ []) (split bytes)) (sym (eqb-true b 10 is))
line_first b (c ∷ l) bytes rest true is empty = cc empty
line_first b l bytes rest false is line = ap (λ t. with_byte b t.lines t.whole) (rest line)

pub split-line : (l bytes : List ℕ) → is_line l ≡ true → split (l ++ bytes) ≡ lines_then (l ∷ []) (split bytes)
split-line [] bytes is = cc is
split-line (b ∷ l) bytes is = line_first b l _ (λ line. split-line l _ line) _ refl is

-- lines in front of a text
pub split-joined : (lines : List (List ℕ)) (bytes : List ℕ) → list_all is_line lines ≡ true
    → split (joined lines ++ bytes) ≡ lines_then lines (split bytes)
split-joined [] bytes is = refl
split-joined (l ∷ lines) bytes is =
    let parts = and_parts _ _ is in
    ap split (append_assoc l _ bytes)
    ∙ split-line l _ parts.0
    ∙ ap (lines_then (l ∷ [])) (split-joined lines _ parts.1)

pub split-all : (lines : List (List ℕ)) → list_all is_line lines ≡ true → split (joined lines) ≡ record { lines = lines; whole = true }
split-all lines is =
    ap split (sym (append-nil (joined lines))) ∙ split-joined _ [] is
    ∙ ap (λ ls. record { lines = ls; whole = true }) (append-nil lines)

pub joined-append : (xs ys : List (List ℕ)) → joined (xs ++ ys) ≡ joined xs ++ joined ys
joined-append [] ys = refl
joined-append (l ∷ xs) ys = ap (λ bs. l ++ bs) (joined-append xs ys) ∙ sym (append_assoc l _ _)

-- ---- a text is its lines, where nothing stands behind them
byte_whole : (b : ℕ) (lines : List (List ℕ)) (w : Bool) → (with_byte b lines w).whole ≡ true
    → (w ≡ true) × (joined (with_byte b lines w).lines ≡ b ∷ joined lines)
byte_whole b [] w is = cc is
byte_whole b (l ∷ lines) w is = (is, refl)

put_whole : (b : ℕ) (bytes : List ℕ) (t : Text (List ℕ)) → (t.whole ≡ true → joined t.lines ≡ bytes) → (x : Bool) → (b == 10) ≡ x
    → (put b t x).whole ≡ true → joined (put b t x).lines ≡ b ∷ bytes
put_whole b bytes t rest true is w = ap (λ n. n ∷ joined t.lines) (sym (eqb-true b 10 is)) ∙ ap (λ bs. b ∷ bs) (rest w)
put_whole b bytes t rest false is w = let parts = byte_whole b _ _ w in parts.1 ∙ ap (λ bs. b ∷ bs) (rest parts.0)

pub joined-split : (bytes : List ℕ) → (split bytes).whole ≡ true → joined (split bytes).lines ≡ bytes
joined-split [] whole = refl
joined-split (b ∷ bytes) whole = put_whole b _ (split bytes) (joined-split _) _ refl whole

-- ---- its lines
byte_lines : (b : ℕ) (lines : List (List ℕ)) (w : Bool) → (b == 10) ≡ false → list_all is_line lines ≡ true
    → list_all is_line (with_byte b lines w).lines ≡ true
byte_lines b [] w other is = refl
byte_lines b (l ∷ lines) w other is =
    let parts = and_parts _ _ is in
    and_from _ _ (ap (λ x. if x then is_empty l else is_line l) other ∙ parts.0) parts.1

put_lines : (b : ℕ) (t : Text (List ℕ)) → list_all is_line t.lines ≡ true → (x : Bool) → (b == 10) ≡ x
    → list_all is_line (put b t x).lines ≡ true
put_lines b t rest true is = rest
put_lines b t rest false is = byte_lines b _ _ is rest

pub split_lines : (bytes : List ℕ) → list_all is_line (split bytes).lines ≡ true
split_lines [] = refl
split_lines (b ∷ bytes) = put_lines b (split bytes) (split_lines bytes) _ refl

-- there are as many as line feeds
byte_count : (b : ℕ) (lines : List (List ℕ)) (w : Bool) → length (with_byte b lines w).lines ≡ length lines
byte_count b [] w = refl
byte_count b (l ∷ lines) w = refl

put_count : (b : ℕ) (t : Text (List ℕ)) (n : ℕ) → length t.lines ≡ n → (x : Bool) → length (put b t x).lines ≡ (if x then suc n else n)
put_count b t n rest true = ap (λ k. suc k) rest
put_count b t n rest false = byte_count b _ _ ∙ rest

pub count_feeds : (bytes : List ℕ) → length (split bytes).lines ≡ feeds bytes
count_feeds [] = refl
count_feeds (b ∷ bytes) = put_count b (split bytes) (feeds bytes) (count_feeds bytes) _

take_lines : (n : ℕ) (lines : List (List ℕ)) → list_all is_line lines ≡ true → list_all is_line (take n lines) ≡ true
take_lines zero lines is = refl
take_lines (suc n) [] is = refl
take_lines (suc n) (l ∷ lines) is =
    let parts = and_parts (is_line l) (list_all is_line lines) is in
    and_from _ (list_all is_line (take n _)) parts.0 (take_lines n lines parts.1)

pub first_are_lines : (n : ℕ) (bytes : List ℕ) → list_all is_line (take n (split bytes).lines) ≡ true
first_are_lines n bytes = take_lines n _ (split_lines bytes)
