-- Numbers, labels, sets of privileges, names and bytes are spelled without a line feed.
use Rattle.std.proofs.Common.{◌≡◌, ℕ, zero, suc, ◌/◌, ◌%◌, ◌==◌, Bool, true, false, not, cond, List, [], ◌∷◌, ◌++◌, map, refl, ◌∙◌, arith, if◌then◌else◌}
use Rattle.std.specs.{Prelude.codes, List.{flat_map, join_with_byte}, Fmt.{decimal, digits, digits_onto, digit_glyph}}
use Rattle.std.proofs.lemmas.{Bool.and_from, List.Folds.list_all-append}
use Rattle.ix_label.specs.{declared.form.Form.Form, Category.{Categories, bottom, same}, Forms.all_of}
use Rattle.ix_label.specs.Spelling.{comma, dash, item, items, runs, spelling, star}
use Rattle.ix_model.specs.world.Naming.{PathOf}
use Rattle.ix_text.specs.Spellings.{further, hex_digit, hex_pair}
use Rattle.ix_report.specs.{Feeds.has_no_feed, Hex.hex, Names.{name_byte, name_text, names_text, path_text, relative_text, stands}}

-- ---- texts of parts
pub one_then : (x y : List ℕ) → has_no_feed x ≡ true → has_no_feed y ≡ true → has_no_feed (x ++ y) ≡ true
one_then x y h k = list_all-append (λ b. not (b == 10)) x y ∙ rw (h, k) refl

pub either : (b : Bool) (x y : List ℕ) → has_no_feed x ≡ true → has_no_feed y ≡ true → has_no_feed (cond b x y) ≡ true
either true x y h k = h
either false x y h k = k

pub all_parts : {X : Type 0} (f : X → List ℕ) → ((x : X) → has_no_feed (f x) ≡ true) → (xs : List X) → has_no_feed (flat_map f xs) ≡ true
all_parts f h [] = refl
all_parts f h (x ∷ xs) = one_then (f x) (flat_map f xs) (h x) (all_parts f h xs)

-- ---- numbers
glyph_plain : (d : ℕ) → not (digit_glyph false d == 10) ≡ true
glyph_plain d = grind arith

onto_plain : (k n : ℕ) (acc : List ℕ) → has_no_feed acc ≡ true → has_no_feed (digits_onto k 10 false n acc) ≡ true
onto_plain zero n acc h = h
onto_plain (suc k) n acc h =
    let more : List ℕ = digit_glyph false (n % 10) ∷ acc in
    let here : has_no_feed more ≡ true = and_from (not (digit_glyph false (n % 10) == 10)) (has_no_feed acc) (glyph_plain (n % 10)) h in
    either (n / 10 == 0) more (digits_onto k 10 false (n / 10) more) here (onto_plain k (n / 10) more here)

pub decimal_plain : (n : ℕ) → has_no_feed (decimal n) ≡ true
unfolding digits
decimal_plain n = onto_plain 64 n [] refl

-- ---- labels
item_plain : (r : ℕ × ℕ) → has_no_feed (item r) ≡ true
unfolding item
item_plain r =
    either (r.0 == r.1) (decimal r.0) (decimal r.0 ++ dash ∷ decimal r.1) (decimal_plain r.0)
    (one_then (decimal r.0) (dash ∷ decimal r.1) (decimal_plain r.0) (decimal_plain r.1))

joined_plain : (rs : List (ℕ × ℕ)) → has_no_feed (join_with_byte comma (map item rs)) ≡ true
joined_plain [] = refl
joined_plain (r ∷ []) = item_plain r
joined_plain (r ∷ t ∷ rs) = one_then (item r) (comma ∷ join_with_byte comma (map item (t ∷ rs))) (item_plain r) (joined_plain (t ∷ rs))

pub label_plain : (form : Form) (s : Categories) → has_no_feed (spelling form s) ≡ true
unfolding spelling items
label_plain form s =
    either (same s bottom) (dash ∷ []) (if same s (all_of form) then star ∷ [] else items (runs s)) refl
    (either (same s (all_of form)) (star ∷ []) (items (runs s)) refl (joined_plain (runs s)))

-- ---- bytes
digit_plain : (n : ℕ) → not (hex_digit n == 10) ≡ true
digit_plain n = grind arith

pub pair_plain : (b : ℕ) → has_no_feed (hex_pair b) ≡ true
pair_plain b =
    and_from (not (hex_digit (b / 16) == 10)) (has_no_feed (hex_digit (b % 16) ∷ [])) (digit_plain (b / 16))
    (and_from (not (hex_digit (b % 16) == 10)) true (digit_plain (b % 16)) refl)

pub hex_plain : (bytes : List ℕ) → has_no_feed (hex bytes) ≡ true
hex_plain bytes = all_parts hex_pair pair_plain bytes

-- ---- names and paths
stands_plain : (b : ℕ) → stands b ≡ true → not (b == 10) ≡ true
stands_plain b h = grind arith

byte_plain : (b : ℕ) (is : Bool) → stands b ≡ is → has_no_feed (if is then b ∷ [] else codes "\\x" ++ hex_pair b) ≡ true
byte_plain b true is = and_from (not (b == 10)) true (stands_plain b is) refl
byte_plain b false is = one_then (codes "\\x") (hex_pair b) refl (pair_plain b)

pub name_plain : (name : List ℕ) → has_no_feed (name_text name) ≡ true
name_plain name = all_parts name_byte (λ b. byte_plain b (stands b) refl) name

further_plain : (names : List (List ℕ)) → has_no_feed (further 47 (map name_text names)) ≡ true
further_plain [] = refl
further_plain (name ∷ names) = one_then (47 ∷ name_text name) (further 47 (map name_text names)) (name_plain name) (further_plain names)

names_plain : (names : List (List ℕ)) → has_no_feed (names_text names) ≡ true
names_plain [] = refl
names_plain (name ∷ names) = one_then (name_text name) (further 47 (map name_text names)) (name_plain name) (further_plain names)

relative_plain : (names : List (List ℕ)) → has_no_feed (relative_text names) ≡ true
relative_plain [] = refl
relative_plain (name ∷ names) = names_plain (name ∷ names)

pub path_plain : (path : PathOf) → has_no_feed (path_text path) ≡ true
unfolding path_text
path_plain path =
    either path.absolute (codes "/" ++ names_text path.names) (relative_text path.names)
    (one_then (codes "/") (names_text path.names) refl (names_plain path.names)) (relative_plain path.names)
