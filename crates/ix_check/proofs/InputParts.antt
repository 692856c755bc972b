-- The parts of an input, as its lines are gone through.
use Rattle.std.proofs.Common.{◌≡◌, ℕ, ◌==◌, Bool, true, false, List, [], ◌∷◌, ◌++◌, length, take, drop, refl, sym, ap, ◌∙◌, append_assoc, append-nil, ◌-◌, length-append, arith}
use Rattle.std.proofs.{Common.if◌then◌else◌, lemmas.Bool.eqb-true}
use Rattle.ix_judging.specs.{Bytes.{is_empty, is_line, joined, split, with_byte, with_feed}, Judge.Text}
use Rattle.ix_check.specs.Parts.{before_report, from_report, heads, is_heading, lines_in, report_part, script_part, with_front}

-- ---- lines
-- a line in front
line_first : (b : ℕ) (l bytes : List ℕ) → (is_line l ≡ true → lines_in (l ++ bytes) ≡ l ∷ lines_in bytes) → (x : Bool) → (b == 10) ≡ x
    → (if x then is_empty l else is_line l) ≡ true
    → (if x then (10 ∷ []) ∷ lines_in (l ++ bytes) else with_front b (lines_in (l ++ bytes))) ≡ (b ∷ l) ∷ lines_in bytes
line_first b [] bytes rest true is empty = ap (λ n. (n ∷ []) ∷ lines_in bytes) (sym (eqb-true b 10 is))
line_first b (c ∷ l) bytes rest true is empty = cc
line_first b l bytes rest false is line = ap (with_front b) (rest line)

pub lines-line : (l bytes : List ℕ) → is_line l ≡ true → lines_in (l ++ bytes) ≡ l ∷ lines_in bytes
lines-line [] bytes is = cc
lines-line (b ∷ l) bytes is = line_first b l _ (λ line. lines-line l _ line) _ refl is

-- the lines are the input
front_joined : (b : ℕ) (lines : List (List ℕ)) → joined (with_front b lines) ≡ b ∷ joined lines
front_joined b [] = refl
front_joined b (l ∷ lines) = refl

byte_joined : (b : ℕ) (bytes : List ℕ) → joined (lines_in bytes) ≡ bytes → (x : Bool) → (b == 10) ≡ x
    → joined (if x then (10 ∷ []) ∷ lines_in bytes else with_front b (lines_in bytes)) ≡ b ∷ bytes
byte_joined b bytes rest true is = ap (λ n. n ∷ joined (lines_in bytes)) (sym (eqb-true b 10 is)) ∙ ap (λ bs. b ∷ bs) rest
byte_joined b bytes rest false is = front_joined b _ ∙ ap (λ bs. b ∷ bs) rest

pub joined_lines : (bytes : List ℕ) → joined (lines_in bytes) ≡ bytes
joined_lines [] = refl
joined_lines (b ∷ bytes) = byte_joined b _ (joined_lines _) _ refl

-- what has no line feed is one line, where it isn't empty
unfoldable pub alone : List ℕ → List (List ℕ)
alone [] = []
alone (b ∷ bytes) = (b ∷ bytes) ∷ []

front_alone : (b : ℕ) (bytes : List ℕ) → with_front b (alone bytes) ≡ (b ∷ bytes) ∷ []
unfolding alone
front_alone b [] = refl
front_alone b (c ∷ bytes) = refl

no_byte : (b : ℕ) (t : Text (List ℕ)) → (with_byte b t.lines t.whole).lines ≡ [] → t.lines ≡ []
no_byte b t = go _
  where
    go : (lines : List (List ℕ)) → (with_byte b lines t.whole).lines ≡ [] → lines ≡ []
    go [] is = refl
    go (l ∷ lines) is = cc

one_alone : (b : ℕ) (bytes : List ℕ) → ((split bytes).lines ≡ [] → lines_in bytes ≡ alone bytes) → (x : Bool)
    → (if x then with_feed (split bytes).lines (split bytes).whole else with_byte b (split bytes).lines (split bytes).whole).lines ≡ []
    → (if x then (10 ∷ []) ∷ lines_in bytes else with_front b (lines_in bytes)) ≡ (b ∷ bytes) ∷ []
one_alone b bytes rest true none = cc
one_alone b bytes rest false none = ap (with_front b) (rest (no_byte b (split bytes) none)) ∙ front_alone b _

pub lines_alone : (bytes : List ℕ) → (split bytes).lines ≡ [] → lines_in bytes ≡ alone bytes
unfolding alone
lines_alone [] none = refl
lines_alone (b ∷ bytes) none = one_alone b _ (lines_alone bytes) _ none

-- a text without lines
pub lines_none : (text : List ℕ) → split text ≡ record { lines = []; whole = is_empty text } → (split text).lines ≡ []
lines_none text is = ap (λ t. t.lines) is

-- a text is cut where its parts meet
front_cut : (front rest : List ℕ) → (take (length front) (front ++ rest) ≡ front) × (drop (length front) (front ++ rest) ≡ rest)
front_cut [] rest = (refl, refl)
front_cut (b ∷ front) rest = let more = front_cut _ _ in (ap (λ t. b ∷ t) more.0, more.1)

pub cut_there : (front rest input : List ℕ) → input ≡ front ++ rest
    → (take (length input - length rest) input ≡ front) × (drop (length input - length rest) input ≡ rest)
cut_there front rest input is =
    let more = length-append front rest in
    let count : length input - length rest ≡ length front = omega (arith, ap length is, more) in
    let cut = front_cut _ _ in
    ((λ i. take (count i) (is i)) ∙ cut.0, (λ i. drop (count i) (is i)) ∙ cut.1)

-- ---- headings
pub heads-line : (l more rest : List ℕ) → is_line l ≡ true → rest ≡ l ++ more → heads (lines_in rest) ≡ is_heading l
heads-line l more rest is parts = ap (λ t. heads (lines_in t)) parts ∙ ap heads (lines-line l _ is)

pub heads-alone : (rest : List ℕ) → (split rest).lines ≡ [] → heads (lines_in rest) ≡ is_heading rest
unfolding alone
heads-alone rest none = ap heads (lines_alone rest none) ∙ go rest
  where
    go : (t : List ℕ) → heads (alone t) ≡ is_heading t
    go [] = refl
    go (b ∷ t) = refl

-- ---- as lines are gone through
-- Of an input this is behind, and this is left: the script has what is behind and what is left before the report.
pub record IsBehind (input rest : List ℕ) : Type 0 where
  pub front : List ℕ
  pub parts : input ≡ front ++ rest
  pub script : script_part input ≡ front ++ joined (before_report (lines_in rest))
  pub report : report_part input ≡ joined (from_report (lines_in rest))

-- behind line 1
pub first_behind : (input l rest : List ℕ) → is_line l ≡ true → input ≡ l ++ rest → IsBehind input rest
unfolding script_part report_part
first_behind input l rest is parts =
    let lines = ap lines_in parts ∙ lines-line l _ is in
    record {
      front = l;
      parts = parts;
      script = (λ i. joined (take 1 (lines i)) ++ joined (before_report (drop 1 (lines i)))) ∙ ap (λ t. t ++ joined (before_report (lines_in rest))) (append-nil l);
      report = λ i. joined (from_report (drop 1 (lines i)));
    }

-- a line more, which is no heading
pub line_behind : (input rest l more : List ℕ) → IsBehind input rest → is_line l ≡ true → rest ≡ l ++ more → heads (lines_in rest) ≡ false
    → IsBehind input more
line_behind input rest l more behind is parts no_heading =
    let lines = ap lines_in parts ∙ lines-line l _ is in
    let other = sym (heads-line l _ _ is parts) ∙ no_heading in
    record {
      front = behind.front ++ l;
      parts = behind.parts ∙ ap (λ t. behind.front ++ t) parts ∙ sym (append_assoc behind.front l more);
      script = behind.script
          ∙ ap (λ ls. behind.front ++ joined (before_report ls)) lines
          ∙ ap (λ b. behind.front ++ joined (if b then [] else l ∷ before_report (lines_in more))) other
          ∙ sym (append_assoc behind.front l _);
      report = behind.report ∙ ap (λ ls. joined (from_report ls)) lines
          ∙ ap (λ b. joined (if b then l ∷ lines_in more else from_report (lines_in more))) other;
    }

-- no line is left, and what is left is no heading
pub none_behind : (input rest : List ℕ) → IsBehind input rest → (split rest).lines ≡ [] → heads (lines_in rest) ≡ false
    → (script_part input ≡ input) × (report_part input ≡ [])
unfolding alone
none_behind input rest behind none no_heading =
    let parts = go rest _ (lines_alone rest none) no_heading in (
      behind.script ∙ ap (λ t. behind.front ++ t) (ap joined parts.0 ∙ joined_lines _) ∙ sym behind.parts,
      behind.report ∙ ap joined parts.1,
    )
  where
    one : (l : List ℕ) (ls : List (List ℕ)) → is_heading l ≡ false → ls ≡ []
        → (before_report (l ∷ ls) ≡ l ∷ ls) × (from_report (l ∷ ls) ≡ [])
    one l ls other none = rw (other, none) (refl, refl)

    go : (t : List ℕ) (ls : List (List ℕ)) → ls ≡ alone t → heads ls ≡ false → (before_report ls ≡ ls) × (from_report ls ≡ [])
    go t [] is other = (refl, refl)
    go [] (l ∷ ls) is other = cc
    go (b ∷ t) (l ∷ ls) is other = one l ls other cc

-- all is the script's, where there is no second line
pub one_line : (input : List ℕ) → (split input).lines ≡ [] → (script_part input ≡ input) × (report_part input ≡ [])
unfolding script_part report_part alone
one_line input none = ap2 _ (lines_alone _ none)
  where
    ap2 : (t : List ℕ) → lines_in t ≡ alone t → (script_part t ≡ t) × (report_part t ≡ [])
    ap2 [] is = (refl, refl)
    ap2 (b ∷ t) is = (
      (λ i. joined (take 1 (is i)) ++ joined (before_report (drop 1 (is i)))) ∙ append-nil _ ∙ append-nil _,
      (λ i. joined (from_report (drop 1 (is i)))),
    )

-- what is left is the report
pub report_behind : (input rest : List ℕ) (behind : IsBehind input rest) → heads (lines_in rest) ≡ true
    → (script_part input ≡ behind.front) × (report_part input ≡ rest)
report_behind input rest behind heading =
    let parts = go (lines_in rest) heading in (
      behind.script ∙ ap (λ ls. behind.front ++ joined ls) parts.0 ∙ append-nil behind.front,
      behind.report ∙ ap joined parts.1 ∙ joined_lines _,
    )
  where
    go : (ls : List (List ℕ)) → heads ls ≡ true → (before_report ls ≡ []) × (from_report ls ≡ ls)
    go [] is = cc
    go (l ∷ ls) is = rw is (refl, refl)
