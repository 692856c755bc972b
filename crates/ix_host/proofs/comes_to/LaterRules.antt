-- A line never breaks rule 1, that a script isn't too long: this is said of the whole input.
use Rattle.std.proofs.Common.{◌≡◌, ℕ, ◌+◌, ◌==◌, not, Bool, true, false, List, [], ◌∷◌, ◌++◌, length, Option, Some, None, is_none, refl, sym, ap, ◌∙◌, nat_lt}
use Rattle.std.proofs.Common.{if◌then◌else◌, unwrap_or}
use Rattle.std.{specs.{List.{list_all, list_any}, Option.{option_or, option_map_or}}, proofs.lemmas.Bool.{and_parts, not-true}}
use Rattle.ix_script.specs.{texts.{Cutting.{words_of, word_at, is_skipped, is_policy_line, policy_text}, Lines.lines_of}, declared.line.Line.Line}
use Rattle.ix_script.specs.{lines.Kinds.{Kind, Place, place_rules, first_broken, places_fault}, lines.Forms.{form_of, places, has_right_count}}
use Rattle.ix_script.specs.{lines.Before.{form_told, has_policy, in_body}, lines.Said.{said, version_of, line_of}}
use Rattle.ix_text.specs.Bytes.{is_empty}
use Rattle.ix_script.specs.lines.Rules.{first_of, is_too_long, is_unprintable, has_empty_word, has_open_quote, is_late, is_outside, is_given_twice, is_above}
use Rattle.ix_script.specs.lines.Rules.{names_unknown, is_misplaced, exceeds_limits, is_out_of_order, is_one_too_many, lacks_policy}
use Rattle.ix_script.specs.lines.Faults.{text_fault, words_fault, stand_fault, names_fault, said_fault, form_fault, command_fault, policy_fault, body_fault}
use Rattle.ix_script.specs.lines.Faults.{first_line_fault, line_fault, or_next, fault_from, fault_of}
use Rattle.ix_script.specs.declared.line.Line.TheVariants as line

abbrev is_one : Option ℕ → Bool
is_one None = false
is_one (Some n) = n == 1

or_one : (a b : Option ℕ) → is_one a ≡ false → is_one b ≡ false → is_one (option_or a b) ≡ false
or_one None b h k = k
or_one (Some n) b h k = h

if_one : (c : Bool) (a b : Option ℕ) → is_one a ≡ false → is_one b ≡ false → is_one (if c then a else b) ≡ false
if_one true a b h k = h
if_one false a b h k = k

map_one : {A : Type 0} (f : A → Option ℕ) (o : Option A) (d : Option ℕ) → ((x : A) → is_one (f x) ≡ false) → is_one d ≡ false → is_one (option_map_or f o d) ≡ false
map_one f None d h k = k
map_one f (Some x) d h k = h x

first_one : (rules : List (ℕ × Bool)) → list_all (λ r. not (r.0 == 1)) rules ≡ true → is_one (first_of rules) ≡ false
first_one [] h = refl
first_one ((n, broken) ∷ rules) h =
    let parts = and_parts (not (n == 1)) (list_all (λ r. not (r.0 == 1)) rules) h in
    if_one broken (Some n) (first_of rules) (not-true (n == 1) parts.0) (first_one rules parts.1)

broken_one : (rules : List (ℕ × (Kind → List ℕ → Bool))) (ps : List Place) → list_all (λ r. not (r.0 == 1)) rules ≡ true → is_one (first_broken rules ps) ≡ false
unfolding first_broken
broken_one [] ps h = refl
broken_one ((n, test) ∷ rules) ps h =
    let parts = and_parts (not (n == 1)) (list_all (λ r. not (r.0 == 1)) rules) h in
    if_one (list_any (λ p. test p.0 p.1) ps) (Some n) (first_broken rules ps) (not-true (n == 1) parts.0) (broken_one rules ps parts.1)

said_one : (before : List Line) (l : Line) → is_one (said_fault before l) ≡ false
unfolding said_fault
said_one before l =
    first_one ((22, is_above before l) ∷ (23, is_misplaced before l) ∷ (24, exceeds_limits before l) ∷ (25, is_out_of_order before l)
    ∷ (26, is_one_too_many before l) ∷ (28, lacks_policy before l) ∷ []) refl

text_one : (text : List ℕ) → is_one (text_fault text) ≡ false
unfolding text_fault
text_one text = first_one ((2, is_too_long text) ∷ (3, is_unprintable text) ∷ []) refl

words_one : (words : List (List ℕ)) → is_one (words_fault words) ≡ false
unfolding words_fault
words_one words = first_one ((4, has_empty_word words) ∷ (5, has_open_quote words) ∷ []) refl

policy_one : (before : List Line) (text : List ℕ) → is_one (policy_fault before text) ≡ false
unfolding policy_fault
policy_one before text = first_one ((8, in_body before) ∷ (10, is_empty (policy_text text)) ∷ (20, has_policy before) ∷ []) refl

places_one : (ps : List Place) → is_one (places_fault ps) ≡ false
unfolding places_fault
places_one ps = broken_one place_rules ps refl

first_line_one : (text : List ℕ) → is_one (first_line_fault text) ≡ false
unfolding first_line_fault
first_line_one text =
    or_one (if is_policy_line text then None else words_fault (words_of text)) (first_of ((6, is_none (version_of text)) ∷ []))
    (if_one (is_policy_line text) None (words_fault (words_of text)) refl (words_one (words_of text)))
    (first_one ((6, is_none (version_of text)) ∷ []) refl)

command_one : (before : List Line) (words : List (List ℕ)) → is_one (command_fault before words) ≡ false
unfolding command_fault form_fault stand_fault names_fault
command_one before words =
    or_one (words_fault words) (option_map_or (λ f. form_fault before f words) (form_of (word_at words 0)) (Some 7)) (words_one words)
    (map_one (λ f. form_fault before f words) (form_of (word_at words 0)) (Some 7)
    (λ f. or_one (stand_fault before f words) (option_or (places_fault (places (form_told before) f words))
    (option_or (names_fault before f words) (option_map_or (said_fault before) (said (form_told before) f words) None)))
    (first_one ((8, is_late before f) ∷ (9, is_outside before f) ∷ (10, not (has_right_count f words)) ∷ []) refl)
    (or_one (places_fault (places (form_told before) f words))
    (option_or (names_fault before f words) (option_map_or (said_fault before) (said (form_told before) f words) None))
    (places_one (places (form_told before) f words))
    (or_one (names_fault before f words) (option_map_or (said_fault before) (said (form_told before) f words) None)
    (first_one ((20, is_given_twice before f words) ∷ (21, names_unknown before f words) ∷ []) refl)
    (map_one (said_fault before) (said (form_told before) f words) None (said_one before) refl))))
    refl)

line_one : (before : List Line) (text : List ℕ) → is_one (line_fault before text) ≡ false
unfolding line_fault body_fault
line_one before text =
    or_one (text_fault text) (body_fault before text) (text_one text)
    (if_one (is_empty before) (first_line_fault text) (if is_skipped text then None else if is_policy_line text then policy_fault before text else
    command_fault before (words_of text)) (first_line_one text)
    (if_one (is_skipped text) None (if is_policy_line text then policy_fault before text else command_fault before (words_of text)) refl
    (if_one (is_policy_line text) (policy_fault before text) (command_fault before (words_of text)) (policy_one before text) (command_one before (words_of text)))))

rule_one : (rule : ℕ) → rule ≡ 1 → (rule == 1) ≡ false → ⊥
rule_one rule is other = let e : true ≡ false = sym (ap (λ r. r == 1) is) ∙ other in cc

second_same : (a b c : ℕ) → ◌≡◌ {A = Option (ℕ × ℕ)} (Some (a, c)) (Some (b, 1)) → c ≡ 1
second_same a b c k = ap (λ (o : Option (ℕ × ℕ)). (unwrap_or o (0, 0)).1) k

from_case : (o : Option ℕ) (number : ℕ) (next : Option (ℕ × ℕ)) (n : ℕ) → is_one o ≡ false → (next ≡ Some (n, 1) → ⊥)
    → ◌≡◌ {A = Option (ℕ × ℕ)} (or_next o number next) (Some (n, 1)) → ⊥
from_case None number next n h f k = f k
from_case (Some rule) number next n h f k = rule_one rule (second_same number n rule k) h

from_one : (before : List Line) (texts : List (List ℕ)) (n : ℕ) → fault_from before texts ≡ Some (n, 1) → ⊥
unfolding fault_from
from_one before [] n h = cc
from_one before (text ∷ texts) n h =
    from_case (line_fault before text) (length before + 1) (fault_from (before ++ unwrap_or (line_of (form_told before) text) line.Skipped ∷ []) texts) n (line_one before text)
    (from_one (before ++ unwrap_or (line_of (form_told before) text) line.Skipped ∷ []) texts n) h

-- an input that isn't too long breaks another rule
pub not_rule_one : (bytes : List ℕ) (n : ℕ) → nat_lt 16777216 (length bytes) ≡ false → fault_of bytes ≡ Some (n, 1) → ⊥
unfolding fault_of
not_rule_one bytes n short h = from_one [] (lines_of bytes) n (rw short at h)
