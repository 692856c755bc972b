-- What clap makes of the command words, a word at a time.
use Rattle.std.proofs.Common.{◌≡◌, ℕ, ◌==◌, Bool, true, false, List, [], ◌∷◌, length, fold, Option, Some, None, is_some, refl, sym, subst, ap, ap₂, ◌∙◌, arith}
use Rattle.std.proofs.Common.{inl, inr, codes, slice_get, if◌then◌else◌}
use Rattle.std.proofs.lemmas.{Bool.{cases_Bool, eqb-true, Decides.nat_tests}, Slice.Eq.bytes_eq-Decides}
use Rattle.std.specs.{Option.option_map_or, Str.{bytes_eq, chars}, Prelude.option_and_then}
use Rattle.clap.specs.Words.{App, HasKind, HasMatchesOf, Kinds, Row, Rule, Text, first_of, first_value, found_of, is_simple_and_free, kind_of}
use Rattle.clap.specs.{declared.{error.{Error.Error, kind.ErrorKind.{ErrorKind, TheVariants.OutOfMemory}}, parser.matches.ArgMatches.ArgMatches}, Kinds.or_else}
use Rattle.clap.specs.{Simple.{built, entered, matches_of}, Lexer.{long_of, short_of, short_of_rest, strip_byte}}
use Rattle.clap.proofs.{WalkLemmas.first_value-rows, OnLiterals.clap_on_literals}
use Rattle.clap.specs.Walk.{Held, Outcome, Step, Walk, after_flag, after_step, arg_by_index, bundle_met, bundle_step, finished, idle, long_or_other, plain}
use Rattle.clap.specs.Walk.{nothing_held, settled, short_word, short_or_plain, to_positional, trailing, value, walk_from, walked, word_met}
use Rattle.clap.specs.Faults.{bundle_fault, bundle_step_fault, check_fault, defaults_fault, entered_fault, fault_of, flag_word_fault, flags_fault, settle_fault}
use Rattle.clap.specs.Faults.{step_fault, walk_fault, word_fault}
use Rattle.ix_host.{specs.declared.arguments.command.Command.Command, specs.command.Command.{command_of, count_of, left_out, whole_command}}
use Rattle.ix_host.{specs.command.CommandLine.{command_line, read_values}, proofs.words_in.Dashes.dash_first}
use Rattle.ix_script.specs.texts.Words.{is_numeral, number_of}
use Rattle.ix_label.specs.declared.form.Form.TheVariants as form
use Rattle.ix_text.specs.{Bytes.is_digit, Labels.label_in}

-- ---- what a parse comes to from where a walk stands
abbrev line : App
line = built command_line

abbrev rules : List Rule
rules = line.top.rules

abbrev end_fault : Walk → Kinds
end_fault w = or_else (entered_fault line w.stopped) (or_else (settle_fault rules false w.held)
    (or_else (defaults_fault (settled rules w.held).rows rules)
    (check_fault line.top (finished rules w.held) (is_some (entered line w.stopped)))))

abbrev fault_from : Walk → List Text → Kinds
fault_from w words = or_else (walk_fault line.top [] w words) (end_fault (fold (walked rules []) w words))

abbrev pub read_rows : List Row → Option Command
read_rows rows = read_values (first_of (codes "command") rows) (first_of (codes "count") rows)

abbrev read_from : Walk → List Text → Option Command
read_from w words = read_rows (finished rules (fold (walked rules []) w words).held)

-- Where no fault comes the command is read, and where one comes there is none.
abbrev pub Fits : Kinds → Option Command → Option Command → Type 0
Fits [] read command = read ≡ command
Fits (k ∷ ks) read command = command ≡ None

-- ---- where a walk stands
-- the word goes to the next value of the line
abbrev taken : Walk → Text → Walk
taken w word = to_positional rules (arg_by_index rules w.position) word w w.held

abbrev at_none : Bool → Walk
at_none is_trailing = record (walk_from nothing_held) { is_trailing = is_trailing }

abbrev at_one : Bool → Text → Walk
at_one is_trailing a = taken (at_none is_trailing) a

abbrev at_two : Bool → Text → Text → Walk
at_two is_trailing a b = taken (at_one is_trailing a) b

-- ---- after a word `--`
after_two : (a b : Text) (words : List Text) → Fits (fault_from (at_two true a b) words) (read_from (at_two true a b) words) (whole_command (a ∷ b ∷ words))
unfolding clap_on_literals
after_two a b [] = refl
after_two a b (c ∷ words) = refl

after_one : (a : Text) (words : List Text) → Fits (fault_from (at_one true a) words) (read_from (at_one true a) words) (whole_command (a ∷ words))
unfolding clap_on_literals
after_one a [] = refl
after_one a (b ∷ words) = after_two a b words

after_none : (words : List Text) → Fits (fault_from (at_none true) words) (read_from (at_none true) words) (whole_command words)
unfolding clap_on_literals
after_none [] = refl
after_none (a ∷ words) = after_one a words

-- ---- a word before that
abbrev dashes : Text
dashes = codes "--"

-- what is to be shown of a word that is refused
abbrev Refused : (Kinds → Held × Step → Type 0) → Type 0
Refused P = (k : ErrorKind) (ks : Kinds) (m : Held × Step) → P (k ∷ ks) m

-- what is held before the word, where nothing is left of a bundle
abbrev held : List Row → Option (Text × List Text) → Held
held rows pending = record { rows = rows; pending = pending; skip = 0 }

module _ (word : Text) (rows : List Row) (pending : Option (Text × List Text)) where
  -- a word of one hyphen, by what follows that
  by_flags : (flags : Text) (P : Kinds → Held × Step → Type 0) → Refused P → P [] (held rows pending, value)
      → P (bundle_fault rules false flags (held rows pending)) (short_word rules idle word flags (held rows pending))
  unfolding flags_fault bundle_met
  by_flags [] P refused taken = taken
  by_flags (x ∷ xs) P refused taken =
      let met : Option ℕ → Held × Outcome = λ o. bundle_step rules o (x ∷ xs) 0 plain (held rows pending) (bundle_met rules (length xs)) in
      elim (slice_get (chars (x ∷ xs)) 0) as (λ o. P (bundle_step_fault rules false o (x ∷ xs) 0 (held rows pending) (flags_fault rules false (length xs)))
      (after_flag rules idle word (met o).0 (met o).1)) [
        | None ↦ taken
        | Some c ↦ refused _ _ _
      ]

  by_short : (short : Option Text) (P : Kinds → Held × Step → Type 0) → Refused P → P [] (held rows pending, value)
      → P (option_map_or (λ flags. bundle_fault rules false flags (held rows pending)) short []) (short_or_plain rules idle word short (held rows pending))
  by_short None P refused taken = taken
  by_short (Some flags) P refused taken = by_flags flags P refused taken

  by_long : (long : Option (Text × Option Text)) (P : Kinds → Held × Step → Type 0) → Refused P → P [] (held rows pending, value)
      → P (flag_word_fault rules false long word (held rows pending)) (long_or_other rules idle word long (held rows pending))
  by_long None P refused taken = by_short (short_of word) P refused taken
  by_long (Some p) P refused taken = refused _ _ _

  -- a word is `--`, is refused, or goes to a value
  by_word : (position : ℕ) (P : Bool → Kinds → Held × Step → Type 0)
      → P true [] (held rows pending, trailing position) → Refused (P false) → P false [] (held rows pending, value)
      → P (bytes_eq word dashes) (word_fault line.top [] false idle word (held rows pending)) (word_met rules [] false idle position word (held rows pending))
  by_word position P left refused taken =
      elim (bytes_eq word dashes) as (λ b. P b (if b then [] else flag_word_fault rules false (long_of word) word (held rows pending))
      (if b then (held rows pending, trailing position) else long_or_other rules idle word (long_of word) (held rows pending))) [
        | true ↦ left
        | false ↦ by_long (long_of word) (P false) refused taken
      ]

-- what is refused of a word
abbrev fault_in : Text → List Row → Option (Text × List Text) → Kinds
fault_in word rows pending = word_fault line.top [] false idle word (held rows pending)

-- a word that is refused is none of these
other_than : (word name : Text) (k : ErrorKind) (ks : Kinds) → fault_in name [] None ≡ [] → fault_in word [] None ≡ k ∷ ks → bytes_eq word name ≡ false
other_than word name k ks clean refused =
    elim (bytes_eq word name) as (λ b. bytes_eq word name ≡ b → b ≡ false) [
      | true ↦ λ is.
          let same : word ≡ name = (bytes_eq-Decides word name).0 is in
          let none : [] ≡ k ∷ ks = rw (same, clean) at refused in
          cc
      | false ↦ λ is. refl
    ] refl

-- so it is no command
none_whole : (word : Text) (words : List Text) (k : ErrorKind) (ks : Kinds) → fault_in word [] None ≡ k ∷ ks → whole_command (word ∷ words) ≡ None
none_whole word [] k ks refused = rw (
  other_than word (codes "run") k ks refl refused,
  other_than word (codes "print") k ks refl refused,
  other_than word (codes "check") k ks refl refused,
  other_than word (codes "flow") k ks refl refused,
  other_than word (codes "save") k ks refl refused,
  other_than word (codes "load") k ks refl refused,
) refl
none_whole word (more ∷ []) k ks refused = rw (other_than word (codes "gen") k ks refl refused, other_than word (codes "twin") k ks refl refused) refl
none_whole word (count ∷ more ∷ words) k ks refused = refl

-- one that doesn't begin with a hyphen is never refused
plain_is_free : (b : ℕ) (word : Text) (rows : List Row) (pending : Option (Text × List Text)) → (b == 45) ≡ false → fault_in (b ∷ word) rows pending ≡ []
plain_is_free b word rows pending other =
    let stripped : strip_byte 45 (b ∷ word) ≡ None = rw other refl in
    rw other (ap (λ o. option_map_or (λ flags. bundle_fault rules false flags (held rows pending)) (option_and_then short_of_rest o) []) stripped)

-- so one that is refused is no count
none_counted : (word : Text) (rows : List Row) (pending : Option (Text × List Text)) (k : ErrorKind) (ks : Kinds) → fault_in word rows pending ≡ k ∷ ks → count_of word ≡ None
unfolding number_of is_numeral
none_counted [] rows pending k ks refused = refl
none_counted (b ∷ word) rows pending k ks refused = elim (cases_Bool (is_digit b)) [
  | inl is ↦ let none : [] ≡ k ∷ ks = sym (plain_is_free b word rows pending (grind (arith, nat_tests, is))) ∙ refused in cc
  | inr is ↦ rw is refl
]

-- nor a label
none_labelled : (word : Text) (rows : List Row) (pending : Option (Text × List Text)) (k : ErrorKind) (ks : Kinds) → fault_in word rows pending ≡ k ∷ ks → label_in form.Two word ≡ None
none_labelled [] rows pending k ks refused = cc
none_labelled (b ∷ word) rows pending k ks refused = elim (cases_Bool (b == 45)) [
  | inl is ↦ dashed b word (eqb-true b 45 is) refused
  | inr other ↦ let none : [] ≡ k ∷ ks = sym (plain_is_free b word rows pending other) ∙ refused in cc
]
  where
    dashed : (b : ℕ) (word : Text) → b ≡ 45 → fault_in (b ∷ word) rows pending ≡ k ∷ ks → label_in form.Two (b ∷ word) ≡ None
    dashed b [] is h = let none : [] ≡ k ∷ ks = rw is at h in cc
    dashed b (c ∷ word) is h = rw is (dash_first c word)

no_more : (a more : Text) (words : List Text) → count_of more ≡ None → label_in form.Two more ≡ None → whole_command (a ∷ more ∷ words) ≡ None
no_more a more [] no_count no_label = rw (no_count, no_label) (if_same (bytes_eq a (codes "gen")) (bytes_eq a (codes "twin")))
  where
    if_same : (b c : Bool) → ◌≡◌ {A = Option Command} (if b then None else if c then None else None) None
    if_same true c = refl
    if_same false true = refl
    if_same false false = refl
no_more a more (another ∷ words) no_count no_label = refl

-- ---- from the start
-- the fault and the reading from where a walk stands, by what the next word is
abbrev fault_at : Walk → Text → List Text → Kinds → Held × Step → Kinds
fault_at w word words refusal met =
    let after = after_step rules word w met.0 met.1 in
    or_else (or_else (or_else refusal (step_fault line.top w.position met.0 met.1)) (walk_fault line.top [] after words)) (end_fault (fold (walked rules []) after words))

abbrev read_at : Walk → Text → List Text → Held × Step → Option Command
read_at w word words met = read_from (after_step rules word w met.0 met.1) words

from_two : (a b : Text) (words : List Text) → Fits (fault_from (at_two false a b) words) (read_from (at_two false a b) words) (whole_command (a ∷ b ∷ left_out words))
unfolding clap_on_literals
from_two a b [] = refl
from_two a b (word ∷ words) =
    by_word word (at_two false a b).held.rows (at_two false a b).held.pending 3
    (λ dash refusal met. Fits (fault_at (at_two false a b) word words refusal met) (read_at (at_two false a b) word words met)
    (whole_command (a ∷ b ∷ (if dash then words else word ∷ left_out words))))
    (after_two a b words) (λ k ks m. refl) refl

from_one : (a : Text) (words : List Text) → Fits (fault_from (at_one false a) words) (read_from (at_one false a) words) (whole_command (a ∷ left_out words))
unfolding clap_on_literals
from_one a [] = refl
from_one a (word ∷ words) =
    let rows = (at_one false a).held.rows in
    let pending = (at_one false a).held.pending in
    by_word word rows pending 2
    (λ dash refusal met. fault_in word rows pending ≡ refusal
    → Fits (fault_at (at_one false a) word words refusal met) (read_at (at_one false a) word words met) (whole_command (a ∷ (if dash then words else word ∷ left_out words))))
    (λ is. after_one a words) (λ k ks m is. no_more a word (left_out words) (none_counted word rows pending k ks is) (none_labelled word rows pending k ks is)) (λ is. from_two a word words) refl

from_none : (words : List Text) → Fits (fault_from (at_none false) words) (read_from (at_none false) words) (whole_command (left_out words))
unfolding clap_on_literals
from_none [] = refl
from_none (word ∷ words) =
    by_word word [] None 1
    (λ dash refusal met. fault_in word [] None ≡ refusal
    → Fits (fault_at (at_none false) word words refusal met) (read_at (at_none false) word words met) (whole_command (if dash then words else word ∷ left_out words)))
    (λ is. after_none words) (λ k ks m is. none_whole word (left_out words) k ks is) (λ is. from_one word words) refl

-- What clap makes of the words is the command that they are.
pub line_fits : (words : List Text) → Fits (fault_of command_line words) (read_rows (matches_of command_line words)) (command_of words)
unfolding command_of
line_fits words = from_none words

-- ---- what a parse answers
pub is_free : is_simple_and_free command_line ≡ true
is_free = refl

-- where it gives matches they are read as the command
pub line_reads : (words : List Text) (m : ArgMatches) → fault_of command_line words ≡ [] → HasMatchesOf command_line words m
    → read_values (first_value (found_of m) (codes "command")) (first_value (found_of m) (codes "count")) ≡ command_of words
line_reads words m no_fault matches =
    let rows = (matches refl).0 in
    ap₂ read_values (first_value-rows (found_of m) (codes "command") ∙ ap (first_of (codes "command")) rows)
    (first_value-rows (found_of m) (codes "count") ∙ ap (first_of (codes "count")) rows)
    ∙ subst (λ (k : Kinds). Fits k (read_rows (matches_of command_line words)) (command_of words)) no_fault (line_fits words)

-- where it gives an error other than of memory they are no command
refused : (kinds : Kinds) (read command : Option Command) (e : Error) → Fits kinds read command → HasKind kinds e → (kind_of e ≡ OutOfMemory → ⊥) → command ≡ None
refused [] read command e fits (inl out) other = absurd (other out)
refused [] read command e fits (inr none) other = elim none [ ]
refused (k ∷ ks) read command e fits has other = fits

pub line_refuses : (words : List Text) (e : Error) → HasKind (fault_of command_line words) e → (kind_of e ≡ OutOfMemory → ⊥) → command_of words ≡ None
line_refuses words e has other = refused (fault_of command_line words) _ (command_of words) e (line_fits words) has other
