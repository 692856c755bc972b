-- The lines at which a script is refused, and how many stand before the second of two.
use Rattle.std.proofs.Common.{◌≡◌, ◌==◌, ℕ, ◌+◌, ◌<◌, ◌≤◌, nat_lt, Bool, true, false, List, [], ◌∷◌, ◌++◌, length, take, codes, Option, Some, None, unwrap_or}
use Rattle.std.proofs.Common.{if◌then◌else◌, is_none, refl, sym, ap, ◌∙◌, arith, length-append, slice_get, subst}
use Rattle.std.specs.{Prelude.{IfSome, option_and_then}, List.position, Option.{option_map, option_or}, Result.is_err}
use Rattle.std.proofs.lemmas.{Bool.ltb-false, Option.{none-some, slice_get_within}}
use Rattle.ix_label.specs.declared.form.Form.{Form}
use Rattle.ix_policy.specs.Policies.{policy}
use Rattle.ix_script.specs.{lines.Before.{form_told, is_policy}, lines.Said.{line_of, version_of}, scripts.Canonical.{canonical_in, line_text}}
use Rattle.ix_script.specs.{lines.Rules.{is_too_long, is_unprintable, has_empty_word, has_open_quote}, scripts.Laws.OneByteMore, declared.line.Line.Line}
use Rattle.ix_script.specs.scripts.Scripts.{form_in, lines_said, policy_of, policy_told, script_of}
use Rattle.ix_script.specs.texts.{Lines.{cut, lines_of}, Cutting.{words_of, is_policy_line}}
use Rattle.ix_script.specs.lines.Faults.{fault_from, fault_of, line_fault, or_next, text_fault, words_fault, first_line_fault, body_fault}
use Rattle.ix_script.specs.declared.line.Line.TheVariants as line
use Rattle.ix_check.specs.Parts.{lines_in}
use Rattle.ix_judging.specs.Bytes.{joined}
use Rattle.ix_model.specs.world.Texts.{with_front}
use Rattle.ix_twin.specs.Parts.{before_divider, first_part, from_divider, lines_before, second_part}
use Rattle.ix_host.specs.{Policies.{policy_refusal, refused_policy}, Seconds.{further_down, refusal_in, second_in, second_refusal}, run.Inputs.script_in}

-- ---- faults
-- the line of a fault, where some lines stand before
abbrev pub Within : ℕ → ℕ → Option (ℕ × ℕ) → Type 0
Within before count o = IfSome o (λ refusal. (before < refusal.0) × (refusal.0 ≤ before + count))

next_within : (o : Option ℕ) (before count : ℕ) (next : Option (ℕ × ℕ)) → Within (before + 1) count next → Within before (count + 1) (or_next o (before + 1) next)
next_within None before count None h = tt
next_within None before count (Some refusal) h = (omega (arith, h.0), omega (arith, h.1))
next_within (Some rule) before count next h = (omega arith, omega arith)

from_within : (before : List Line) (texts : List (List ℕ)) → Within (length before) (length texts) (fault_from before texts)
unfolding fault_from
from_within before [] = tt
from_within before (text ∷ texts) =
    let l : Line = unwrap_or (line_of (form_told before) text) line.Skipped in
    let more : length (before ++ l ∷ []) ≡ length before + 1 = length-append before (l ∷ []) in
    let rest = subst (λ (n : ℕ). Within n (length texts) (fault_from (before ++ l ∷ []) texts)) more (from_within (before ++ l ∷ []) texts) in
    let count : length texts + 1 ≡ length (text ∷ texts) = omega arith in
    subst (λ (n : ℕ). Within (length before) n (fault_from before (text ∷ texts))) count (next_within (line_fault before text) (length before) (length texts) _ rest)

front_few : (b : ℕ) (lines : List (List ℕ)) → length (with_front b lines) ≤ length lines + 1
front_few b [] = omega arith
front_few b (l ∷ lines) = omega arith

cut_few : (bytes : List ℕ) → length (cut bytes) ≤ length bytes
unfolding cut
cut_few [] = omega arith
cut_few (b ∷ bytes) = by_feed (b == 10) (cut_few bytes)
  where
    by_feed : (x : Bool) → length (cut bytes) ≤ length bytes → length (if x then [] ∷ cut bytes else with_front b (cut bytes)) ≤ length (b ∷ bytes)
    by_feed true rest = omega (arith, rest)
    by_feed false rest = let front = front_few b (cut bytes) in omega (arith, rest, front)

lines_few : (bytes : List ℕ) → length (lines_of bytes) ≤ length bytes + 1
unfolding lines_of
lines_few [] = omega arith
lines_few (b ∷ bytes) = let few = cut_few (b ∷ bytes) in omega (arith, few)

-- the fault of a script is at one of its first 16,777,217 lines
pub fault_within : (bytes : List ℕ) → Within 0 16777217 (fault_of bytes)
unfolding fault_of
fault_within bytes = by_length (nat_lt 16777216 (length bytes)) refl
  where
    wider : (count : ℕ) → count ≤ 16777217 → (o : Option (ℕ × ℕ)) → Within 0 count o → Within 0 16777217 o
    wider count few None h = tt
    wider count few (Some refusal) h = (h.0, omega (arith, h.1, few))

    by_length : (x : Bool) → nat_lt 16777216 (length bytes) ≡ x → Within 0 16777217 (if x then Some (1, 1) else fault_from [] (lines_of bytes))
    by_length true is = (omega arith, omega arith)
    by_length false is =
        let few = ltb-false 16777216 (length bytes) is in
        wider (length (lines_of bytes)) (let lines = lines_few bytes in omega (arith, lines, few)) (fault_from [] (lines_of bytes)) (from_within [] (lines_of bytes))

-- ---- lines
short_read : (bytes : List ℕ) (s : List Line) → script_of bytes ≡ Some s → length bytes ≤ 16777216
unfolding script_of fault_of
short_read bytes s h = by_length (nat_lt 16777216 (length bytes)) refl h
  where
    by_length : (x : Bool) → nat_lt 16777216 (length bytes) ≡ x
        → (if is_none (if x then Some (1, 1) else fault_from [] (lines_of bytes)) then lines_said (form_in (lines_of bytes)) (lines_of bytes) else None) ≡ Some s → length bytes ≤ 16777216
    by_length true eq k = absurd (none-some s k)
    by_length false eq k = ltb-false 16777216 (length bytes) eq

-- a script has at most as many lines as its canonical text has bytes
lines_long : (form : Form) (lines : List Line) → length lines ≤ length (canonical_in form lines)
lines_long form [] = omega arith
lines_long form (l ∷ lines) =
    omega (arith, lines_long form lines, length-append (line_text form l ++ codes "\n") (canonical_in form lines), length-append (line_text form l) (codes "\n"))

-- one that was read has at most so many
pub script_short : OneByteMore → (bytes : List ℕ) (s : List Line) → script_of bytes ≡ Some s → length s ≤ 16777217
script_short law bytes s is = omega (arith, law bytes s is, lines_long (form_told s) s, short_read bytes s is)

-- ---- policies
policy_at : (s : List Line) → IfSome (policy_of s) (λ (p : ℕ × List ℕ). (0 < p.0) × (p.0 ≤ length s))
unfolding policy_of
policy_at s = by_place (position is_policy s) refl
  where
    by_text : (i : ℕ) → i < length s → (o : Option (List ℕ)) → IfSome (option_map (λ text. (i + 1, text)) o) (λ (p : ℕ × List ℕ). (0 < p.0) × (p.0 ≤ length s))
    by_text i low None = tt
    by_text i low (Some text) = (omega arith, omega (arith, low))

    by_line : (i : ℕ) → (o : Option Line) → slice_get s i ≡ o → IfSome (option_and_then (λ l. option_map (λ text. (i + 1, text)) (policy_told l)) o) (λ (p : ℕ × List ℕ). (0 < p.0) × (p.0 ≤ length s))
    by_line i None is = tt
    by_line i (Some l) is = by_text i (slice_get_within s i l is) (policy_told l)

    by_place : (o : Option ℕ) → position is_policy s ≡ o
        → IfSome (option_and_then (λ i. option_and_then (λ l. option_map (λ text. (i + 1, text)) (policy_told l)) (slice_get s i)) o) (λ (p : ℕ × List ℕ). (0 < p.0) × (p.0 ≤ length s))
    by_place None is = tt
    by_place (Some i) is = by_line i (slice_get s i) refl

-- the line of a policy that is refused is one of the script's
pub policy_within : (s : List Line) → IfSome (policy_refusal s) (λ (refusal : ℕ × ℕ). (0 < refusal.0) × (refusal.0 ≤ length s))
unfolding policy_refusal
policy_within s = go (policy_of s) (policy_at s)
  where
    by_test : (b : Bool) (line count : ℕ) → (0 < line) × (line ≤ count) → IfSome (if b then Some (line, 27) else None) (λ (refusal : ℕ × ℕ). (0 < refusal.0) × (refusal.0 ≤ count))
    by_test true line count h = h
    by_test false line count h = tt

    go : (o : Option (ℕ × List ℕ)) → IfSome o (λ (p : ℕ × List ℕ). (0 < p.0) × (p.0 ≤ length s))
        → IfSome (option_and_then (refused_policy (form_told s)) o) (λ (refusal : ℕ × ℕ). (0 < refusal.0) × (refusal.0 ≤ length s))
    go None h = tt
    go (Some p) h = by_test (is_err (policy (form_told s) p.1)) p.0 (length s) h

-- ---- both
-- lines count from 1
pub refused_at_line : (bytes : List ℕ) → IfSome (refusal_in bytes) (λ refusal. 0 < refusal.0)
refused_at_line bytes = by_fault (fault_of bytes) (fault_within bytes)
  where
    by_policy : (o : Option (ℕ × ℕ)) → IfSome o (λ refusal. (0 < refusal.0) × (refusal.0 ≤ length (script_in bytes))) → IfSome o (λ refusal. 0 < refusal.0)
    by_policy None h = tt
    by_policy (Some refusal) h = h.0

    by_fault : (o : Option (ℕ × ℕ)) → Within 0 16777217 o → IfSome (option_or o (policy_refusal (script_in bytes))) (λ refusal. 0 < refusal.0)
    by_fault None h = by_policy (policy_refusal (script_in bytes)) (policy_within (script_in bytes))
    by_fault (Some refusal) h = h.0

no_byte : fault_of [] ≡ Some (1, 6)
unfolding fault_of lines_of fault_from line_fault text_fault is_too_long is_unprintable body_fault first_line_fault words_fault words_of has_empty_word has_open_quote is_policy_line version_of
no_byte = refl

-- where the first script has no fault, some lines stand before the second
pub some_before : (input : List ℕ) → fault_of (first_part input) ≡ None → 0 < lines_before input
unfolding first_part lines_before
some_before input h = go (before_divider (lines_in input)) h
  where
    go : (ls : List (List ℕ)) → fault_of (joined ls) ≡ None → 0 < length ls + length (take 1 (from_divider (lines_in input)))
    go [] k = absurd (none-some (1, 6) (sym k ∙ no_byte))
    go (l ∷ ls) k = omega arith

no_fault : (o : Option (ℕ × ℕ)) (p : Option (List Line)) (s : List Line) → (if is_none o then p else None) ≡ Some s → (o ≡ None) × (p ≡ Some s)
no_fault None p s h = (refl, h)
no_fault (Some f) p s h = cc

pub without_fault : (bytes : List ℕ) (s : List Line) → script_of bytes ≡ Some s → fault_of bytes ≡ None
unfolding script_of
without_fault bytes s h = (no_fault (fault_of bytes) (lines_said (form_in (lines_of bytes)) (lines_of bytes)) s h).0

-- where the second script has a fault, it is refused for that
pub refused_second : (input : List ℕ) (line rule : ℕ) → fault_of (second_part input) ≡ Some (line, rule) → second_refusal input ≡ Some (lines_before input + line, rule)
unfolding second_refusal
refused_second input line rule is = ap (λ o. option_map (further_down (lines_before input)) (option_or o (policy_refusal (script_in (second_part input))))) is

-- and where it has none, for its policy
pub accepted_second : (input : List ℕ) (s : List Line) → script_of (second_part input) ≡ Some s
    → (second_refusal input ≡ option_map (further_down (lines_before input)) (policy_refusal s)) × (second_in input ≡ s)
unfolding second_refusal
accepted_second input s is =
    let none = without_fault (second_part input) s is in
    let same : script_in (second_part input) ≡ s = ap (λ (o : Option (List Line)). unwrap_or o []) is in (
      ap (λ o. option_map (further_down (lines_before input)) (option_or o (policy_refusal (script_in (second_part input))))) none
          ∙ ap (λ (x : List Line). option_map (further_down (lines_before input)) (policy_refusal x)) same,
      same,
    )
