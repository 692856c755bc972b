-- The canonical text of a script is read back.
use Rattle.std.proofs.Common.{◌≡◌, ℕ, suc, ◌+◌, ◌<◌, ◌≤◌, Bool, true, not, ◌==◌, List, [], ◌∷◌, ◌++◌, length, map, Option, Some, None, inl, inr, refl, sym, ap, ◌∙◌, subst, arith}
use Rattle.std.specs.{Prelude.unwrap_or, List.{list_all, flat_map}}
use Rattle.std.proofs.lemmas.{Bool.{cases_Bool, le-ltb, not-true, Decides.nat_tests}, List.{append_assoc, length-append}, Option.{none-some, same_Some}}
use Rattle.ix_model.specs.{opening.Valid.is_within, world.Texts.with_front}
use Rattle.ix_label.specs.declared.form.Form.{Form, TheVariants.One}
use Rattle.ix_script.specs.{texts.Lines.{cut, lines_of}, lines.{Before.{form_by, form_told}, Said.{both, version_of, line_of}}, declared.line.Line.Line}
use Rattle.ix_script.specs.{lines.Faults.{or_next, line_fault, fault_from, fault_of}, scripts.{Scripts.{form_in, lines_said, script_of}, Canonical.{line_text, canonical_in, canonical}}}
use Rattle.ix_text.proofs.Tests.{both as both_true, join_tests, list_all_weaker}
use Rattle.ix_script.proofs.{reader.Told.{mapped, paired, neither}, lines.{Faultless.text_parts, EachLine.{no_fault_from, read_parts, first_told}}}
use Rattle.ix_script.proofs.{lines.Deciding.{version_is, version_said, first_version, first_faultless}, back.TextBack.{version_spelled, line_back}}
use Rattle.ix_script.specs.declared.line.Line.TheVariants as line

-- ---- texts with a line feed after each
-- how many bytes they are
abbrev size : List (List ℕ) → ℕ
size texts = length (flat_map (λ text. text ++ 10 ∷ []) texts)

-- no line feed stands in them
abbrev no_feed : List ℕ → Bool
no_feed text = list_all (λ b. not (b == 10)) text

size_more : (text : List ℕ) (texts : List (List ℕ)) → size (text ∷ texts) ≡ length text + 1 + size texts
size_more text texts = omega (arith, length-append (text ++ 10 ∷ []) (flat_map (λ text. text ++ 10 ∷ []) texts), length-append text (10 ∷ []))

size_canonical : (labels : Form) (lines : List Line) → length (canonical_in labels lines) ≡ size (map (line_text labels) lines)
size_canonical labels [] = refl
size_canonical labels (l ∷ lines) =
    let rest = size_canonical labels lines in
    omega (
      arith,
      rest,
      length-append (line_text labels l ++ 10 ∷ []) (canonical_in labels lines),
      length-append (line_text labels l ++ 10 ∷ []) (flat_map (λ text. text ++ 10 ∷ []) (map (line_text labels) lines)),
    )

-- ---- cutting
one_cut : (text rest : List ℕ) → no_feed text ≡ true → cut (text ++ 10 ∷ rest) ≡ text ∷ cut rest
unfolding cut
one_cut [] rest h = refl
one_cut (b ∷ text) rest h =
    let p = both_true _ _ h in
    rw (not-true (b == 10) p.0, one_cut text rest p.1) refl

canonical_cut : (labels : Form) (lines : List Line) → list_all no_feed (map (line_text labels) lines) ≡ true → cut (canonical_in labels lines) ≡ map (line_text labels) lines
unfolding cut
canonical_cut labels [] h = refl
canonical_cut labels (l ∷ lines) h =
    let p = both_true _ _ h in
    ap cut (append_assoc (line_text labels l) (10 ∷ []) (canonical_in labels lines)) ∙ one_cut _ (canonical_in labels lines) p.0
    ∙ ap (λ texts. line_text labels l ∷ texts) (canonical_cut _ lines p.1)

some_lines : (bytes : List ℕ) → 0 < length bytes → lines_of bytes ≡ cut bytes
unfolding lines_of
some_lines [] h = absurd (omega arith)
some_lines (b ∷ bytes) h = refl

size_cut : (bytes : List ℕ) → size (cut bytes) ≤ length bytes + 1
unfolding cut
size_cut [] = omega arith
size_cut (b ∷ bytes) = elim (cases_Bool (b == 10)) [
  | inl e ↦ let k : length (flat_map (λ text. text ++ 10 ∷ []) (cut bytes)) ≤ length bytes + 1 = size_cut bytes in rw e (omega (arith, k))
  | inr e ↦ rw e (front_fits b _ _ (size_cut bytes))
]
  where
    front_fits : (b : ℕ) (texts : List (List ℕ)) (n : ℕ) → size texts ≤ n + 1 → size (with_front b texts) ≤ suc n + 1
    front_fits b [] n h = omega arith
    front_fits b (text ∷ texts) n h = omega (arith, h)

size_lines : (bytes : List ℕ) → size (lines_of bytes) ≤ length bytes + 1
unfolding lines_of
size_lines [] = omega arith
size_lines (b ∷ bytes) = size_cut _

-- ---- lines, one after another
-- what is known of the canonical texts of lines
record AllBack (labels : Form) (before : List Line) (texts : List (List ℕ)) (lines : List Line) : Type 0 where
  means : lines_said labels (map (line_text labels) lines) ≡ Some lines
  sound : fault_from before (map (line_text labels) lines) ≡ None
  short : size (map (line_text labels) lines) ≤ size texts
  plain : list_all no_feed (map (line_text labels) lines) ≡ true

no_fault : (o : Option ℕ) (n : ℕ) (later : Option (ℕ × ℕ)) → o ≡ None → later ≡ None → or_next o n later ≡ None
no_fault None n later h more = more
no_fault (Some rule) n later h more = absurd (none-some rule (sym h))

-- a line without a fault has no line feed
line_plain : (before : List Line) (text : List ℕ) → line_fault before text ≡ None → no_feed text ≡ true
unfolding line_fault
line_plain before text h =
    let p = text_parts _ (neither _ _ h).0 in
    list_all_weaker _ _ no_control text p.1
  where
    no_control : (b : ℕ) → is_within 32 126 b ≡ true → not (b == 10) ≡ true
    no_control b h = grind (arith, nat_tests)

fault_from_none : (before : List Line) (text : List ℕ) (texts : List (List ℕ)) (l : Line) → line_of (form_told before) text ≡ Some l
    → line_fault before text ≡ None → fault_from (before ++ l ∷ []) texts ≡ None → fault_from before (text ∷ texts) ≡ None
unfolding fault_from
fault_from_none before text texts l means sound more = no_fault _ _ _ sound (ap (λ o. fault_from (before ++ unwrap_or o line.Skipped ∷ []) texts) means ∙ more)

-- lines behind the first
later_back : (b : Line) (before : List Line) (texts : List (List ℕ)) (lines : List Line) → fault_from (b ∷ before) texts ≡ None
    → lines_said (form_by b) texts ≡ Some lines → AllBack (form_by b) (b ∷ before) texts lines
unfolding lines_said
later_back b before [] lines sound means = subst (AllBack (form_by b) (b ∷ before) []) (same_Some [] lines means) (record { means = refl; sound = sound; short = omega arith; plain = refl })
later_back b before (text ∷ texts) lines sound means =
    let labels : Form = form_by b in
    let m = mapped (λ (x : Line × List Line). x.0 ∷ x.1) (both (line_of labels text) (lines_said labels texts)) lines means in
    let p = paired (line_of labels text) (lines_said labels texts) m.0 m.1 in
    let f = no_fault_from (b ∷ before) text texts sound in
    let back = line_back (b ∷ before) text m.0.0 p.0 f.0 in
    let after : fault_from (b ∷ before ++ m.0.0 ∷ []) texts ≡ None = ap (λ o. fault_from (b ∷ before ++ unwrap_or o line.Skipped ∷ []) texts) (sym p.0) ∙ f.1 in
    let rest = later_back b (before ++ m.0.0 ∷ []) texts m.0.1 after p.1 in
    subst (AllBack labels (b ∷ before) (text ∷ texts)) m.2 (record {
      means = rw (back.means, rest.means) refl;
      sound = fault_from_none (b ∷ before) (line_text labels m.0.0) (map (line_text labels) m.0.1) m.0.0 back.means back.sound rest.sound;
      short = omega (arith, size_more text texts, size_more (line_text labels m.0.0) (map (line_text labels) m.0.1), back.short, rest.short);
      plain = join_tests _ _ (line_plain (b ∷ before) (line_text labels m.0.0) back.sound) rest.plain;
    })

-- lines of which the first tells the form
first_back : (form : Form) (text : List ℕ) (texts : List (List ℕ)) (lines : List Line) → version_of text ≡ Some form → fault_from [] (text ∷ texts) ≡ None
    → lines_said form (text ∷ texts) ≡ Some lines → AllBack form [] (text ∷ texts) lines
unfolding lines_said
first_back form text texts lines v sound means =
    let x : Line = line.Version form in
    let m = mapped (λ (x : Line × List Line). x.0 ∷ x.1) (both (line_of form text) (lines_said form texts)) lines means in
    let p = paired (line_of form text) (lines_said form texts) m.0 m.1 in
    let is : x ≡ m.0.0 = same_Some x m.0.0 (sym (version_said form text form v) ∙ p.0) in
    let f = no_fault_from [] text texts sound in
    let after : fault_from (x ∷ []) texts ≡ None = ap (λ o. fault_from (unwrap_or o line.Skipped ∷ []) texts) (sym (version_said One text form v)) ∙ f.1 in
    let rest = later_back x [] texts m.0.1 after p.1 in
    let again : text ≡ line_text form x = version_is text form v ∙ sym (version_spelled form form) in
    let said_so : (labels : Form) → line_of labels (line_text form x) ≡ Some x = λ labels. ap (line_of labels) (sym again) ∙ version_said labels text form v in
    let fine : line_fault [] (line_text form x) ≡ None = ap (line_fault []) (sym again) ∙ f.0 in
    let long : length (line_text form x) ≡ length text = ap length (sym again) in
    subst (AllBack form [] (text ∷ texts)) (ap (λ l. l ∷ m.0.1) is ∙ m.2) (record {
      means = rw (said_so form, rest.means) refl;
      sound = fault_from_none [] (line_text form x) (map (line_text form) m.0.1) x (said_so One) fine rest.sound;
      short = omega (arith, size_more text texts, size_more (line_text form x) (map (line_text form) m.0.1), long, rest.short);
      plain = join_tests _ _ (line_plain [] (line_text form x) fine) rest.plain;
    })

all_back : (texts : List (List ℕ)) (lines : List Line) → fault_from [] texts ≡ None → lines_said (form_in texts) texts ≡ Some lines → AllBack (form_in texts) [] texts lines
unfolding form_in lines_said
all_back [] lines sound means = subst (AllBack One [] []) (same_Some [] lines means) (record { means = refl; sound = sound; short = omega arith; plain = refl })
all_back (text ∷ texts) lines sound means =
    let v = first_version text (first_faultless text (no_fault_from [] text texts sound).0) in
    let e : unwrap_or (version_of text) One ≡ v.0 = ap (λ o. unwrap_or o One) v.1 in
    subst (λ (form : Form). AllBack form [] (text ∷ texts) lines) (sym e) (first_back v.0 text texts lines v.1 sound (subst (λ (form : Form). lines_said form (text ∷ texts) ≡ Some lines) e means))

-- ---- scripts
told_in : (texts : List (List ℕ)) (lines : List Line) → fault_from [] texts ≡ None → lines_said (form_in texts) texts ≡ Some lines → form_in texts ≡ form_told lines
unfolding form_in lines_said
told_in [] lines sound means = ap form_told (same_Some [] lines means)
told_in (text ∷ texts) lines sound means =
    let k = first_told _ _ _ sound means in
    ap (λ o. unwrap_or o One) k.2 ∙ ap form_told k.3

told_again : (texts : List (List ℕ)) (lines : List Line) → fault_from [] texts ≡ None → lines_said (form_in texts) texts ≡ Some lines → form_in (map (line_text (form_in texts)) lines) ≡ form_in texts
unfolding form_in lines_said
told_again [] lines sound means = subst (λ ls. form_in (map (line_text One) ls) ≡ One) (same_Some [] lines means) refl
told_again (text ∷ texts) lines sound means =
    let labels = form_in (text ∷ texts) in
    let k = first_told _ _ _ sound means in
    subst (λ ls. form_in (map (line_text labels) ls) ≡ labels) k.3 (ap (λ t. unwrap_or (version_of t) One) (version_spelled labels _ ∙ sym (version_is _ _ k.2)))

pub one_byte_more : (bytes : List ℕ) (lines : List Line) → script_of bytes ≡ Some lines → length (canonical lines) ≤ length bytes + 1
one_byte_more bytes lines h =
    let p = read_parts bytes lines h in
    let labels : Form = form_in (lines_of bytes) in
    let back = all_back (lines_of bytes) lines p.0 p.1 in
    let same : length (canonical lines) ≡ length (canonical_in labels lines) = ap (λ (form : Form). length (canonical_in form lines)) (sym (told_in (lines_of bytes) lines p.0 p.1)) in
    omega (arith, same, size_canonical labels lines, back.short, size_lines bytes)

-- lines without a fault, read from their texts
read_again : (labels : Form) (lines : List Line) → form_in (map (line_text labels) lines) ≡ labels → fault_from [] (map (line_text labels) lines) ≡ None
    → lines_said labels (map (line_text labels) lines) ≡ Some lines
    → length (canonical_in labels lines) ≤ 16777216 → list_all no_feed (map (line_text labels) lines) ≡ true → 0 < length (canonical_in labels lines)
    → script_of (canonical_in labels lines) ≡ Some lines
unfolding script_of fault_of
read_again labels lines told sound means short plain some =
    let cut_lines = some_lines _ some ∙ canonical_cut _ _ plain in
    rw (le-ltb, cut_lines, sound, told) means

some_canonical : (labels : Form) (l : Line) (lines : List Line) → 0 < length (canonical_in labels (l ∷ lines))
some_canonical labels l lines = omega (arith, length-append (line_text labels l ++ 10 ∷ []) (canonical_in labels lines), length-append (line_text labels l) (10 ∷ []))

some_text : (bytes : List ℕ) → (text : List ℕ) × (texts : List (List ℕ)) × (lines_of bytes ≡ text ∷ texts)
unfolding lines_of cut
some_text [] = ([], [], refl)
some_text (b ∷ bytes) = elim (cases_Bool (b == 10)) [
  | inl e ↦ ([], cut bytes, rw e refl)
  | inr e ↦ front_some b (cut bytes) _ (rw e refl)
]
  where
    front_some : (b : ℕ) (texts all : List (List ℕ)) → all ≡ with_front b texts → (text : List ℕ) × (more : List (List ℕ)) × (all ≡ text ∷ more)
    front_some b [] all e = (b ∷ [], [], e)
    front_some b (text ∷ texts) all e = (b ∷ text, texts, e)

some_said : (labels : Form) (texts : List (List ℕ)) (text : List ℕ) (more : List (List ℕ)) (lines : List Line) → texts ≡ text ∷ more
    → lines_said labels texts ≡ Some lines → 0 < length (canonical_in labels lines)
unfolding lines_said
some_said labels texts text more lines e h =
    let m = mapped _ _ _ (ap (lines_said labels) (sym e) ∙ h) in
    subst (λ ls. 0 < length (canonical_in labels ls)) m.2 (some_canonical labels m.0.0 m.0.1)

pub reads_back : (bytes : List ℕ) (lines : List Line) → script_of bytes ≡ Some lines → length (canonical lines) ≤ 16777216 → script_of (canonical lines) ≡ Some lines
reads_back bytes lines h short =
    let p = read_parts bytes lines h in
    let labels : Form = form_in (lines_of bytes) in
    let told = told_in (lines_of bytes) lines p.0 p.1 in
    let back = all_back (lines_of bytes) lines p.0 p.1 in
    let t = some_text bytes in
    let few : length (canonical_in labels lines) ≤ 16777216 = subst (λ (form : Form). length (canonical_in form lines) ≤ 16777216) (sym told) short in
    subst (λ (form : Form). script_of (canonical_in form lines) ≡ Some lines) told
    (read_again labels lines (told_again (lines_of bytes) lines p.0 p.1) back.sound back.means few back.plain (some_said labels (lines_of bytes) t.0 t.1 lines t.2 p.1))
