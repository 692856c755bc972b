-- The canonical text of any line.
use Rattle.std.proofs.Common.{◌≡◌, ℕ, Bool, true, false, cond, List, [], ◌∷◌, ◌++◌, take, drop, Option, Some, None, option_map, ◌⊎◌, inl, inr, refl, sym, ap, ◌∙◌, subst, arith}
use Rattle.std.specs.{Prelude.codes, Option.{option_map_or, option_or}, Cmp.Lexicographic.same_text}
use Rattle.std.proofs.lemmas.{Bool.{false≢true, or_cases, or_parts}, List.{append-nil, take-append-drop}, Option.{same_Some, none-some}}
use Rattle.ix_model.specs.world.Naming.{same_bytes}
use Rattle.ix_script.specs.{texts.Cutting.{is_skipped, is_policy_line, policy_text, words_of, word_at}, lines.{Forms.form_of, Said.{said, said_by_words, version_of, line_of}}}
use Rattle.ix_script.specs.{lines.{Before.{form_told, has_policy, in_body}, Rules.{is_too_long, is_unprintable}}, declared.{line.Line.Line, form.Form.Form}}
use Rattle.ix_script.specs.lines.Faults.{text_fault, words_fault, form_fault, command_fault, policy_fault, body_fault, line_fault}
use Rattle.ix_script.{specs.scripts.Canonical.{line_words, line_text, has_one_spelling, may_be_respelled}, proofs.lines.{FirstWords.form_spelled, Faultless.one_kept}}
use Rattle.ix_text.specs.Bytes.{is_empty}
use Rattle.ix_label.specs.declared.form.Form.TheVariants.{One, Two}
use Rattle.ix_script.proofs.{reader.Told.{either, bound, neither}, lines.Deciding.{version_text, version_is, version_said, first_version, first_faultless}}
use Rattle.ix_script.proofs.back.{LineBack.{Back, Respelled, itself, skipped_several}, FormBack.form_spelled_again}
use Rattle.ix_label.specs.declared.form.Form as spelled
use Rattle.ix_script.specs.declared.line.Line.TheVariants as line

-- ---- where a line stands
pub body_sound : (before : List Line) (text : List ℕ) → line_fault before text ≡ None → body_fault before text ≡ None
unfolding line_fault
body_sound before text h = (neither _ _ h).1

-- a line that tells no form stands later
pub later_of : (before : List Line) (text : List ℕ) → version_of text ≡ None → line_fault before text ≡ None → is_empty before ≡ false
unfolding body_fault
later_of [] text other h = let v = first_version _ (body_sound [] _ h) in absurd (none-some v.0 (sym other ∙ v.1))
later_of (l ∷ before) text other h = refl

-- a text that looks otherwise than `ix 1` and `ix 2`
other_than : (look : List ℕ → Bool) → ((form : spelled.Form) → look (version_text form) ≡ false) → (text : List ℕ) → look text ≡ true → version_of text ≡ None
other_than look not_so text h = go _ refl
  where
    go : (o : Option spelled.Form) → version_of text ≡ o → o ≡ None
    go None is = refl
    go (Some form) is = absurd (false≢true (sym (not_so form) ∙ ap look (sym (version_is _ _ is)) ∙ h))

-- ---- a skipped line
not_version : (text : List ℕ) → is_skipped text ≡ true → version_of text ≡ None
not_version = other_than _ seen
  where
    seen : (form : spelled.Form) → is_skipped (version_text form) ≡ false
    seen One = refl
    seen Two = refl

skipped_back : (before : List Line) (text : List ℕ) → is_empty before ≡ false → Back before text (line_text (form_told before) line.Skipped) line.Skipped
unfolding line_words line_of line_fault text_fault is_too_long is_unprintable body_fault
skipped_back before text later = record {
  means = refl;
  sound = rw later refl;
  short = omega arith;
}

-- ---- `ix 1` and `ix 2`
pub version_spelled : (labels form : spelled.Form) → line_text labels (line.Version form) ≡ version_text form
unfolding line_words
version_spelled labels One = refl
version_spelled labels Two = refl

-- ---- the policy
policy_stands : (before : List Line) (text : List ℕ) → is_empty before ≡ false → is_skipped text ≡ false → is_policy_line text ≡ true
    → body_fault before text ≡ None → is_empty (policy_text text) ≡ false
unfolding body_fault policy_fault
policy_stands before text later seen policy h =
    let fault : policy_fault before text ≡ None = rw (later, seen, policy) at h in
    let late = one_kept 8 (in_body before) ((10, is_empty (policy_text text)) ∷ (20, has_policy before) ∷ []) fault in
    (one_kept 10 _ ((20, has_policy before) ∷ []) late.1).0

policy_no_version : (text : List ℕ) → is_policy_line text ≡ true → version_of text ≡ None
unfolding is_policy_line
policy_no_version = other_than _ seen
  where
    seen : (form : spelled.Form) → is_policy_line (version_text form) ≡ false
    seen One = refl
    seen Two = refl

policy_spelled : (labels : spelled.Form) (text : List ℕ) → is_policy_line text ≡ true → is_empty (policy_text text) ≡ false → text ≡ line_text labels (line.Policy (policy_text text))
unfolding is_policy_line line_words
policy_spelled labels text h some = elim (or_cases (same_bytes text (codes "policy")) (same_bytes (take 7 text) (codes "policy ")) h) [
  | inl e ↦ absurd (false≢true (sym some ∙ ap (λ t. is_empty (drop 7 t)) (same_text text _ (sym e))))
  | inr e ↦
      let whole = take-append-drop 7 text in
      let front = same_text _ (codes "policy ") (sym e) in
      sym whole ∙ ap (λ t. t ++ drop 7 text) front ∙ ap (λ t. codes "policy " ++ t) (sym (append-nil _))
]

-- ---- a line of a form
pub some_text : (text : List ℕ) → is_skipped text ≡ false → is_empty text ≡ false
some_text text h = (or_parts _ _ h).0

pub command_sound : (before : List Line) (text : List ℕ) → is_empty before ≡ false → is_skipped text ≡ false → is_policy_line text ≡ false
    → body_fault before text ≡ None → command_fault before (words_of text) ≡ None
unfolding body_fault
command_sound before text later seen other h = rw (later, seen, other) at h

pub command_parts : (before : List Line) (words : List (List ℕ)) (f : Form) → form_of (word_at words 0) ≡ Some f
    → command_fault before words ≡ None → (words_fault words ≡ None) × (form_fault before f words ≡ None)
unfolding command_fault
command_parts before words f h sound =
    let k = neither _ _ sound in
    (k.0, ap (λ o. option_map_or (λ g. form_fault before g words) o (Some 7)) (sym h) ∙ k.1)

formed : (before : List Line) (text : List ℕ) (l : Line) → line_of (form_told before) text ≡ Some l → line_fault before text ≡ None → is_empty before ≡ false
    → is_skipped text ≡ false → is_policy_line text ≡ false → said_by_words (form_told before) (words_of text) ≡ Some l
    → (line_text (form_told before) l ≡ text) ⊎ Respelled before text l
formed before text l means sound later seen other h =
    let m = bound (form_of (word_at (words_of text) 0)) (λ f. said (form_told before) f (words_of text)) l h in
    let k = command_parts before (words_of text) m.0 m.1 (command_sound before text later seen other (body_sound before text sound)) in
    form_spelled_again before text m.0 l (record {
      means = means;
      sound = sound;
      some = some_text text seen;
      later = later;
      first = form_spelled (word_at (words_of text) 0) m.0 m.1;
      tells = m.2;
      whole = k.0;
      fits = k.1;
    })

-- ---- any line
-- its text is the one that was read, but where it may have another
spelled_again : (before : List Line) (text : List ℕ) (l : Line) → line_of (form_told before) text ≡ Some l → line_fault before text ≡ None
    → (line_text (form_told before) l ≡ text) ⊎ Respelled before text l
unfolding line_of may_be_respelled
spelled_again before text l means sound =
    let labels : spelled.Form = form_told before in
    let rest : Option Line = option_or (option_map (λ form. line.Version form) (version_of text)) (said_by_words labels (words_of text)) in
    elim (either (is_skipped text) (Some line.Skipped) (cond (is_policy_line text) (Some (line.Policy (policy_text text))) rest) l means) [
      | inl p ↦ inr (record {
        several = skipped_several text p.0;
        respelled = ap may_be_respelled (sym (same_Some line.Skipped l p.1));
        back = subst (λ (k : Line). Back before text (line_text labels k) k) (same_Some line.Skipped l p.1) (skipped_back before text (later_of before text (not_version text p.0) sound));
      })
      | inr p ↦ elim (either (is_policy_line text) (Some (line.Policy (policy_text text))) rest l p.1) [
        | inl q ↦
            let there = policy_stands before text (later_of before text (policy_no_version text q.0) sound) p.0 q.0 (body_sound before text sound) in
            inl (sym (policy_spelled labels text q.0 there ∙ ap (line_text labels) (same_Some (line.Policy (policy_text text)) l q.1)))
        | inr q ↦ last p.0 q.0 (version_of text) refl q.1
      ]
    ]
  where
    last : is_skipped text ≡ false → is_policy_line text ≡ false → (o : Option spelled.Form) → version_of text ≡ o
        → option_or (option_map (λ form. line.Version form) o) (said_by_words (form_told before) (words_of text)) ≡ Some l
        → (line_text (form_told before) l ≡ text) ⊎ Respelled before text l
    last seen other None is h = formed before text l means sound (later_of before text is sound) seen other h
    last seen other (Some form) is h = inl (ap (line_text (form_told before)) (sym (same_Some (line.Version form) l h)) ∙ version_spelled (form_told before) form ∙ sym (version_is text form is))

pub line_back : (before : List Line) (text : List ℕ) (l : Line) → line_of (form_told before) text ≡ Some l → line_fault before text ≡ None → Back before text (line_text (form_told before) l) l
line_back before text l means sound = elim (spelled_again before text l means sound) [
  | inl e ↦ itself before text (line_text (form_told before) l) l (sym e) means sound
  | inr p ↦ p.back
]

-- the same, where the form is told by the lines before or by the line itself
text_in : (labels : spelled.Form) (before : List Line) (text : List ℕ) (l : Line) → (is_empty before ≡ false → form_told before ≡ labels) → line_of labels text ≡ Some l → line_fault before text ≡ None
    → (line_text labels l ≡ text) ⊎ ((has_one_spelling text ≡ false) × (may_be_respelled l ≡ true))
text_in labels [] text l told means sound =
    let v = first_version text (first_faultless text sound) in
    let is : line.Version v.0 ≡ l = same_Some (line.Version v.0) l (sym (version_said labels text v.0 v.1) ∙ means) in
    inl (ap (line_text labels) (sym is) ∙ version_spelled labels v.0 ∙ sym (version_is text v.0 v.1))
text_in labels (b ∷ before) text l told means sound =
    elim (spelled_again (b ∷ before) text l (subst (λ f. line_of f text ≡ Some l) (sym (told refl)) means) sound) [
      | inl e ↦ inl (subst (λ f. line_text f l ≡ text) (told refl) e)
      | inr p ↦ inr (p.several, p.respelled)
    ]

-- where it has no other spelling, it is the canonical text
pub one_text : (labels : spelled.Form) (before : List Line) (text : List ℕ) (l : Line) → (is_empty before ≡ false → form_told before ≡ labels)
    → line_of labels text ≡ Some l → line_fault before text ≡ None → has_one_spelling text ≡ true → line_text labels l ≡ text
one_text labels before text l told means sound one = elim (text_in labels before text l told means sound) [
  | inl e ↦ e
  | inr p ↦ absurd (false≢true (sym p.0 ∙ one))
]

-- and so is that of each line which isn't skipped and has no payload
pub own_text : (labels : spelled.Form) (before : List Line) (text : List ℕ) (l : Line) → (is_empty before ≡ false → form_told before ≡ labels)
    → line_of labels text ≡ Some l → line_fault before text ≡ None → may_be_respelled l ≡ false → line_text labels l ≡ text
own_text labels before text l told means sound one = elim (text_in labels before text l told means sound) [
  | inl e ↦ e
  | inr p ↦ absurd (false≢true (sym one ∙ p.1))
]
