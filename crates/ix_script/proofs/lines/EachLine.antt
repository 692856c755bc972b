-- What holds of each line that is read without a fault holds along a script.
use Rattle.std.proofs.Common.{◌≡◌, ℕ, true, nat_lt, List, [], ◌∷◌, ◌++◌, length, Option, Some, None, inl, inr, refl, sym, ap, ◌∙◌, subst}
use Rattle.std.{specs.{Prelude.unwrap_or, Option.{is_none, option_map_or}}, proofs.lemmas.{Bool.{cases_Bool, false≢true}, Option.{none-some, same_Some}}}
use Rattle.ix_label.specs.declared.form.Form.TheVariants.{One}
use Rattle.ix_script.specs.{texts.{Cutting.{is_skipped, is_policy_line, words_of, word_at}, Lines.lines_of}, lines.{Before.{form_by, form_told}, Faults.{line_fault, fault_from, fault_of}}}
use Rattle.ix_script.{specs.lines.{Kinds.places_fault, Forms.{form_of, places}, Said.{said, said_by_words, version_of, line_of}}, proofs.reader.Told.{mapped, paired, bound, either, neither}}
use Rattle.ix_script.specs.{scripts.Scripts.{form_in, lines_said, script_of}, declared.line.Line.Line}
use Rattle.ix_script.specs.lines.Faults.{or_next, words_fault, stand_fault, names_fault, said_fault, form_fault, command_fault, body_fault}
use Rattle.ix_script.proofs.lines.Deciding.{skipped_fits, version_fits, policy_fits, version_said, first_version, first_faultless, not_ix}
use Rattle.ix_label.specs.declared.form.Form as spelled
use Rattle.ix_script.specs.declared.line.Line.TheVariants as line

-- ---- faults of lines, one after another
neither_fault : (o : Option ℕ) (n : ℕ) (later : Option (ℕ × ℕ)) → or_next o n later ≡ None → (o ≡ None) × (later ≡ None)
neither_fault None n later h = (refl, h)
neither_fault (Some rule) n later h = absurd (none-some _ (sym h))

pub no_fault_from : (before : List Line) (text : List ℕ) (texts : List (List ℕ)) → fault_from before (text ∷ texts) ≡ None → (line_fault before text ≡ None)
    × (fault_from (before ++ unwrap_or (line_of (form_told before) text) line.Skipped ∷ []) texts ≡ None)
unfolding fault_from
no_fault_from before text texts h = neither_fault _ _ _ h

none_is : {A : Type 0} (o : Option A) → is_none o ≡ true → o ≡ None
none_is None h = refl
none_is (Some x) h = absurd (false≢true h)

-- the lines of a script have no fault, and are not too many
faultless : (bytes : List ℕ) → fault_of bytes ≡ None → fault_from [] (lines_of bytes) ≡ None
unfolding fault_of
faultless bytes h = elim (cases_Bool (nat_lt 16777216 (length bytes))) [
  | inl e ↦ absurd (none-some (1, 1) (sym (rw e at h)))
  | inr e ↦ rw e at h
]

pub read_parts : (bytes : List ℕ) (lines : List Line) → script_of bytes ≡ Some lines → (fault_from [] (lines_of bytes) ≡ None) × (lines_said (form_in (lines_of bytes)) (lines_of bytes) ≡ Some lines)
unfolding script_of
read_parts bytes lines h = elim (either (is_none (fault_of bytes)) _ _ _ h) [
  | inl p ↦ (faultless bytes (none_is (fault_of bytes) p.0), p.1)
  | inr p ↦ absurd (none-some lines p.1)
]

-- the lines of a script begin with the one that tells the form
pub first_told : (text : List ℕ) (texts : List (List ℕ)) (lines : List Line) → fault_from [] (text ∷ texts) ≡ None → lines_said (form_in (text ∷ texts)) (text ∷ texts) ≡ Some lines
    → (form : spelled.Form) × (rest : List Line) × (version_of text ≡ Some form) × (line.Version form ∷ rest ≡ lines) × (lines_said form texts ≡ Some rest)
unfolding form_in lines_said
first_told text texts lines sound means =
    let labels = unwrap_or (version_of text) One in
    let v = first_version _ (first_faultless _ (no_fault_from [] _ _ sound).0) in
    let m = mapped _ _ _ means in
    let p = paired _ _ m.0 m.1 in
    let is = same_Some _ m.0.0 (sym (version_said _ _ _ v.1) ∙ p.0) in
    (v.0, m.0.1, v.1, ap (λ l. l ∷ m.0.1) is ∙ m.2, subst (λ form. lines_said form texts ≡ Some m.0.1) (ap (λ o. unwrap_or o One) v.1) p.1)

-- ---- along a script
-- P holds of each of these lines, with those before it
abbrev pub Along : (List Line → Line → Type 0) → List Line → List Line → Type 0
Along P before [] = Unit
Along P before (l ∷ lines) = P before l × Along P (before ++ l ∷ []) lines

module _ (P : List Line → Line → Type 0) (each : (before : List Line) (text : List ℕ) (l : Line) → line_of (form_told before) text ≡ Some l → line_fault before text ≡ None → P before l) where
  later_along : (b : Line) (before : List Line) (texts : List (List ℕ)) (lines : List Line) → fault_from (b ∷ before) texts ≡ None
      → lines_said (form_by b) texts ≡ Some lines → Along P (b ∷ before) lines
  unfolding lines_said
  later_along b before [] lines sound means = subst (Along P (b ∷ before)) (same_Some [] lines means) tt
  later_along b before (text ∷ texts) lines sound means =
      let labels = form_by b in
      let m = mapped _ _ _ means in
      let p = paired _ _ m.0 m.1 in
      let f = no_fault_from _ _ _ sound in
      let after = ap (λ o. fault_from (b ∷ before ++ unwrap_or o line.Skipped ∷ []) texts) (sym p.0) ∙ f.1 in
      subst (Along P (b ∷ before)) m.2 (each _ _ _ p.0 f.0, later_along b (before ++ m.0.0 ∷ []) texts _ after p.1)

  all_along : (texts : List (List ℕ)) (lines : List Line) → fault_from [] texts ≡ None → lines_said (form_in texts) texts ≡ Some lines → Along P [] lines
  unfolding lines_said
  all_along [] lines sound means = subst (Along P []) (same_Some [] lines means) tt
  all_along (text ∷ texts) lines sound means =
      let k = first_told _ _ _ sound means in
      let x = line.Version k.0 in
      let said_so = version_said _ _ _ k.2 in
      let f = no_fault_from [] _ _ sound in
      let after = ap (λ o. fault_from (unwrap_or o line.Skipped ∷ []) texts) (sym said_so) ∙ f.1 in
      subst (Along P []) k.3 (each [] _ x said_so f.0, later_along x [] _ _ after k.4)

  pub along : (bytes : List ℕ) (lines : List Line) → script_of bytes ≡ Some lines → Along P [] lines
  along bytes lines h = let p = read_parts _ _ h in all_along _ _ p.0 p.1

-- ---- the rules on what a line says
-- a line without a fault breaks none of them
said_later : (labels : spelled.Form) (b : Line) (before : List Line) (text : List ℕ) (l : Line) → form_by b ≡ labels → body_fault (b ∷ before) text ≡ None
    → line_of labels text ≡ Some l → said_fault (b ∷ before) l ≡ None
unfolding body_fault line_of command_fault form_fault
said_later labels b before text l told h m = elim (cases_Bool (is_skipped text)) [
  | inl t ↦ let k : Some line.Skipped ≡ Some l = rw t at m in subst (λ (x : Line). said_fault (b ∷ before) x ≡ None) (same_Some line.Skipped l k) (skipped_fits (b ∷ before))
  | inr f ↦ elim (cases_Bool (is_policy_line text)) [
    | inl p ↦
        let x = line.Policy _ in
        let k : Some x ≡ Some l = rw (f, p) at m in subst (λ x. said_fault (b ∷ before) x ≡ None) (same_Some x l k) (policy_fits _ _)
    | inr q ↦
        let g : command_fault (b ∷ before) (words_of text) ≡ None = rw (f, q) at h in
        let k : said_by_words labels (words_of text) ≡ Some l = rw (f, q, not_ix (b ∷ before) text g) at m in
        let form = bound (form_of (word_at (words_of text) 0)) (λ f. said labels f (words_of text)) l k in
        let fits =
        ap (λ o. option_map_or (λ f. form_fault (b ∷ before) f (words_of text)) o (Some 7)) (sym form.1) ∙ (neither (words_fault (words_of text)) _ g).1 in
        let one = neither (stand_fault (b ∷ before) form.0 (words_of text)) _ fits in
        let two = neither (places_fault (places (form_by b) form.0 (words_of text))) _ one.1 in
        let three = neither (names_fault (b ∷ before) form.0 (words_of text)) _ two.1 in
        ap (λ o. option_map_or (said_fault (b ∷ before)) o None) (sym (subst (λ f. said f form.0 (words_of text) ≡ Some l) (sym told) form.2)) ∙ three.1
  ]
]

pub said_faultless : (before : List Line) (text : List ℕ) (l : Line) → line_of (form_told before) text ≡ Some l → line_fault before text ≡ None → said_fault before l ≡ None
unfolding line_fault
said_faultless [] text l means h =
    let v = first_version _ (first_faultless _ h) in
    subst (λ x. said_fault [] x ≡ None) (same_Some _ l (sym (version_said _ _ _ v.1) ∙ means)) (version_fits [] _)
said_faultless (b ∷ before) text l means h = said_later _ b _ _ l refl (neither _ _ h).1 means
