-- The canonical text of a line that was read is read as the same line, has no fault, and is no longer.
use Rattle.std.proofs.Common.{◌≡◌, ℕ, ◌^◌, ◌<◌, ◌≤◌, true, false, not, nat_le, List, [], ◌∷◌, ◌++◌, length, take, Some, None, inl, inr, refl, sym, ap, ◌∙◌, subst, arith}
use Rattle.std.proofs.{Math.Seq.take-append_seam, lemmas.{Bool.{cases_Bool, false≢true, not-false, leb-true}, List.{length-append, Folds.list_all-append}, Option.cond_some}}
use Rattle.std.specs.{Prelude.{codes, if◌then◌else◌}, List.list_all, Option.{option_or, option_map_or}}
use Rattle.ix_model.specs.{world.Naming.same_bytes, opening.Valid.is_within}
use Rattle.ix_script.specs.lines.{Before.form_told, Kinds.places_fault, Rules.{is_late, is_outside}, Said.{payload_within, said, version_of, line_of}}
use Rattle.ix_script.specs.texts.{Cutting.{is_skipped, is_policy_line, pieces, words_of, word_at}, Payloads.{◌>>=◌, payload_of}, Spellings.payload_text}
use Rattle.ix_script.specs.{scripts.Canonical.{line_words, line_text, has_one_spelling, may_be_respelled}, declared.{line.Line.Line, form.Form.Form}}
use Rattle.ix_text.{specs.{Bytes.{is_empty, begins}, Spellings.{further, joined}}, proofs.Tests.{both as both_true, join_tests}}
use Rattle.ix_script.specs.lines.Forms.{form_of, frame_form, group_form, plain_of, on_path_of, on_fd_of, counted_of, file_form, has_right_count, places}
use Rattle.ix_script.specs.lines.Faults.{text_fault, words_fault, stand_fault, names_fault, said_fault, form_fault, command_fault, line_fault, body_fault}
use Rattle.ix_script.proofs.{reader.Told.{bound, neither, neither_from}, lines.{FirstWords.form_word, Faultless.{one_kept, text_parts, text_from, words_again}}}
use Rattle.ix_script.proofs.{texts.Cuts.{words_joined, words_some, cut_again}, back.{PayloadBack.Spells, QuotesBack.payload_spells, Shorter.payload_longer}}
use Rattle.ix_label.specs.declared.form.Form as spelled
use Rattle.ix_script.specs.declared.form.Form.TheVariants as form
use Rattle.ix_script.specs.declared.words.Spot.TheVariants as spot

-- a text that stands for another
pub record Back (before : List Line) (text again : List ℕ) (l : Line) : Type 0 where
  pub means : line_of (form_told before) again ≡ Some l
  pub sound : line_fault before again ≡ None
  pub short : length again ≤ length text

-- a line whose text may have another spelling
pub record Respelled (before : List Line) (text : List ℕ) (l : Line) : Type 0 where
  pub several : has_one_spelling text ≡ false
  pub respelled : may_be_respelled l ≡ true
  pub back : Back before text (line_text (form_told before) l) l

-- what is known of a line of a form
pub record Formed (before : List Line) (text : List ℕ) (f : Form) (l : Line) : Type 0 where
  pub means : line_of (form_told before) text ≡ Some l
  pub sound : line_fault before text ≡ None
  pub some : is_empty text ≡ false
  pub later : is_empty before ≡ false
  pub first : form_word f ≡ word_at (words_of text) 0
  pub tells : said (form_told before) f (words_of text) ≡ Some l
  pub whole : words_fault (words_of text) ≡ None
  pub fits : form_fault before f (words_of text) ≡ None

-- the same text
pub itself : (before : List Line) (text again : List ℕ) (l : Line) → text ≡ again → line_of (form_told before) text ≡ Some l → line_fault before text ≡ None → Back before text again l
itself before text again l e means sound = record {
  means = ap (line_of (form_told before)) (sym e) ∙ means;
  sound = ap (line_fault before) (sym e) ∙ sound;
  short = omega (arith, ap length e);
}

-- ---- a line without a payload
pub right_count : (before : List Line) (f : Form) (words : List (List ℕ)) → form_fault before f words ≡ None → has_right_count f words ≡ true
unfolding form_fault stand_fault
right_count before f words h =
    let stand = (neither _ (option_or (places_fault (places (form_told before) f words))
    (option_or (names_fault before f words) (option_map_or (said_fault before) (said (form_told before) f words) None))) h).0 in
    let late = one_kept 8 (is_late before f) ((9, is_outside before f) ∷ (10, not _) ∷ []) stand in
    let outside = one_kept 9 (is_outside before f) ((10, not _) ∷ []) late.1 in
    let count = one_kept 10 _ [] outside.1 in
    not-false _ count.0

-- ---- a line that has several spellings
-- a text begins with its first word
pub front_of : (words : List (List ℕ)) (text first : List ℕ) → is_empty first ≡ false → first ≡ word_at words 0 → joined 32 words ≡ text → take (length first) text ≡ first
front_of [] text first some h whole = absurd (false≢true (sym some ∙ ap is_empty h))
front_of (word ∷ words) text first some h whole =
    ap (take _) (sym whole) ∙ ap (λ w. take (length first) (w ++ further 32 words)) (sym h) ∙ take-append_seam first (further 32 words)

pub skipped_several : (text : List ℕ) → is_skipped text ≡ true → has_one_spelling text ≡ false
unfolding has_one_spelling
skipped_several text h = rw h refl

pub write_several : (text : List ℕ) → take 5 text ≡ codes "write" → has_one_spelling text ≡ false
unfolding has_one_spelling
write_several text h = elim (cases_Bool (is_skipped text)) [
  | inl e ↦ rw e refl
  | inr e ↦ rw (e, h) refl
]

pub file_several : (text : List ℕ) → take 4 text ≡ codes "file" → has_one_spelling text ≡ false
unfolding has_one_spelling
file_several text h = elim (cases_Bool (is_skipped text)) [
  | inl e ↦ rw e refl
  | inr e ↦ elim (cases_Bool (same_bytes (take 5 text) (codes "write"))) [
    | inl w ↦ rw (e, w) refl
    | inr w ↦ rw (e, w, h) refl
  ]
]

-- ---- a payload
-- a payload that fits, and its shortest spelling
pub record Shortest (most : ℕ) (p : List ℕ) (bytes : List ℕ) : Type 0 where
  pub spells : Spells bytes (payload_text bytes)
  pub short : length (payload_text bytes) ≤ length p
  pub alike : payload_of p ≡ payload_of (payload_text bytes)
  pub within : payload_within most p ≡ payload_within most (payload_text bytes)

pub fitting : (most : ℕ) (p bytes : List ℕ) → most < 2 ^ 64 → list_all (is_within 32 126) p ≡ true → payload_within most p ≡ Some bytes → Shortest most p bytes
fitting most p bytes few printable h =
    let m = bound (payload_of p) (λ bs. if nat_le (length bs) most then Some bs else None) bytes h in
    let c = cond_some (nat_le (length m.0) most) m.0 bytes m.2 in
    let read : payload_of p ≡ Some bytes = m.1 ∙ ap (λ (bs : List ℕ). Some bs) c.1 in
    let le : length m.0 ≤ most = leb-true (length m.0) most c.0 in
    let small : length bytes < 2 ^ 64 = omega (arith, ap length c.1) in
    let k = payload_longer p bytes printable small read in
    let s = payload_spells bytes k.1 small in
    let same_read : payload_of p ≡ payload_of (payload_text bytes) = read ∙ sym s.read in
    record {
      spells = s;
      short = k.0;
      alike = same_read;
      within = ap (λ o. o >>= λ bs. if nat_le (length bs) most then Some bs else None) same_read;
    }

-- the last word is printable, where the text is
pub last_printable : (front : List (List ℕ)) (p : List ℕ) → list_all (is_within 32 126) (joined 32 (front ++ p ∷ [])) ≡ true → list_all (is_within 32 126) p ≡ true
last_printable [] p h = (both_true _ true (sym (list_all-append _ p []) ∙ h)).0
last_printable (word ∷ front) p h =
    let parts = both_true (list_all _ word) _ (sym (list_all-append _ word _) ∙ h) in
    further_printable front p parts.1
  where
    further_printable : (front : List (List ℕ)) (p : List ℕ) → list_all (is_within 32 126) (further 32 (front ++ p ∷ [])) ≡ true → list_all (is_within 32 126) p ≡ true
    further_printable [] p h = (both_true _ true (sym (list_all-append _ p []) ∙ h)).0
    further_printable (word ∷ front) p h =
        let parts = both_true _ _ (sym (list_all-append _ word _) ∙ h) in
        further_printable front p parts.1

-- another last word, no longer and printable
further_other : (front : List (List ℕ)) (p q : List ℕ) → length q ≤ length p → list_all (is_within 32 126) q ≡ true
    → list_all (is_within 32 126) (further 32 (front ++ p ∷ [])) ≡ true → (length (further 32 (front ++ q ∷ [])) ≤ length (further 32 (front ++ p ∷ [])))
    × (list_all (is_within 32 126) (further 32 (front ++ q ∷ [])) ≡ true)
further_other [] p q short fine h = (omega (arith, length-append q [], length-append p []), list_all-append _ q [] ∙ join_tests _ _ fine refl)
further_other (word ∷ front) p q short fine h =
    let parts = both_true _ _ (sym (list_all-append _ word _) ∙ h) in
    let k = further_other front p q short fine parts.1 in (
      omega (arith, k.0, length-append word (further 32 (front ++ q ∷ [])), length-append word (further 32 (front ++ p ∷ []))),
      list_all-append _ word _ ∙ join_tests _ _ parts.0 k.1,
    )

joined_other : (first : List ℕ) (front : List (List ℕ)) (p q : List ℕ) → length q ≤ length p → list_all (is_within 32 126) q ≡ true
    → list_all (is_within 32 126) (joined 32 (first ∷ (front ++ p ∷ []))) ≡ true
    → (length (joined 32 (first ∷ (front ++ q ∷ []))) ≤ length (joined 32 (first ∷ (front ++ p ∷ []))))
    × (list_all (is_within 32 126) (joined 32 (first ∷ (front ++ q ∷ []))) ≡ true)
joined_other first front p q short fine h =
    let parts = both_true _ _ (sym (list_all-append _ first _) ∙ h) in
    let k = further_other front p q short fine parts.1 in (
      omega (arith, k.0, length-append first (further 32 (front ++ q ∷ [])), length-append first (further 32 (front ++ p ∷ []))),
      list_all-append _ first _ ∙ join_tests _ _ parts.0 k.1,
    )

-- ---- a line with a payload
-- a text that begins as a command does is cut into words
pub record Begins (first : List ℕ) (f : Form) : Type 0 where
  form : form_of first ≡ Some f
  some : (rest : List (List ℕ)) → is_empty (joined 32 (first ∷ rest)) ≡ false
  not_skipped : (rest : List (List ℕ)) → is_skipped (joined 32 (first ∷ rest)) ≡ false
  not_version : (rest : List (List ℕ)) → version_of (joined 32 (first ∷ rest)) ≡ None
  not_policy : (rest : List (List ℕ)) → is_policy_line (joined 32 (first ∷ rest)) ≡ false

pub file_begins : Begins (codes "file") form.File
unfolding form_of frame_form is_policy_line version_of
file_begins = record { form = refl; some = λ rest. refl; not_skipped = λ rest. refl; not_version = λ rest. refl; not_policy = λ rest. refl }

pub write_begins : Begins (codes "write") form.Write
unfolding form_of frame_form group_form plain_of on_path_of on_fd_of counted_of file_form is_policy_line version_of
write_begins = record { form = refl; some = λ rest. refl; not_skipped = λ rest. refl; not_version = λ rest. refl; not_policy = λ rest. refl }

means_by_words : (labels : spelled.Form) (first : List ℕ) (rest : List (List ℕ)) (f : Form) → Begins first f → words_of (joined 32 (first ∷ rest)) ≡ first
    ∷ rest → line_of labels (joined 32 (first ∷ rest)) ≡ said labels f (first ∷ rest)
unfolding line_of
means_by_words labels first rest f k cut = rw (k.not_skipped, k.not_version, k.not_policy, cut) (ap (λ o. o >>= λ g. said labels g (first ∷ rest)) k.form)

sound_by_words : (before : List Line) (first : List ℕ) (rest : List (List ℕ)) (f : Form) → Begins first f → words_of (joined 32 (first ∷ rest)) ≡ first ∷ rest
    → is_empty before ≡ false → text_fault (joined 32 (first ∷ rest)) ≡ None → words_fault (first ∷ rest) ≡ None → form_fault before f (first ∷ rest) ≡ None
    → line_fault before (joined 32 (first ∷ rest)) ≡ None
unfolding line_fault body_fault command_fault
sound_by_words before first rest f k cut later fine whole fits = neither_from _ _ fine (rw (later, k.not_skipped, k.not_policy, cut)
    (neither_from _ _ whole (ap (λ o. option_map_or (λ g. form_fault before g (first ∷ rest)) o (Some 7)) k.form ∙ fits)))

pub payload_back : (before : List Line) (text : List ℕ) (f : Form) (l : Line) (most : ℕ) (first : List ℕ) (front : List (List ℕ)) (p bytes : List ℕ)
    → Begins first f → Formed before text f l → Shortest most p bytes → words_of text ≡ first ∷ (front ++ p ∷ [])
    → form_fault before f (first ∷ (front ++ p ∷ [])) ≡ form_fault before f (first ∷ (front ++ payload_text bytes ∷ []))
    → said (form_told before) f (first ∷ (front ++ p ∷ [])) ≡ said (form_told before) f (first ∷ (front ++ payload_text bytes ∷ []))
    → line_words (form_told before) l ≡ first ∷ (front ++ payload_text bytes ∷ []) → Back before text (line_text (form_told before) l) l
unfolding line_fault
payload_back before text f l most first front p bytes begins k s cut fits tells words =
    let q = payload_text bytes in
    let whole = ap (joined 32) (sym cut) ∙ words_joined _ in
    let fine = text_parts _ (neither_text _ _ k.sound) in
    let other = joined_other first front p q s.short s.spells.printable (ap (list_all (is_within 32 126)) whole ∙ fine.1) in
    let long : length (joined 32 (first ∷ (front ++ p ∷ []))) ≡ length text = ap length whole in
    let pieces_are : pieces spot.Front (joined 32 (first ∷ (front ++ p ∷ []))) ≡ first ∷ (front ++ p ∷ []) = ap (pieces spot.Front) whole ∙ sym (words_some text k.some) ∙ cut in
    let again : words_of (joined 32 (first ∷ (front ++ q ∷ []))) ≡ first ∷ (front ++ q ∷ []) =
    words_some (joined 32 (first ∷ (front ++ q ∷ []))) (begins.some (front ++ q ∷ [])) ∙ cut_again (first ∷ front) p q pieces_are s.spells.whole in
    let means : line_of (form_told before) (joined 32 (first ∷ (front ++ q ∷ []))) ≡ Some l =
    means_by_words (form_told before) first (front ++ q ∷ []) f begins again ∙ sym tells ∙ ap (said (form_told before) f) (sym cut) ∙ k.tells in
    let fine_text : text_fault (joined 32 (first ∷ (front ++ q ∷ []))) ≡ None = text_from (joined 32 (first ∷ (front ++ q ∷ []))) (omega (arith, fine.0, other.0)) other.1 in
    let whole_words : words_fault (first ∷ (front ++ q ∷ [])) ≡ None = words_again (first ∷ front) p q (ap words_fault (sym cut) ∙ k.whole) s.spells.some s.spells.closed in
    let fits_again : form_fault before f (first ∷ (front ++ q ∷ [])) ≡ None = sym fits ∙ ap (form_fault before f) (sym cut) ∙ k.fits in
    let sound : line_fault before (joined 32 (first ∷ (front ++ q ∷ []))) ≡ None = sound_by_words before first (front ++ q ∷ []) f begins again k.later fine_text whole_words fits_again in
    let short : length (joined 32 (first ∷ (front ++ q ∷ []))) ≤ length text = omega (arith, other.0) in
    subst (λ ws. Back before text (joined 32 ws) l) (sym words) (record { means = means; sound = sound; short = short })
  where
    neither_text : (before : List Line) (text : List ℕ) → line_fault before text ≡ None → text_fault text ≡ None
    neither_text before text h = (neither (text_fault text) (body_fault before text) h).0
