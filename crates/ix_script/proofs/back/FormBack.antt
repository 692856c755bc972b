-- The canonical text of a line of each form.
use Rattle.std.proofs.Common.{◌≡◌, ℕ, true, ◌==◌, List, [], ◌∷◌, ◌++◌, length, None, ◌⊎◌, inl, inr, refl, sym, ap, ◌∙◌, subst, arith}
use Rattle.std.{specs.{Prelude.codes, List.list_all, Option.{option_or, option_map_or}}, proofs.lemmas.Bool.eqb-true}
use Rattle.ix_model.specs.opening.Valid.{is_within}
use Rattle.ix_script.{specs.lines.{Before.form_told, Kinds.places_fault, Forms.places, Said.{payload_within, said}}, proofs.back.LineBack.{write_begins, payload_back}}
use Rattle.ix_script.specs.lines.Faults.{line_fault, text_fault, body_fault, stand_fault, names_fault, said_fault, form_fault}
use Rattle.ix_script.specs.texts.{Cutting.{words_of, word_at}, Words.{made_path_of, state_of, fd_of}, Spellings.payload_text}
use Rattle.ix_script.specs.{scripts.Canonical.{line_words, line_text, may_be_respelled}, declared.{line.Line.Line, form.Form.Form}}
use Rattle.ix_text.specs.{Labels.label_in, Names.name_of, Privs.privs_of, Spellings.joined}
use Rattle.ix_script.proofs.{reader.Told.neither, lines.Faultless.{text_parts, payload_alike}, texts.Cuts.words_joined}
use Rattle.ix_script.proofs.back.OneSpelling.{name_spelled, label_spelled, privs_spelled, made_path_spelled, state_spelled, fd_spelled}
use Rattle.ix_script.proofs.lines.FormWords.{words_from, exactly, same, no_tail, of_3, of_6, words_again}
use Rattle.ix_script.proofs.back.LineBack.{Respelled, Formed, right_count, front_of, write_several, file_several, fitting, last_printable, file_begins}
use Rattle.ix_label.specs.declared.form.Form as spelled
use Rattle.ix_script.specs.lines.Kinds as kind
use Rattle.ix_script.specs.declared.line.Line.TheVariants as line
use Rattle.ix_script.specs.declared.form.Form.TheVariants as form

-- the text of a line without a fault is printable
printable_line : (before : List Line) (text : List ℕ) → line_fault before text ≡ None → list_all (is_within 32 126) text ≡ true
unfolding line_fault
printable_line before text h = (text_parts text (neither (text_fault text) (body_fault before text) h).0).1

-- and so is its last word
pub printable_word : (before : List Line) (text : List ℕ) (front : List (List ℕ)) (p : List ℕ) → line_fault before text ≡ None → front ++ p ∷ [] ≡ words_of text → list_all (is_within 32 126) p ≡ true
printable_word before text front p sound cut =
    last_printable front p (ap (list_all (is_within 32 126)) (ap (joined 32) cut ∙ words_joined text) ∙ printable_line before text sound)

-- words that say the same, with places, names and a stand that are as faulty, fit as well
fits_alike : (before : List Line) (f : Form) (ps qs : List (List ℕ)) → stand_fault before f ps ≡ stand_fault before f qs
    → places_fault (places (form_told before) f ps) ≡ places_fault (places (form_told before) f qs) → names_fault before f ps ≡ names_fault before f qs
    → said (form_told before) f ps ≡ said (form_told before) f qs → form_fault before f ps ≡ form_fault before f qs
unfolding form_fault
fits_alike before f ps qs stand placed named tells =
    λ i. option_or (stand i) (option_or (placed i) (option_or (named i) (option_map_or (said_fault before) (tells i) None)))

-- ---- `write`
write_said : (labels : spelled.Form) (w x f p q : List ℕ) → payload_within 4096 p ≡ payload_within 4096 q → said labels form.Write (w ∷ x ∷ f ∷ p ∷ []) ≡ said labels form.Write (w ∷ x ∷ f ∷ q ∷ [])
write_said labels w x f p q h = rw h refl

write_back : (before : List Line) (text : List ℕ) (l : Line) → Formed before text form.Write l → Respelled before text l
unfolding line_words may_be_respelled stand_fault names_fault
write_back before text l k =
    let words : List (List ℕ) = words_of text in
    let n : length words ≡ 4 = eqb-true (length words) 4 (no_tail (length words == 4) (right_count before form.Write words k.fits)) in
    let cut : words_from 0 4 words ≡ words = exactly 4 words n in
    let x : List ℕ = word_at words 1 in let f : List ℕ = word_at words 2 in let p : List ℕ = word_at words 3 in
    let m = of_3 (λ a b c. line.Write a b c) (name_of x) (fd_of f) (payload_within 4096 p) l k.tells in
    let s = fitting 4096 p m.2 (omega arith) (printable_word before text (word_at words 0 ∷ x ∷ f ∷ []) p k.sound cut) m.5 in
    let tells = write_said (form_told before) (codes "write") x f p (payload_text m.2) s.within in
    record {
      several = write_several text (front_of words text (codes "write") refl k.first (words_joined text));
      respelled = ap may_be_respelled (sym m.6);
      back = payload_back before text form.Write l 4096 (codes "write") (x ∷ f ∷ []) p m.2 write_begins k s
          (sym cut ∙ ap (λ w. w ∷ x ∷ f ∷ p ∷ []) (sym k.first)) (fits_alike before form.Write _ _ refl (payload_alike ((kind.Proc, x) ∷ (kind.Fd, f) ∷ []) 4096 _ _ s.alike) refl tells) tells
          (ap (line_words (form_told before)) (sym m.6) ∙ same refl (same (name_spelled x m.0 m.3) (same (fd_spelled f m.1 m.4) refl)));
    }

-- ---- `file`
file_said : (labels : spelled.Form) (w a b c d e p q : List ℕ) → payload_within 1048576 p ≡ payload_within 1048576 q
    → said labels form.File (w ∷ a ∷ b ∷ c ∷ d ∷ e ∷ p ∷ []) ≡ said labels form.File (w ∷ a ∷ b ∷ c ∷ d ∷ e ∷ q ∷ [])
file_said labels w a b c d e p q h = rw h refl

file_back : (before : List Line) (text : List ℕ) (l : Line) → Formed before text form.File l → Respelled before text l
unfolding line_words may_be_respelled stand_fault names_fault
file_back before text l k =
    let words : List (List ℕ) = words_of text in
    let n : length words ≡ 7 = eqb-true (length words) 7 (no_tail (length words == 7) (right_count before form.File words k.fits)) in
    let cut : words_from 0 7 words ≡ words = exactly 7 words n in
    let a : List ℕ = word_at words 1 in let b : List ℕ = word_at words 2 in let c : List ℕ = word_at words 3 in
    let d : List ℕ = word_at words 4 in let e : List ℕ = word_at words 5 in let p : List ℕ = word_at words 6 in
    let m = of_6 (λ t u v x y z. line.File t u v x y z) (made_path_of a) (label_in (form_told before) b) (state_of c) (privs_of d) (privs_of e) (payload_within 1048576 p) l k.tells in
    let s = fitting 1048576 p m.5 (omega arith) (printable_word before text (word_at words 0 ∷ a ∷ b ∷ c ∷ d ∷ e ∷ []) p k.sound cut) m.11 in
    let tells = file_said (form_told before) (codes "file") a b c d e p (payload_text m.5) s.within in
    record {
      several = file_several text (front_of words text (codes "file") refl k.first (words_joined text));
      respelled = ap may_be_respelled (sym m.12);
      back = payload_back before text form.File l 1048576 (codes "file") (a ∷ b ∷ c ∷ d ∷ e ∷ []) p m.5 file_begins k s
          (sym cut ∙ ap (λ w. w ∷ a ∷ b ∷ c ∷ d ∷ e ∷ p ∷ []) (sym k.first)) (fits_alike before form.File _ _ refl
          (payload_alike ((kind.MadePath, a) ∷ (kind.Label (form_told before), b) ∷ (kind.State, c) ∷ (kind.Privs, d) ∷ (kind.Privs, e) ∷ []) 1048576 _ _ s.alike) refl tells) tells
          (ap (line_words (form_told before)) (sym m.12) ∙ same refl (same (made_path_spelled a m.0 m.6) (same (label_spelled (form_told before) b m.1 m.7)
          (same (state_spelled c m.2 m.8) (same (privs_spelled d m.3 m.9) (same (privs_spelled e m.4 m.10) refl))))));
    }

-- ---- each form
-- the text of a line of a form is the one that was read, but where the line has a payload
pub form_spelled_again : (before : List Line) (text : List ℕ) (f : Form) (l : Line) → Formed before text f l → (line_text (form_told before) l ≡ text) ⊎ Respelled before text l
form_spelled_again before text f l k =
    elim (words_again (form_told before) (words_of text) l f k.first (right_count before f (words_of text) k.fits) k.tells) [
      | inl e ↦ inr (write_back before text l (subst (λ f. Formed before text f l) e k))
      | inr (inl e) ↦ inr (file_back before text l (subst (λ f. Formed before text f l) e k))
      | inr (inr e) ↦ inl (ap (joined 32) e ∙ words_joined text)
    ]
