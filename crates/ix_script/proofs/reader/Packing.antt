-- Lines that are held as their texts.
use Rattle.std.proofs.Common.{◌≡◌, ℕ, zero, suc, ◌+◌, ◌-◌, ◌<◌, ◌≤◌, List, [], ◌∷◌, ◌++◌, length, take, drop, get_or, Some, None, false, true≢false, refl, sym}
use Rattle.std.proofs.Common.{ap, ◌∙◌, subst, arith, drop-drop, length-drop, length-take}
use Rattle.std.specs.{List.slice_get, Prelude.unwrap_or, Option.option_map_or}
use Rattle.std.proofs.lemmas.Option.{none-some, same_Some}
use Rattle.ix_label.specs.declared.form.Form as spelled
use Rattle.ix_label.specs.declared.form.Form.TheVariants.{One}
use Rattle.ix_script.specs.{texts.Cutting.{word_at, words_of, is_skipped, is_policy_line}, lines.Before.{form_by, form_told}, lines.Said.{version_of, line_of}}
use Rattle.ix_script.specs.{lines.Kinds.places_fault, lines.Forms.{form_of, places}, reader.Readers.LineRight, declared.line.Line.Line}
use Rattle.ix_script.specs.lines.Faults.{text_fault, words_fault, stand_fault, form_fault, command_fault, body_fault, line_fault}
use Rattle.ix_script.specs.scripts.Packed.{FrontOf, IsLine, IsNext, IsSaid, line_in, begin_at, between, held, AreLines}
use Rattle.ix_text.specs.Bytes.{is_empty}
use Rattle.ix_script.proofs.{lines.Deciding.{first_version, first_faultless, version_said}, reader.Told.neither}
use Rattle.ix_script.specs.declared.line.Line.TheVariants as line

-- ---- one line more
pushed : (labels : spelled.Form) (from : ℕ) (text ends : List ℕ) (end : ℕ)
    → held labels from text (ends ++ end ∷ []) ≡ held labels from text ends ++ line_in labels (between (begin_at from ends (length ends)) end text) ∷ []
pushed labels from text [] end = refl
pushed labels from text (e ∷ ends) end = ap (λ ls. line_in labels (between from e text) ∷ ls) (pushed labels (suc e) text ends end)

stay_lines : (labels : spelled.Form) (from : ℕ) (text ends : List ℕ) (end : ℕ) → begin_at from ends (length ends) ≤ end → end ≤ length text
    → IsLine labels (between (begin_at from ends (length ends)) end text) → AreLines labels from text ends → AreLines labels from text (ends ++ end ∷ [])
stay_lines labels from text [] end low high l h = (low, high, l, tt)
stay_lines labels from text (e ∷ ends) end low high l h = (h.0, h.1, h.2, stay_lines labels (suc e) text ends end low high l h.3)

begin_next : (from : ℕ) (ends : List ℕ) (end : ℕ) → begin_at from (ends ++ end ∷ []) (length (ends ++ end ∷ [])) ≡ suc end
begin_next from [] end = refl
begin_next from (e ∷ ends) end = begin_next (suc e) ends end

-- the first line tells the form, and no later one
form_stays : (old new : spelled.Form) (text ends : List ℕ) (l : Line) → old ≡ form_told (held old 0 text ends) → new ≡ form_told (held old 0 text ends ++ l ∷ []) → AreLines old 0 text ends
    → (AreLines new 0 text ends) × (held new 0 text ends ≡ held old 0 text ends)
form_stays old new text [] l was is h = (h, refl)
form_stays old new text (end ∷ ends) l was is h =
    let same : old ≡ new = was ∙ sym is in
    (subst (λ f. AreLines f 0 text (end ∷ ends)) same h, ap (λ f. held f 0 text (end ∷ ends)) (sym same))

-- lines that are held as these ends, of which one is more
pub record OneMore (labels : spelled.Form) (said : List Line) (text more ends : List ℕ) (at : ℕ) : Type 0 where
  pub lines : IsLine labels more → AreLines labels 0 text ends
  pub held_is : held labels 0 text ends ≡ said ++ line_in labels more ∷ []
  pub begins : at ≡ begin_at 0 ends (length ends)

pub one_more : {old labels : spelled.Form} {text more ends2 : List ℕ} {at end : ℕ} (l : Line) (ends : List ℕ) → ends2 ≡ ends ++ end ∷ [] → at ≡ begin_at 0 ends (length ends) → end ≡ at + length more
    → IsNext (record { text = text; said = held old 0 text ends; at = at }) more → old ≡ form_told (held old 0 text ends) → labels ≡ form_told (held old 0 text ends ++ l ∷ [])
    → AreLines old 0 text ends → OneMore labels (held old 0 text ends) text more ends2 (suc end)
one_more {old} {labels} {text} {more} {end = end} l ends e begins n next told is lines =
    let stays = form_stays old labels text ends l told is lines in
    let here : between (begin_at 0 ends (length ends)) end text ≡ more = (λ i. between (sym begins i) (n i) text) ∙ next.here in
    record {
      lines = λ line. rw e (stay_lines labels 0 text ends end (omega (arith, begins, n)) (omega (arith, n, next.within)) (subst (IsLine labels) (sym here) line) stays.0);
      held_is = rw e (pushed labels 0 text ends end) ∙ (λ i. stays.1 i ++ line_in labels (here i) ∷ []);
      begins = rw e (sym (begin_next 0 ends end));
    }

-- the first line of what is left comes next
pub comes_next : (f : FrontOf) (bytes rest text : List ℕ) → f.text ≡ bytes → rest ≡ drop f.at bytes → 0 < length rest → text ≡ take (length text) rest → IsNext f text
comes_next f bytes rest text is at some front =
    let n : f.at + length text - f.at ≡ length text = omega arith in
    record {
      within = omega (arith, some, ap length at, length-drop f.at bytes, ap length front, length-take (length text) rest, ap length is);
      here = ap (λ k. take k (drop f.at f.text)) n ∙ ap (λ b. take (length text) (drop f.at b)) is ∙ ap (take (length text)) (sym at) ∙ sym front;
    }

-- a line that is read breaks no rule, and means what was read, in the form that the lines tell with it
is_said : (labels : spelled.Form) (text : List ℕ) (l : Line) → line_of labels text ≡ Some l → (line_of labels text ≡ Some (line_in labels text)) × (line_in labels text ≡ l)
is_said labels text l means = let is : line_in labels text ≡ l = ap (λ o. unwrap_or o line.Skipped) means in (means ∙ ap (λ x. Some x) (sym is), is)

pub right_line : (before : List Line) (l : Line) (text : List ℕ) {labels : spelled.Form} → labels ≡ form_told (before ++ l ∷ [])
    → LineRight before l (line_fault before text) (line_of (form_told before) text) → IsLine labels text × (line_in labels text ≡ l)
right_line [] l text told right =
    let v = first_version text (first_faultless text right.faultless) in
    let is : line.Version v.0 ≡ l = same_Some (line.Version v.0) l (sym (version_said One text v.0 v.1) ∙ right.meant) in
    let s = is_said (form_by l) text l (version_said (form_by l) text v.0 v.1 ∙ ap (λ x. Some x) is) in
    rw told (record { said = s.0; before = []; told = λ some. absurd (true≢false some); faultless = right.faultless }, s.1)
right_line (b ∷ before) l text told right =
    let s = is_said (form_by b) text l right.meant in
    rw told (record { said = s.0; before = b ∷ before; told = λ some. refl; faultless = right.faultless }, s.1)

-- behind other lines their form is told already
pub right_later : (before : List Line) (l : Line) (text : List ℕ) {labels : spelled.Form} → is_empty before ≡ false → labels ≡ form_told before
    → LineRight before l (line_fault before text) (line_of (form_told before) text) → IsLine labels text × (line_in labels text ≡ l)
right_later [] l text later told right = cc
right_later (b ∷ before) l text later told right = right_line (b ∷ before) l text told right

-- ---- a line by its number
pub length-held : (labels : spelled.Form) (from : ℕ) (text ends : List ℕ) → length (held labels from text ends) ≡ length ends
length-held labels from text [] = refl
length-held labels from text (end ∷ ends) = ap suc (length-held labels (suc end) text ends)

pub begin_later : (from : ℕ) (ends : List ℕ) (i : ℕ) → i < length ends → begin_at from ends (suc i) ≡ suc (get_or ends i 0)
begin_later from [] i h = absurd (omega arith)
begin_later from (end ∷ ends) zero h = refl
begin_later from (end ∷ ends) (suc i) h = begin_later (suc end) ends i (omega arith)

pub record LineAt (labels : spelled.Form) (from : ℕ) (text ends : List ℕ) (i : ℕ) : Type 0 where
  pub low : begin_at from ends i ≤ get_or ends i 0
  pub high : get_or ends i 0 ≤ length text
  pub line : IsLine labels (between (begin_at from ends i) (get_or ends i 0) text)
  pub is : slice_get (held labels from text ends) i ≡ Some (line_in labels (between (begin_at from ends i) (get_or ends i 0) text))

pub line_at : (labels : spelled.Form) (from : ℕ) (text ends : List ℕ) (i : ℕ) → AreLines labels from text ends → i < length ends → LineAt labels from text ends i
line_at labels from text [] i h few = absurd (omega arith)
line_at labels from text (end ∷ ends) zero h few = record { low = h.0; high = h.1; line = h.2; is = refl }
line_at labels from text (end ∷ ends) (suc i) h few =
    let l = line_at labels (suc end) text ends i h.3 (omega arith) in
    record { low = l.low; high = l.high; line = l.line; is = l.is }

-- ---- what the words of a line say
said_by : (before : List Line) (words : List (List ℕ)) → command_fault before words ≡ None → IsSaid (form_told before) words
unfolding command_fault form_fault
said_by before words h =
    let p = neither (words_fault words) (option_map_or (λ f. form_fault before f words) (form_of (word_at words 0)) (Some 7)) h in
    elim (form_of (word_at words 0)) as (λ o. option_map_or (λ f. form_fault before f words) o (Some 7) ≡ None → form_of (word_at words 0) ≡ o → IsSaid (form_told before) words) [
      | Some f ↦ λ q e.
          let a = neither (stand_fault before f words) _ q in
          let b = neither (places_fault (places (form_told before) f words)) _ a.1 in
          record { form = f; first = e; faultless = b.0 }
      | None ↦ λ q e. absurd (none-some 7 (sym q))
    ] p.1 refl

of_body : (labels : spelled.Form) (before : List Line) (text : List ℕ) → (is_empty before ≡ false → form_told before ≡ labels) → body_fault before text ≡ None
    → is_skipped text ≡ false → is_policy_line text ≡ false → version_of text ≡ None → IsSaid labels (words_of text)
unfolding body_fault
of_body labels [] text told h skipped policy version = let v = first_version text h in absurd (none-some v.0 (sym version ∙ v.1))
of_body labels (l ∷ before) text told h skipped policy version = subst (λ f. IsSaid f (words_of text)) (told refl) (said_by (l ∷ before) (words_of text) (rw (skipped, policy) at h))

pub said_words : (labels : spelled.Form) (text : List ℕ) → IsLine labels text → is_skipped text ≡ false → is_policy_line text ≡ false → version_of text ≡ None → IsSaid labels (words_of text)
unfolding line_fault
said_words labels text l skipped policy version = of_body labels l.before text l.told (neither (text_fault text) (body_fault l.before text) l.faultless).1 skipped policy version

-- what is left behind a line and its line feed
pub later_rest : (at n : ℕ) (bytes : List ℕ) → drop (n + 1) (drop at bytes) ≡ drop (at + n + 1) bytes
later_rest at n bytes = drop-drop (n + 1) at bytes ∙ ap (λ k. drop k bytes) (omega arith)
