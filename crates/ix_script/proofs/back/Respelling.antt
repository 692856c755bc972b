-- The text of a line that has a payload.
use Rattle.std.proofs.Common.{◌≡◌, ℕ, zero, suc, ◌+◌, ◌-◌, ◌<◌, ◌≤◌, ◌==◌, nat_le, nat_lt, Bool, true, false, not, ◌&&◌, ◌⊎◌, drop, List, [], ◌∷◌, ◌++◌, length, take}
use Rattle.std.proofs.Common.{Some, None, IsSome, unwrap_or, codes, inl, inr, refl, sym, ap, ◌∙◌, subst, arith, length-append, length-drop, append_assoc}
use Rattle.std.proofs.lemmas.{Bool.{cases_Bool, eqb-true, ne_eqb, le-leb, leb-true, ltb-true, ltb-false, false≢true}, List.{append-nil, drop_more, take_at, take-append-drop}}
use Rattle.std.{proofs.lemmas.Option.{cond_some, none-some, same_Some}, specs.{Cmp.Lexicographic.same_text, List.{position, position_or_len}}}
use Rattle.ix_model.specs.opening.Valid.{is_within}
use Rattle.ix_text.{specs.{Names.{is_script_name, name_of}, Bytes.{begins, begins_with}, Spellings.{further, joined}}, proofs.Tests.both}
use Rattle.ix_script.specs.texts.{Cutting.{pieces, words_of, word_at, is_skipped, is_policy_line}, Payloads.payload_of, Spellings.payload_text}
use Rattle.ix_script.specs.{texts.Words.fd_of, lines.Before.form_told, reader.Cut.end_from, scripts.{Canonical.{line_words, line_text, has_one_spelling}, Packed.{IsLine, IsSaid, line_in}}}
use Rattle.ix_script.specs.lines.Forms.{form_of, frame_form, group_form, plain_of, on_path_of, on_fd_of, counted_of, file_form, process_form}
use Rattle.ix_script.specs.{declared.{line.{Line.Line, FdWord.FdWord}, form.Form.Form}, lines.Said.{within, payload_within, version_of, line_of}}
use Rattle.ix_script.proofs.lines.{Deciding.{no_version, said_is}, FirstWords.form_spelled, FormWords.{exactly, same, no_tail, of_3, of_6}}
use Rattle.ix_script.proofs.{texts.{Cuts.{some_piece, pieces_joined, words_some, words_joined}, Pieces.{cut_within, cut_whole, plain_end}}, reader.{Packing.said_words, Told.{mapped, bound, either}}}
use Rattle.ix_script.proofs.back.{LineBack.{Formed, right_count}, TextBack.{later_of, some_text, command_sound, command_parts, body_sound}}
use Rattle.ix_script.proofs.back.OneSpelling.{name_spelled, label_spelled, privs_spelled, made_path_spelled, state_spelled, fd_spelled}
use Rattle.ix_label.specs.declared.form.Form as spelled
use Rattle.ix_script.specs.declared.line.Line.TheVariants as line
use Rattle.ix_script.specs.declared.form.Form.TheVariants as form
use Rattle.ix_script.specs.declared.words.Spot.TheVariants as spot

-- ---- a payload
-- what stands before the last of some words
further_last : (front : List (List ℕ)) (q : List ℕ) → further 32 (front ++ q ∷ []) ≡ (further 32 front ++ 32 ∷ []) ++ q
further_last [] q = ap (λ t. 32 ∷ t) (append-nil q)
further_last (word ∷ front) q = ap (λ t. 32 ∷ (word ++ t)) (further_last front q)
    ∙ ap (λ t. 32 ∷ t) (sym (append_assoc word _ q) ∙ ap (λ t. t ++ q) (sym (append_assoc word _ _)))

joined_last : (first : List ℕ) (front : List (List ℕ)) (q : List ℕ) → joined 32 (first ∷ (front ++ q ∷ [])) ≡ (first ++ (further 32 front ++ 32 ∷ [])) ++ q
joined_last first front q = ap (λ t. first ++ t) (further_last _ q) ∙ sym (append_assoc first _ q)

-- the last word is a payload, and the line's text is the same with another spelling of it
pub record HasPayload (labels : spelled.Form) (text word : List ℕ) (l : Line) : Type 0 where
  pub known : IsSome (payload_within 1048576 word)
  pub within_text : length word ≤ length text
  pub spelled_so : line_text labels l ≡ take (length text - length word) text ++ payload_text (unwrap_or (payload_within 1048576 word) [])

other_last : (first : List ℕ) (front : List (List ℕ)) (p q text : List ℕ) → joined 32 (first ∷ (front ++ p ∷ [])) ≡ text
    → (length p ≤ length text) × (joined 32 (first ∷ (front ++ q ∷ [])) ≡ take (length text - length p) text ++ q)
other_last first front p q text whole =
    let before = first ++ (further 32 _ ++ 32 ∷ []) in
    let is = sym (joined_last _ _ p) ∙ whole in
    let long = sym (length-append before p) ∙ ap length is in
    let cut = ap (take _) (sym is) ∙ take_at before p _ (omega (arith, long)) in
    (omega (arith, long), joined_last _ _ q ∙ ap (λ t. t ++ q) (sym cut))

wider : (word bytes : List ℕ) → payload_within 4096 word ≡ Some bytes → payload_within 1048576 word ≡ Some bytes
wider word bytes h =
    let m = bound (payload_of word) _ _ h in
    let c = cond_some _ m.0 bytes m.2 in
    let few : nat_le (length m.0) 1048576 ≡ true = le-leb (length m.0) 1048576 (omega (arith, leb-true (length m.0) 4096 c.0)) in
    ap (within _) m.1 ∙ rw few (ap (λ bs. Some bs) c.1)

begun_plain : (low high : ℕ) (word : List ℕ) → begins_with (is_within low high) word ≡ true → 34 < low → begins 34 word ≡ false
begun_plain low high [] h most = refl
begun_plain low high (b ∷ word) h most =
    let k = leb-true low b (both (nat_le low b) (nat_le b high) h).0 in
    ne_eqb b 34 (λ e. let q = e in absurd (omega arith))

name_plain : (word name : List ℕ) → name_of word ≡ Some name → begins 34 word ≡ false
unfolding name_of is_script_name
name_plain word name h =
    let p = both _ _ (cond_some _ word name h).0 in
    begun_plain 97 122 word (both _ _ (both _ _ p.0).0).0 (omega arith)

fd_plain : (word : List ℕ) (fd : FdWord) → fd_of word ≡ Some fd → begins 34 word ≡ false
unfolding fd_of
fd_plain word fd h = elim (either (begins_with _ word) _ _ fd h) [
  | inl p ↦ begun_plain 48 57 word p.0 (omega arith)
  | inr p ↦ let m = mapped _ _ fd p.1 in name_plain _ _ m.1
]

-- the payload is the fourth word, and none before it has quotes
pub record WriteWords (labels : spelled.Form) (text : List ℕ) (l : Line) : Type 0 where
  pub more : 3 < length (pieces spot.Front text)
  pub plain : (i : ℕ) → i < 3 → begins 34 (word_at (pieces spot.Front text) i) ≡ false
  pub last : (rest : List ℕ) → pieces spot.Front rest ≡ drop 3 (pieces spot.Front text) → HasPayload labels text rest l

write_payload : (before : List Line) (text : List ℕ) (l : Line) → Formed before text form.Write l → WriteWords (form_told before) text l
unfolding line_words
write_payload before text l k =
    let words = words_of text in
    let n = eqb-true _ 4 (no_tail (length words == 4) (right_count before form.Write words k.fits)) in
    let cut = exactly 4 _ n in
    let x = word_at words 1 in let f = word_at words 2 in let p = word_at words 3 in
    let m = of_3 _ _ _ _ l k.tells in
    let other = other_last (codes "write") (x ∷ f ∷ []) p (payload_text m.2) _ (ap (λ w. joined 32 (w ∷ x ∷ f ∷ p ∷ [])) k.first ∙ ap (joined 32) cut ∙ words_joined _) in
    let read = wider p _ m.5 in
    let there : HasPayload (form_told before) text p l = record {
      known = rw read refl;
      within_text = other.0;
      spelled_so = ap (joined 32) (ap (line_words (form_told before)) (sym m.6) ∙ same refl (same (name_spelled x _ m.3) (same (fd_spelled f _ m.4) refl))) ∙ other.1
          ∙ ap (λ o. take (length text - length p) text ++ payload_text (unwrap_or o [])) (sym read);
    } in
    let pieces_are = sym (words_some _ k.some) ∙ sym cut ∙ ap (λ w. w ∷ x ∷ f ∷ p ∷ []) (sym k.first) in
    record {
      more = rw pieces_are (omega arith);
      plain = λ i low. rw pieces_are (plain_three x f p (name_plain x _ m.3) (fd_plain f _ m.4) i low);
      last = λ rest is. subst (λ w. HasPayload (form_told before) text w l) (sym (append-nil p) ∙ ap (joined 32) (sym (is ∙ ap (drop 3) pieces_are)) ∙ pieces_joined _ _) there;
    }
  where
    plain_three : (x f p : List ℕ) → begins 34 x ≡ false → begins 34 f ≡ false → (i : ℕ) → i < 3 → begins 34 (word_at (codes "write" ∷ x ∷ f ∷ p ∷ []) i) ≡ false
    plain_three x f p hx hf zero low = refl
    plain_three x f p hx hf (suc zero) low = hx
    plain_three x f p hx hf (suc (suc zero)) low = hf
    plain_three x f p hx hf (suc (suc (suc i))) low = absurd (omega arith)

file_payload : (before : List Line) (text : List ℕ) (l : Line) → Formed before text form.File l → HasPayload (form_told before) text (word_at (words_of text) 6) l
unfolding line_words
file_payload before text l k =
    let words = words_of text in
    let n = eqb-true _ 7 (no_tail (length words == 7) (right_count before form.File words k.fits)) in
    let cut = exactly 7 _ n in
    let a = word_at words 1 in let b = word_at words 2 in let c = word_at words 3 in
    let d = word_at words 4 in let e = word_at words 5 in let p = word_at words 6 in
    let m = of_6 _ _ _ _ _ _ _ l k.tells in
    let other = other_last (codes "file") (a ∷ b ∷ c ∷ d ∷ e ∷ []) p (payload_text m.5) _ (ap (λ w. joined 32 (w ∷ a ∷ b ∷ c ∷ d ∷ e ∷ p ∷ [])) k.first ∙ ap (joined 32) cut ∙ words_joined _) in
    record {
      known = rw m.11 refl;
      within_text = other.0;
      spelled_so = ap (joined 32) (ap (line_words (form_told before)) (sym m.12) ∙ same refl (same (made_path_spelled a _ m.6) (same (label_spelled _ b _ m.7)
          (same (state_spelled c _ m.8) (same (privs_spelled d _ m.9) (same (privs_spelled e _ m.10) refl)))))) ∙ other.1
          ∙ ap (λ o. take (length text - length p) text ++ payload_text (unwrap_or o [])) (sym m.11);
    }

-- ---- a line's words, one by one
plain_gap : (text : List ℕ) → end_from spot.Plain text ≡ position_or_len (λ b. b == 32) text
plain_gap [] = refl
plain_gap (b ∷ text) = elim (cases_Bool (b == 32)) [
  | inl e ↦ rw e refl
  | inr e ↦ rw e (omega (arith, plain_gap text))
]

-- where no quote begins a text, its first word ends at the first space
first_gap : (text : List ℕ) → begins 34 text ≡ false → position_or_len (λ b. b == 32) text ≡ end_from spot.Front text
first_gap text plain = sym (plain_end text plain ∙ plain_gap text)

gap_there : (text : List ℕ) → begins 34 text ≡ false → 1 < length (pieces spot.Front text) → IsSome (position (λ b. b == 32) text)
gap_there text plain more = elim (cases_Bool (nat_lt (position_or_len (λ b. b == 32) text) (length text))) [
  | inl e ↦ rw e refl
  | inr e ↦
      let one = ap length (cut_whole _ _ _ (first_gap text plain) (ltb-false (position_or_len (λ b. b == 32) text) _ e)) in
      absurd (omega (arith, one))
]

behind_gap : (text : List ℕ) (k : ℕ) → begins 34 text ≡ false → position (λ b. b == 32) text ≡ Some k → pieces spot.Front (drop (k + 1) text) ≡ drop 1 (pieces spot.Front text)
behind_gap text k plain h =
    let at = cond_some (nat_lt (position_or_len (λ b. b == 32) text) _) (position_or_len (λ b. b == 32) text) k h in
    sym (ap (drop 1) (cut_within _ _ k (sym at.1 ∙ first_gap text plain) (omega (arith, at.1, ltb-true _ _ at.0))))

quoted_first : (rest : List ℕ) → begins 34 rest ≡ true → begins 34 (word_at (pieces spot.Front rest) 0) ≡ true
unfolding pieces
quoted_first [] h = h
quoted_first (b ∷ rest) h =
    let k = some_piece spot.Quoted rest in
    subst (λ (c : ℕ). begins 34 (word_at (pieces spot.Front (c ∷ rest)) 0) ≡ true) (sym (eqb-true b 34 h)) (rw k.2 refl)

-- behind so many words stands one that has no quotes, and another
module _ (rest : List ℕ) (words : List (List ℕ)) (i : ℕ) (are : pieces spot.Front rest ≡ drop i words) (low : i + 1 < length words) (no_quote : begins 34 (word_at words i) ≡ false) where
  these : pieces spot.Front rest ≡ word_at words i ∷ drop (i + 1) words
  these = are ∙ drop_more words i [] (omega arith)

  next_plain : begins 34 rest ≡ false
  next_plain = elim (cases_Bool _) [
    | inl e ↦ absurd (false≢true (sym no_quote ∙ ap (λ ws. begins 34 (word_at ws 0)) (sym these) ∙ quoted_first _ e))
    | inr e ↦ e
  ]

  pub gap_at : IsSome (position (λ b. b == 32) rest)
  gap_at = gap_there rest next_plain (omega (arith, ap length are, length-drop i words))

  pub behind_at : (k : ℕ) → position (λ b. b == 32) rest ≡ Some k → pieces spot.Front (drop (k + 1) rest) ≡ drop (i + 1) words
  behind_at k h = behind_gap _ k next_plain h ∙ ap (drop 1) these

-- ---- a line that is held as its text
formed_in : (labels : spelled.Form) (text : List ℕ) (f : Form) (k : IsLine labels text) → is_skipped text ≡ false → is_policy_line text ≡ false
    → form_of (word_at (words_of text) 0) ≡ Some f → (form_told k.before ≡ labels) × Formed k.before text f (line_in labels text)
formed_in labels text f k some other first =
    let later = later_of _ _ (no_version _ f first) k.faultless in
    let told = k.told later in
    let parts = command_parts _ _ f first (command_sound _ _ later some other (body_sound _ _ k.faultless)) in (
      told,
      record {
        means = ap (λ g. line_of g text) told ∙ k.said;
        sound = k.faultless;
        some = some_text _ some;
        later = later;
        first = form_spelled _ f first;
        tells = sym (said_is _ _ f some other first) ∙ ap (λ g. line_of g text) told ∙ k.said;
        whole = parts.0;
        fits = parts.1;
      },
    )

-- ---- skipped lines, and how others begin that may have another spelling
pub skipped_text : (labels : spelled.Form) (text : List ℕ) → is_skipped text ≡ true → line_text labels (line_in labels text) ≡ []
unfolding line_of line_words
skipped_text labels text h = rw h refl

begun_so : (a b c : Bool) → (not a && not b && not c) ≡ false → a ≡ false → (b ≡ true) ⊎ (c ≡ true)
begun_so false true c h e = inl refl
begun_so false false true h e = inr refl
begun_so false false false h e = cc
begun_so true b c h e = cc

two_fronts : (text : List ℕ) → has_one_spelling text ≡ false → is_skipped text ≡ false → (codes "write" ++ drop 5 text ≡ text) ⊎ (codes "file" ++ drop 4 text ≡ text)
unfolding has_one_spelling
two_fronts text h some = elim (begun_so _ _ _ h some) [
  | inl w ↦ inl (ap (λ t. t ++ drop 5 text) (sym (same_text _ _ (sym w))) ∙ take-append-drop 5 text)
  | inr f ↦ inr (ap (λ t. t ++ drop 4 text) (sym (same_text _ _ (sym f))) ∙ take-append-drop 4 text)
]

pub no_policy : (text : List ℕ) → has_one_spelling text ≡ false → is_skipped text ≡ false → is_policy_line text ≡ false
unfolding is_policy_line
no_policy text h some = elim (two_fronts _ h some) [
  | inl w ↦ ap is_policy_line (sym w)
  | inr f ↦ ap is_policy_line (sym f)
]

pub no_version_there : (text : List ℕ) → has_one_spelling text ≡ false → is_skipped text ≡ false → version_of text ≡ None
unfolding version_of
no_version_there text h some = elim (two_fronts _ h some) [
  | inl w ↦ ap version_of (sym w)
  | inr f ↦ ap version_of (sym f)
]

-- ---- the two forms that have a payload
form_of_write : (v : List ℕ) (f : Form) → form_of (codes "write" ++ v) ≡ Some f → form.Write ≡ f
unfolding form_of frame_form group_form plain_of on_path_of on_fd_of counted_of file_form process_form
form_of_write [] f h = same_Some form.Write f h
form_of_write (b ∷ v) f h = absurd (none-some f h)

form_of_file : (v : List ℕ) (f : Form) → form_of (codes "file" ++ v) ≡ Some f → form.File ≡ f
unfolding form_of frame_form group_form plain_of on_path_of on_fd_of counted_of file_form process_form
form_of_file [] f h = same_Some form.File f h
form_of_file (b ∷ v) f h = absurd (none-some f h)

first_write : (u : List ℕ) (f : Form) → form_of (word_at (words_of (codes "write" ++ u)) 0) ≡ Some f → form.Write ≡ f
unfolding words_of pieces
first_write u f h = let k = some_piece spot.Plain u in form_of_write _ f (rw k.2 at h)

first_file : (u : List ℕ) (f : Form) → form_of (word_at (words_of (codes "file" ++ u)) 0) ≡ Some f → form.File ≡ f
unfolding words_of pieces
first_file u f h = let k = some_piece spot.Plain u in form_of_file _ f (rw k.2 at h)

module _ (labels : spelled.Form) (text : List ℕ) (k : IsLine labels text) (other : false ≡ has_one_spelling text) (seen : false ≡ is_skipped text) where
  policy : is_policy_line text ≡ false
  policy = no_policy _ (sym other) (sym seen)

  first : IsSaid labels (words_of text)
  first = said_words _ _ k (sym seen) policy (no_version_there _ (sym other) (sym seen))

  formed_as : (f : Form) → first.form ≡ f → (form_told k.before ≡ labels) × Formed k.before text f (line_in labels text)
  formed_as f e = formed_in _ _ f k (sym seen) policy (first.first ∙ ap (λ g. Some g) e)

  pub write_words : true ≡ begins 119 text → WriteWords labels text (line_in labels text)
  write_words w = elim (two_fronts _ (sym other) (sym seen)) [
    | inl e ↦
        let is = formed_as _ (sym (first_write _ _ (subst (λ t. form_of (word_at (words_of t) 0) ≡ Some first.form) (sym e) first.first))) in
        subst (λ g. WriteWords g text (line_in labels text)) is.0 (write_payload _ _ _ is.1)
    | inr e ↦ absurd (false≢true (ap (begins 119) e ∙ sym w))
  ]

  pub file_words : false ≡ begins 119 text → HasPayload labels text (word_at (words_of text) 6) (line_in labels text)
  file_words w = elim (two_fronts _ (sym other) (sym seen)) [
    | inl e ↦ absurd (false≢true (w ∙ ap (begins 119) (sym e)))
    | inr e ↦
        let is = formed_as _ (sym (first_file _ _ (subst (λ t. form_of (word_at (words_of t) 0) ≡ Some first.form) (sym e) first.first))) in
        subst (λ g. HasPayload g text (word_at (words_of text) 6) (line_in labels text)) is.0 (file_payload _ _ _ is.1)
  ]
