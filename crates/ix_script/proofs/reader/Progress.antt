-- Reading line after line.
use Rattle.std.proofs.Common.{◌≡◌, ℕ, ◌+◌, ◌*◌, ◌<◌, ◌≤◌, true, false, true≢false, List, [], ◌∷◌, ◌++◌, length, Option, Some, None, option_map, refl, sym, ap}
use Rattle.std.proofs.Common.{◌∙◌, subst, arith, append_assoc, length-append}
use Rattle.std.{proofs.lemmas.{List.append-nil, Option.same_Some}, specs.Prelude.unwrap_or}
use Rattle.ix_model.specs.opening.Valid.{is_valid}
use Rattle.ix_script.specs.lines.{Before.{form_by, form_told, lanes_of, commands}, Said.{both, line_of}, Faults.{line_fault, fault_from}}
use Rattle.ix_script.specs.{texts.Lines.{cut, lines_of}, scripts.{Need.need, Scripts.{form_in, lines_said, config_of}, Schedule.LanesOnce}}
use Rattle.ix_script.specs.{reader.{Readers.{HasCause, LineRight}, Told.DraftTold}, declared.{draft.Draft.Draft, fail.ReadFail.ReadFail, line.Line.Line}}
use Rattle.ix_label.specs.declared.form.Form.{Form, TheVariants.One}
use Rattle.ix_text.specs.Bytes.{is_empty}
use Rattle.ix_script.specs.declared.fail.ReadFail.TheVariants as fail
use Rattle.ix_script.specs.declared.line.Line.TheVariants as line
use Rattle.ix_script.proofs.{lines.Deciding.{version_said, first_version, first_faultless}, reader.Costing.{cheap_none, cheap_next}, reader.Staying.valid_next}
use Rattle.ix_script.proofs.{reader.Counting.{no_commands, commands_stay_few, no_lanes, lanes_stay_few}, reader.Once.{none_once, lanes_stay_once}}
use Rattle.ix_script.proofs.reader.Told.{mapped}

abbrev pub after : List Line → Option (List Line) → Option (List Line)
after front more = option_map (λ lines. front ++ lines) more

-- what was read, and what is still to be read
pub record Reading (texts : List (List ℕ)) (total : ℕ) (rest : List ℕ) (d : Draft) : Type 0 where
  pub told : DraftTold d
  pub valid : is_valid (config_of d.lines.said) ≡ true
  pub fault : fault_from d.lines.said (cut rest) ≡ fault_from [] texts
  pub said : after d.lines.said (lines_said (form_in texts) (cut rest)) ≡ lines_said (form_in texts) texts
  pub later : is_empty d.lines.said ≡ false → form_told d.lines.said ≡ form_in texts
  pub first : is_empty d.lines.said ≡ true → cut rest ≡ texts
  pub short : length d.lines.said + length rest ≤ total
  pub few_commands : commands d.lines.said ≤ 200000
  pub few_lanes : length (lanes_of d.lines.said) ≤ 64
  pub once : LanesOnce d.lines.said
  pub cheap : need d.lines.said ≤ 4352 * commands d.lines.said

-- ---- a line without a fault
fault_later : (before : List Line) (text : List ℕ) (texts : List (List ℕ)) (l : Line) → line_fault before text ≡ None → line_of (form_told before) text ≡ Some l
    → fault_from before (text ∷ texts) ≡ fault_from (before ++ l ∷ []) texts
unfolding fault_from
fault_later before text texts l h m = rw (h, m) refl

regroup : (front : List Line) (l : Line) (more : Option (List Line)) → after front (option_map (λ (x : Line × List Line). x.0 ∷ x.1) (both (Some l) more)) ≡ after (front ++ l ∷ []) more
regroup front l None = refl
regroup front l (Some lines) = ap (λ (ls : List Line). Some ls) (sym (append_assoc front (l ∷ []) lines))

said_later : (labels : Form) (before : List Line) (text : List ℕ) (texts : List (List ℕ)) (l : Line) → line_of labels text ≡ Some l
    → after before (lines_said labels (text ∷ texts)) ≡ after (before ++ l ∷ []) (lines_said labels texts)
unfolding lines_said
said_later labels before text texts l m = rw m (regroup before l (lines_said labels texts))

-- the first line tells the form, in which the later ones are read
said_in : (texts more : List (List ℕ)) (before : List Line) (text : List ℕ) (l : Line) → (is_empty before ≡ false → form_told before ≡ form_in texts) → (is_empty before ≡ true → text ∷ more ≡ texts)
    → line_fault before text ≡ None → line_of (form_told before) text ≡ Some l → (line_of (form_in texts) text ≡ Some l) × (form_told (before ++ l ∷ []) ≡ form_in texts)
unfolding form_in
said_in texts more [] text l later first fault meant =
    let v = first_version text (first_faultless text fault) in
    let is : line.Version v.0 ≡ l = same_Some (line.Version v.0) l (sym (version_said One text v.0 v.1) ∙ meant) in
    let form : v.0 ≡ form_in texts = sym (ap (λ o. unwrap_or o One) v.1) ∙ ap form_in (first refl) in
    (version_said (form_in texts) text v.0 v.1 ∙ ap (λ (x : Line). Some x) is, ap form_by (sym is) ∙ form)
said_in texts more (b ∷ before) text l later first fault meant = (subst (λ (f : Form). line_of f text ≡ Some l) (later refl) meant, later refl)

some_pushed : (before : List Line) (l : Line) → is_empty (before ++ l ∷ []) ≡ false
some_pushed [] l = refl
some_pushed (b ∷ before) l = refl

pub goes_on : (texts : List (List ℕ)) (total : ℕ) (rest : List ℕ) (d e : Draft) (text more : List ℕ) (l : Line) → Reading texts total rest d → cut rest ≡ text ∷ cut more → length more < length rest
    → LineRight d.lines.said l (line_fault d.lines.said text) (line_of (form_told d.lines.said) text) → DraftTold e → e.lines.said ≡ d.lines.said ++ l ∷ [] → Reading texts total more e
goes_on texts total rest d e text more l r first fewer right told is =
    let few = commands_stay_few d.lines.said l right.fits r.few_commands in
    let cheap = cheap_next (form_told d.lines.said) d.lines.said text l right.meant r.cheap in
    let labels : Form = form_in texts in
    let in_form = said_in texts (cut more) d.lines.said text l r.later (λ none. sym first ∙ r.first none) right.faultless right.meant in
    record {
      told = told;
      valid = subst (λ (ls : List Line). is_valid (config_of ls) ≡ true) (sym is) (valid_next d.lines.said text l r.valid right.faultless right.meant right.fits (omega (arith, few, cheap)));
      fault = ap (λ (ls : List Line). fault_from ls (cut more)) is ∙ sym (fault_later d.lines.said text (cut more) l right.faultless right.meant) ∙ ap (fault_from d.lines.said) (sym first) ∙ r.fault;
      said = ap (λ (ls : List Line). after ls (lines_said labels (cut more))) is ∙ sym (said_later labels d.lines.said text (cut more) l in_form.0)
          ∙ ap (λ (ts : List (List ℕ)). after d.lines.said (lines_said labels ts)) (sym first) ∙ r.said;
      later = λ some. ap form_told is ∙ in_form.1;
      first = λ none. let some : is_empty e.lines.said ≡ false = ap is_empty is ∙ some_pushed d.lines.said l in absurd (true≢false (sym none ∙ some));
      short = let long : length e.lines.said ≡ length d.lines.said + 1 = ap length is ∙ length-append d.lines.said (l ∷ []) in let s = r.short in omega arith;
      few_commands = subst (λ (ls : List Line). commands ls ≤ 200000) (sym is) few;
      few_lanes = subst (λ (ls : List Line). length (lanes_of ls) ≤ 64) (sym is) (lanes_stay_few d.lines.said l right.fits r.few_lanes);
      once = subst (λ (ls : List Line). LanesOnce ls) (sym is) (lanes_stay_once (form_told d.lines.said) d.lines.said text l right.faultless right.meant r.once);
      cheap = subst (λ (ls : List Line). need ls ≤ 4352 * commands ls) (sym is) cheap;
    }

-- ---- a line with a fault
fault_here : (before : List Line) (text : List ℕ) (texts : List (List ℕ)) (n : ℕ) → line_fault before text ≡ Some n → fault_from before (text ∷ texts) ≡ Some (length before + 1, n)
unfolding fault_from
fault_here before text texts n h = rw h refl

pub stops : (texts : List (List ℕ)) (total : ℕ) (rest : List ℕ) (d : Draft) (text more : List ℕ) (e : ReadFail) → Reading texts total rest d → cut rest ≡ text ∷ cut more
    → HasCause e (option_map (λ rule. (length d.lines.said + 1, rule)) (line_fault d.lines.said text)) → HasCause e (fault_from [] texts)
stops texts total rest d text more (fail.Fault f) r first h =
    let m = mapped (λ (rule : ℕ). (length d.lines.said + 1, rule)) (line_fault d.lines.said text) (f.line, f.rule) h in
    sym r.fault ∙ ap (fault_from d.lines.said) first ∙ fault_here d.lines.said text (cut more) m.0 m.1 ∙ ap (λ (p : ℕ × ℕ). Some p) m.2
stops texts total rest d text more fail.NoMemory r first h = h

-- ---- no line more
pub faultless : (texts : List (List ℕ)) (total : ℕ) (d : Draft) → Reading texts total [] d → fault_from [] texts ≡ None
unfolding fault_from cut
faultless texts total d r = sym r.fault

pub all_said : (texts : List (List ℕ)) (total : ℕ) (d : Draft) → Reading texts total [] d → lines_said (form_in texts) texts ≡ Some d.lines.said
unfolding lines_said cut
all_said texts total d r = sym r.said ∙ ap (λ (ls : List Line). Some ls) (append-nil d.lines.said)

-- ---- before any line
after_none : (more : Option (List Line)) → after [] more ≡ more
after_none None = refl
after_none (Some lines) = refl

pub start : (bytes : List ℕ) (d : Draft) → DraftTold d → d.lines.said ≡ [] → is_valid (config_of []) ≡ true → Reading (cut bytes) (length bytes) bytes d
start bytes d told none valid =
    record {
      told = told;
      valid = subst (λ (ls : List Line). is_valid (config_of ls) ≡ true) (sym none) valid;
      fault = ap (λ (ls : List Line). fault_from ls (cut bytes)) none;
      said = ap (λ (ls : List Line). after ls (lines_said (form_in (cut bytes)) (cut bytes))) none ∙ after_none (lines_said (form_in (cut bytes)) (cut bytes));
      later = λ some. let no : is_empty d.lines.said ≡ true = ap is_empty none in absurd (true≢false (sym no ∙ some));
      first = λ no. refl;
      short = let long : length d.lines.said ≡ 0 = ap length none in omega arith;
      few_commands = subst (λ (ls : List Line). commands ls ≤ 200000) (sym none) no_commands;
      few_lanes = subst (λ (ls : List Line). length (lanes_of ls) ≤ 64) (sym none) no_lanes;
      once = subst (λ (ls : List Line). LanesOnce ls) (sym none) none_once;
      cheap = subst (λ (ls : List Line). need ls ≤ 4352 * commands ls) (sym none) cheap_none;
    }

pub lines_cut : (bytes : List ℕ) → 0 < length bytes → lines_of bytes ≡ cut bytes
unfolding lines_of
lines_cut [] h = absurd (omega arith)
lines_cut (b ∷ bytes) h = refl
