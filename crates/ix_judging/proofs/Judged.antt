-- What is found by a walk over a text, line by line, judges it.
use Rattle.std.proofs.Common.{◌≡◌, ℕ, zero, suc, ◌+◌, ◌≤◌, ◌<◌, ◌⊎◌, Bool, true, false, List, [], ◌∷◌, ◌++◌, take, drop, length, fold, Option, Some, None, refl}
use Rattle.std.proofs.Common.{sym, ap, ◌∙◌, subst, arith, inl, inr, append_assoc, take-append-drop, if◌then◌else◌}
use Rattle.ix_judging.{specs.{Plan.{Plan, Lawful}, Lanes.State, Runs.{IsOver, IsWholeRun, entered}}, proofs.{Stores.length-entered, Endings.an_end}}
use Rattle.ix_judging.proofs.{Turns.{is_over_from, over_is, told_turn, turn_told}, GoodRuns.{good_runs, runs_good}, Fronts.one_run}
use Rattle.ix_judging.specs.Judge.{BeginsIn, IsJudged, IsLeastWrong, IsReport, IsReportWith, No, Text, Verdict, Yes, report_from, report_of}
use Rattle.ix_judging.specs.Walk.{Begins, Closing, Entries, Fails, Walk, closed, closes, ended, is_over, judge, line_after, makes, told_call, walked}

-- fewer of the first items
take_less : {X : Type 0} (j i : ℕ) (xs : List X) → j ≤ i → take j (take i xs) ≡ take j xs
take_less zero i xs le = refl
take_less (suc j) zero xs le = absurd (omega (arith, le))
take_less (suc j) (suc i) [] le = refl
take_less (suc j) (suc i) (x ∷ xs) le = ap (λ ys. x ∷ ys) (take_less j i xs (omega (arith, le)))

-- ---- the first line at which a text is no good one
module _ {T : Type 0} where
  -- these lines are good, with some number of entries
  abbrev pub Any : (ℕ → List T → Type 0) → List T → Type 0
  Any good lines = (c : ℕ) × good c lines

  -- Of lines of which the first has the number n, the number m of the first that is wrong: those before it stand in a good text.
  pub record IsWrong (good : ℕ → List T → Type 0) (lines : List T) (whole : Bool) (n m : ℕ) : Type 0 where
    pub fit : ℕ
    pub number : m ≡ n + fit
    pub within : fit ≤ length lines
    pub begins : BeginsIn (Any good) (take fit lines)
    pub not_good : Any good lines → whole ≡ true → ⊥
    pub wrong : (length lines ≤ fit) ⊎ (BeginsIn (Any good) (take (suc fit) lines) → ⊥)

  abbrev pub Judges : (ℕ → List T → Type 0) → List T → Bool → ℕ → Verdict → Type 0
  Judges good lines whole n (Yes c) = good c lines × (whole ≡ true)
  Judges good lines whole n (No m) = IsWrong good lines whole n m

  -- it goes by which texts are good
  begins_alike : (good other : ℕ → List T → Type 0) → ((c : ℕ) (lines : List T) → good c lines → other c lines)
      → (front : List T) → BeginsIn (Any good) front → BeginsIn (Any other) front
  begins_alike good other to front b = (b.0, b.1, (b.2.0, to _ _ b.2.1), b.3)

  alike : (good other : ℕ → List T → Type 0) → ((c : ℕ) (lines : List T) → good c lines → other c lines)
      → ((c : ℕ) (lines : List T) → other c lines → good c lines)
      → (lines : List T) (whole : Bool) (n : ℕ) (found : Verdict) → Judges good lines whole n found → Judges other lines whole n found
  alike good other to back lines whole n (Yes c) j = (to c _ j.0, j.1)
  alike good other to back lines whole n (No m) j = record {
    fit = j.fit;
    number = j.number;
    within = j.within;
    begins = begins_alike _ _ to _ j.begins;
    not_good = λ is w. j.not_good (is.0, back _ _ is.1) w;
    wrong = elim j.wrong [
      | inl short ↦ inl short
      | inr none ↦ inr (λ b. none (begins_alike _ _ back _ b))
    ];
  }

  -- one line more in front, which is right
  one_right : (good rest : ℕ → List T → Type 0) (l : T) → ((c : ℕ) (lines : List T) → rest c lines → good c (l ∷ lines))
      → ((c : ℕ) (lines : List T) → good c (l ∷ lines) → rest c lines)
      → (lines : List T) (whole : Bool) (n : ℕ) (found : Verdict) → Judges rest lines whole (suc n) found
      → Judges good (l ∷ lines) whole n found
  one_right good rest l up down lines whole n (Yes c) j = (up c _ j.0, j.1)
  one_right good rest l up down lines whole n (No m) j = record {
    fit = suc j.fit;
    number = let is = j.number in omega (arith, is);
    within = let is = j.within in omega (arith, is);
    begins = (l ∷ j.begins.0, j.begins.1, (j.begins.2.0, up _ _ j.begins.2.1), ap (λ xs. l ∷ xs) j.begins.3);
    not_good = λ is w. j.not_good (is.0, down _ _ is.1) w;
    wrong = elim j.wrong [
      | inl short ↦ inl (omega (arith, short))
      | inr none ↦ inr (λ b.
          let front = take (suc j.fit) lines ++ b.1 in
          none (front, b.1, (b.2.0, down _ _ (subst (good b.2.0) b.3 b.2.1)), refl))
    ];
  }

  -- the line in front is wrong
  one_wrong : (good : ℕ → List T → Type 0) (l : T) (some : List T) → Any good some → ((c : ℕ) (lines : List T) → good c (l ∷ lines) → ⊥)
      → (lines : List T) (whole : Bool) (n : ℕ) → Judges good (l ∷ lines) whole n (No n)
  one_wrong good l some is none lines whole n = record {
    fit = 0;
    number = omega arith;
    within = omega arith;
    begins = (some, some, is, refl);
    not_good = λ g w. none g.0 lines g.1;
    wrong = inr (λ b. none b.2.0 b.1 (subst (good b.2.0) b.3 b.2.1));
  }

  -- no line is left
  no_line : (good : ℕ → List T → Type 0) (some : List T) → Any good some → (whole : Bool) → (Any good [] → whole ≡ true → ⊥)
      → (n : ℕ) → Judges good [] whole n (No n)
  no_line good some is whole none n = record {
    fit = 0;
    number = omega arith;
    within = omega arith;
    begins = (some, some, is, refl);
    not_good = none;
    wrong = inl (omega arith);
  }

module _ {W E A L T : Type 0} (p : Plan W E A L T) (first : State W L) where
  -- what is found once these lines were walked over
  abbrev pub found_after : Walk W L T → List T → Bool → Verdict
  found_after walk lines whole = ended p (fold (walked p first) walk lines) whole

  fails_stay : (n : ℕ) (lines : List T) (whole : Bool) → found_after (Fails n) lines whole ≡ No n
  fails_stay n [] whole = refl
  fails_stay n (l ∷ lines) whole = fails_stay n lines _

module _ {W E A L T : Type 0} (p : Plan W E A L T) (count : ℕ) (lawful : Lawful p count) (first : State W L) where
  -- ---- the lines behind all entries
  not_same : (x y : T) → p.same x y ≡ false → x ≡ y → ⊥
  not_same x y is same =
      let equal = subst (λ z. p.same x z ≡ true) same (lawful.alike x) in
      cc (sym is ∙ equal)

  -- the line in front is wrong, and the walk fails there
  fails : (good : ℕ → List T → Type 0) (l : T) (some : List T) → Any good some → ((c : ℕ) (lines : List T) → good c (l ∷ lines) → ⊥)
      → (lines : List T) (whole : Bool) (n : ℕ) → Judges good (l ∷ lines) whole n (found_after p first (Fails n) lines whole)
  fails good l some is none lines whole n =
      subst (Judges good (l ∷ lines) whole n) (sym (fails_stay p _ n lines whole)) (one_wrong _ l _ is none _ _ n)

  abbrev Closes : ℕ → List T → ℕ → List T → Type 0
  Closes made closing c rest = (rest ≡ closing) × (made ≡ c)

  closing_line : (c l : T) (made : ℕ) (closing lines : List T) (whole : Bool) (n : ℕ)
      → Judges (Closes made closing) lines whole (suc n) (found_after p first (Closing (suc n) made closing) lines whole) → (b : Bool)
      → p.same c l ≡ b
      → Judges (Closes made (c ∷ closing)) (l ∷ lines) whole n (found_after p first (if b then Closing (suc n) made closing else Fails n) lines whole)
  closing_line c l made closing lines whole n rest true is =
      let same = lawful.equal c l is in
      one_right (Closes made (c ∷ closing)) (Closes made closing) l
      (λ d more r. (ap (λ (x : T). x ∷ more) (sym same) ∙ ap (λ (xs : List T). c ∷ xs) r.0, r.1))
      (λ d more r. let both : l ∷ more ≡ c ∷ closing = r.0 in let rest : more ≡ closing = cc in (rest, r.1))
      lines whole n (found_after p first (Closing (suc n) made closing) lines whole) rest
  closing_line c l made closing lines whole n rest false is = fails (Closes made (c ∷ closing)) l (c ∷ closing) (made, (refl, refl))
      (λ d more r. not_same c l is (let both : l ∷ more ≡ c ∷ closing = r.0 in cc)) lines whole n

  closing_judges : (n made : ℕ) (closing lines : List T) (whole : Bool)
      → Judges (Closes made closing) lines whole n (found_after p first (Closing n made closing) lines whole)
  closing_judges n made [] [] true = ((refl, refl), refl)
  closing_judges n made [] [] false = no_line _ [] (made, (refl, refl)) false (λ is w. let odd : false ≡ true = w in cc) n
  closing_judges n made [] (l ∷ lines) whole =
      fails (Closes made []) l [] (made, (refl, refl)) (λ d more r. cc r.0) lines whole n
  closing_judges n made (c ∷ closing) [] whole =
      no_line _ (c ∷ closing) (made, (refl, refl)) whole (λ is w. let odd : [] ≡ c ∷ closing = is.1.0 in cc) n
  closing_judges n made (c ∷ closing) (l ∷ lines) whole =
      closing_line c l _ closing lines whole n (closing_judges (suc n) made closing lines whole) (p.same c l) refl

  -- ---- what is left of a report, once so many entries were made
  abbrev IsRest : ℕ → State W L → ℕ → List T → Type 0
  IsRest made at c lines = (events : List E) × IsWholeRun p at events × (lines ≡ report_from p at events) × (made + length events ≡ c)

  a_rest : (made : ℕ) (at : State W L) → (lines : List T) × Any (IsRest made at) lines
  a_rest made at = let ends = an_end p _ lawful at in (report_from p at ends.0, (made + length ends.0, (ends.0, ends.1, refl, refl)))

  -- all lanes are done
  rest_over : (made : ℕ) (at : State W L) → IsOver p at.lanes → (c : ℕ) (lines : List T) → IsRest made at c lines
      → Closes made (p.closing at.world at.place) c lines
  rest_over made at over c lines is = go _ is.1 is.2 is.3
    where
      go : (events : List E) → IsWholeRun p at events → lines ≡ report_from p at events → made + length events ≡ c
          → Closes made (p.closing at.world at.place) c lines
      go [] runs same all = (same, omega (arith, all))
      go (e ∷ events) runs same all = cc (sym (over (p.seat e)) ∙ runs.0.call)

  over_rest : (made : ℕ) (at : State W L) → IsOver p at.lanes → (c : ℕ) (lines : List T) → Closes made (p.closing at.world at.place) c lines
      → IsRest made at c lines
  over_rest made at over c lines r = ([], over, r.0, let is = r.1 in omega (arith, is))

  -- the walk goes on to the closing lines
  over_judges : (made : ℕ) (at : State W L) (lines : List T) (whole : Bool) → is_over p at.lanes ≡ true
      → Judges (IsRest made at) lines whole (line_after made)
      (found_after p first (Closing (line_after made) made (p.closing at.world at.place)) lines whole)
  over_judges made at lines whole is =
      let over = over_is p _ is in
      alike _ _ (over_rest _ at over) (rest_over _ at over)
      _ _ _ _
      (closing_judges (line_after made) made (p.closing at.world at.place) lines whole)

  -- not all are done: the first line is that of the call whose turn it is
  rest_goes : (made : ℕ) (at : State W L) → length at.lanes ≡ count → is_over p at.lanes ≡ false → (l : T) (c : ℕ) (lines : List T)
      → IsRest made at c (l ∷ lines)
      → (e : E) × (told_call p at l ≡ Some e) × (l ≡ p.line at.world at.place e) × IsRest (suc made) (entered p at e) c lines
  rest_goes made at all not_over l c lines is = go _ is.1 is.2 is.3
    where
      go : (events : List E) → IsWholeRun p at events → l ∷ lines ≡ report_from p at events → made + length events ≡ c
          → (e : E) × (told_call p at l ≡ Some e) × (l ≡ p.line at.world at.place e) × IsRest (suc made) (entered p at e) c lines
      go [] runs same so_many = cc (sym not_over ∙ is_over_from p at.lanes runs)
      go (e ∷ events) runs same so_many =
          let one : l ≡ p.line at.world at.place e = cc same in
          let rest : lines ≡ report_from p (entered p at e) events = cc in
          (e, ap (told_call p at) one ∙ turn_told p _ lawful at e all runs.0, one, (events, runs.1, rest, omega (arith, so_many)))

  no_rest : (made : ℕ) (at : State W L) → is_over p at.lanes ≡ false → Any (IsRest made at) [] → ⊥
  no_rest made at not_over is = go _ is.1.1 is.1.2
    where
      go : (events : List E) → IsWholeRun p at events → [] ≡ report_from p at events → ⊥
      go [] runs same = cc (sym not_over ∙ is_over_from p at.lanes runs)
      go (e ∷ events) runs same = cc same

  -- the lines after an entry were judged
  abbrev Later : ℕ → State W L → List T → Bool → Type 0
  Later made at lines whole = (e : E)
      → Judges (IsRest (suc made) (entered p at e)) lines whole (line_after (suc made)) (found_after p first (Entries (suc made) (entered p at e)) lines whole)

  line_judges : (made : ℕ) (at : State W L) (l : T) (lines : List T) (whole : Bool) → length at.lanes ≡ count → Later made at lines whole
      → is_over p at.lanes ≡ false → (e : E) → told_call p at l ≡ Some e → (b : Bool) → p.same (p.line at.world at.place e) l ≡ b
      → Judges (IsRest made at) (l ∷ lines) whole (line_after made)
      (found_after p first (if b then Entries (suc made) (entered p at e) else Fails (line_after made)) lines whole)
  line_judges made at l lines whole all later not_over e told true is =
      let one = lawful.equal (p.line at.world at.place e) l is in
      let turn = told_turn p count lawful at l e told in
      one_right (IsRest made at) (IsRest (suc made) (entered p at e)) l
      (λ c more r.
      let so_many : made + length (e ∷ r.0) ≡ c = let is = r.3 in omega (arith, is) in
      (e ∷ r.0, (turn, r.1), ap (λ (x : T). x ∷ more) (sym one) ∙ ap (λ (xs : List T). p.line at.world at.place e ∷ xs) r.2, so_many))
      (λ c more r.
      let next = rest_goes made at all not_over l c more r in
      let both : Some next.0 ≡ Some e = sym next.1 ∙ told in
      let same : next.0 ≡ e = cc in
      subst (λ (x : E). IsRest (suc made) (entered p at x) c more) same next.3)
      lines whole (line_after made) (found_after p first (Entries (suc made) (entered p at e)) lines whole) (later e)
  line_judges made at l lines whole all later not_over e told false is = fails (IsRest made at) l (a_rest made at).0 (a_rest made at).1
      (λ c more r.
      let next = rest_goes made at all not_over l c more r in
      let both : Some next.0 ≡ Some e = sym next.1 ∙ told in
      let same : next.0 ≡ e = cc in
      not_same (p.line at.world at.place e) l is (ap (p.line at.world at.place) (sym same) ∙ sym next.2))
      lines whole (line_after made)

  call_judges : (made : ℕ) (at : State W L) (l : T) (lines : List T) (whole : Bool) → length at.lanes ≡ count → Later made at lines whole
      → is_over p at.lanes ≡ false → (o : Option E) → told_call p at l ≡ o
      → Judges (IsRest made at) (l ∷ lines) whole (line_after made) (found_after p first (makes p made at l o) lines whole)
  call_judges made at l lines whole all later not_over None is = fails (IsRest made at) l (a_rest made at).0 (a_rest made at).1
      (λ c more r.
      let next = rest_goes made at all not_over l c more r in
      let odd : None ≡ Some next.0 = sym is ∙ next.1 in cc)
      lines whole (line_after made)
  call_judges made at l lines whole all later not_over (Some e) is =
      line_judges made at l lines whole all later not_over e is (p.same (p.line at.world at.place e) l) refl

  -- all is over, or not
  ends_judge : (made : ℕ) (at : State W L) (lines : List T) (whole : Bool) (walk : Walk W L T) (l : T)
      → (is_over p at.lanes ≡ false → Judges (IsRest made at) (l ∷ lines) whole (line_after made) (found_after p first walk lines whole))
      → (b : Bool) → is_over p at.lanes ≡ b → Judges (IsRest made at) (l ∷ lines) whole (line_after made)
      (found_after p first (if b then closes p (line_after made) made (p.closing at.world at.place) l else walk) lines whole)
  ends_judge made at lines whole walk l goes true is = over_judges made at (l ∷ lines) whole is
  ends_judge made at lines whole walk l goes false is = goes is

  text_ends : (made : ℕ) (at : State W L) (whole : Bool) (b : Bool) → is_over p at.lanes ≡ b
      → Judges (IsRest made at) [] whole (line_after made)
      (if b then closed (line_after made) made (p.closing at.world at.place) whole else No (line_after made))
  text_ends made at whole true is = over_judges _ at [] _ is
  text_ends made at whole false is = no_line _ _ (a_rest _ at).1 _ (λ r w. no_rest _ at is r) _

  entries_judge : (made : ℕ) (at : State W L) (lines : List T) (whole : Bool) → length at.lanes ≡ count
      → Judges (IsRest made at) lines whole (line_after made) (found_after p first (Entries made at) lines whole)
  entries_judge made at [] whole all = text_ends made at whole (is_over p at.lanes) refl
  entries_judge made at (l ∷ lines) whole all =
      ends_judge made at lines whole (makes p made at l (told_call p at l)) l
      (λ not_over. call_judges made at l lines whole all
      (λ e. entries_judge (suc made) (entered p at e) lines whole (length-entered p at e ∙ all)) not_over (told_call p at l) refl)
      (is_over p at.lanes) refl

  -- ---- whole texts
  a_report : (lines : List T) × Any (IsReportWith p first) lines
  a_report = let ends = an_end p _ lawful first in (report_of p first ends.0, (length ends.0, (ends.0, runs_good p _ lawful first _ ends.1, refl, refl)))

  head_first : (l : T) (c : ℕ) (lines : List T) → IsReportWith p first c (l ∷ lines) → (l ≡ p.head) × IsRest 0 first c lines
  head_first l c lines is =
      let one : l ≡ p.head = cc is.2 in
      let rest : lines ≡ report_from p first is.0 = cc in
      let so_many = is.3 in
      (one, (is.0, good_runs p first _ is.1, rest, omega (arith, so_many)))

  head_judges : (l : T) (lines : List T) (whole : Bool) → length first.lanes ≡ count → (b : Bool) → p.same p.head l ≡ b
      → Judges (IsReportWith p first) (l ∷ lines) whole 1 (found_after p first (if b then Entries 0 first else Fails 1) lines whole)
  head_judges l lines whole all true is =
      let one = lawful.equal p.head l is in
      one_right (IsReportWith p first) (IsRest 0 first) l
      (λ c more r.
      let so_many = r.3 in
      (r.0, runs_good p count lawful first r.0 r.1, ap (λ (x : T). x ∷ more) (sym one) ∙ ap (λ (xs : List T). p.head ∷ xs) r.2, omega (arith, so_many)))
      (λ c more r. (head_first l c more r).1)
      lines whole 1 (found_after p first (Entries 0 first) lines whole) (entries_judge 0 first lines whole all)
  head_judges l lines whole all false is = fails (IsReportWith p first) l a_report.0 a_report.1
      (λ c more r. not_same p.head l is (sym (head_first l c more r).0)) lines whole 1

  lines_judged : (lines : List T) (whole : Bool) → length first.lanes ≡ count
      → Judges (IsReportWith p first) lines whole 1 (found_after p first Begins lines whole)
  lines_judged [] whole all = no_line (IsReportWith p first) a_report.0 a_report.1 whole
      (λ is w. let odd : [] ≡ p.head ∷ report_from p first is.1.0 = is.1.2 in cc) 1
  lines_judged (l ∷ lines) whole all = head_judges l lines whole all (p.same p.head l) refl

  -- ---- the least number
  to_report : (lines : List T) → Any (IsReportWith p first) lines → IsReport p first lines
  to_report lines r = (r.1.0, r.1.1, r.1.2)

  from_report : (lines : List T) → IsReport p first lines → Any (IsReportWith p first) lines
  from_report lines r = (length r.0, (r.0, r.1, r.2, refl))

  to_front : (front : List T) → BeginsIn (Any (IsReportWith p first)) front → BeginsIn (IsReport p first) front
  to_front front b = (b.0, b.1, to_report _ b.2, b.3)

  from_front : (front : List T) → BeginsIn (IsReport p first) front → BeginsIn (Any (IsReportWith p first)) front
  from_front front b = (b.0, b.1, from_report _ b.2, b.3)

  shorter : (lines : List T) (i j : ℕ) → j ≤ i → BeginsIn (IsReport p first) (take i lines) → BeginsIn (IsReport p first) (take j lines)
  shorter lines i j le b =
      let cut = take_less j i _ le in
      let parts =
      sym (take-append-drop j _) ∙ ap (λ xs. xs ++ drop j (take i lines)) cut in
      (b.0, drop j _ ++ b.1, b.2, b.3 ∙ ap (λ xs. xs ++ b.1) parts ∙ append_assoc _ _ b.1)

  least_wrong : (text : Text T) (m : ℕ) → IsWrong (IsReportWith p first) text.lines text.whole 1 m → IsLeastWrong p first text m
  least_wrong text m w = record {
    not_good = λ g. w.not_good (from_report _ g.0) g.1;
    from = let is = w.number in omega (arith, is);
    wrong =
        let is : m ≡ suc w.fit = let n = w.number in omega (arith, n) in
        elim w.wrong [
          | inl short ↦ inl (omega (arith, is, short))
          | inr none ↦ inr (subst (λ n. BeginsIn (IsReport p first) (take n text.lines) → ⊥) (sym is) (λ b. none (from_front (take (suc w.fit) text.lines) b)))
        ];
    least = λ j from is. elim (order m j) [
      | inl le ↦ le
      | inr lt ↦ elim is [
        | inl short ↦ let n = w.number in let most = w.within in absurd (omega (arith, short, lt, n, most))
        | inr none ↦
            let n = w.number in
            absurd (none (shorter _ _ j (omega (arith, lt, n)) (to_front _ w.begins)))
      ]
    ];
  }
    where
      order : (a b : ℕ) → (a ≤ b) ⊎ (b < a)
      order a b = grind arith

  pub judge_judges : (text : Text T) → length first.lanes ≡ count → IsJudged p first text (judge p first text)
  judge_judges text all = go (found_after p first Begins text.lines text.whole) (lines_judged text.lines text.whole all)
    where
      go : (found : Verdict) → Judges (IsReportWith p first) text.lines text.whole 1 found → IsJudged p first text found
      go (Yes c) j = j
      go (No m) j = least_wrong text m j

  -- nothing else judges it
  same_count : (g h : List E) → IsWholeRun p first g → IsWholeRun p first h → report_from p first g ≡ report_from p first h
      → length first.lanes ≡ count → length g ≡ length h
  same_count g h this that same all = ap length (one_run p _ lawful first g h all this that same)

  judged_one : (text : Text T) (a b : Verdict) → length first.lanes ≡ count → IsJudged p first text a → IsJudged p first text b → a ≡ b
  judged_one text (Yes c) (Yes d) all this that =
      let rest : report_from p first this.0.0 ≡ report_from p first that.0.0 = cc (sym this.0.2 ∙ that.0.2) in
      let same = same_count _ _ (good_runs p first _ this.0.1) (good_runs p first _ that.0.1) rest all in
      ap (λ n. Yes n) (sym this.0.3 ∙ same ∙ that.0.3)
  judged_one text (Yes c) (No m) all this that = absurd (that.not_good ((this.0.0, this.0.1, this.0.2), this.1))
  judged_one text (No n) (Yes c) all this that = absurd (this.not_good ((that.0.0, that.0.1, that.0.2), that.1))
  judged_one text (No n) (No m) all this that =
      let below = this.least m that.from that.wrong in
      let above = that.least n this.from this.wrong in
      let same : n ≡ m = omega (arith, below, above) in ap (λ x. No x) same

  pub judge_is_right : (text : Text T) (found : Verdict) → length first.lanes ≡ count
      → (IsJudged p first text found → found ≡ judge p first text) × (found ≡ judge p first text → IsJudged p first text found)
  judge_is_right text found all = (
    λ is. judged_one text found (judge p first text) all is (judge_judges text all),
    λ same. subst (IsJudged p first text) (sym same) (judge_judges text all),
  )
