-- The line of the entry that a history ends with.
use Rattle.std.{proofs.Common.{◌≡◌, ℕ, ◌+◌, false, List, [], ◌∷◌, ◌++◌, length, Result, Ok, Err, OnOk, refl, sym, ap, ◌∙◌, arith, length-append}, specs.Result.is_err}
use Rattle.ix_model.specs.history.{Events.Event, History.{History, with_entry, world_of}}
use Rattle.ix_script.specs.{declared.line.Line.Line, lines.Before.{form_told, lanes_of}}
use Rattle.ix_replay.specs.report.Report.{entry_text}
use Rattle.ix_check.specs.Printing.{IsLastLine}

-- what holds of an Ok
pub of_ok : {A E : Type 0} (P : Type 0) (r : Result A E) → is_err r ≡ false → OnOk r P → P
of_ok P (Ok a) not_err p = p
of_ok P (Err e) not_err p = cc

-- lists with one item more that are the same
pub same_before : {X : Type 0} (xs ys : List X) (x y : X) → xs ++ x ∷ [] ≡ ys ++ y ∷ [] → (xs ≡ ys) × (x ≡ y)
same_before [] [] x y same = (refl, cc)
same_before [] (b ∷ []) x y same = cc
same_before [] (b ∷ c ∷ ys) x y same = cc
same_before (a ∷ []) [] x y same = cc
same_before (a ∷ c ∷ xs) [] x y same = cc
same_before (a ∷ xs) (b ∷ ys) x y same =
    let first : a ≡ b = cc in
    let more = same_before xs ys x y cc in
    ((λ i. first i ∷ more.0 i), more.1)

-- the entry that a history ends with, and what stands before it
pub same_last : (before old h : History) (f e : Event) → h ≡ with_entry before f → h ≡ with_entry old e → (before ≡ old) × (f ≡ e)
same_last before old h f e this that =
    let config = ap (λ x. x.config) (sym this ∙ that) in
    let events = same_before _ _ f e (ap (λ x. x.events) (sym this ∙ that)) in
    ((λ i. record { config = config i; events = events.0 i }), events.1)

-- a line that was printed once nothing stood there
pub printed_last : (s : List Line) (count : ℕ) (before h : History) (f : Event) (out line : List ℕ) → h ≡ with_entry before f → out ≡ []
    → line ≡ out ++ entry_text (form_told s) (lanes_of s) (length before.events + 1) (world_of before) f → IsLastLine s count h line
printed_last s count before h f out line is none printed old e made so_many =
    let same = same_last _ _ h f e is made in
    printed ∙ ap (λ t. t ++ entry_text (form_told s) (lanes_of s) (length before.events + 1) (world_of before) f) none
    ∙ (λ i. entry_text (form_told s) (lanes_of s) (length (same.0 i).events + 1) (world_of (same.0 i)) (same.1 i))

-- no entry was made yet
pub none_yet : (s : List Line) (count : ℕ) (h : History) (line : List ℕ) → count ≡ length h.events → IsLastLine s count h line
none_yet s count h line all old e made so_many =
    absurd (omega (arith, all, ap (λ x. length x.events) made, so_many, length-append old.events (e ∷ [])))

-- the line of the entry that was made
pub line_made : (s t : List Line) (count : ℕ) (old new : History) (e : Event) (line : List ℕ) → t ≡ s → count ≡ length old.events
    → new ≡ with_entry old e
    → IsLastLine t count new line → line ≡ entry_text (form_told s) (lanes_of s) (length old.events + 1) (world_of old) e
line_made s t count old new e line same so_many made printed =
    printed old e made (sym so_many) ∙ ap (λ x. entry_text (form_told x) (lanes_of x) (length old.events + 1) (world_of old) e) same
