-- A lane stands at most once in a phase.
use Rattle.std.{proofs.{Common.{◌≡◌, ℕ, zero, suc, false, List, [], ◌∷◌, ◌++◌, take, Some, None, subst}, lemmas.Option.{none-some, same_Some}}, specs.List.slice_get}
use Rattle.ix_script.{specs.{lines.{Before.{is_known, phase_lanes}, Said.line_of, Faults.line_fault}, scripts.Schedule.LanesOnce, declared.line.Line.Line}, proofs.lines.Sound.{Sound, sound}}
use Rattle.ix_label.specs.declared.form.Form as spelled
use Rattle.ix_script.specs.declared.line.Line.TheVariants as line

nothing_at : (i : ℕ) (x : Line) → slice_get [] i ≡ Some x → ⊥
nothing_at zero x is = none-some x is
nothing_at (suc i) x is = none-some x is

pub none_once : LanesOnce []
none_once i name is = absurd (nothing_at i _ is)

-- what holds of each `lane` line and the lines before it, with one line more
grown : (Q : List Line → List ℕ → Type 0) (lines : List Line) (l : Line) → ((i : ℕ) (name : List ℕ) → slice_get lines i ≡ Some (line.Lane name) → Q (take i lines) name)
    → ((name : List ℕ) → l ≡ line.Lane name → Q lines name)
    → (i : ℕ) (name : List ℕ) → slice_get (lines ++ l ∷ []) i ≡ Some (line.Lane name) → Q (take i (lines ++ l ∷ [])) name
grown Q [] l before last zero name is = last _ (same_Some l _ is)
grown Q [] l before last (suc i) name is = absurd (nothing_at i _ is)
grown Q (x ∷ lines) l before last zero name is = before zero name is
grown Q (x ∷ lines) l before last (suc i) name is = grown (λ ls n. Q (x ∷ ls) n) _ l (λ j n e. before (suc j) n e) last i _ is

pub lanes_stay_once : (labels : spelled.Form) (before : List Line) (text : List ℕ) (l : Line) → line_fault before text ≡ None → line_of labels text ≡ Some l → LanesOnce before
    → LanesOnce (before ++ l ∷ [])
lanes_stay_once labels before text l fault meant once =
    grown (λ ls name. is_known name (phase_lanes ls) ≡ false) _ l once (λ name is. subst (λ x. Sound before x) is (sound _ _ _ l fault meant))
