use Rattle.std.{proofs.{Common.{◌≡◌, ◌==◌, ◌&&◌, ◌||◌, ◌∙◌, ℕ, length, sym, ap, arith}, lemmas.List.length-append}, specs.Prelude.slice_get}
use Rattle.ix_model.specs.history.Events as op
use Rattle.ix_model.specs.history.{Events.Event, History.{History, world_of, with_entry}, Made.entry}
use Rattle.ix_flow.{specs.Tracking.is_noted, proofs.{Writes.{few_then, led}, Relabels.{no_line, none_logged, one_told, other_line}}}
use Rattle.ix_flow.proofs.tracks.Tracks.relabel.Goals.{else-line-place-via-then-line-place+else-is_lowering, else-line-place-via-else-line-place}
use Rattle.ix_flow.proofs.tracks.Tracks.relabel.Goals as goal

-- what is known of the log of the one is known of that of the other
long_then : (h now : History) (e : Event) (n : ℕ) → now ≡ with_entry h e → n ≡ length (world_of now).frame.log → n ≡ length (world_of (with_entry h e)).frame.log
long_then h now e n is long = long ∙ ap (λ k. length (world_of k).frame.log) is

pub returns-in_default : goal.returns-in_default
returns-in_default c = λ seat line pid path label reply h step are.
    let e = entry seat line pid (op.SetLabel path label) in
    led _ h _ e _ step.history
    (none_logged h _ _ _ _ _ (few_then h _ e step.history (omega (arith, c.requires.place, c.requires.few))) _ are
    (sym (long_then h _ e _ step.history c.log_len.ensures.len) ∙ omega (arith, c.in_default.ensures)))

pub returns-in_default-log_line : goal.returns-in_default-log_line
returns-in_default-log_line c = λ seat line pid path label reply h step are.
    let e = entry seat line pid (op.SetLabel path label) in
    let long = long_then h _ e _ step.history c.log_len.ensures.len in
    led _ h _ e _ step.history
    (no_line h _ _ _ _ _ (few_then h _ e step.history (omega (arith, c.requires.place, c.requires.few))) _ are _
    (omega (arith, c.in-Some.ensures, long))
    (ap (λ (k : History). slice_get (world_of k).frame.log c.in-Some.last) (sym step.history) ∙ sym c.log_line.ensures ∙ c.in_default-log_line.is))

pub returns-in_ok-note : goal.returns-in_ok-note
returns-in_ok-note c = λ seat line pid path label reply h step are.
    let e = entry seat line pid (op.SetLabel path label) in
    let long = long_then h _ e _ step.history c.log_len.ensures.len in
    let last = c.requires.place ∙ ap (λ k. length k.events) step.history ∙ length-append h.events _ in
    led _ h _ e _ step.history
    (one_told h _ _ _ _ _ (few_then h _ e step.history
    (omega (arith, c.requires.place, c.requires.few))) _ are _ c.in-Some.last (omega (arith, c.in-Some.ensures, long))
    (ap (λ k. slice_get (world_of k).frame.log c.in-Some.last) (sym step.history) ∙ sym c.log_line.ensures ∙ c.in-Some-log_line.is)
    (c.if-line-place.true ∙ last) _
    (λ o place low. c.in_ok-note.ensures o place low ∙ ap (λ n. o == c.in-Some-log_line.line.target && place == n || is_noted c.args.self.now.falls o place) (sym c.if-line-place.true)))

pub returns-else-line-place : goal.returns-else-line-place
returns-else-line-place c = λ seat line pid path label reply h step are.
    let e = entry seat line pid (op.SetLabel path label) in
    let long = long_then h _ e _ step.history c.log_len.ensures.len in
    let last = c.requires.place ∙ ap (λ k. length k.events) step.history ∙ length-append h.events _ in
    led _ h _ e _ step.history
    (other_line h _ _ _ _ _
    (few_then h _ e step.history (omega (arith, c.requires.place, c.requires.few))) _ are c.in-Some-log_line.line c.in-Some.last (omega (arith, c.in-Some.ensures, long))
    (ap (λ k. slice_get (world_of k).frame.log c.in-Some.last) (sym step.history) ∙ sym c.log_line.ensures ∙ c.in-Some-log_line.is)
    (λ place lowers. elim c.else-line-place.branch [
      | else-line-place-via-then-line-place+else-is_lowering w ↦ w.is_lowering.ensures.not w.if-is_lowering.false lowers
      | else-line-place-via-else-line-place w ↦ w.if-line-place.false (place ∙ sym last)
    ]))
