-- The lines of entries one after the other, and the last line.
use Rattle.std.proofs.Common.{◌≡◌, false, List, [], ◌∷◌, ◌++◌, Result, Ok, Err, OnOk, is_err, refl, sym, ap, ◌∙◌, append-nil, append_assoc}
use Rattle.ix_model.specs.history.{Events.Event, History.{History, with_entry}}
use Rattle.ix_flow.specs.{Laws.{FlowsAreLinesAndAnEnd, LinesGoOn}, Lines.{Counts, end_line, lines_from, lines_of_entry, pieces_read, with_pieces}, Tracking.{counts_from, lines_after}}

-- what holds of a result that is no error
pub of_ok : {A E : Type 0} (P : Type 0) (r : Result A E) → is_err r ≡ false → OnOk r P → P
of_ok P (Ok a) fine holds = holds
of_ok P (Err e) fine holds = cc

lines_end : (h : History) (n : Counts) (events : List Event) → lines_from h n events ≡ lines_after h events ++ end_line (counts_from h n events)
unfolding lines_from lines_after counts_from
lines_end h n [] = refl
lines_end h n (e ∷ events) =
    ap (λ text. lines_of_entry h e ++ text) (lines_end (with_entry h e) _ events)
    ∙ sym (append_assoc (lines_of_entry h e) (lines_after (with_entry h e) events) (end_line (counts_from (with_entry h e) (with_pieces (pieces_read h e) n) events)))

pub lines_and_end : FlowsAreLinesAndAnEnd
lines_and_end h = lines_end _ _ _

lines_push : (h : History) (events : List Event) (e : Event) → lines_after h (events ++ e ∷ []) ≡ lines_after h events ++ lines_of_entry (record h { events = h.events ++ events }) e
unfolding lines_after
lines_push h [] e = append-nil _ ∙ ap (λ xs. lines_of_entry (record h { events = xs }) e) (sym (append-nil h.events))
lines_push h (x ∷ events) e =
    ap (λ text. lines_of_entry h x ++ text) (lines_push _ events e
    ∙ ap (λ xs. lines_after (with_entry h x) events ++ lines_of_entry (record h { events = xs }) e) (append_assoc h.events _ events))
    ∙ sym (append_assoc _ _ (lines_of_entry (record h { events = h.events ++ x ∷ events }) e))

pub lines_more : LinesGoOn
lines_more h e = lines_push _ _ e
