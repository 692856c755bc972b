-- What tracks stand for after a call that sets an object's label.
use Rattle.std.proofs.Common.{◌≡◌, ◌≢◌, ◌≤◌, ◌<◌, ◌+◌, ◌^◌, ◌==◌, ◌&&◌, ◌||◌, not, ℕ, Bool, true, false, true≢false, [], ◌∷◌, ◌++◌, length, Option, Some, None, is_some, refl, sym, ap, ◌∙◌}
use Rattle.std.proofs.{Common.{arith, inl, inr}, lemmas.{Bool.{eq-eqb, ne_eqb, Decides.eqb_tells}, List.{length-append, append_cancel_left}}}
use Rattle.std.specs.{Option.option_map_or, Prelude.slice_get}
use Rattle.ix_label.specs.Category.{Categories, leq}
use Rattle.ix_model.specs.{declared.audit.AuditLine.AuditLine, history.{AuditLog.audit_log, Events.Event, History.{History, world_of, next, with_entry}}, opening.Opening.opening_world}
use Rattle.ix_model.{specs.{rows.Auditing.audit_line, world.{Naming.PathOf, World.{Frame, Object, at}}}, proofs.{told.Logs.logged_run, words.Runs.world_of-push}}
use Rattle.ix_iso.proofs.Lowerings.{lowerings_logged}
use Rattle.ix_flow.specs.{Lines.lines_of_entry, Lowerings.falls, Marks.marks_of, Moves.edited, Tracking.{AreFalls, AreTracks, is_noted, let_down}, declared.falls.Falls.Falls}
use Rattle.ix_flow.specs.declared.tracks.Tracks.{Tracks}
use Rattle.ix_flow.proofs.{FirstFall.{falls_last, falls_push, none_late}, NewObjects.stood_step, Pushing.stands_last, ReadMarks.{reads_nothing, tells_nothing}}
use Rattle.ix_flow.proofs.{Relabelling.{LetDown, Nothing, Says, log_within, opening_log, says_step, within_at}, Staying.marks_next, Through.kept_marks, Writes.{kept_sides, tracks_now}}
use Rattle.ix_model.specs.history.Lowering as low
use Rattle.ix_model.specs.history.Events as op
use Rattle.ix_model.specs.declared.audit.Act.TheVariants as act
use Rattle.ix_model.specs.declared.reply.Reply.TheVariants as reply

-- ---- what is noted
module _ (h : History) (e : Event) where
  abbrev f : Frame
  f = (world_of h).frame

  abbrev g : Frame
  g = (next h e).world.frame

  abbrev last : ℕ
  last = length h.events + 1

  -- what is noted once it is noted rightly for the last entry
  falls_next : (was now : Falls) → AreFalls was h → length h.events + 2 < 2 ^ 32 → ((o place : ℕ) → place < 2 ^ 32 → place ≢ last → is_noted now o place ≡ is_noted was o place)
      → ((o : ℕ) → is_noted now o last ≡ falls f g o) → AreFalls now (with_entry h e)
  unfolding world_of
  falls_next was now are few same new = record {
    noted = λ o place low. elim (eqb_tells place (length h.events + 1)) [
      | inl here ↦ ap (is_noted now o) here.1 ∙ new o ∙ sym (ap (let_down (with_entry h e) o) here.1 ∙ falls_last (opening_world h.config) 1 h.events e o last refl)
      | inr apart ↦ same o _ low apart.1 ∙ are.noted o place low ∙ sym (falls_push (opening_world h.config) 1 h.events e o place apart.1)
    ];
    few = omega (arith, length-append h.events (e ∷ []), few);
  }

  -- an object that is let down is logged
  logs_fall : (o : ℕ) → falls f g o ≡ true → (was now : Categories) × (g.log ≡ f.log ++ audit_line last e.pid act.DownFile o was now ∷ [])
  unfolding falls
  logs_fall o down = go _ _ refl refl down
    where
      go : (a b : Option Object) → at f.objects o ≡ a → at g.objects o ≡ b → option_map_or (λ x. option_map_or (λ y. not (leq x.label y.label)) b false) a false ≡ true
          → (was now : Categories) × (g.log ≡ f.log ++ audit_line last e.pid act.DownFile o was now ∷ [])
      go None b is here down = absurd (true≢false (sym down))
      go (Some x) None is here down = absurd (true≢false (sym down))
      go (Some x) (Some y) is here down = rises _ refl down
        where
          rises : (c : Bool) → leq x.label y.label ≡ c → not c ≡ true → (was now : Categories) × (g.log ≡ f.log ++ audit_line last e.pid act.DownFile o was now ∷ [])
          rises true up isnt = absurd (true≢false (sym isnt))
          rises false below isnt = (x.label, y.label, (lowerings_logged _ _ e (low.OfObject o x y is here below)).log)

  -- where the log has no line more, none is
  none_down : g.log ≡ f.log → (o : ℕ) → falls f g o ≡ false
  none_down same o = go _ refl
    where
      go : (b : Bool) → falls f g o ≡ b → b ≡ false
      go false is = refl
      go true is =
          let logged = logs_fall o is in
          let more = length-append f.log (audit_line last e.pid act.DownFile o logged.0 logged.1 ∷ []) in
          absurd (omega (arith, ap length (sym same ∙ logged.2), more))

  -- where it has that of one, that one is, and no other
  one_down : (o : ℕ) (x y : Object) → at f.objects o ≡ Some x → at g.objects o ≡ Some y → leq x.label y.label ≡ false → g.log ≡ f.log ++ audit_line last e.pid act.DownFile o x.label y.label ∷ []
      → (n : ℕ) → falls f g n ≡ (n == o)
  unfolding falls
  one_down o x y is here down line n = elim (eqb_tells n o) [
    | inl same ↦
        ap (falls f g) same.1
        ∙ ap (λ a. option_map_or (λ u. option_map_or (λ v. not (leq u.label v.label)) (at g.objects o) false) a false) is
        ∙ ap (λ b. option_map_or (λ v. not (leq x.label v.label)) b false) here
        ∙ ap not down
        ∙ sym (eq-eqb n o same.1)
    | inr apart ↦ go _ refl apart.1 ∙ sym (ne_eqb n o apart.1)
  ]
    where
      go : (b : Bool) → falls f g n ≡ b → (n ≡ o → ⊥) → b ≡ false
      go false other apart = refl
      go true other apart =
          let logged = logs_fall n other in
          let one : audit_line last e.pid act.DownFile o x.label y.label ≡ audit_line last e.pid act.DownFile n logged.0 logged.1 = cc (append_cancel_left f.log _ _ (sym line ∙ logged.2)) in
          absurd (apart (sym (ap (λ l. l.target) one)))

-- ---- the log
-- each line of a log has the place of an entry
places_past : (h : History) (n : ℕ) (l : AuditLine) → slice_get (world_of h).frame.log n ≡ Some l → l.place < length h.events + 1
unfolding world_of
places_past h n l is =
    within_at 1 _ _ n l (log_within _ 1 _ _ (omega arith))
    (ap (λ log. slice_get log n) (sym (logged_run _ 1 _
    ∙ ap (λ log. log ++ audit_log (opening_world h.config) 1 h.events) (opening_log _))) ∙ is)

module _ (h : History) (seat line pid : ℕ) (path : PathOf) (label : Categories) where
  abbrev e : Event
  e = record { seat = seat; line = line; pid = pid; op = op.SetLabel path label }

  says : Says (length h.events + 1) pid (world_of h).frame (next h e).world.frame
  says = says_step _ _ _ _ _

  log_now : (world_of (with_entry h e)).frame.log ≡ (next h e).world.frame.log
  log_now = ap (λ w. w.frame.log) (world_of-push h e)

  marks_label : marks_of (with_entry h e) ≡ kept_marks h e
  unfolding edited
  marks_label = marks_next h e

  silent : (d count k : ℕ) → e.op ≡ op.ReadFd d count → (next h e).reply ≡ reply.Bytes k → k ≡ 0
  silent d count k is gives = cc

  module _ (few : length (with_entry h e).events ≤ 6800000) (t : Tracks) (are : AreTracks t h) where
    tracks : (now : Falls) → AreFalls now (with_entry h e) → AreTracks (record t { falls = now }) (with_entry h e) × (lines_of_entry h e ≡ [])
    tracks now falls = (
      tracks_now h e are.sound t _ are refl (reads_nothing h e silent) falls _ marks_label
          (kept_sides h e are.sound (stood_step _ _ _ _ refl) _ _ are.sides),
      tells_nothing h e silent,
    )

    short : length h.events + 2 < 2 ^ 32
    short = let many = length-append h.events (e ∷ []) in omega (arith, few, many)

    -- none was noted before for this place
    not_yet : (o : ℕ) → is_noted t.falls o (length h.events + 1) ≡ false
    not_yet o = are.falls.noted o _ (omega (arith, are.falls.few)) ∙ none_late _ 1 _ o _ (omega arith)

    -- the last line of the log tells none
    pub none_told : ((l : AuditLine) → (n : ℕ) → n + 1 ≡ length (world_of (with_entry h e)).frame.log → slice_get (world_of (with_entry h e)).frame.log n ≡ Some l → l.place ≡ length h.events + 1
        → l.act ≡ act.DownFile → ⊥)
        → AreTracks t (with_entry h e) × (lines_of_entry h e ≡ [])
    none_told none = tracks t.falls (falls_next h e t.falls t.falls are.falls short (λ o place low apart. refl) (λ o. not_yet o ∙ sym (go says o)))
      where
        go : Says (length h.events + 1) pid (world_of h).frame (next h e).world.frame → (o : ℕ) → falls (world_of h).frame (next h e).world.frame o ≡ false
        go (Nothing same) o = none_down h e same o
        go (LetDown n x y is here down added) o =
            let all : (world_of (with_entry h e)).frame.log ≡ (world_of h).frame.log ++ audit_line (length h.events + 1) pid act.DownFile n x.label y.label ∷ [] = log_now ∙ added in
            let many = length-append (world_of h).frame.log (audit_line (length h.events + 1) pid act.DownFile n x.label y.label ∷ []) in
            let long = ap length all in
            absurd (none (audit_line (length h.events + 1) pid act.DownFile n x.label y.label) (length (world_of h).frame.log) (omega (arith, many, long))
            (ap (λ log. slice_get log (length (world_of h).frame.log)) all ∙ stands_last (world_of h).frame.log _) refl refl)

    -- the log is empty, or has no such line
    pub none_logged : length (world_of (with_entry h e)).frame.log ≡ 0 → AreTracks t (with_entry h e) × (lines_of_entry h e ≡ [])
    none_logged empty = none_told (λ l n at_end is here lowers. omega (arith, at_end, empty))

    pub no_line : (n : ℕ) → n + 1 ≡ length (world_of (with_entry h e)).frame.log → slice_get (world_of (with_entry h e)).frame.log n ≡ None → AreTracks t (with_entry h e) × (lines_of_entry h e ≡ [])
    no_line n at_end none = none_told (λ l m last is here lowers.
        let same : m ≡ n = omega (arith, at_end, last) in
        let gone = sym is ∙ ap (slice_get _) same ∙ none in
        true≢false (ap is_some gone))

    pub other_line : (k : AuditLine) (n : ℕ) → n + 1 ≡ length (world_of (with_entry h e)).frame.log → slice_get (world_of (with_entry h e)).frame.log n ≡ Some k
        → (k.place ≡ length h.events + 1 → k.act ≡ act.DownFile → ⊥)
        → AreTracks t (with_entry h e) × (lines_of_entry h e ≡ [])
    other_line k n at_end is other = none_told (λ l m last there here lowers.
        let same : m ≡ n = omega (arith, at_end, last) in
        let both = sym there ∙ ap (slice_get _) same ∙ is in
        let one : l ≡ k = cc (both) in
        other (ap (λ x. x.place) (sym one) ∙ here) (ap (λ x. x.act) (sym one) ∙ lowers))

    -- the last line of the log tells one
    pub one_told : (l : AuditLine) (n : ℕ) → n + 1 ≡ length (world_of (with_entry h e)).frame.log → slice_get (world_of (with_entry h e)).frame.log n ≡ Some l → l.place ≡ length h.events + 1
        → (now : Falls)
        → ((o place : ℕ) → place < 2 ^ 32 → is_noted now o place ≡ (o == l.target && place == l.place || is_noted t.falls o place))
        → AreTracks (record t { falls = now }) (with_entry h e) × (lines_of_entry h e ≡ [])
    one_told l n at_end is here now noted = tracks _ (falls_next h e t.falls now are.falls short same (go says))
      where
        same : (o place : ℕ) → place < 2 ^ 32 → place ≢ length h.events + 1 → is_noted now o place ≡ is_noted t.falls o place
        same o place low apart = noted o _ low ∙ other _ (ne_eqb place l.place (λ x. apart (x ∙ here)))
          where
            other : (b : Bool) → (place == l.place) ≡ false → (b && place == l.place || is_noted t.falls o place) ≡ is_noted t.falls o place
            other true isnt = ap (λ c. c || is_noted t.falls o place) isnt
            other false isnt = refl

        go : Says (length h.events + 1) pid (world_of h).frame (next h e).world.frame → (o : ℕ) → is_noted now o (length h.events + 1) ≡ falls (world_of h).frame (next h e).world.frame o
        go (Nothing kept) o = let past = places_past h n l (ap (λ log. slice_get log n) (sym (log_now ∙ kept)) ∙ is) in absurd (omega (arith, past, here))
        go (LetDown m x y stood_as stands_as down added) o =
            let all : (world_of (with_entry h e)).frame.log ≡ (world_of h).frame.log ++ audit_line (length h.events + 1) pid act.DownFile m x.label y.label ∷ [] = log_now ∙ added in
            let many = length-append (world_of h).frame.log (audit_line (length h.events + 1) pid act.DownFile m x.label y.label ∷ []) in
            let long = ap length all in
            let index : n ≡ length (world_of h).frame.log = omega (arith, at_end, many, long) in
            let line : Some (audit_line (length h.events + 1) pid act.DownFile m x.label y.label) ≡ Some l = sym
            (ap (λ log. slice_get log (length (world_of h).frame.log)) all ∙ stands_last (world_of h).frame.log _) ∙ ap (slice_get (world_of (with_entry h e)).frame.log) (sym index) ∙ is in
            let one : audit_line (length h.events + 1) pid act.DownFile m x.label y.label ≡ l = cc (line) in
            let target : l.target ≡ m = sym (ap (λ (k : AuditLine). k.target) one) in
            noted o (length h.events + 1) (omega (arith, are.falls.few))
            ∙ ap (λ b. o == l.target && b || is_noted t.falls o (length h.events + 1)) (eq-eqb (length h.events + 1) l.place (sym here))
            ∙ ap (λ b. o == l.target && true || b) (not_yet o)
            ∙ ap (λ b. b && true || false) (ap (λ k. o == k) target)
            ∙ plain (o == m)
            ∙ sym (one_down h e m x y stood_as stands_as down added o)
          where
            plain : (b : Bool) → (b && true || false) ≡ b
            plain true = refl
            plain false = refl
