-- What the entries of a history come to is added up while they are made.
use Rattle.std.proofs.Common.{◌≡◌, ℕ, suc, ◌+◌, ◌*◌, ◌≤◌, Bool, true, false, not, List, [], ◌∷◌, ◌++◌, length, Option, Some, None, is_some, refl, ap, ◌∙◌, sym}
use Rattle.std.proofs.Common.{subst, arith, if◌then◌else◌}
use Rattle.std.{specs.List.sum_by, proofs.lemmas.{Bool.Decides.nat_tests, List.Sums.{count_by-le-length, sum_by-append, sum_by-cons}}}
use Rattle.ix_model.specs.{world.{World.{World, Frame}, Contents.on_pipe}, opening.Opening.opening_world, rows.Table.{Decision, verdict}, history.Made.Made}
use Rattle.ix_model.specs.{rows.Telling.{told, told_of_write, told_of_pipe_write, told_of_file_write}, rows.Walks.{OpenFile, behind}, history.Shown.AreShown}
use Rattle.ix_model.specs.{history.Events.{Op, Event}, history.History.{History, world_of, with_entry, next}, history.Seats.{made_of, replied}}
use Rattle.ix_model.specs.{history.Step.{plainly, write_answer, answer, step, step_of, run}, declared.{config.Config.Config, reply.Reply.Reply}}
use Rattle.ix_model.specs.history.Events as op
use Rattle.ix_model.specs.declared.reply.Reply.TheVariants as reply
use Rattle.ix_model.proofs.{clean.{Cleaning.{WriteFacts, wrote}, Showing.shown_step}, words.Seats.replied-push}
use Rattle.ix_script.specs.{scripts.Scripts.config_of, declared.line.Line.Line}
use Rattle.ix_report.specs.{LineText.totals_line, declared.totals.Totals.Totals}
use Rattle.ix_asking.specs.Runs.{count_in}
use Rattle.ix_replay.specs.{Summary.{is_refused, bytes_written, refused_in, read_in, written_in, totals_of, summary_line}, declared.tally.Tally.Tally}
use Rattle.ix_replay.specs.Tallying.{HasSeen, IsSmall, tally_of, with_reply}

-- ---- one entry comes to little
few_shown : (r : Reply) (bytes : List ℕ) → AreShown r bytes → count_in r ≤ 4096
few_shown (reply.Bytes k) bytes h = h.1
few_shown _ bytes h = omega arith

-- a read gives at most 4,096 bytes
few_read : (w : World) (place : ℕ) (e : Event) → count_in (step_of w place e).reply ≤ 4096
few_read w place e = few_shown (step_of w place e).reply (step_of w place e).bytes (shown_step w place e.pid e.op)

-- a write that is too big is told so, to a pipe and to a file
small_write : (pipe : Bool) (w : World) (e : OpenFile) (there n : ℕ) → not (if pipe then told_of_pipe_write there n else told_of_file_write w.frame w.content e n).too_big ≡ true → n ≤ 4096
small_write true w e there n h = grind (arith, nat_tests)
small_write false w e there n h = grind (arith, nat_tests)

few_told : (w : World) (n : ℕ) (b : Option OpenFile) (e : OpenFile) → b ≡ Some e → not (told_of_write w.frame w.content n b).too_big ≡ true → n ≤ 4096
unfolding told_of_write
few_told w n b e is h =
    let P : Option OpenFile → Type 0 = λ o. not (told_of_write w.frame w.content n o).too_big ≡ true in
    small_write (on_pipe w.frame e) w e _ n (subst P is h)

few_answered : (w : World) (fd : ℕ) (new : List ℕ) (b : Option OpenFile) (r : Reply) (g : Frame) → ((k : ℕ) → r ≡ reply.Number k → (is_some b ≡ true) × (length new ≤ 4096))
    → bytes_written (op.WriteFd fd new) (write_answer w new b r g).reply ≤ 4096
unfolding write_answer plainly
few_answered w fd new (Some e) (reply.Number k) g h = (h k refl).1
few_answered w fd new None (reply.Number k) g h = let none : false ≡ true = (h k refl).0 in absurd (cc)
few_answered w fd new _ _ g h = omega arith

-- a write that is answered has at most 4,096 bytes
few_written_by : (w : World) (place pid : ℕ) (o : Op) → bytes_written o (step w place pid o).reply ≤ 4096
unfolding step answer told
few_written_by w place pid (op.WriteFd fd bytes) =
    let t = told w pid (op.WriteFd fd bytes) in
    let d : Decision = verdict t place pid (op.WriteFd fd bytes) w.frame in
    few_answered w fd bytes (behind w.frame pid fd) d.reply d.frame (λ k is.
    let facts : WriteFacts t pid fd w.frame = wrote t place pid fd bytes w.frame k is in
    (ap is_some facts.is_entry, few_told w (length bytes) (behind w.frame pid fd) facts.entry facts.is_entry facts.small))
few_written_by w place pid _ = omega arith

few_written : (w : World) (place : ℕ) (e : Event) → bytes_written e.op (step_of w place e).reply ≤ 4096
few_written w place e = few_written_by w place e.pid e.op

-- ---- many entries
length-replied : (w : World) (place : ℕ) (events : List Event) → length (replied w place events) ≡ length events
length-replied w place [] = refl
length-replied w place (e ∷ events) = omega (arith, length-replied (step_of w place e).world (suc place) events)

-- entries that come to at most 4,096 each
sum_few : (f : Made → ℕ) → ((w : World) (place : ℕ) (e : Event) → f (made_of e (step_of w place e)) ≤ 4096)
    → (w : World) (place : ℕ) (events : List Event) → sum_by f (replied w place events) ≤ 4096 * length events
sum_few f each w place [] = omega arith
sum_few f each w place (e ∷ events) =
    let rest : List Made = replied (step_of w place e).world (suc place) events in
    omega (arith, sum_by-cons f (made_of e (step_of w place e)) rest, each w place e, sum_few f each (step_of w place e).world (suc place) events)

-- a tally has room for what the entries of a core come to
tally_small : (w : World) (place : ℕ) (events : List Event) → length events ≤ 6800000 → IsSmall (tally_of (replied w place events))
unfolding refused_in read_in written_in
tally_small w place events few =
    let made : List Made = replied w place events in
    record {
      refused = omega (arith, few, length-replied w place events, count_by-le-length (λ (m : Made). is_refused m.reply) made);
      read = omega (arith, few, sum_few (λ m. count_in m.reply) few_read w place events);
      written = omega (arith, few, sum_few (λ m. bytes_written m.event.op m.reply) few_written w place events);
    }

-- ---- one entry more
tally_more : (made : List Made) (m : Made) → with_reply (tally_of made) m.event.op m.reply ≡ tally_of (made ++ m ∷ [])
unfolding refused_in read_in written_in
tally_more made m =
    let last : (f : Made → ℕ) → sum_by f made + f m ≡ sum_by f (made ++ m ∷ []) = λ f. omega (arith, sum_by-append f made (m ∷ []), sum_by-cons f m []) in
    let refused = last (λ x. if is_refused x.reply then 1 else 0) in
    let read = last (λ x. count_in x.reply) in
    let written = last (λ x. bytes_written x.event.op x.reply) in
    λ i. record { refused = refused i; read = read i; written = written i }

-- before the first entry a tally has seen all
pub seen_none : (k : Config) → HasSeen (record { config = k; events = [] }) (record { refused = 0; read = 0; written = 0 })
unfolding refused_in read_in written_in
seen_none k = refl

module _ (before h : History) (t : Tally) (e : Event) (r : Reply) (made : h ≡ with_entry before e) (given : r ≡ (next before e).reply) (seen : HasSeen before t) where
  -- and with one entry more
  pub seen_next : HasSeen h (with_reply t e.op r)
  unfolding world_of
  seen_next =
      let m : Made = made_of e (next before e) in
      (λ i. with_reply (seen i) e.op (given i))
      ∙ tally_more (replied (opening_world before.config) 1 before.events) m
      ∙ ap tally_of (sym (replied-push (opening_world before.config) 1 before.events e))
      ∙ ap (λ (x : History). tally_of (replied (opening_world x.config) 1 x.events)) (sym made)

  -- for which it has room
  pub seen_small : length h.events ≤ 6800000 → IsSmall (with_reply t e.op r)
  seen_small few = subst IsSmall (sym seen_next) (tally_small (opening_world h.config) 1 h.events few)

-- ---- the line
-- what a history from a config comes to
abbrev totals_from : Config → List Event → Totals
totals_from k events =
    let made = replied (opening_world k) 1 events in
    record { entries = length events; refused = refused_in made; read = read_in made; written = written_in made; lines = length (run (opening_world k) 1 events).frame.log }

totals_are : (k : Config) (s : List Line) (events : List Event) → k ≡ config_of s → totals_from k events ≡ totals_of s events
totals_are k s events is = ap (λ (c : Config). totals_from c events) is

pub line_told : (count : ℕ) (s : List Line) (h : History) (t : Tally) (entries lines : ℕ) (before out : List ℕ) → h.config ≡ config_of s → HasSeen h t
    → entries ≡ length h.events → lines ≡ length (world_of h).frame.log
    → before ≡ [] → out ≡ before ++ totals_line count (record { entries = entries; refused = t.refused; read = t.read; written = t.written; lines = lines }) → out ≡ summary_line count s h.events
unfolding summary_line world_of
line_told count s h t entries lines before out config tally entered logged empty told =
    let said : Totals = record { entries = entries; refused = t.refused; read = t.read; written = t.written; lines = lines } in
    told ∙ ap (λ b. b ++ totals_line count said) empty ∙ ap (totals_line count) (λ i. record {
      entries = entered i;
      refused = (tally i).refused;
      read =
          (tally i).read;
      written = (tally i).written;
      lines = logged i;
    })
    ∙ ap (totals_line count) (totals_are h.config s h.events config)
