-- The log is read by a privilege, and each reading is a line of it.
use Rattle.std.specs.Prelude.{List, [], ◌∷◌}
use Rattle.ix_label.specs.Category.{bottom, top}
use Rattle.ix_model.specs.history.Events.{Event}
use Rattle.ix_model.specs.history.Events as op
use Rattle.ix_model.specs.declared.audit.Act.TheVariants as act
use Rattle.ix_model.specs.declared.config.Config.{Config}
use Rattle.ix_model.specs.declared.privs.PrivSet.{PrivSet}
use Rattle.ix_model.specs.declared.refusal.Refusal.TheVariants as refusal
use Rattle.ix_model.specs.declared.reply.Reply.TheVariants as reply
use Rattle.ix_worked.specs.Scripts.{three, proc, usual_fs, usual_limits, machine, entry, gives, log_line, gives_done, refuses}
use Rattle.ix_worked.specs.Sessions.{Shown}

-- DL
abbrev pub lowering_and_log : PrivSet
lowering_and_log = record { 0 = 17 }

-- limit log 2
-- proc a 3 * DL DL
abbrev pub two_lines : Config
two_lines = record (machine usual_fs (record (proc three top) { cap = lowering_and_log; lic = lowering_and_log } ∷ []) []) { limits = record usual_limits { log = 2 } }

-- readlog a 0
-- setself a -
-- readlog a 0
-- readlog a 2
-- readlog a 1
abbrev pub reading_the_log : List Event
reading_the_log =
    entry 6 1 (op.ReadLog 0)
    ∷ entry 7 1 (op.SetSelf bottom)
    ∷ entry 8 1 (op.ReadLog 0)
    ∷ entry 9 1 (op.ReadLog 2)
    ∷ entry 10 1 (op.ReadLog 1)
    ∷ []

-- the lowering is read, not the line of its own reading; where the log is full there is no more reading
abbrev pub reading_the_log_shows : Shown
reading_the_log_shows = record {
  lines =
      refuses refusal.EndOfList three ∷ gives_done bottom ∷ gives (reply.LogLine (log_line 2 1 act.DownSelf 1 three bottom)) [] bottom
      ∷ refuses refusal.EndOfList bottom ∷ refuses refusal.LogFull bottom ∷ [];
  objects = (0, bottom) ∷ [];
  processes = (1, bottom) ∷ [];
  log = log_line 2 1 act.DownSelf 1 three bottom ∷ log_line 3 1 act.ReadLog 0 bottom bottom ∷ [];
}
