-- The ends of a pipe are claimed by two processes, and a third is kept out.
use Rattle.std.specs.Prelude.{List, [], ◌∷◌}
use Rattle.ix_label.specs.Category.{bottom}
use Rattle.ix_model.specs.history.Events.{Event}
use Rattle.ix_model.specs.history.Events as op
use Rattle.ix_model.specs.world.Privs.{no_privileges}
use Rattle.ix_model.specs.declared.call.Keep.TheVariants as keep
use Rattle.ix_model.specs.declared.refusal.Refusal.TheVariants as refusal
use Rattle.ix_model.specs.declared.reply.Reply.TheVariants as reply
use Rattle.ix_worked.specs.Scripts.{entry, gives, gives_done, gives_number, refuses}
use Rattle.ix_worked.specs.Sessions.{Shown}

-- pipe a as f g
-- fork a all as q
-- fork a all as r
-- pex a f
-- pex q g
-- read r f 1
-- pex a f
-- exit q 0
-- pex a f
abbrev pub claiming : List Event
claiming =
    entry 5 1 op.MakePipe
    ∷ entry 6 1 (op.Fork keep.All)
    ∷ entry 7 1 (op.Fork keep.All)
    ∷ entry 8 1 (op.Pex 0)
    ∷ entry 9 2 (op.Pex 1)
    ∷ entry 10 3 (op.ReadFd 0 1)
    ∷ entry 11 1 (op.Pex 0)
    ∷ entry 12 2 (op.Exit 0)
    ∷ entry 13 1 (op.Pex 0)
    ∷ []

-- the path is whole while both live, and a third is kept out of an end that is claimed
abbrev pub claiming_shows : Shown
claiming_shows = record {
  lines =
      gives (reply.Two (record { 0 = 0 }) (record { 0 = 1 })) [] bottom ∷ gives_number 2 bottom ∷ gives_number 3 bottom
      ∷ gives reply.Half [] bottom ∷ gives (reply.Whole (record { 0 = 1 }) bottom no_privileges) [] bottom ∷ refuses refusal.PexHeld bottom
      ∷ gives (reply.Whole (record { 0 = 2 }) bottom no_privileges) [] bottom ∷ gives_done bottom ∷ gives reply.Half [] bottom ∷ [];
  objects = (0, bottom) ∷ (256, bottom) ∷ [];
  processes = (1, bottom) ∷ (2, bottom) ∷ (3, bottom) ∷ [];
  log = [];
}
