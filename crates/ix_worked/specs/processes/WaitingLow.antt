-- A parent that has to stay low does not get the status of a high child.
use Rattle.std.specs.Prelude.{List, [], ◌∷◌, codes}
use Rattle.ix_label.specs.Category.{bottom}
use Rattle.ix_model.specs.history.Events.{Event}
use Rattle.ix_model.specs.history.Events as op
use Rattle.ix_model.specs.declared.call.Keep.TheVariants as keep
use Rattle.ix_model.specs.declared.call.Mode.TheVariants as mode
use Rattle.ix_model.specs.declared.refusal.Refusal.TheVariants as refusal
use Rattle.ix_worked.specs.Scripts.{four, in_root, entry, gives_bytes, gives_done, gives_number, refuses}
use Rattle.ix_worked.specs.Sessions.{Shown}

-- fork a all as q
-- open q /s r as f
-- read q f 1
-- exit q 9
-- ceiling a a -
-- wait a
abbrev pub waiting_low : List Event
waiting_low =
    entry 6 1 (op.Fork keep.All)
    ∷ entry 7 2 (op.OpenAt (in_root (codes "s")) mode.Read)
    ∷ entry 8 2 (op.ReadFd 0 1)
    ∷ entry 9 2 (op.Exit 9)
    ∷ entry 10 1 (op.SetCeiling 1 bottom)
    ∷ entry 11 1 op.WaitChild
    ∷ []

-- the parent is refused, and its child's record stays
abbrev pub waiting_low_shows : Shown
waiting_low_shows = record {
  lines =
      gives_number 2 bottom ∷ gives_number 0 bottom ∷ gives_bytes (codes "k") four ∷ gives_done four ∷ gives_done bottom
      ∷ refuses refusal.ProcCeiling bottom ∷ [];
  objects = (0, bottom) ∷ (1, four) ∷ [];
  processes = (1, bottom) ∷ (2, four) ∷ [];
  log = [];
}
