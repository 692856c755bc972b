-- A frozen file is written at its label, and is not raised.
use Rattle.std.specs.Prelude.{true, List, [], ◌∷◌, codes}
use Rattle.ix_label.specs.Category.{bottom, top}
use Rattle.ix_model.specs.history.Events.{Event}
use Rattle.ix_model.specs.history.Events as op
use Rattle.ix_model.specs.declared.call.Mode.TheVariants as mode
use Rattle.ix_model.specs.declared.config.Config.{Config}
use Rattle.ix_model.specs.declared.refusal.Refusal.TheVariants as refusal
use Rattle.ix_worked.specs.Scripts.{three, three_and_five, in_root, proc, file, usual_fs, machine, entry, gives_number, refuses}
use Rattle.ix_worked.specs.Sessions.{Shown}

-- proc a 3 * - -
-- proc b 3,5 * - -
-- file /t 3 frozen - - x
abbrev pub a_frozen_file : Config
a_frozen_file = machine usual_fs (proc three top ∷ proc three_and_five top ∷ []) (record (file (codes "t") three []) { frozen = true } ∷ [])

-- open a /t w as f
-- write a f x41
-- open b /t w as g
-- write b g x41
abbrev pub writing_to_it : List Event
writing_to_it =
    entry 7 1 (op.OpenAt (in_root (codes "t")) mode.Write)
    ∷ entry 8 1 (op.WriteFd 0 (codes "A"))
    ∷ entry 9 2 (op.OpenAt (in_root (codes "t")) mode.Write)
    ∷ entry 10 2 (op.WriteFd 0 (codes "A"))
    ∷ []

-- the one at its label writes, and the one above is refused
abbrev pub writing_to_it_shows : Shown
writing_to_it_shows = record {
  lines = gives_number 0 three ∷ gives_number 1 three ∷ gives_number 0 three_and_five ∷ refuses refusal.FileFrozen three_and_five ∷ [];
  objects = (0, bottom) ∷ (1, three) ∷ [];
  processes = (1, three) ∷ (2, three_and_five) ∷ [];
  log = [];
}
