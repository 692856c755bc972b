-- A file that carries privileges is not written.
use Rattle.std.specs.Prelude.{List, [], ◌∷◌, codes}
use Rattle.ix_label.specs.Category.{bottom}
use Rattle.ix_model.specs.history.Events.{Event}
use Rattle.ix_model.specs.history.Events as op
use Rattle.ix_model.specs.declared.call.Mode.TheVariants as mode
use Rattle.ix_model.specs.declared.refusal.Refusal.TheVariants as refusal
use Rattle.ix_worked.specs.Scripts.{in_root, entry, gives_number, refuses}
use Rattle.ix_worked.specs.Sessions.{Shown}

-- open a /prog w as f
-- write a f "x"
abbrev pub writing_a_program : List Event
writing_a_program =
    entry 8 1 (op.OpenAt (in_root (codes "prog")) mode.Write)
    ∷ entry 9 1 (op.WriteFd 0 (codes "x"))
    ∷ []

-- it is opened, and not written
abbrev pub writing_a_program_shows : Shown
writing_a_program_shows = record {
  lines = gives_number 0 bottom ∷ refuses refusal.Trusted bottom ∷ [];
  objects = (0, bottom) ∷ (1, bottom) ∷ (2, bottom) ∷ (3, bottom) ∷ [];
  processes = (1, bottom) ∷ [];
  log = [];
}
