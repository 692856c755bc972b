-- What a call has looked at when it is refused.
use Rattle.std.specs.Prelude.{ℕ, List, [], ◌∷◌, map, Some}
use Rattle.std.specs.Option.{option_map_or}
use Rattle.ix_label.specs.Category.{Categories, bottom, join}
use Rattle.ix_model.specs.world.Naming.{PathOf}
use Rattle.ix_model.specs.world.World.{Frame, at, living}
use Rattle.ix_model.specs.rows.Walks.{walk, join_all, behind}
use Rattle.ix_model.specs.history.AuditLog.{object_of_path, label_at}
use Rattle.ix_model.specs.history.Events.{Op}
use Rattle.ix_model.specs.history.Events as op
use Rattle.ix_model.specs.declared.refusal.Refusal.{Refusal}
use Rattle.ix_model.specs.declared.refusal.Refusal.TheVariants as refusal

-- the paths that a call walks along, each of them to its end before anything is answered
abbrev pub paths_of : Op → List PathOf
paths_of (op.CreateAt path) = path ∷ []
paths_of (op.OpenAt path mode) = path ∷ []
paths_of (op.MakeDir path) = path ∷ []
paths_of (op.LinkAt target path) = target ∷ path ∷ []
paths_of (op.UnlinkAt path) = path ∷ []
paths_of (op.RemoveDir path) = path ∷ []
paths_of (op.ChangeDir path) = path ∷ []
paths_of (op.StatAt path) = path ∷ []
paths_of (op.ListAt path index) = path ∷ []
paths_of (op.Exec path) = path ∷ []
paths_of (op.LabelOf path) = path ∷ []
paths_of (op.SetLabel path label) = path ∷ []
paths_of (op.Freeze path) = path ∷ []
paths_of (op.Thaw path) = path ∷ []
paths_of (op.SetPriv path cap lic) = path ∷ []
paths_of _ = []

-- the labels of all directories that a path leads through
unfoldable pub along : Frame → ℕ → PathOf → Categories
along f pid path = option_map_or (λ p. join_all (walk f.objects p path).looked) (living (at f.processes pid)) bottom

-- what a call looks at besides, before it is refused so: the directory that isn't empty or is a root, the directory whose
-- names have ended, and the pipe that holds nothing, with the open entry on it
abbrev pub besides : Frame → ℕ → Op → Refusal → Categories
besides f pid (op.RemoveDir path) refusal.NotEmpty = label_at f (object_of_path f pid path)
besides f pid (op.RemoveDir path) refusal.CrossFs = label_at f (object_of_path f pid path)
besides f pid (op.ListAt path index) refusal.EndOfList = label_at f (object_of_path f pid path)
besides f pid (op.ReadFd fd count) refusal.Again = option_map_or (λ e. join (label_at f (Some e.entry.object)) e.entry.label) (behind f pid fd) bottom
besides f pid _ _ = bottom

-- all that a call has looked at when it is refused so
abbrev pub looked_at : Frame → ℕ → Op → Refusal → Categories
looked_at f pid c r = join (join_all (map (along f pid) (paths_of c))) (besides f pid c r)
