-- What calls and histories cost a journal.
use Rattle.std.specs.Prelude.{ℕ, ◌+◌, List, length, map, sum}
use Rattle.ix_model.specs.world.Naming.{PathOf}
use Rattle.ix_model.specs.history.Events.{Op, Event}
use Rattle.ix_model.specs.history.Events as op

-- a path costs the length of each name and one more
abbrev pub cost_of_path : PathOf → ℕ
cost_of_path path = sum (map (λ name. length name + 1) path.names)

-- what a call costs above the 128 that each costs: the bytes that it writes, and its paths
abbrev pub cost_of_words : Op → ℕ
cost_of_words (op.CreateAt path) = cost_of_path path
cost_of_words (op.OpenAt path mode) = cost_of_path path
cost_of_words (op.WriteFd fd bytes) = length bytes
cost_of_words (op.MakeDir path) = cost_of_path path
cost_of_words (op.LinkAt target path) = cost_of_path target + cost_of_path path
cost_of_words (op.UnlinkAt path) = cost_of_path path
cost_of_words (op.RemoveDir path) = cost_of_path path
cost_of_words (op.ChangeDir path) = cost_of_path path
cost_of_words (op.StatAt path) = cost_of_path path
cost_of_words (op.ListAt path index) = cost_of_path path
cost_of_words (op.Exec path) = cost_of_path path
cost_of_words (op.LabelOf path) = cost_of_path path
cost_of_words (op.SetLabel path label) = cost_of_path path
cost_of_words (op.Freeze path) = cost_of_path path
cost_of_words (op.Thaw path) = cost_of_path path
cost_of_words (op.SetPriv path cap lic) = cost_of_path path
cost_of_words _ = 0

-- what a call costs
unfoldable pub cost_of : Op → ℕ
cost_of o = 128 + cost_of_words o

-- a history costs what its calls cost
unfoldable pub cost_of_history : List Event → ℕ
cost_of_history events = sum (map (λ e. cost_of e.op) events)
