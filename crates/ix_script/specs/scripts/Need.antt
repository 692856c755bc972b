-- What the lines of a script cost a journal, at the most.
use Rattle.std.specs.Prelude.{ℕ, ◌+◌, List, length, map, sum, min, if◌then◌else◌}
use Rattle.ix_model.specs.history.Cost.{cost_of_path}
use Rattle.ix_script.specs.lines.Before.{is_command}
use Rattle.ix_script.specs.declared.line.Line.{Line}
use Rattle.ix_script.specs.declared.line.Line.TheVariants as line

-- what the entries of a line cost: a command of one call costs 128, the bytes that it writes and its paths; `copy` two entries and the bytes
-- that it carries, `priv` five entries and `login` nine, each with 16 bytes; a line that is no command costs nothing
unfoldable pub cost_of_line : Line → ℕ
cost_of_line (line.Write proc fd bytes) = 128 + length bytes
cost_of_line (line.Create proc path) = 128 + cost_of_path path
cost_of_line (line.Open proc path mode named) = 128 + cost_of_path path
cost_of_line (line.Mkdir proc path) = 128 + cost_of_path path
cost_of_line (line.Link proc target path) = 128 + (cost_of_path target + cost_of_path path)
cost_of_line (line.Unlink proc path) = 128 + cost_of_path path
cost_of_line (line.Rmdir proc path) = 128 + cost_of_path path
cost_of_line (line.Chdir proc path) = 128 + cost_of_path path
cost_of_line (line.Stat proc path) = 128 + cost_of_path path
cost_of_line (line.List proc path index) = 128 + cost_of_path path
cost_of_line (line.Exec proc path) = 128 + cost_of_path path
cost_of_line (line.Labelof proc path) = 128 + cost_of_path path
cost_of_line (line.Setlabel proc path label) = 128 + cost_of_path path
cost_of_line (line.Freeze proc path) = 128 + cost_of_path path
cost_of_line (line.Thaw proc path) = 128 + cost_of_path path
cost_of_line (line.Setpriv proc path cap lic) = 128 + cost_of_path path
cost_of_line (line.Copy proc from to count) = 256 + min count 4096
cost_of_line (line.Priv proc fd) = 656
cost_of_line (line.Login proc fd hand named) = 1168
cost_of_line l = if is_command l then 128 else 0

-- what they cost together
unfoldable pub need : List Line → ℕ
need lines = sum (map cost_of_line lines)
