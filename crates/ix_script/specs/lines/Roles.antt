-- What lines are for.
use Rattle.std.specs.Prelude.{◌≡◌, ◌<◌, ◌≤◌, ◌-◌, ℕ, Bool, true, false, List, length, Option, Some, None, slice_get, slice_index_or, if◌then◌else◌}
use Rattle.ix_script.specs.declared.line.Line.{Line}
use Rattle.ix_script.specs.declared.line.Line.TheVariants as line
use Rattle.ix_script.specs.declared.role.Role.{Role}
use Rattle.ix_script.specs.declared.role.Role.TheVariants as role

-- a skipped line, one of the header, one that begins a phase or a lane's part of it, and commands: those that may give a name, those that a server
-- serves, and all others
unfoldable pub role_of : Line → Role
role_of line.Skipped = role.Aside
role_of (line.Version form) = role.Header
role_of (line.Limit w n) = role.Header
role_of (line.Fs name ceiling blocks inodes) = role.Header
role_of (line.Proc name label ceiling cap lic) = role.Header
role_of (line.Dir path label frozen) = role.Header
role_of (line.File path label frozen cap lic bytes) = role.Header
role_of (line.Policy text) = role.Header
role_of line.Phase = role.Phase
role_of (line.Lane name) = role.Lane
role_of (line.Open proc path mode named) = role.Naming
role_of (line.Dup proc fd named) = role.Naming
role_of (line.Pipe proc named) = role.Naming
role_of (line.Fork proc keep named) = role.Naming
role_of (line.Priv proc fd) = role.Server
role_of (line.Login proc fd hand named) = role.Server
role_of _ = role.Command

-- whether it is the role of a line of the header
abbrev pub is_header : Role → Bool
is_header role.Header = true
is_header _ = false

-- whether a line stands in the header
abbrev pub in_header : Line → Bool
in_header l = is_header (role_of l)

-- the line, where there is one that stands in the header
abbrev pub header_only : Option Line → Option Line
header_only None = None
header_only (Some l) = if in_header l then Some l else None

-- no line at that index or behind it stands in the header
abbrev pub EndsHeader : ℕ → List Line → Type 0
EndsHeader n lines = (i : ℕ) → n ≤ i → header_only (slice_get lines i) ≡ None

-- It is the index behind the last line of the header, and 0 where there is none.
pub record IsHeaderEnd (n : ℕ) (lines : List Line) : Type 0 where
  pub within : n ≤ length lines
  pub ends : EndsHeader n lines
  pub last : 0 < n → in_header (slice_index_or lines (n - 1) line.Skipped) ≡ true
