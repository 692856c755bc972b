-- The words that a report alone has: kinds, acts, and what is kept.
use Rattle.std.specs.Prelude.{ℕ, Bool, List, codes, if◌then◌else◌}
use Rattle.std.specs.Fmt.{decimal}
use Rattle.ix_model.specs.declared.call.Keep.{Keep}
use Rattle.ix_model.specs.declared.call.Keep.TheVariants as keep
use Rattle.ix_model.specs.declared.reply.Kind.{Kind}
use Rattle.ix_model.specs.declared.reply.Kind.TheVariants as kind
use Rattle.ix_model.specs.declared.audit.Act.{Act}
use Rattle.ix_model.specs.declared.audit.Act.TheVariants as act

-- which descriptors a child gets
abbrev pub keep_text : Keep → List ℕ
keep_text keep.All = codes "all"
keep_text keep.Nothing = codes "none"
keep_text (keep.One fd) = decimal fd.0

-- what an object is
abbrev pub kind_text : Kind → List ℕ
kind_text kind.File = codes "file"
kind_text kind.Dir = codes "dir"
kind_text kind.Pipe = codes "pipe"

-- whether a process has ended
abbrev pub life_text : Bool → List ℕ
life_text ended = if ended then codes "ended" else codes "live"

-- an act that exercised a privilege
abbrev pub act_text : Act → List ℕ
act_text act.DownFile = codes "downfile"
act_text act.DownSelf = codes "downself"
act_text act.SetPriv = codes "setpriv"
act_text act.Grant = codes "grant"
act_text act.Ceiling = codes "ceiling"
act_text act.ThawFile = codes "thawfile"
act_text act.ThawSelf = codes "thawself"
act_text act.ReadLog = codes "readlog"
