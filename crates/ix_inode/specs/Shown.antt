-- A new inode, and what is told of one.
use Rattle.std.specs.Prelude.{ℕ, Bool, true, false, List, Option, None, Some, if◌then◌else◌}
use Rattle.ix_label.specs.Category.{Categories, bottom}
use Rattle.ix_model.specs.world.Privs.{no_privileges}
use Rattle.ix_model.specs.world.World.{put}
use Rattle.ix_model.specs.declared.reply.Kind.{Kind}
use Rattle.ix_model.specs.declared.reply.Kind.TheVariants as kind
use Rattle.ix_inode.specs.declared.node.Inode.{Inode}
use Rattle.ix_inode.specs.declared.node.Node.{Node}

-- a directory, or else a file
abbrev pub kind_of : Bool → Kind
kind_of true = kind.Dir
kind_of false = kind.File

-- whether a new inode of that kind is a directory; it is a file for any other kind
abbrev pub is_dir_kind : Kind → Bool
is_dir_kind k = elim k [ kind.Dir ↦ true | _ ↦ false ]

-- a new one on a file system: at bottom, not frozen, without privileges. A directory has one name always, a file none yet.
abbrev pub new_node : ℕ → Bool → Node
new_node fs dir = record { dir = dir; fs = fs; label = bottom; frozen = false; cap = no_privileges; lic = no_privileges; links = if dir then 1 else 0 }

-- what is told of an inode under a ceiling, with so many bytes
abbrev pub told : Categories → ℕ → Node → Inode
told ceiling size x = record { kind = kind_of x.dir; fs = x.fs; float = record { label = x.label; ceiling = ceiling; frozen = x.frozen }; cap = x.cap; lic = x.lic; links = x.links; size = size }

-- a table with an inode at the number that is taken, if one is
abbrev pub taken : Option ℕ → Node → List (Option Node) → List (Option Node)
taken None x nodes = nodes
taken (Some n) x nodes = put nodes n (Some x)
