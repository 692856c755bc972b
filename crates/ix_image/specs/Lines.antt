-- The list of a tree: a line for each file system, for each object, and for each name of a directory behind its line.
use Rattle.std.specs.Prelude.{ℕ, List, ◌++◌, length, codes, if◌then◌else◌}
use Rattle.std.specs.List.{flat_map, sum_by}
use Rattle.std.specs.Fmt.{decimal}
use Rattle.ix_label.specs.Spelling.{spelling}
use Rattle.ix_label.specs.declared.form.Form.TheVariants as form
use Rattle.ix_model.specs.declared.config.FsSpec.{FsSpec}
use Rattle.ix_report.specs.Names.{name_text}
use Rattle.ix_text.specs.Spellings.{privs_text, state_text}
use Rattle.ix_image.specs.Trees.{TreeOf, NodeOf, LinkOf, links_of, size_of, is_directory}

-- a file system
unfoldable pub file_system_line : FsSpec → List ℕ
file_system_line s =
    codes "fs " ++ name_text s.name ++ codes " " ++ spelling form.Two s.ceiling ++ codes " " ++ decimal s.blocks ++ codes " " ++ decimal s.inodes ++ codes "\n"

-- what an object is
abbrev pub kind_text : NodeOf → List ℕ
kind_text x = if is_directory x then codes "dir" else codes "file"

-- an object
unfoldable pub node_line : NodeOf → List ℕ
node_line x =
    decimal x.number ++ codes " " ++ kind_text x ++ codes " " ++ spelling form.Two x.label ++ codes " " ++ state_text x.frozen
    ++ codes " " ++ privs_text x.cap ++ codes " " ++ privs_text x.lic ++ codes " " ++ decimal (size_of x) ++ codes "\n"

-- a name in a directory
unfoldable pub link_line : ℕ → LinkOf → List ℕ
link_line dir l = codes "name " ++ decimal dir ++ codes " " ++ name_text l.0 ++ codes " " ++ decimal l.1 ++ codes "\n"

-- the names of an object
abbrev pub link_lines : NodeOf → List ℕ
link_lines x = flat_map (link_line x.number) (links_of x)

-- an object, and its names
abbrev pub node_lines : NodeOf → List ℕ
node_lines x = node_line x ++ link_lines x

-- how many names there are in all
abbrev pub names_in : List NodeOf → ℕ
names_in nodes = sum_by (λ x. length (links_of x)) nodes

-- the last line: how many objects and names there are
unfoldable pub end_line : ℕ → ℕ → List ℕ
end_line objects names = codes "end " ++ decimal objects ++ codes " " ++ decimal names ++ codes "\n"

-- the whole
unfoldable pub list_of : TreeOf → List ℕ
list_of t = flat_map file_system_line t.fss ++ (flat_map node_lines t.nodes ++ end_line (length t.nodes) (names_in t.nodes))
