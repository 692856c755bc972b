-- The canonical text of a script.
use Rattle.std.specs.Prelude.{ℕ, Bool, true, false, not, ◌&&◌, List, [], ◌∷◌, ◌++◌, take, drop, codes}
use Rattle.std.specs.List.{flat_map}
use Rattle.std.specs.Fmt.{decimal}
use Rattle.ix_label.specs.declared.form.Form.{Form}
use Rattle.ix_label.specs.declared.form.Form.TheVariants.{One, Two}
use Rattle.ix_label.specs.Spelling.{spelling}
use Rattle.ix_model.specs.world.Naming.{same_bytes}
use Rattle.ix_script.specs.texts.Cutting.{is_skipped}
use Rattle.ix_script.specs.lines.Before.{form_told, what_text}
use Rattle.ix_text.specs.Spellings.{joined, privs_text, mode_text, state_text}
use Rattle.ix_script.specs.texts.Spellings.{path_text, fd_text, keep_text, as_name, as_names, payload_text}
use Rattle.ix_script.specs.declared.line.Line.{Line}
use Rattle.ix_script.specs.declared.line.Line.TheVariants as line

-- how line 1 names a form
abbrev pub form_text : Form → List ℕ
form_text One = codes "1"
form_text Two = codes "2"

-- the words of a line whose labels are spelled in that form: a skipped line has none, and a policy stands as it is after its
-- first word
unfoldable pub line_words : Form → Line → List (List ℕ)
line_words labels line.Skipped = []
line_words labels (line.Version form) = codes "ix" ∷ form_text form ∷ []
line_words labels (line.Limit what number) = codes "limit" ∷ what_text what ∷ decimal number ∷ []
line_words labels (line.Fs name ceiling blocks inodes) = codes "fs" ∷ name ∷ spelling labels ceiling ∷ decimal blocks ∷ decimal inodes ∷ []
line_words labels (line.Proc name label ceiling cap lic) = codes "proc" ∷ name ∷ spelling labels label ∷ spelling labels ceiling ∷ privs_text cap ∷ privs_text lic ∷ []
line_words labels (line.Dir path label frozen) = codes "dir" ∷ path_text path ∷ spelling labels label ∷ state_text frozen ∷ []
line_words labels (line.File path label frozen cap lic bytes) =
    codes "file" ∷ path_text path ∷ spelling labels label ∷ state_text frozen ∷ privs_text cap ∷ privs_text lic ∷ payload_text bytes ∷ []
line_words labels (line.Policy text) = codes "policy" ∷ text ∷ []
line_words labels line.Phase = codes "phase" ∷ []
line_words labels (line.Lane name) = codes "lane" ∷ name ∷ []
line_words labels (line.Create proc path) = codes "create" ∷ proc ∷ path_text path ∷ []
line_words labels (line.Open proc path mode named) = codes "open" ∷ proc ∷ path_text path ∷ mode_text mode ∷ as_name named
line_words labels (line.Read proc fd count) = codes "read" ∷ proc ∷ fd_text fd ∷ decimal count ∷ []
line_words labels (line.Write proc fd bytes) = codes "write" ∷ proc ∷ fd_text fd ∷ payload_text bytes ∷ []
line_words labels (line.Cut proc fd len) = codes "cut" ∷ proc ∷ fd_text fd ∷ decimal len ∷ []
line_words labels (line.Seek proc fd at) = codes "seek" ∷ proc ∷ fd_text fd ∷ decimal at ∷ []
line_words labels (line.Dup proc fd named) = codes "dup" ∷ proc ∷ fd_text fd ∷ as_name named
line_words labels (line.Close proc fd) = codes "close" ∷ proc ∷ fd_text fd ∷ []
line_words labels (line.Pipe proc named) = codes "pipe" ∷ proc ∷ as_names named
line_words labels (line.Mkdir proc path) = codes "mkdir" ∷ proc ∷ path_text path ∷ []
line_words labels (line.Link proc target path) = codes "link" ∷ proc ∷ path_text target ∷ path_text path ∷ []
line_words labels (line.Unlink proc path) = codes "unlink" ∷ proc ∷ path_text path ∷ []
line_words labels (line.Rmdir proc path) = codes "rmdir" ∷ proc ∷ path_text path ∷ []
line_words labels (line.Chdir proc path) = codes "chdir" ∷ proc ∷ path_text path ∷ []
line_words labels (line.Stat proc path) = codes "stat" ∷ proc ∷ path_text path ∷ []
line_words labels (line.List proc path index) = codes "list" ∷ proc ∷ path_text path ∷ decimal index ∷ []
line_words labels (line.Fork proc keep named) = codes "fork" ∷ proc ∷ keep_text keep ∷ as_name named
line_words labels (line.Exec proc path) = codes "exec" ∷ proc ∷ path_text path ∷ []
line_words labels (line.Exit proc status) = codes "exit" ∷ proc ∷ decimal status ∷ []
line_words labels (line.Wait proc) = codes "wait" ∷ proc ∷ []
line_words labels (line.Labelof proc path) = codes "labelof" ∷ proc ∷ path_text path ∷ []
line_words labels (line.Self_ proc) = codes "self" ∷ proc ∷ []
line_words labels (line.Setlabel proc path label) = codes "setlabel" ∷ proc ∷ path_text path ∷ spelling labels label ∷ []
line_words labels (line.Setself proc label) = codes "setself" ∷ proc ∷ spelling labels label ∷ []
line_words labels (line.Freeze proc path) = codes "freeze" ∷ proc ∷ path_text path ∷ []
line_words labels (line.Freezeself proc) = codes "freezeself" ∷ proc ∷ []
line_words labels (line.Thaw proc path) = codes "thaw" ∷ proc ∷ path_text path ∷ []
line_words labels (line.Thawself proc) = codes "thawself" ∷ proc ∷ []
line_words labels (line.Setpriv proc path cap lic) = codes "setpriv" ∷ proc ∷ path_text path ∷ privs_text cap ∷ privs_text lic ∷ []
line_words labels (line.Droplic proc set) = codes "droplic" ∷ proc ∷ privs_text set ∷ []
line_words labels (line.Grant proc to set) = codes "grant" ∷ proc ∷ to ∷ privs_text set ∷ []
line_words labels (line.Ceiling proc of_proc label) = codes "ceiling" ∷ proc ∷ of_proc ∷ spelling labels label ∷ []
line_words labels (line.Pex proc fd) = codes "pex" ∷ proc ∷ fd_text fd ∷ []
line_words labels (line.Unpex proc fd) = codes "unpex" ∷ proc ∷ fd_text fd ∷ []
line_words labels (line.Readlog proc index) = codes "readlog" ∷ proc ∷ decimal index ∷ []
line_words labels (line.Copy proc from to count) = codes "copy" ∷ proc ∷ fd_text from ∷ fd_text to ∷ decimal count ∷ []
line_words labels (line.Priv proc fd) = codes "priv" ∷ proc ∷ fd_text fd ∷ []
line_words labels (line.Login proc fd hand named) = codes "login" ∷ proc ∷ fd_text fd ∷ fd_text hand ∷ as_name named

-- the text of a line: its words with a space between each two; a skipped line is empty
abbrev pub line_text : Form → Line → List ℕ
line_text labels l = joined 32 (line_words labels l)

-- whether a line may be spelled in another way than its text: it is skipped, or has a payload
unfoldable pub may_be_respelled : Line → Bool
may_be_respelled line.Skipped = true
may_be_respelled (line.File path label frozen cap lic bytes) = true
may_be_respelled (line.Write proc fd bytes) = true
may_be_respelled _ = false

-- a line of this text has no other: it isn't skipped, and doesn't begin as the two do that have a payload
unfoldable pub has_one_spelling : List ℕ → Bool
has_one_spelling text = not (is_skipped text) && not (same_bytes (take 5 text) (codes "write")) && not (same_bytes (take 4 text) (codes "file"))

-- each line with a line feed after it, whose labels are spelled in that form
abbrev pub canonical_in : Form → List Line → List ℕ
canonical_in labels lines = flat_map (λ l. line_text labels l ++ codes "\n") lines

-- the text of a script, in its own form
abbrev pub canonical : List Line → List ℕ
canonical lines = canonical_in (form_told lines) lines

-- of the text of a script, the lines from an index on
abbrev pub canonical_from : List Line → ℕ → List ℕ
canonical_from lines first = canonical_in (form_told lines) (drop first lines)
