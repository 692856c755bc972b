-- The forms of lines: their first words, and what may stand at their places.
use Rattle.std.specs.Prelude.{ℕ, suc, ◌+◌, ◌==◌, nat_le, Bool, true, false, not, ◌&&◌, ◌||◌, List, [], ◌∷◌, ◌++◌, length, Option, Some, None, if◌then◌else◌, codes}
use Rattle.std.specs.Option.{option_or}
use Rattle.std.proofs.Common.{option_map}
use Rattle.ix_label.specs.declared.form.Form as spelled
use Rattle.ix_label.specs.declared.form.Form.TheVariants.{One}
use Rattle.ix_model.specs.world.Naming.{same_bytes}
use Rattle.ix_script.specs.texts.Cutting.{word_at}
use Rattle.ix_text.specs.Bytes.{is_empty}
use Rattle.ix_script.specs.lines.Kinds.{Kind, Place}
use Rattle.ix_script.specs.lines.Kinds as kind
use Rattle.ix_script.specs.declared.form.Form.{Form}
use Rattle.ix_script.specs.declared.form.Form.TheVariants as form
use Rattle.ix_script.specs.declared.form.Plain.{Plain}
use Rattle.ix_script.specs.declared.form.Plain.TheVariants as plain
use Rattle.ix_script.specs.declared.form.OnPath.{OnPath}
use Rattle.ix_script.specs.declared.form.OnPath.TheVariants as on_path
use Rattle.ix_script.specs.declared.form.OnFd.{OnFd}
use Rattle.ix_script.specs.declared.form.OnFd.TheVariants as on_fd
use Rattle.ix_script.specs.declared.form.Counted.{Counted}
use Rattle.ix_script.specs.declared.form.Counted.TheVariants as counted

-- ---- first words
-- commands that take a process alone
unfoldable pub plain_of : List ℕ → Option Plain
plain_of word =
    if same_bytes word (codes "wait") then Some plain.Wait
    else if same_bytes word (codes "self") then Some plain.Self_
    else if same_bytes word (codes "freezeself") then Some plain.Freezeself
    else if same_bytes word (codes "thawself") then Some plain.Thawself
    else None

-- commands that take a process and a path
unfoldable pub on_path_of : List ℕ → Option OnPath
on_path_of word =
    if same_bytes word (codes "create") then Some on_path.Create
    else if same_bytes word (codes "mkdir") then Some on_path.Mkdir
    else if same_bytes word (codes "unlink") then Some on_path.Unlink
    else if same_bytes word (codes "rmdir") then Some on_path.Rmdir
    else if same_bytes word (codes "chdir") then Some on_path.Chdir
    else if same_bytes word (codes "stat") then Some on_path.Stat
    else if same_bytes word (codes "exec") then Some on_path.Exec
    else if same_bytes word (codes "labelof") then Some on_path.Labelof
    else if same_bytes word (codes "freeze") then Some on_path.Freeze
    else if same_bytes word (codes "thaw") then Some on_path.Thaw
    else None

-- commands that take a process and a descriptor
unfoldable pub on_fd_of : List ℕ → Option OnFd
on_fd_of word =
    if same_bytes word (codes "close") then Some on_fd.Close
    else if same_bytes word (codes "pex") then Some on_fd.Pex
    else if same_bytes word (codes "unpex") then Some on_fd.Unpex
    else if same_bytes word (codes "priv") then Some on_fd.Priv
    else None

-- commands that take a process, a descriptor and a number
unfoldable pub counted_of : List ℕ → Option Counted
counted_of word =
    if same_bytes word (codes "read") then Some counted.Read
    else if same_bytes word (codes "cut") then Some counted.Cut
    else if same_bytes word (codes "seek") then Some counted.Seek
    else None

-- lines that aren't commands
unfoldable pub frame_form : List ℕ → Option Form
frame_form word =
    if same_bytes word (codes "limit") then Some form.Limit
    else if same_bytes word (codes "fs") then Some form.Fs
    else if same_bytes word (codes "proc") then Some form.Proc
    else if same_bytes word (codes "dir") then Some form.Dir
    else if same_bytes word (codes "file") then Some form.File
    else if same_bytes word (codes "phase") then Some form.Phase
    else if same_bytes word (codes "lane") then Some form.Lane
    else None

-- commands of those four groups
unfoldable pub group_form : List ℕ → Option Form
group_form word =
    option_or (option_map (λ c. form.Plain c) (plain_of word))
    (option_or (option_map (λ c. form.OnPath c) (on_path_of word))
    (option_or (option_map (λ c. form.OnFd c) (on_fd_of word)) (option_map (λ c. form.Counted c) (counted_of word))))

-- commands on descriptors and paths
unfoldable pub file_form : List ℕ → Option Form
file_form word =
    if same_bytes word (codes "open") then Some form.Open
    else if same_bytes word (codes "write") then Some form.Write
    else if same_bytes word (codes "dup") then Some form.Dup
    else if same_bytes word (codes "pipe") then Some form.Pipe
    else if same_bytes word (codes "link") then Some form.Link
    else if same_bytes word (codes "list") then Some form.List
    else if same_bytes word (codes "copy") then Some form.Copy
    else if same_bytes word (codes "setlabel") then Some form.Setlabel
    else if same_bytes word (codes "setpriv") then Some form.Setpriv
    else None

-- commands on processes
unfoldable pub process_form : List ℕ → Option Form
process_form word =
    if same_bytes word (codes "fork") then Some form.Fork
    else if same_bytes word (codes "exit") then Some form.Exit
    else if same_bytes word (codes "setself") then Some form.Setself
    else if same_bytes word (codes "droplic") then Some form.Droplic
    else if same_bytes word (codes "grant") then Some form.Grant
    else if same_bytes word (codes "ceiling") then Some form.Ceiling
    else if same_bytes word (codes "readlog") then Some form.Readlog
    else if same_bytes word (codes "login") then Some form.Login
    else None

-- the form of a line by its first word
unfoldable pub form_of : List ℕ → Option Form
form_of word = option_or (frame_form word) (option_or (group_form word) (option_or (file_form word) (process_form word)))

-- ---- places
-- what may stand after the first word; labels are spelled in that form
abbrev pub kinds : spelled.Form → Form → List (List ℕ) → List Kind
kinds labels form.Limit words = kind.Limited ∷ (kind.Bound (word_at words 1)) ∷ []
kinds labels form.Fs words = kind.Own ∷ (kind.Label labels) ∷ (kind.Number 1 65536) ∷ (kind.Number 1 65536) ∷ []
kinds labels form.Proc words = kind.Own ∷ (kind.Label labels) ∷ (kind.Label labels) ∷ kind.Privs ∷ kind.Privs ∷ []
kinds labels form.Dir words = kind.MadePath ∷ (kind.Label labels) ∷ kind.State ∷ []
kinds labels form.File words = kind.MadePath ∷ (kind.Label labels) ∷ kind.State ∷ kind.Privs ∷ kind.Privs ∷ (kind.Payload 1048576) ∷ []
kinds labels form.Phase words = []
kinds labels form.Lane words = kind.Own ∷ []
kinds labels (form.Plain c) words = kind.Proc ∷ []
kinds labels (form.OnPath c) words = kind.Proc ∷ kind.AnyPath ∷ []
kinds labels (form.OnFd c) words = kind.Proc ∷ kind.Fd ∷ []
kinds labels (form.Counted c) words = kind.Proc ∷ kind.Fd ∷ (kind.Number 0 4294967295) ∷ []
kinds labels form.Open words = kind.Proc ∷ kind.AnyPath ∷ kind.Mode ∷ []
kinds labels form.Write words = kind.Proc ∷ kind.Fd ∷ (kind.Payload 4096) ∷ []
kinds labels form.Dup words = kind.Proc ∷ kind.Fd ∷ []
kinds labels form.Pipe words = kind.Proc ∷ []
kinds labels form.Link words = kind.Proc ∷ kind.AnyPath ∷ kind.AnyPath ∷ []
kinds labels form.List words = kind.Proc ∷ kind.AnyPath ∷ (kind.Number 0 4294967295) ∷ []
kinds labels form.Copy words = kind.Proc ∷ kind.Fd ∷ kind.Fd ∷ (kind.Number 0 4294967295) ∷ []
kinds labels form.Setlabel words = kind.Proc ∷ kind.AnyPath ∷ (kind.Label labels) ∷ []
kinds labels form.Setpriv words = kind.Proc ∷ kind.AnyPath ∷ kind.Privs ∷ kind.Privs ∷ []
kinds labels form.Fork words = kind.Proc ∷ kind.Keep ∷ []
kinds labels form.Exit words = kind.Proc ∷ (kind.Number 0 255) ∷ []
kinds labels form.Setself words = kind.Proc ∷ (kind.Label labels) ∷ []
kinds labels form.Droplic words = kind.Proc ∷ kind.Privs ∷ []
kinds labels form.Grant words = kind.Proc ∷ kind.Proc ∷ kind.Privs ∷ []
kinds labels form.Ceiling words = kind.Proc ∷ kind.Proc ∷ (kind.Label labels) ∷ []
kinds labels form.Readlog words = kind.Proc ∷ (kind.Number 0 4294967295) ∷ []
kinds labels form.Login words = kind.Proc ∷ kind.Fd ∷ kind.Fd ∷ []

-- how many words stand there, in whichever form labels are spelled
abbrev pub arity : Form → List (List ℕ) → ℕ
arity f words = length (kinds One f words)

-- the names that may stand after `as`
abbrev pub tail_of : Form → List Kind
tail_of form.Open = kind.NewFd ∷ []
tail_of form.Dup = kind.NewFd ∷ []
tail_of form.Pipe = kind.NewFd ∷ kind.NewFd ∷ []
tail_of form.Fork = kind.NewProc ∷ []
tail_of form.Login = kind.NewProc ∷ []
tail_of _ = []

-- the places of these kinds, from that word on
abbrev pub places_from : ℕ → List Kind → List (List ℕ) → List Place
places_from i [] words = []
places_from i (k ∷ ks) words = (k, word_at words i) ∷ places_from (suc i) ks words

-- the places of a form's own words
abbrev pub own_places : spelled.Form → Form → List (List ℕ) → List Place
own_places labels f words = places_from 1 (kinds labels f words) words

-- the places of names after `as`, which is the word at that place; where the line ends before it there are none
abbrev pub tail_places : List Kind → ℕ → List (List ℕ) → List Place
tail_places [] n words = []
tail_places (k ∷ ks) n words = if nat_le (length words) n then [] else places_from (n + 1) (k ∷ ks) words

abbrev pub named_places : Form → List (List ℕ) → List Place
named_places f words = tail_places (tail_of f) (1 + arity f words) words

-- all places of a line
abbrev pub places : spelled.Form → Form → List (List ℕ) → List Place
places labels f words = own_places labels f words ++ named_places f words

-- the words of the form, and no others but `as` with its names
abbrev pub has_right_count : Form → List (List ℕ) → Bool
has_right_count f words =
    length words == 1 + arity f words
    || (not (is_empty (tail_of f)) && length words == 2 + arity f words + length (tail_of f) && same_bytes (word_at words (1 + arity f words)) (codes "as"))

-- ---- where a form may stand
-- a line of the header
abbrev pub is_header : Form → Bool
is_header form.Limit = true
is_header form.Fs = true
is_header form.Proc = true
is_header form.Dir = true
is_header form.File = true
is_header _ = false

-- a command
abbrev pub is_command_form : Form → Bool
is_command_form form.Phase = false
is_command_form form.Lane = false
is_command_form f = not (is_header f)
