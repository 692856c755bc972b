-- What may stand at the places of a line, as the reader has it.
use Rattle.std.specs.Prelude.{ℕ, ◌+◌, ◌%◌, List, [], ◌∷◌, length, min, Option, Some, None}
use Rattle.std.proofs.Common.{option_map}
use Rattle.std.specs.Option.{IsSome}
use Rattle.ix_label.specs.declared.form.Form as spelled
use Rattle.ix_text.specs.Labels.{label_in}
use Rattle.ix_text.specs.Names.{name_of}
use Rattle.ix_text.specs.Privs.{privs_of}
use Rattle.ix_script.specs.texts.Cutting.{word_at}
use Rattle.ix_script.specs.texts.Words.{number_of, path_of, made_path_of, mode_of, state_of, what_of, fd_of, keep_of}
use Rattle.ix_script.specs.lines.Kinds.{Kind, Place, bounds}
use Rattle.ix_script.specs.lines.Kinds as kind
use Rattle.ix_script.specs.lines.Said.{payload_within}
use Rattle.ix_model.specs.history.Cost.{cost_of_path}
use Rattle.ix_script.specs.declared.form.Kind as made
use Rattle.ix_script.specs.declared.form.Kind.TheVariants as has
use Rattle.ix_script.specs.declared.form.Form.{Form}
use Rattle.ix_script.specs.declared.form.Form.TheVariants as form
use Rattle.ix_script.specs.declared.form.OnFd.TheVariants as on_fd
use Rattle.ix_script.specs.declared.fail.Rule.{Rule}

-- what may stand at a place, by the table of the forms: labels are spelled in that form, and the bounds of a WHAT are those of word 1
abbrev pub kind_in : spelled.Form → List (List ℕ) → made.Kind → Kind
kind_in labels words has.Own = kind.Own
kind_in labels words has.Proc = kind.Proc
kind_in labels words has.NewProc = kind.NewProc
kind_in labels words has.NewFd = kind.NewFd
kind_in labels words (has.Number low high) = kind.Number low high
kind_in labels words has.Bound = kind.Bound (word_at words 1)
kind_in labels words has.Label = kind.Label labels
kind_in labels words has.Privs = kind.Privs
kind_in labels words has.AnyPath = kind.AnyPath
kind_in labels words has.MadePath = kind.MadePath
kind_in labels words has.Mode = kind.Mode
kind_in labels words has.State = kind.State
kind_in labels words has.Limited = kind.Limited
kind_in labels words (has.Payload most) = kind.Payload most
kind_in labels words has.Fd = kind.Fd
kind_in labels words has.Keep = kind.Keep

-- the lesser of two rules, where any is broken
abbrev pub least : Option Rule → Option Rule → Option Rule
least (Some m) (Some n) = Some (record { 0 = min m.0 n.0 })
least (Some m) None = Some m
least None other = other

-- the word means what may stand there
abbrev pub Stands : Kind → List ℕ → Type 0
Stands kind.Own word = IsSome (name_of word)
Stands kind.Proc word = IsSome (name_of word)
Stands kind.NewProc word = IsSome (name_of word)
Stands kind.NewFd word = IsSome (name_of word)
Stands (kind.Number low high) word = IsSome (number_of low high word)
Stands (kind.Bound of_what) word = IsSome (number_of (bounds of_what).0 (bounds of_what).1 word)
Stands (kind.Label labels) word = IsSome (label_in labels word)
Stands kind.Privs word = IsSome (privs_of word)
Stands kind.AnyPath word = IsSome (path_of word)
Stands kind.MadePath word = IsSome (made_path_of word)
Stands kind.Mode word = IsSome (mode_of word)
Stands kind.State word = IsSome (state_of word)
Stands kind.Limited word = IsSome (what_of word)
Stands (kind.Payload most) word = IsSome (payload_within most word)
Stands kind.Fd word = IsSome (fd_of word)
Stands kind.Keep word = IsSome (keep_of word)

-- so do the words at all places
abbrev pub Stand : List Place → Type 0
Stand [] = Unit {0}
Stand (p ∷ places) = Stands p.0 p.1 × Stand places

-- the place of a word's first letter among the letters, from 1 on
abbrev pub letter : List ℕ → ℕ
letter [] = 0
letter (b ∷ word) = b % 32

-- what a command costs that names this path
abbrev pub path_cost : List ℕ → Option ℕ
path_cost word = option_map (λ path. 128 + cost_of_path path) (path_of word)

-- what a command costs, by its words, where it is known to give no name and to be no server's
abbrev pub command_cost : Form → List (List ℕ) → Option ℕ
command_cost (form.Plain c) words = Some 128
command_cost (form.Counted c) words = Some 128
command_cost form.Exit words = Some 128
command_cost form.Setself words = Some 128
command_cost form.Droplic words = Some 128
command_cost form.Grant words = Some 128
command_cost form.Ceiling words = Some 128
command_cost form.Readlog words = Some 128
command_cost (form.OnFd on_fd.Close) words = Some 128
command_cost (form.OnFd on_fd.Pex) words = Some 128
command_cost (form.OnFd on_fd.Unpex) words = Some 128
command_cost (form.OnPath c) words = path_cost (word_at words 2)
command_cost form.List words = path_cost (word_at words 2)
command_cost form.Setlabel words = path_cost (word_at words 2)
command_cost form.Write words = option_map (λ bytes. 128 + length bytes) (payload_within 4096 (word_at words 3))
command_cost _ words = None
