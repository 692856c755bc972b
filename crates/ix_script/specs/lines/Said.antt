-- What a line says.
use Rattle.std.specs.Prelude.{ℕ, ◌+◌, nat_le, List, length, Option, Some, None, if◌then◌else◌, codes}
use Rattle.std.specs.Option.{option_or}
use Rattle.std.proofs.Common.{option_map}
use Rattle.ix_model.specs.world.Naming.{PathOf, same_bytes}
use Rattle.ix_script.specs.texts.Cutting.{words_of, word_at, is_skipped, is_policy_line, policy_text}
use Rattle.ix_label.specs.declared.form.Form as spelled
use Rattle.ix_label.specs.declared.form.Form.TheVariants.{One, Two}
use Rattle.ix_text.specs.Labels.{label_in}
use Rattle.ix_script.specs.texts.Words.{number_of, path_of, made_path_of, mode_of, state_of, what_of, fd_of, keep_of}
use Rattle.ix_text.specs.Names.{name_of}
use Rattle.ix_text.specs.Privs.{privs_of}
use Rattle.ix_script.specs.texts.Payloads.{◌>>=◌, payload_of}
use Rattle.ix_script.specs.lines.Kinds.{bounds}
use Rattle.ix_script.specs.lines.Forms.{form_of}
use Rattle.ix_script.specs.declared.line.Line.{Line}
use Rattle.ix_script.specs.declared.line.Line.TheVariants as line
use Rattle.ix_script.specs.declared.line.FdWord.{FdWord}
use Rattle.ix_script.specs.declared.form.Form.{Form}
use Rattle.ix_script.specs.declared.form.Form.TheVariants as form
use Rattle.ix_script.specs.declared.form.Plain.{Plain}
use Rattle.ix_script.specs.declared.form.Plain.TheVariants as plain
use Rattle.ix_script.specs.declared.form.OnPath.{OnPath}
use Rattle.ix_script.specs.declared.form.OnPath.TheVariants as on_path
use Rattle.ix_script.specs.declared.form.OnFd.{OnFd}
use Rattle.ix_script.specs.declared.form.OnFd.TheVariants as on_fd
use Rattle.ix_script.specs.declared.form.Counted.{Counted}
use Rattle.ix_script.specs.declared.form.Counted.TheVariants as counted

-- both values, where both are there
abbrev pub both : {A B : Type 0} → Option A → Option B → Option (A × B)
both None b = None
both (Some x) None = None
both (Some x) (Some y) = Some (x, y)

-- at most so many bytes
abbrev pub within : ℕ → Option (List ℕ) → Option (List ℕ)
within most meaning = meaning >>= λ bytes. if nat_le (length bytes) most then Some bytes else None

abbrev pub payload_within : ℕ → List ℕ → Option (List ℕ)
payload_within most word = within most (payload_of word)

-- any number
abbrev pub any_number : List ℕ → Option ℕ
any_number word = number_of 0 4294967295 word

-- the name after `as`, where the line goes on to it
abbrev pub name_after : ℕ → List (List ℕ) → Option (Option (List ℕ))
name_after n words = if nat_le (length words) n then Some None else option_map (λ (name : List ℕ). Some name) (name_of (word_at words (n + 1)))

abbrev pub two_names_after : ℕ → List (List ℕ) → Option (Option (List ℕ × List ℕ))
two_names_after n words = if nat_le (length words) n then Some None else option_map (λ (names : List ℕ × List ℕ). Some names) (both (name_of (word_at words (n + 1))) (name_of (word_at words (n + 2))))

-- ---- the groups of commands
abbrev pub plain_line : Plain → List ℕ → Line
plain_line plain.Wait proc = line.Wait proc
plain_line plain.Self_ proc = line.Self_ proc
plain_line plain.Freezeself proc = line.Freezeself proc
plain_line plain.Thawself proc = line.Thawself proc

abbrev pub path_line : OnPath → List ℕ → PathOf → Line
path_line on_path.Create proc path = line.Create proc path
path_line on_path.Mkdir proc path = line.Mkdir proc path
path_line on_path.Unlink proc path = line.Unlink proc path
path_line on_path.Rmdir proc path = line.Rmdir proc path
path_line on_path.Chdir proc path = line.Chdir proc path
path_line on_path.Stat proc path = line.Stat proc path
path_line on_path.Exec proc path = line.Exec proc path
path_line on_path.Labelof proc path = line.Labelof proc path
path_line on_path.Freeze proc path = line.Freeze proc path
path_line on_path.Thaw proc path = line.Thaw proc path

abbrev pub fd_line : OnFd → List ℕ → FdWord → Line
fd_line on_fd.Close proc fd = line.Close proc fd
fd_line on_fd.Pex proc fd = line.Pex proc fd
fd_line on_fd.Unpex proc fd = line.Unpex proc fd
fd_line on_fd.Priv proc fd = line.Priv proc fd

abbrev pub counted_line : Counted → List ℕ → FdWord → ℕ → Line
counted_line counted.Read proc fd n = line.Read proc fd n
counted_line counted.Cut proc fd n = line.Cut proc fd n
counted_line counted.Seek proc fd n = line.Seek proc fd n

-- ---- the forms
-- what a line of this form and these words says; labels are spelled in that form
abbrev pub said : spelled.Form → Form → List (List ℕ) → Option Line
said labels form.Phase words = Some line.Phase
said labels form.Limit words = option_map (λ x. line.Limit x.0 x.1) (both (what_of (word_at words 1)) (number_of (bounds (word_at words 1)).0 (bounds (word_at words 1)).1 (word_at words 2)))
said labels form.Fs words =
    option_map (λ x. line.Fs x.0 x.1.0 x.1.1.0 x.1.1.1)
    (both (name_of (word_at words 1))
    (both (label_in labels (word_at words 2)) (both (number_of 1 65536 (word_at words 3)) (number_of 1 65536 (word_at words 4)))))
said labels form.Proc words =
    option_map (λ x. line.Proc x.0 x.1.0 x.1.1.0 x.1.1.1.0 x.1.1.1.1)
    (both (name_of (word_at words 1))
    (both (label_in labels (word_at words 2)) (both (label_in labels (word_at words 3)) (both (privs_of (word_at words 4)) (privs_of (word_at words 5))))))
said labels form.Dir words = option_map (λ x. line.Dir x.0 x.1.0 x.1.1) (both (made_path_of (word_at words 1)) (both (label_in labels (word_at words 2)) (state_of (word_at words 3))))
said labels form.File words =
    option_map (λ x. line.File x.0 x.1.0 x.1.1.0 x.1.1.1.0 x.1.1.1.1.0 x.1.1.1.1.1)
    (both (made_path_of (word_at words 1))
    (both (label_in labels (word_at words 2))
    (both (state_of (word_at words 3)) (both (privs_of (word_at words 4)) (both (privs_of (word_at words 5)) (payload_within 1048576 (word_at words 6)))))))
said labels form.Lane words = option_map (λ x. line.Lane x) (name_of (word_at words 1))
said labels (form.Plain c) words = option_map (λ x. plain_line c x) (name_of (word_at words 1))
said labels (form.OnPath c) words = option_map (λ x. path_line c x.0 x.1) (both (name_of (word_at words 1)) (path_of (word_at words 2)))
said labels (form.OnFd c) words = option_map (λ x. fd_line c x.0 x.1) (both (name_of (word_at words 1)) (fd_of (word_at words 2)))
said labels (form.Counted c) words = option_map (λ x. counted_line c x.0 x.1.0 x.1.1) (both (name_of (word_at words 1)) (both (fd_of (word_at words 2)) (any_number (word_at words 3))))
said labels form.Open words =
    option_map (λ x. line.Open x.0 x.1.0 x.1.1.0 x.1.1.1)
    (both (name_of (word_at words 1)) (both (path_of (word_at words 2)) (both (mode_of (word_at words 3)) (name_after 4 words))))
said labels form.Write words = option_map (λ x. line.Write x.0 x.1.0 x.1.1) (both (name_of (word_at words 1)) (both (fd_of (word_at words 2)) (payload_within 4096 (word_at words 3))))
said labels form.Dup words = option_map (λ x. line.Dup x.0 x.1.0 x.1.1) (both (name_of (word_at words 1)) (both (fd_of (word_at words 2)) (name_after 3 words)))
said labels form.Pipe words = option_map (λ x. line.Pipe x.0 x.1) (both (name_of (word_at words 1)) (two_names_after 2 words))
said labels form.Link words = option_map (λ x. line.Link x.0 x.1.0 x.1.1) (both (name_of (word_at words 1)) (both (path_of (word_at words 2)) (path_of (word_at words 3))))
said labels form.List words = option_map (λ x. line.List x.0 x.1.0 x.1.1) (both (name_of (word_at words 1)) (both (path_of (word_at words 2)) (any_number (word_at words 3))))
said labels form.Copy words =
    option_map (λ x. line.Copy x.0 x.1.0 x.1.1.0 x.1.1.1)
    (both (name_of (word_at words 1)) (both (fd_of (word_at words 2)) (both (fd_of (word_at words 3)) (any_number (word_at words 4)))))
said labels form.Setlabel words = option_map (λ x. line.Setlabel x.0 x.1.0 x.1.1) (both (name_of (word_at words 1)) (both (path_of (word_at words 2)) (label_in labels (word_at words 3))))
said labels form.Setpriv words =
    option_map (λ x. line.Setpriv x.0 x.1.0 x.1.1.0 x.1.1.1)
    (both (name_of (word_at words 1)) (both (path_of (word_at words 2)) (both (privs_of (word_at words 3)) (privs_of (word_at words 4)))))
said labels form.Fork words = option_map (λ x. line.Fork x.0 x.1.0 x.1.1) (both (name_of (word_at words 1)) (both (keep_of (word_at words 2)) (name_after 3 words)))
said labels form.Exit words = option_map (λ x. line.Exit x.0 x.1) (both (name_of (word_at words 1)) (number_of 0 255 (word_at words 2)))
said labels form.Setself words = option_map (λ x. line.Setself x.0 x.1) (both (name_of (word_at words 1)) (label_in labels (word_at words 2)))
said labels form.Droplic words = option_map (λ x. line.Droplic x.0 x.1) (both (name_of (word_at words 1)) (privs_of (word_at words 2)))
said labels form.Grant words = option_map (λ x. line.Grant x.0 x.1.0 x.1.1) (both (name_of (word_at words 1)) (both (name_of (word_at words 2)) (privs_of (word_at words 3))))
said labels form.Ceiling words = option_map (λ x. line.Ceiling x.0 x.1.0 x.1.1) (both (name_of (word_at words 1)) (both (name_of (word_at words 2)) (label_in labels (word_at words 3))))
said labels form.Readlog words = option_map (λ x. line.Readlog x.0 x.1) (both (name_of (word_at words 1)) (any_number (word_at words 2)))
said labels form.Login words =
    option_map (λ x. line.Login x.0 x.1.0 x.1.1.0 x.1.1.1)
    (both (name_of (word_at words 1)) (both (fd_of (word_at words 2)) (both (fd_of (word_at words 3)) (name_after 4 words))))

-- what the words of a line say, by the form of the first
abbrev pub said_by_words : spelled.Form → List (List ℕ) → Option Line
said_by_words labels words = form_of (word_at words 0) >>= λ f. said labels f words

-- `ix 1` and `ix 2`: the form in which the labels of a script are spelled
unfoldable pub version_of : List ℕ → Option spelled.Form
version_of text = if same_bytes text (codes "ix 1") then Some One else if same_bytes text (codes "ix 2") then Some Two else None

-- what a line says: one that is skipped, the policy, `ix 1` or `ix 2`, or what its form and words say
unfoldable pub line_of : spelled.Form → List ℕ → Option Line
line_of labels text =
    if is_skipped text then Some line.Skipped
    else if is_policy_line text then Some (line.Policy (policy_text text))
    else option_or (option_map (λ form. line.Version form) (version_of text)) (said_by_words labels (words_of text))
