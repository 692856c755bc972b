-- The first word of each form.
use Rattle.std.{proofs.Common.{◌≡◌, ℕ, List, Option, Some, inl, inr, refl, sym, ap, ◌∙◌, option_map}, specs.Prelude.codes}
use Rattle.ix_script.specs.lines.Forms.{plain_of, on_path_of, on_fd_of, counted_of, frame_form, group_form, file_form, process_form, form_of}
use Rattle.ix_script.{specs.declared.form.{Form.Form, Plain.Plain, OnPath.OnPath, OnFd.OnFd, Counted.Counted}, proofs.{reader.Told.{mapped, one_of}, back.OneSpelling.{choose, no_more}}}
use Rattle.ix_script.specs.declared.form.Form.TheVariants as form
use Rattle.ix_script.specs.declared.form.Plain.TheVariants as plain
use Rattle.ix_script.specs.declared.form.OnPath.TheVariants as on_path
use Rattle.ix_script.specs.declared.form.OnFd.TheVariants as on_fd
use Rattle.ix_script.specs.declared.form.Counted.TheVariants as counted

abbrev pub plain_word : Plain → List ℕ
plain_word plain.Wait = codes "wait"
plain_word plain.Self_ = codes "self"
plain_word plain.Freezeself = codes "freezeself"
plain_word plain.Thawself = codes "thawself"

abbrev pub on_path_word : OnPath → List ℕ
on_path_word on_path.Create = codes "create"
on_path_word on_path.Mkdir = codes "mkdir"
on_path_word on_path.Unlink = codes "unlink"
on_path_word on_path.Rmdir = codes "rmdir"
on_path_word on_path.Chdir = codes "chdir"
on_path_word on_path.Stat = codes "stat"
on_path_word on_path.Exec = codes "exec"
on_path_word on_path.Labelof = codes "labelof"
on_path_word on_path.Freeze = codes "freeze"
on_path_word on_path.Thaw = codes "thaw"

abbrev pub on_fd_word : OnFd → List ℕ
on_fd_word on_fd.Close = codes "close"
on_fd_word on_fd.Pex = codes "pex"
on_fd_word on_fd.Unpex = codes "unpex"
on_fd_word on_fd.Priv = codes "priv"

abbrev pub counted_word : Counted → List ℕ
counted_word counted.Read = codes "read"
counted_word counted.Cut = codes "cut"
counted_word counted.Seek = codes "seek"

abbrev pub form_word : Form → List ℕ
form_word form.Limit = codes "limit"
form_word form.Fs = codes "fs"
form_word form.Proc = codes "proc"
form_word form.Dir = codes "dir"
form_word form.File = codes "file"
form_word form.Phase = codes "phase"
form_word form.Lane = codes "lane"
form_word (form.Plain c) = plain_word c
form_word (form.OnPath c) = on_path_word c
form_word (form.OnFd c) = on_fd_word c
form_word (form.Counted c) = counted_word c
form_word form.Open = codes "open"
form_word form.Write = codes "write"
form_word form.Dup = codes "dup"
form_word form.Pipe = codes "pipe"
form_word form.Link = codes "link"
form_word form.List = codes "list"
form_word form.Copy = codes "copy"
form_word form.Setlabel = codes "setlabel"
form_word form.Setpriv = codes "setpriv"
form_word form.Fork = codes "fork"
form_word form.Exit = codes "exit"
form_word form.Setself = codes "setself"
form_word form.Droplic = codes "droplic"
form_word form.Grant = codes "grant"
form_word form.Ceiling = codes "ceiling"
form_word form.Readlog = codes "readlog"
form_word form.Login = codes "login"

plain_spelled : (word : List ℕ) (c : Plain) → plain_of word ≡ Some c → plain_word c ≡ word
unfolding plain_of
plain_spelled word = choose _ _ _ plain.Wait _ refl (choose _ _ _ plain.Self_ _ refl
    (choose _ _ _ plain.Freezeself _ refl (choose _ _ _ plain.Thawself _ refl (no_more _ _))))

on_path_spelled : (word : List ℕ) (c : OnPath) → on_path_of word ≡ Some c → on_path_word c ≡ word
unfolding on_path_of
on_path_spelled word = choose _ _ _ on_path.Create _ refl (choose _ _ _ on_path.Mkdir _ refl (choose _ _ _ on_path.Unlink _ refl
    (choose _ _ _ on_path.Rmdir _ refl (choose _ _ _ on_path.Chdir _ refl (choose _ _ _ on_path.Stat _ refl
    (choose _ _ _ on_path.Exec _ refl (choose _ _ _ on_path.Labelof _ refl
    (choose _ _ _ on_path.Freeze _ refl (choose _ _ _ on_path.Thaw _ refl (no_more _ _))))))))))

on_fd_spelled : (word : List ℕ) (c : OnFd) → on_fd_of word ≡ Some c → on_fd_word c ≡ word
unfolding on_fd_of
on_fd_spelled word = choose _ _ _ on_fd.Close _ refl (choose _ _ _ on_fd.Pex _ refl
    (choose _ _ _ on_fd.Unpex _ refl (choose _ _ _ on_fd.Priv _ refl (no_more _ _))))

counted_spelled : (word : List ℕ) (c : Counted) → counted_of word ≡ Some c → counted_word c ≡ word
unfolding counted_of
counted_spelled word = choose _ _ _ counted.Read _ refl (choose _ _ _ counted.Cut _ refl (choose _ _ _ counted.Seek _ refl (no_more _ _)))

frame_form_spelled : (word : List ℕ) (f : Form) → frame_form word ≡ Some f → form_word f ≡ word
unfolding frame_form
frame_form_spelled word = choose _ _ _ form.Limit _ refl (choose _ _ _ form.Fs _ refl (choose _ _ _ form.Proc _ refl (choose _ _ _ form.Dir _ refl
    (choose _ _ _ form.File _ refl (choose _ _ _ form.Phase _ refl (choose _ _ _ form.Lane _ refl (no_more _ _)))))))

file_form_spelled : (word : List ℕ) (f : Form) → file_form word ≡ Some f → form_word f ≡ word
unfolding file_form
file_form_spelled word = choose _ _ _ form.Open _ refl (choose _ _ _ form.Write _ refl (choose _ _ _ form.Dup _ refl (choose _ _ _ form.Pipe _ refl
    (choose _ _ _ form.Link _ refl (choose _ _ _ form.List _ refl (choose _ _ _ form.Copy _ refl
    (choose _ _ _ form.Setlabel _ refl (choose _ _ _ form.Setpriv _ refl (no_more _ _)))))))))

process_form_spelled : (word : List ℕ) (f : Form) → process_form word ≡ Some f → form_word f ≡ word
unfolding process_form
process_form_spelled word = choose _ _ _ form.Fork _ refl (choose _ _ _ form.Exit _ refl (choose _ _ _ form.Setself _ refl (choose _ _ _ form.Droplic _ refl
    (choose _ _ _ form.Grant _ refl (choose _ _ _ form.Ceiling _ refl (choose _ _ _ form.Readlog _ refl (choose _ _ _ form.Login _ refl (no_more _ _))))))))

-- a group's form is spelled as its command
in_group : {C : Type 0} (make : C → Form) (spell : C → List ℕ) (word : List ℕ) (o : Option C) → ((c : C) → form_word (make c) ≡ spell c)
    → ((c : C) → o ≡ Some c → spell c ≡ word) → (f : Form) → option_map make o ≡ Some f → form_word f ≡ word
in_group make spell word o same is f h =
    let m = mapped _ o f h in
    ap form_word (sym m.2) ∙ same m.0 ∙ is m.0 m.1

group_form_spelled : (word : List ℕ) (f : Form) → group_form word ≡ Some f → form_word f ≡ word
unfolding group_form
group_form_spelled word f h = elim (one_of _ _ f h) [
  | inl p ↦ in_group (λ c. form.Plain c) _ _ _ (λ c. refl) (plain_spelled _) f p
  | inr h ↦ elim (one_of _ _ f h) [
    | inl p ↦ in_group (λ c. form.OnPath c) _ _ _ (λ c. refl) (on_path_spelled _) f p
    | inr h ↦ elim (one_of _ _ f h) [
      | inl p ↦ in_group (λ c. form.OnFd c) _ _ _ (λ c. refl) (on_fd_spelled _) f p
      | inr p ↦ in_group (λ c. form.Counted c) _ _ _ (λ c. refl) (counted_spelled _) f p
    ]
  ]
]

pub form_spelled : (word : List ℕ) (f : Form) → form_of word ≡ Some f → form_word f ≡ word
unfolding form_of
form_spelled word f h = elim (one_of _ _ f h) [
  | inl p ↦ frame_form_spelled _ f p
  | inr h ↦ elim (one_of _ _ f h) [
    | inl p ↦ group_form_spelled _ f p
    | inr h ↦ elim (one_of _ _ f h) [
      | inl p ↦ file_form_spelled _ f p
      | inr p ↦ process_form_spelled _ f p
    ]
  ]
]
