-- The labels of a line that was read in a form fit that form.
use Rattle.std.{proofs.{Common.{◌≡◌, ℕ, List, Option, Some, None, option_map, inl, inr, subst}, lemmas.Option.same_Some}, specs.Option.option_or}
use Rattle.ix_model.specs.world.Naming.{PathOf}
use Rattle.ix_script.specs.{texts.Cutting.{is_skipped, is_policy_line, policy_text, words_of, word_at}, lines.{Forms.form_of, Fits.LineFits}}
use Rattle.ix_script.{specs.lines.Said.{plain_line, path_line, fd_line, counted_line, said, said_by_words, version_of, line_of}, proofs.reader.Told.{mapped, paired, bound, either}}
use Rattle.ix_script.specs.declared.{form.{Form.Form, Plain.Plain, OnPath.OnPath, OnFd.OnFd, Counted.Counted}, line.{FdWord.FdWord, Line.Line}}
use Rattle.ix_text.proofs.AllLabels.{label_fits}
use Rattle.ix_label.specs.declared.form.Form as spelled
use Rattle.ix_script.specs.declared.form.Form.TheVariants as form
use Rattle.ix_script.specs.declared.form.Plain.TheVariants as plain
use Rattle.ix_script.specs.declared.form.OnPath.TheVariants as on_path
use Rattle.ix_script.specs.declared.form.OnFd.TheVariants as on_fd
use Rattle.ix_script.specs.declared.form.Counted.TheVariants as counted
use Rattle.ix_script.specs.declared.line.Line.TheVariants as line

module _ (labels : spelled.Form) where
  made_by : {X : Type 0} (g : X → Line) (m : Option X) (l : Line) → ((x : X) → m ≡ Some x → LineFits labels (g x)) → option_map g m ≡ Some l → LineFits labels l
  made_by g m l fits h = let p = mapped g m l h in subst (LineFits labels) p.2 (fits p.0 p.1)

  plain_fits : (c : Plain) (proc : List ℕ) → LineFits labels (plain_line c proc)
  plain_fits plain.Wait proc = tt
  plain_fits plain.Self_ proc = tt
  plain_fits plain.Freezeself proc = tt
  plain_fits plain.Thawself proc = tt

  path_fits : (c : OnPath) (proc : List ℕ) (path : PathOf) → LineFits labels (path_line c proc path)
  path_fits on_path.Create proc path = tt
  path_fits on_path.Mkdir proc path = tt
  path_fits on_path.Unlink proc path = tt
  path_fits on_path.Rmdir proc path = tt
  path_fits on_path.Chdir proc path = tt
  path_fits on_path.Stat proc path = tt
  path_fits on_path.Exec proc path = tt
  path_fits on_path.Labelof proc path = tt
  path_fits on_path.Freeze proc path = tt
  path_fits on_path.Thaw proc path = tt

  fd_fits : (c : OnFd) (proc : List ℕ) (fd : FdWord) → LineFits labels (fd_line c proc fd)
  fd_fits on_fd.Close proc fd = tt
  fd_fits on_fd.Pex proc fd = tt
  fd_fits on_fd.Unpex proc fd = tt
  fd_fits on_fd.Priv proc fd = tt

  counted_fits : (c : Counted) (proc : List ℕ) (fd : FdWord) (n : ℕ) → LineFits labels (counted_line c proc fd n)
  counted_fits counted.Read proc fd n = tt
  counted_fits counted.Cut proc fd n = tt
  counted_fits counted.Seek proc fd n = tt

  said_fits : (f : Form) (words : List (List ℕ)) (l : Line) → said labels f words ≡ Some l → LineFits labels l
  said_fits form.Limit words l h = made_by _ _ l (λ x e. tt) h
  said_fits form.Fs words l h = made_by _ _ l (λ x e. label_fits _ _ x.1.0 (paired _ _ x.1 (paired _ _ x e).1).0) h
  said_fits form.Proc words l h = made_by _ _ l (λ x e.
      let p = paired _ _ x.1 (paired _ _ x e).1 in
      (label_fits _ _ x.1.0 p.0, label_fits _ _ x.1.1.0 (paired _ _ x.1.1 p.1).0)) h
  said_fits form.Dir words l h = made_by _ _ l (λ x e. label_fits _ _ x.1.0 (paired _ _ x.1 (paired _ _ x e).1).0) h
  said_fits form.File words l h = made_by _ _ l (λ x e. label_fits _ _ x.1.0 (paired _ _ x.1 (paired _ _ x e).1).0) h
  said_fits form.Phase words l h = subst (LineFits labels) (same_Some line.Phase l h) tt
  said_fits form.Lane words l h = made_by _ _ l (λ x e. tt) h
  said_fits (form.Plain c) words l h = made_by _ _ l (λ x e. plain_fits c x) h
  said_fits (form.OnPath c) words l h = made_by _ _ l (λ x e. path_fits c _ _) h
  said_fits (form.OnFd c) words l h = made_by _ _ l (λ x e. fd_fits c _ _) h
  said_fits (form.Counted c) words l h = made_by _ _ l (λ x e. counted_fits c _ _ _) h
  said_fits form.Open words l h = made_by _ _ l (λ x e. tt) h
  said_fits form.Write words l h = made_by _ _ l (λ x e. tt) h
  said_fits form.Dup words l h = made_by _ _ l (λ x e. tt) h
  said_fits form.Pipe words l h = made_by _ _ l (λ x e. tt) h
  said_fits form.Link words l h = made_by _ _ l (λ x e. tt) h
  said_fits form.List words l h = made_by _ _ l (λ x e. tt) h
  said_fits form.Copy words l h = made_by _ _ l (λ x e. tt) h
  said_fits form.Setlabel words l h = made_by _ _ l (λ x e. label_fits _ _ x.1.1 (paired _ _ x.1 (paired _ _ x e).1).1) h
  said_fits form.Setpriv words l h = made_by _ _ l (λ x e. tt) h
  said_fits form.Fork words l h = made_by _ _ l (λ x e. tt) h
  said_fits form.Exit words l h = made_by _ _ l (λ x e. tt) h
  said_fits form.Setself words l h = made_by _ _ l (λ x e. label_fits _ _ x.1 (paired _ _ x e).1) h
  said_fits form.Droplic words l h = made_by _ _ l (λ x e. tt) h
  said_fits form.Grant words l h = made_by _ _ l (λ x e. tt) h
  said_fits form.Ceiling words l h = made_by _ _ l (λ x e. label_fits _ _ x.1.1 (paired _ _ x.1 (paired _ _ x e).1).1) h
  said_fits form.Readlog words l h = made_by _ _ l (λ x e. tt) h
  said_fits form.Login words l h = made_by _ _ l (λ x e. tt) h

  pub line_fits : (text : List ℕ) (l : Line) → line_of labels text ≡ Some l → LineFits labels l
  unfolding line_of
  line_fits text l h =
      let rest = option_or (option_map (λ form. line.Version form) _) (said_by_words labels (words_of text)) in
      elim (either (is_skipped text) _ _ l h) [
        | inl p ↦ subst (LineFits labels) (same_Some line.Skipped l p.1) tt
        | inr p ↦ elim (either (is_policy_line text) (Some (line.Policy (policy_text text))) rest l p.1) [
          | inl q ↦ subst (LineFits labels) (same_Some (line.Policy (policy_text text)) l q.1) tt
          | inr q ↦ by_version (version_of text) q.1
        ]
      ]
    where
      by_version : (o : Option spelled.Form) → option_or (option_map (λ form. line.Version form) o) (said_by_words labels (words_of text)) ≡ Some l → LineFits labels l
      by_version None k = let b = bound (form_of (word_at (words_of text) 0)) (λ f. said labels f (words_of text)) l k in said_fits b.0 (words_of text) l b.2
      by_version (Some form) k = subst (LineFits labels) (same_Some (line.Version form) l k) tt
