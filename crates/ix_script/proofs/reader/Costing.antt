-- What lines cost: at most 4,352 for each command, and nothing for another line.
use Rattle.std.proofs.Common.{◌≡◌, ℕ, ◌+◌, ◌*◌, ◌≤◌, nat_le, Bool, true, false, cond, List, [], ◌∷◌, ◌++◌, length, Option, Some, None, option_map, refl, subst, arith, inl, inr}
use Rattle.std.{specs.Option.option_or, proofs.lemmas.{Bool.leb-true, Option.{none-some, same_Some}, List.Sums.{sum_by-cons, sum_by_push, sum-map}}}
use Rattle.ix_model.specs.{world.Naming.PathOf, history.Cost.cost_of_path}
use Rattle.ix_script.specs.texts.{Cutting.{is_skipped, is_policy_line, policy_text, words_of, word_at}, Payloads.payload_of}
use Rattle.ix_script.specs.{lines.{Forms.form_of, Before.{is_command, commands}}, scripts.Need.{cost_of_line, need}}
use Rattle.ix_script.specs.declared.{form.{Form.Form, Plain.Plain, OnPath.OnPath, OnFd.OnFd, Counted.Counted}, line.{FdWord.FdWord, Line.Line}}
use Rattle.ix_script.specs.lines.Said.{payload_within, plain_line, path_line, fd_line, counted_line, said, said_by_words, version_of, line_of}
use Rattle.ix_script.proofs.{reader.{Told.{mapped, paired, bound, either}, Pushed.commands_push}, texts.Paths.path_cheap}
use Rattle.ix_label.specs.declared.form.Form as spelled
use Rattle.ix_script.specs.declared.form.Form.TheVariants as form
use Rattle.ix_script.specs.declared.form.Plain.TheVariants as plain
use Rattle.ix_script.specs.declared.form.OnPath.TheVariants as on_path
use Rattle.ix_script.specs.declared.form.OnFd.TheVariants as on_fd
use Rattle.ix_script.specs.declared.form.Counted.TheVariants as counted
use Rattle.ix_script.specs.declared.line.Line.TheVariants as line

-- ---- a line
abbrev Cheap : Line → Type 0
Cheap l = cost_of_line l ≤ cond (is_command l) 4352 0

made_by : {X : Type 0} (g : X → Line) (m : Option X) (l : Line) → ((x : X) → m ≡ Some x → Cheap (g x)) → option_map g m ≡ Some l → Cheap l
made_by g m l cheap h = let p = mapped g m l h in subst Cheap p.2 (cheap p.0 p.1)

plain_cheap : (c : Plain) (proc : List ℕ) → Cheap (plain_line c proc)
unfolding cost_of_line
plain_cheap plain.Wait proc = omega arith
plain_cheap plain.Self_ proc = omega arith
plain_cheap plain.Freezeself proc = omega arith
plain_cheap plain.Thawself proc = omega arith

on_path_cheap : (c : OnPath) (proc : List ℕ) (path : PathOf) → cost_of_path path ≤ 464 → Cheap (path_line c proc path)
unfolding cost_of_line
on_path_cheap on_path.Create proc path h = omega (arith, h)
on_path_cheap on_path.Mkdir proc path h = omega (arith, h)
on_path_cheap on_path.Unlink proc path h = omega (arith, h)
on_path_cheap on_path.Rmdir proc path h = omega (arith, h)
on_path_cheap on_path.Chdir proc path h = omega (arith, h)
on_path_cheap on_path.Stat proc path h = omega (arith, h)
on_path_cheap on_path.Exec proc path h = omega (arith, h)
on_path_cheap on_path.Labelof proc path h = omega (arith, h)
on_path_cheap on_path.Freeze proc path h = omega (arith, h)
on_path_cheap on_path.Thaw proc path h = omega (arith, h)

on_fd_cheap : (c : OnFd) (proc : List ℕ) (fd : FdWord) → Cheap (fd_line c proc fd)
unfolding cost_of_line
on_fd_cheap on_fd.Close proc fd = omega arith
on_fd_cheap on_fd.Pex proc fd = omega arith
on_fd_cheap on_fd.Unpex proc fd = omega arith
on_fd_cheap on_fd.Priv proc fd = omega arith

counted_cheap : (c : Counted) (proc : List ℕ) (fd : FdWord) (n : ℕ) → Cheap (counted_line c proc fd n)
unfolding cost_of_line
counted_cheap counted.Read proc fd n = omega arith
counted_cheap counted.Cut proc fd n = omega arith
counted_cheap counted.Seek proc fd n = omega arith

payload_few : (word bytes : List ℕ) → payload_within 4096 word ≡ Some bytes → length bytes ≤ 4096
payload_few word bytes h =
    let b = bound (payload_of word) _ _ h in
    elim (either (nat_le (length b.0) 4096) (Some b.0) _ _ b.2) [
      | inl p ↦ subst (λ (f : List ℕ). length f ≤ 4096) (same_Some b.0 bytes p.1) (leb-true (length b.0) 4096 p.0)
      | inr p ↦ absurd (none-some bytes p.1)
    ]

form_cheap : (labels : spelled.Form) (f : Form) (words : List (List ℕ)) (l : Line) → said labels f words ≡ Some l → Cheap l
unfolding cost_of_line
form_cheap labels form.Limit words l h = made_by (λ x. line.Limit x.0 x.1) _ l (λ x e. omega arith) h
form_cheap labels form.Fs words l h = made_by _ _ l (λ x e. omega arith) h
form_cheap labels form.Proc words l h = made_by _ _ l (λ x e. omega arith) h
form_cheap labels form.Dir words l h = made_by _ _ l (λ x e. omega arith) h
form_cheap labels form.File words l h = made_by _ _ l (λ x e. omega arith) h
form_cheap labels form.Phase words l h = subst Cheap (same_Some line.Phase l h) (omega arith)
form_cheap labels form.Lane words l h = made_by _ _ l (λ x e. omega arith) h
form_cheap labels (form.Plain c) words l h = made_by _ _ l (λ x e. plain_cheap c x) h
form_cheap labels (form.OnPath c) words l h = made_by _ _ l (λ x e. on_path_cheap c _ _ (path_cheap _ _ (paired _ _ x e).1)) h
form_cheap labels (form.OnFd c) words l h = made_by _ _ l (λ x e. on_fd_cheap c _ _) h
form_cheap labels (form.Counted c) words l h = made_by (λ x. counted_line c x.0 x.1.0 x.1.1) _ l (λ x e. counted_cheap c x.0 x.1.0 x.1.1) h
form_cheap labels form.Open words l h =
    made_by (λ x. line.Open x.0 x.1.0 x.1.1.0 x.1.1.1) _ l (λ x e. omega (arith, path_cheap (word_at words 2) x.1.0 (paired _ _ x.1 (paired _ _ x e).1).0)) h
form_cheap labels form.Write words l h =
    made_by (λ x. line.Write x.0 x.1.0 x.1.1) _ l (λ x e. omega (arith, payload_few (word_at words 3) x.1.1 (paired _ _ x.1 (paired _ _ x e).1).1)) h
form_cheap labels form.Dup words l h = made_by (λ x. line.Dup x.0 x.1.0 x.1.1) _ l (λ x e. omega arith) h
form_cheap labels form.Pipe words l h = made_by (λ x. line.Pipe x.0 x.1) _ l (λ x e. omega arith) h
form_cheap labels form.Link words l h = made_by (λ x. line.Link x.0 x.1.0 x.1.1) _ l
    (λ x e. let p = paired _ _ x.1 (paired _ _ x e).1 in omega (arith, path_cheap (word_at words 2) x.1.0 p.0, path_cheap (word_at words 3) x.1.1 p.1)) h
form_cheap labels form.List words l h =
    made_by (λ x. line.List x.0 x.1.0 x.1.1) _ l (λ x e. omega (arith, path_cheap (word_at words 2) x.1.0 (paired _ _ x.1 (paired _ _ x e).1).0)) h
form_cheap labels form.Copy words l h = made_by (λ x. line.Copy x.0 x.1.0 x.1.1.0 x.1.1.1) _ l (λ x e. omega arith) h
form_cheap labels form.Setlabel words l h =
    made_by (λ x. line.Setlabel x.0 x.1.0 x.1.1) _ l (λ x e. omega (arith, path_cheap (word_at words 2) x.1.0 (paired _ _ x.1 (paired _ _ x e).1).0)) h
form_cheap labels form.Setpriv words l h =
    made_by (λ x. line.Setpriv x.0 x.1.0 x.1.1.0 x.1.1.1) _ l (λ x e. omega (arith, path_cheap (word_at words 2) x.1.0 (paired _ _ x.1 (paired _ _ x e).1).0)) h
form_cheap labels form.Fork words l h = made_by (λ x. line.Fork x.0 x.1.0 x.1.1) _ l (λ x e. omega arith) h
form_cheap labels form.Exit words l h = made_by (λ x. line.Exit x.0 x.1) _ l (λ x e. omega arith) h
form_cheap labels form.Setself words l h = made_by (λ x. line.Setself x.0 x.1) _ l (λ x e. omega arith) h
form_cheap labels form.Droplic words l h = made_by (λ x. line.Droplic x.0 x.1) _ l (λ x e. omega arith) h
form_cheap labels form.Grant words l h = made_by (λ x. line.Grant x.0 x.1.0 x.1.1) _ l (λ x e. omega arith) h
form_cheap labels form.Ceiling words l h = made_by (λ x. line.Ceiling x.0 x.1.0 x.1.1) _ l (λ x e. omega arith) h
form_cheap labels form.Readlog words l h = made_by (λ x. line.Readlog x.0 x.1) _ l (λ x e. omega arith) h
form_cheap labels form.Login words l h = made_by (λ x. line.Login x.0 x.1.0 x.1.1.0 x.1.1.1) _ l (λ x e. omega arith) h

pub line_cheap : (labels : spelled.Form) (text : List ℕ) (l : Line) → line_of labels text ≡ Some l → Cheap l
unfolding line_of cost_of_line
line_cheap labels text l h =
    let rest = option_or (option_map (λ form. line.Version form) _) (said_by_words labels (words_of text)) in
    elim (either (is_skipped text) (Some line.Skipped) _ l h) [
      | inl p ↦ subst Cheap (same_Some line.Skipped l p.1) (omega arith)
      | inr p ↦ elim (either (is_policy_line text) (Some (line.Policy (policy_text text))) rest l p.1) [
        | inl q ↦ subst Cheap (same_Some (line.Policy (policy_text text)) l q.1) (omega arith)
        | inr q ↦ by_version (version_of text) q.1
      ]
    ]
  where
    by_version : (o : Option spelled.Form) → option_or (option_map (λ form. line.Version form) o) (said_by_words labels (words_of text)) ≡ Some l → Cheap l
    by_version None k = let b = bound (form_of (word_at (words_of text) 0)) (λ f. said labels f (words_of text)) l k in form_cheap labels b.0 (words_of text) l b.2
    by_version (Some form) k = subst Cheap (same_Some (line.Version form) l k) (omega arith)

-- ---- line after line
pub need_next : (l : Line) (lines : List Line) → need (l ∷ lines) ≡ cost_of_line l + need lines
unfolding need
need_next l lines = omega (arith, sum-map cost_of_line (l ∷ lines), sum-map cost_of_line lines, sum_by-cons cost_of_line l lines)

pub need_push : (lines : List Line) (l : Line) → need (lines ++ l ∷ []) ≡ need lines + cost_of_line l
unfolding need
need_push lines l = omega (arith, sum-map cost_of_line (lines ++ l ∷ []), sum-map cost_of_line lines, sum_by_push cost_of_line lines l)

pub need_none : need [] ≡ 0
unfolding need
need_none = refl

one_more : (command : Bool) (cost n m : ℕ) → cost ≤ cond command 4352 0 → n ≤ 4352 * m → n + cost ≤ 4352 * cond command (m + 1) m
one_more true cost n m h few = omega (arith, h, few)
one_more false cost n m h few = omega (arith, h, few)

-- lines that were read need at most 4,352 for each command
pub cheap_none : need [] ≤ 4352 * commands []
cheap_none = omega (arith, need_none)

pub cheap_next : (labels : spelled.Form) (before : List Line) (text : List ℕ) (l : Line) → line_of labels text ≡ Some l → need before ≤ 4352 * commands before
    → need (before ++ l ∷ []) ≤ 4352 * commands (before ++ l ∷ [])
cheap_next labels before text l m few = rw (need_push, commands_push) (one_more _ _ _ _ (line_cheap _ _ l m) few)
