use Rattle.std.proofs.Common.{sym, ap, ◌∙◌, unwrap_or}
use Rattle.ix_image.proofs.{Saved.kept_there, Held.{file_begins, dir_begins, empty_begins}}
use Rattle.ix_image.proofs.parts.begin.Goals as goal

pub returns-then-not-is_dir : goal.returns-then-not-is_dir
returns-then-not-is_dir c = λ x is.
    file_begins _ _ x _ is (kept_there _ _ _ c.requires.kept)
    (sym c.is_dir.ensures ∙ c.if-not-is_dir.true) c.requires.next

pub returns-in-Some : goal.returns-in-Some
returns-in-Some c = λ x is.
    dir_begins _ _ x _ _ _ _ is (kept_there _ _ _ c.requires.kept)
    (sym c.is_dir.ensures ∙ c.if-not-is_dir.false) c.requires.next
    (c.unwrap_or-count.ensures ∙ ap (λ o. unwrap_or o 0) c.names.ensures) c.in-Some.ensures

pub returns-in-None : goal.returns-in-None
returns-in-None c = λ x is.
    empty_begins _ _ x _ is (kept_there _ _ _ c.requires.kept)
    (sym c.is_dir.ensures ∙ c.if-not-is_dir.false) c.in-None.ensures
