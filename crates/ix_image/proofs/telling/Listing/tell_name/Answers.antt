use Rattle.std.proofs.{Common.{[], refl, sym}, lemmas.List.append-nil}
use Rattle.ix_image.proofs.Told.{tells, names_end, names_on}
use Rattle.ix_image.proofs.telling.Listing.tell_name.Goals as goal

pub returns-in_default-clause-ok : goal.returns-in_default-clause-ok
returns-in_default-clause-ok c =
    tells _ _ _ _ _ _ _ []
    (sym (append-nil _)) refl refl c.requires refl
    (names_end _ _ _ _ c.in_default.ensures)

pub returns-clause-ok : goal.returns-clause-ok
returns-clause-ok c =
    tells _ _ _ _ _ _ _
    _ c.in_ok-link_line.ensures.ok refl refl c.requires refl
    (names_on _ _ _ _ _ _ c.in-Some.ensures)
