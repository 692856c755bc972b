use Rattle.std.proofs.{Common.{[], refl, sym, ap, ◌∙◌}, lemmas.{Bool.ltb-false, List.append-nil}}
use Rattle.ix_image.proofs.Told.{tells, systems_end, systems_on}
use Rattle.ix_image.proofs.telling.Listing.tell_file_system.Goals as goal

pub returns-in_default-clause-ok : goal.returns-in_default-clause-ok
returns-in_default-clause-ok c =
    tells _ _ _ _ _ _ _ [] (sym (append-nil _)) refl refl
    c.requires refl
    (systems_end _ _ c.deref.result.now (c.deref.ensures.value ∙ ap (λ t. t.fss) c.tree.view_is) (ltb-false _ _ (sym c.in_default.ensures.lookup.0)))

pub returns-clause-ok : goal.returns-clause-ok
returns-clause-ok c =
    tells _ _ _ _ _ _ _ _
    c.in_ok-file_system_line.ensures.ok refl refl c.requires refl
    (systems_on _ _ _ _ (c.deref.ensures.value ∙ ap (λ t. t.fss) c.tree.view_is) c.in-Some.ensures.lookup.3.0 c.in-Some.ensures.lookup.1)
