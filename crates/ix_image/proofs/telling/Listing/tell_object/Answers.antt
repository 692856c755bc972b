use Rattle.std.proofs.{Common.{length, refl, sym, ap, ◌∙◌}, lemmas.Bool.ltb-false}
use Rattle.ix_image.{specs.Meant.nodes_of, proofs.Told.{tells, objects_end, objects_on}}
use Rattle.ix_image.proofs.telling.Listing.tell_object.Goals as goal

pub returns-in_default-clause-ok : goal.returns-in_default-clause-ok
returns-in_default-clause-ok c =
    tells _ _ _ _ _ _ _ _
    c.in_ok-end_line.ensures.ok refl refl c.requires refl
    (objects_end _ _ _ _ _ (ap nodes_of c.deref.ensures.value ∙ ap (λ t. t.nodes) c.tree.view_is) (ltb-false _ _ (sym c.in_default.ensures.lookup.0))
    (c.len.ensures ∙ c.tree.inside.nodes.ok.0 ∙ ap (λ r. length r) (sym c.deref.ensures.value)) c.args.self.now.counted)

pub returns-clause-ok : goal.returns-clause-ok
returns-clause-ok c =
    tells _ _ _ _ _ _ _ _ c.in_ok-node_line.ensures.ok
    refl refl c.requires refl
    (objects_on _ _ _ _ _ (ap nodes_of c.deref.ensures.value ∙ ap (λ t. t.nodes) c.tree.view_is) c.in-Some.ensures.lookup.3.0 c.in-Some.ensures.lookup.1 c.links.ensures)
