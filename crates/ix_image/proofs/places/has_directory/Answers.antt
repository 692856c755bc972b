use Rattle.std.proofs.Common.{sym, ◌∙◌}
use Rattle.ix_image.proofs.Placing.{directory_here, no_directory, at_low}
use Rattle.ix_image.proofs.places.has_directory.Goals as goal

pub returns-in-Some : goal.returns-in-Some
returns-in-Some c =
    let at = c.in-Some.ensures.some in
    c.is_dir.ensures ∙ directory_here _ _ _ _ c.requires (at_low _ _ _ at)
    c.index-nodes-place.is at

pub returns-in-None : goal.returns-in-None
returns-in-None c = sym (no_directory _ c.args.number c.in-None.ensures.none)
