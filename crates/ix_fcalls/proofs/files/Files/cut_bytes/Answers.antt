use Rattle.std.{proofs.Common.{◌≡◌, ◌∙◌, ℕ, sym, ap, subst, true, false, slice_set, slice_index_or}, specs.Option.option_map_or}
use Rattle.ix_model.specs.world.{World.{at, is_file}, Contents.{holds_nothing, with_side, cut_to}}
use Rattle.ix_tables.specs.{Views.has_room, Parts.Parts}
use Rattle.ix_fcalls.proofs.{Serving.serves_file, Lengths.cut_has_room, Edits.{edited_frame, edited_counted, cut_short}}
use Rattle.ix_fcalls.proofs.files.Files.cut_bytes.Goals as goal

-- a file cut to a length
abbrev with_cut : ℕ → ℕ → Parts → Parts
with_cut o len v =
    record v { holdings = slice_set v.holdings o (with_side 0 (cut_to len (slice_index_or v.holdings o holds_nothing).first) (slice_index_or v.holdings o holds_nothing)) }

pub cut-requires-clause-file : goal.cut-requires-clause-file
cut-requires-clause-file g c = subst (λ (v : Parts). option_map_or is_file (at v.objects c.args.e.now.object) false ≡ true) (sym c.self.view_is)
    (serves_file _ _ c.requires.serves c.requires.file)

pub cut-requires-clause-room : goal.cut-requires-clause-room
cut-requires-clause-room g c = subst (λ (v : Parts). has_room c.args.e.now.object c.args.len v ≡ true) (sym c.self.view_is)
    (cut_has_room g.R.Others.rest c.args.self.now _ c.args.e.now _ c.requires.room)

pub returns-clause-frame : goal.returns-clause-frame
returns-clause-frame g c = edited_frame c.args.self.now _ _ _ (c.cut.ensures ∙ ap (with_cut c.args.e.now.object c.args.len) c.self.view_is) g.R.Others.rest _

pub returns-clause-content : goal.returns-clause-content
returns-clause-content g c = cut_short g.R.Others.rest _ c.args.who.now _ _ _ c.requires.serves c.requires.file (c.cut.ensures ∙ ap (with_cut c.args.e.now.object c.args.len) c.self.view_is)

pub returns-clause-counted : goal.returns-clause-counted
returns-clause-counted g c = edited_counted _ _ _ _ (c.cut.ensures ∙ ap (with_cut c.args.e.now.object c.args.len) c.self.view_is) _ c.requires.counted
