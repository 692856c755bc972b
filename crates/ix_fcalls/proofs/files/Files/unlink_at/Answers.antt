use Rattle.std.proofs.Common.{◌≡◌, ◌∙◌, ℕ, List, Some, true, unwrap_or, sym, ap}
use Rattle.ix_label.specs.Category.{Categories}
use Rattle.ix_model.specs.world.{World.{Frame, Object, at, change, is_file}, Naming.last_name, Directories.without_name, NameRefs.name_of, Paths.path_of}
use Rattle.ix_model.specs.rows.{Rows.affect, Walks.{node, nothing}}
use Rattle.ix_tables.specs.{Parts.Parts, Views.{object_by, object_let_go}}
use Rattle.ix_fcalls.{specs.{Around.frame_of}, proofs.{Chaining.unlink_is, Unnaming.{letting_go, counted_left, content_left, let_go_after}}}
use Rattle.ix_fcalls.proofs.Leading.{file_spot, processes_spot, spot_still, file_still, no_dir}
use Rattle.ix_fcalls.proofs.files.Files.unlink_at.Goals as goal

pub drop_name-requires : goal.drop_name-requires
drop_name-requires g c =
    let still = spot_still g.R.Others.rest c.args.self.now c.affect.new.self _ _ _ _ _ c.requires.sound c.last_name.ensures _ _ _ _ c.in_ok-spot.ensures.row c.in-Some-dir.is
    c.in_ok-affect.ensures.row in
    let x : Object = object_by (node c.self.inside.tables.objects c.in_ok-spot.spot.object) c.in-Some.x in
    let there : at c.args.self.now.objects c.in_ok-spot.spot.object ≡ Some x = ap (λ (v : Parts). at v.objects c.in_ok-spot.spot.object) (sym c.self.view_is) ∙ c.in-Some.ensures.object in
    let file : is_file x ≡ true = file_spot g.R.Others.rest c.args.self.now _ _ _ c.requires.sound _ x c.in_ok-spot.ensures.row there (no_dir c.in-Some.x.kind c.in_default-kind.not-Dir) in
    record {
      dir = still.0;
      child = still.1;
      file = file_still g.R.Others.rest c.args.self.now c.affect.new.self _ _ _ c.in_ok-affect.ensures.row c.in_ok-spot.spot.object
          (ap (λ o. is_file (unwrap_or o nothing)) there ∙ file);
    }

pub returns-clause-row : goal.returns-clause-row
returns-clause-row g c =
    let m : Frame = frame_of g.R.Others.rest c.args.self.now c.spot_at.new.who in
    let h : Frame = frame_of g.R.Others.rest c.affect.new.self c.spot_at.new.who in
    let t : Parts = record c.affect.new.self { objects = change c.affect.new.self.objects c.in-Some-dir.dir (without_name (last_name (path_of c.args.path.now).names)) } in
    let x : Object = object_by (node c.self.inside.tables.objects c.in_ok-spot.spot.object) c.in-Some.x in
    unlink_is _ _ _ m h _ _ _ x c.in_ok-spot.ensures.row (ap (λ (v : Parts). at v.objects c.in_ok-spot.spot.object) (sym c.self.view_is) ∙ c.in-Some.ensures.object)
    (no_dir c.in-Some.x.kind c.in_default-kind.not-Dir)
    c.in-Some-dir.is (ap (λ (l : Categories). affect g.R.Others.rest.pid c.in-Some-dir.dir l m) (sym c.bottom.ensures) ∙ c.in_ok-affect.ensures.row)
    (letting_go g.R.Others.rest t _ _ c.in_ok-spot.spot.object (c.drop_name.ensures ∙ ap (λ (name : List ℕ). object_let_go c.in_ok-spot.spot.object (record c.affect.new.self {
      objects = change c.affect.new.self.objects c.in-Some-dir.dir (without_name name);
    })) c.last_name.ensures))

pub returns-clause-counted : goal.returns-clause-counted
returns-clause-counted g c =
    counted_left _ _ _ _ _ c.in_ok-spot.spot.object (without_name (name_of c.last_name.result)) _ c.in_ok-affect.ensures.counted
    (let_go_after _ _ _ c.in_ok-spot.spot.object (without_name (name_of c.last_name.result)) c.drop_name.ensures)

pub returns-clause-content : goal.returns-clause-content
returns-clause-content g c = content_left g.R.Others.rest _ _ _ _ c.requires.sound
    (processes_spot g.R.Others.rest c.args.self.now _ _ _ c.requires.sound _ c.in_ok-spot.ensures.row)
    _ _ c.in_ok-affect.ensures.row c.in_ok-affect.ensures.kept c.in_ok-affect.ensures.limits.2 _ c.in_ok-spot.spot.object (without_name (name_of c.last_name.result)) _
    (let_go_after _ _ _ c.in_ok-spot.spot.object (without_name (name_of c.last_name.result)) c.drop_name.ensures)
