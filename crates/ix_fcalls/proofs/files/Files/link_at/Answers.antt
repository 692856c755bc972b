use Rattle.std.{proofs.{Common.{◌≡◌, ◌∙◌, Some, None, true, false, nat_lt, refl, sym, ap}, lemmas.Bool.eq-eqb}, specs.Option.option_map_or}
use Rattle.ix_label.specs.Category.{Categories}
use Rattle.ix_model.specs.world.{World.{Frame, Object, at, change, is_file}, Naming.last_name, Numbers.fs_number, Directories.with_name}
use Rattle.ix_model.specs.{world.{Owners.names_in_all, Paths.path_of}, rows.{Rows.affect, Walks.{node, child}}}
use Rattle.ix_tables.specs.{Parts.Parts, Views.object_by}
use Rattle.ix_fcalls.{specs.{Around.frame_of, Views.sought_of}, proofs.{Chaining.{link_is, link_full}, Leading.room_is}}
use Rattle.ix_fcalls.proofs.Leading.{dir_then, absent_then, file_then, dir_still, child_still, link_still, room_still, counted_named, kept_named, no_dir}
use Rattle.ix_fcalls.proofs.files.Files.link_at.Goals as goal

pub last_name-requires : goal.last_name-requires
last_name-requires g c = c.in_ok-dir.ensures.named _ c.in_ok-last.ensures.named

pub add_name-requires-clause-dir : goal.add_name-requires-clause-dir
add_name-requires-clause-dir g c =
    dir_still g.R.Others.rest c.args.self.now c.affect.new.self _ _ _ c.in_ok-affect.ensures.row _ (dir_then g.R.Others.rest c.args.self.now _ _ _ _ _
    c.requires.sound (sought_of c.in_ok-led.led) (sought_of c.in_ok-last.last) c.in_ok-led.ensures.row c.in_ok-last.ensures.row _ c.in_ok-dir.ensures.row)

pub add_name-requires-clause-absent : goal.add_name-requires-clause-absent
add_name-requires-clause-absent g c = ap (child (node c.affect.new.self.objects c.in_ok-dir.dir)) c.last_name.ensures
    ∙ child_still g.R.Others.rest c.args.self.now c.affect.new.self _ _ _ c.in_ok-affect.ensures.row _ (last_name (path_of c.args.path.now).names) None
    (absent_then g.R.Others.rest c.args.self.now _ _ _ _ _
    c.requires.sound (sought_of c.in_ok-led.led) (sought_of c.in_ok-last.last) c.in_ok-led.ensures.row c.in_ok-last.ensures.row _ c.in_ok-dir.ensures.row)

pub add_name-requires-clause-room : goal.add_name-requires-clause-room
add_name-requires-clause-room g c =
    room_still g.R.Others.rest c.args.self.now c.affect.new.self _ _ _ c.in_ok-affect.ensures.row
    (ap (λ (v : Parts). nat_lt (names_in_all v.objects) v.limits.names) (sym c.self.view_is) ∙ sym c.has_room_for_a_name.ensures ∙ c.if-not-has_room_for_a_name.false)

pub add_name-requires-clause-file : goal.add_name-requires-clause-file
add_name-requires-clause-file g c =
    let x : Object = object_by (node c.self.inside.tables.objects c.in_ok-object.object) c.in-Some.x in
    let there : at c.args.self.now.objects c.in_ok-object.object ≡ Some x = ap (λ (v : Parts). at v.objects c.in_ok-object.object) (sym c.self.view_is) ∙ c.in-Some.ensures.object in
    let file : is_file x ≡ true = file_then g.R.Others.rest c.args.self.now _ _ _ _ _ c.requires.sound (sought_of c.in_ok-led.led) (sought_of c.in_ok-last.last) c.in_ok-led.ensures.row
    c.in_ok-last.ensures.row
    _ x c.in_ok-object.ensures.row there (no_dir c.in-Some.x.kind c.in_default-kind.not-Dir) in
    link_still g.R.Others.rest c.args.self.now c.affect.new.self _ _ _ c.in_ok-affect.ensures.row _ (ap (λ o. option_map_or is_file o false) there ∙ file)

pub returns-clause-row : goal.returns-clause-row
returns-clause-row g c =
    let m : Frame = frame_of g.R.Others.rest c.args.self.now c.walked_to-2.new.who in
    let h : Frame = frame_of g.R.Others.rest c.affect.new.self c.walked_to-2.new.who in
    let x : Object = object_by (node c.self.inside.tables.objects c.in_ok-object.object) c.in-Some.x in
    let y : Object = object_by (node c.self.inside.tables.objects c.in_ok-dir.dir) c.in-Some-object.y in
    link_is _ _ _ _ _ m h _ (sought_of c.in_ok-led.led) (sought_of c.in_ok-last.last) _ _ x y c.in_ok-led.ensures.row c.in_ok-last.ensures.row c.in_ok-object.ensures.row
    (ap (λ (v : Parts). at v.objects c.in_ok-object.object) (sym c.self.view_is) ∙ c.in-Some.ensures.object) (no_dir c.in-Some.x.kind c.in_default-kind.not-Dir)
    c.in_ok-dir.ensures.row (ap (λ (v : Parts). at v.objects c.in_ok-dir.dir) (sym c.self.view_is) ∙ c.in-Some-object.ensures.object)
    (eq-eqb (fs_number x) (fs_number y) (sym c.fs_number.ensures ∙ c.if-fs_number.false ∙ c.fs_number-2.ensures))
    (room_is m ∙ ap (λ (v : Parts). nat_lt (names_in_all v.objects) v.limits.names) (sym c.self.view_is) ∙ sym c.has_room_for_a_name.ensures ∙ c.if-not-has_room_for_a_name.false)
    (ap (λ (l : Categories). affect g.R.Others.rest.pid c.in_ok-dir.dir l m) (sym c.bottom.ensures) ∙ c.in_ok-affect.ensures.row)
    (ap (λ (v : Parts). frame_of g.R.Others.rest v c.walked_to-2.new.who) c.add_name.ensures
    ∙ (λ i. let k : Frame = record h { objects = change h.objects c.in_ok-dir.dir (with_name (c.last_name.ensures i) c.in_ok-object.object) } in k))

pub returns-clause-counted : goal.returns-clause-counted
returns-clause-counted g c = counted_named _ _ _ _ _ c.in_ok-affect.ensures.counted c.add_name.ensures

pub returns-clause-kept : goal.returns-clause-kept
returns-clause-kept g c = kept_named _ _ _ _ c.in_ok-affect.ensures.kept c.add_name.ensures

pub returns-then-not-has_room_for_a_name : goal.returns-then-not-has_room_for_a_name
returns-then-not-has_room_for_a_name g c =
    let m : Frame = frame_of g.R.Others.rest c.args.self.now c.walked_to-2.new.who in
    let x : Object = object_by (node c.self.inside.tables.objects c.in_ok-object.object) c.in-Some.x in
    let y : Object = object_by (node c.self.inside.tables.objects c.in_ok-dir.dir) c.in-Some-object.y in
    record {
      row = link_full _ _ _ _
          _ m (sought_of c.in_ok-led.led) (sought_of c.in_ok-last.last) _ _ x y c.in_ok-led.ensures.row c.in_ok-last.ensures.row c.in_ok-object.ensures.row
          (ap (λ (v : Parts). at v.objects c.in_ok-object.object) (sym c.self.view_is) ∙ c.in-Some.ensures.object) (no_dir c.in-Some.x.kind c.in_default-kind.not-Dir)
          c.in_ok-dir.ensures.row (ap (λ (v : Parts). at v.objects c.in_ok-dir.dir) (sym c.self.view_is) ∙ c.in-Some-object.ensures.object)
          (eq-eqb (fs_number x) (fs_number y) (sym c.fs_number.ensures ∙ c.if-fs_number.false ∙ c.fs_number-2.ensures))
          (room_is m ∙ ap (λ (v : Parts). nat_lt (names_in_all v.objects) v.limits.names) (sym c.self.view_is) ∙ sym c.has_room_for_a_name.ensures ∙ c.if-not-has_room_for_a_name.true);
      counted = c.in_ok-last.ensures.counted;
      back = refl;
      kept = record { holdings = refl; offsets = refl };
    }
