use Rattle.std.proofs.Common.{◌<◌, ◌∙◌, ℕ, Some, length, nat_lt, sym, ap, subst}
use Rattle.ix_label.specs.Category.{Categories}
use Rattle.ix_model.specs.world.{World.{Frame, Object, at, put, change}, Numbers.fs_number, Directories.with_name}
use Rattle.ix_model.specs.{world.{Owners.names_in_all}, rows.{OnPaths.new_object, Rows.affect, Walks.{node, child}}}
use Rattle.ix_tables.specs.{Parts.Parts, Views.{object_by, vacant_inode}}
use Rattle.ix_fcalls.{specs.Around.frame_of, proofs.{Chaining.make_is, Leading.{kept_made, room_is}}}
use Rattle.ix_fcalls.proofs.Leading.{fs_missing, dir_missing, absent_missing, dir_still, child_still, room_still, fs_still, vacant_still, counted_made, free_is}
use Rattle.ix_fcalls.proofs.files.Files.make.Goals as goal

pub vacant_inode-requires : goal.vacant_inode-requires
vacant_inode-requires g c = subst (λ (v : Parts). c.fs_number-fs.result < length v.fss) (sym c.self.view_is) (subst (λ (k : ℕ). k < length c.args.self.now.fss) (sym c.fs_number-fs.ensures)
    (fs_missing g.R.Others.rest c.args.self.now _ _ _ c.requires.sound _ c.in_ok-dir.ensures.row _ (ap (λ (v : Parts). at v.objects c.in_ok-dir.dir) (sym c.self.view_is) ∙ c.in-Some.ensures.object)))

pub put_named-requires-clause-dir : goal.put_named-requires-clause-dir
put_named-requires-clause-dir g c =
    dir_still g.R.Others.rest c.args.self.now c.affect.new.self _ _ _ c.in_ok-affect.ensures.row _ (dir_missing g.R.Others.rest c.args.self.now _ _ _ c.requires.sound _ c.in_ok-dir.ensures.row)

pub put_named-requires-clause-absent : goal.put_named-requires-clause-absent
put_named-requires-clause-absent g c = ap (child (node c.affect.new.self.objects c.in_ok-dir.dir)) c.last_name.ensures
    ∙ child_still g.R.Others.rest c.args.self.now c.affect.new.self _ _ _ c.in_ok-affect.ensures.row _ _ _
    (absent_missing g.R.Others.rest c.args.self.now _ _ _ c.requires.sound _ c.in_ok-dir.ensures.row)

pub put_named-requires-clause-room : goal.put_named-requires-clause-room
put_named-requires-clause-room g c = room_still g.R.Others.rest c.args.self.now c.affect.new.self _ _ _ c.in_ok-affect.ensures.row
    (ap (λ (v : Parts). nat_lt (names_in_all v.objects) v.limits.names) (sym c.self.view_is) ∙ sym c.has_room_for_a_name.ensures ∙ c.if-not-has_room_for_a_name.false)

pub put_named-requires-clause-fs : goal.put_named-requires-clause-fs
put_named-requires-clause-fs g c =
    subst (λ (n : ℕ). c.fs_number-fs.result < n) (sym (fs_still g.R.Others.rest c.args.self.now c.affect.new.self _ _ _ c.in_ok-affect.ensures.row))
    (subst (λ (k : ℕ). k < length c.args.self.now.fss) (sym c.fs_number-fs.ensures)
    (fs_missing g.R.Others.rest c.args.self.now _ _ _ c.requires.sound _ c.in_ok-dir.ensures.row _ (ap (λ (v : Parts). at v.objects c.in_ok-dir.dir) (sym c.self.view_is) ∙ c.in-Some.ensures.object)))

pub put_named-requires-clause-vacant : goal.put_named-requires-clause-vacant
put_named-requires-clause-vacant g c =
    vacant_still g.R.Others.rest c.args.self.now c.affect.new.self _ _ _ c.in_ok-affect.ensures.row _
    ∙ ap (λ (v : Parts). vacant_inode v.fss v.objects c.fs_number-fs.result) (sym c.self.view_is) ∙ sym c.in-Some-vacant_inode.ensures.vacant

pub returns-clause-row : goal.returns-clause-row
returns-clause-row g c =
    let m : Frame = frame_of g.R.Others.rest c.args.self.now c.missing.new.who in
    let h : Frame = frame_of g.R.Others.rest c.affect.new.self c.missing.new.who in
    let x : Object = object_by (node c.self.inside.tables.objects c.in_ok-dir.dir) c.in-Some.x in
    make_is _ _ _ _ m h _ _ _ x c.in_ok-dir.ensures.row (ap (λ (v : Parts). at v.objects c.in_ok-dir.dir) (sym c.self.view_is) ∙ c.in-Some.ensures.object)
    (free_is m (fs_number x) ∙ ap (λ (k : ℕ). vacant_inode c.args.self.now.fss c.args.self.now.objects k) (sym c.fs_number-fs.ensures)
    ∙ ap (λ (v : Parts). vacant_inode v.fss v.objects c.fs_number-fs.result) (sym c.self.view_is) ∙ sym c.in-Some-vacant_inode.ensures.vacant)
    (room_is m ∙ ap (λ (v : Parts). nat_lt (names_in_all v.objects) v.limits.names) (sym c.self.view_is) ∙ sym c.has_room_for_a_name.ensures ∙ c.if-not-has_room_for_a_name.false)
    (ap (λ (l : Categories). affect g.R.Others.rest.pid c.in_ok-dir.dir l m) (sym c.bottom.ensures) ∙ c.in_ok-affect.ensures.row)
    (ap (λ (v : Parts). frame_of g.R.Others.rest v c.missing.new.who) c.put_named.ensures ∙ (λ i. let k : Frame = record h {
      objects = change (put h.objects c.in-Some-vacant_inode.n (Some (new_object c.args.kind (Some (c.fs_number-fs.ensures i))))) c.in_ok-dir.dir
          (with_name (c.last_name.ensures i) c.in-Some-vacant_inode.n);
    } in k))

pub returns-clause-counted : goal.returns-clause-counted
returns-clause-counted g c = counted_made _ _ _ _ _ _ _ _ c.in_ok-affect.ensures.counted c.put_named.ensures

pub returns-clause-kept : goal.returns-clause-kept
returns-clause-kept g c =
    kept_made g.R.Others.rest _ _ _ _ c.requires.sound c.in_ok-affect.ensures.kept _ _
    (ap (λ (v : Parts). at v.objects c.in-Some-vacant_inode.n) (sym c.self.view_is) ∙ c.in-Some-vacant_inode.ensures.free) c.put_named.ensures
