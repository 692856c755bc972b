use Rattle.std.proofs.{Common.{◌≡◌, ◌<◌, ◌==◌, ◌∙◌, ℕ, Some, None, true, length, unwrap_or, sym, ap, subst}, lemmas.{Bool.eqb-true, List.nil_from_length}}
use Rattle.ix_label.specs.Category.{Categories}
use Rattle.ix_model.specs.world.{World.{Frame, Object, at, put, change, is_dir}, Numbers.first_inode, NameRefs.name_of}
use Rattle.ix_model.specs.{world.{Directories.without_name}, rows.{Rows.affect, Walks.{node, nothing}}, declared.reply.Kind.Kind}
use Rattle.ix_tables.specs.{Parts.Parts, Views.object_by}
use Rattle.ix_fcalls.{specs.{Around.frame_of}, proofs.{Chaining.remove_is, Leading.{processes_spot, spot_still, dir_still, fs_of_dir}}}
use Rattle.ix_fcalls.proofs.Unnaming.{counted_left, content_left, processes_seen, processes_twice}
use Rattle.ix_fcalls.proofs.files.Files.remove_dir.Goals as goal

pub is_root-requires : goal.is_root-requires
is_root-requires g c =
    let x : Object = object_by (node c.self.inside.tables.objects c.in_ok-spot.spot.object) c.in-Some.x in
    let there : at c.args.self.now.objects c.in_ok-spot.spot.object ≡ Some x = ap (λ (v : Parts). at v.objects c.in_ok-spot.spot.object) (sym c.self.view_is) ∙ c.in-Some.ensures.object in
    subst (λ (v : Parts). c.fs_number.result < length v.fss) (sym c.self.view_is) (subst (λ (k : ℕ). k < length c.args.self.now.fss) (sym c.fs_number.ensures)
    (fs_of_dir g.R.Others.rest c.args.self.now _ c.requires.sound c.in_ok-spot.spot.object x there (ap (λ (k : Kind). is_dir (record nothing { kind = k })) c.in-Dir.is)))

pub is_bare-requires : goal.is_bare-requires
is_bare-requires g c = ap (λ o. is_dir (unwrap_or o nothing)) c.in-Some.ensures.object ∙ ap (λ k. is_dir (record nothing { kind = k })) c.in-Dir.is

pub is_home-requires-clause-within : goal.is_home-requires-clause-within
is_home-requires-clause-within g c = subst (λ v. c.in_ok-spot.spot.object < length v.objects) c.self.view_is c.in-Some.ensures.within

pub drop_dir-requires : goal.drop_dir-requires
drop_dir-requires g c =
    let still = spot_still g.R.Others.rest c.args.self.now c.affect.new.self _ _ _ _ _ c.requires.sound c.last_name.ensures _ _ _ _ c.in_ok-spot.ensures.row c.in-Some-dir.is
    c.in_ok-affect.ensures.row in
    record {
      dir = still.0;
      child = still.1;
      bare = c.in_ok-affect.ensures.kept_names c.in_ok-spot.spot.object
          ∙ ap (λ v. (node v.objects c.in_ok-spot.spot.object).names) (sym c.self.view_is)
          ∙ nil_from_length _ (eqb-true _ 0 (sym c.is_bare.ensures ∙ c.if-not-is_bare.false));
      is_dir = dir_still g.R.Others.rest c.args.self.now c.affect.new.self _ _ _ c.in_ok-affect.ensures.row c.in_ok-spot.spot.object
          (ap (λ (v : Parts). is_dir (node v.objects c.in_ok-spot.spot.object)) (sym c.self.view_is) ∙ ap (λ o. is_dir (unwrap_or o nothing)) c.in-Some.ensures.object
          ∙ ap (λ (k : Kind). is_dir (record nothing { kind = k })) c.in-Dir.is);
    }

pub returns-clause-row : goal.returns-clause-row
returns-clause-row g c =
    let n : ℕ = c.in_ok-spot.spot.object in
    let m : Frame = frame_of g.R.Others.rest c.args.self.now c.spot_at.new.who in
    let l : Frame = frame_of g.R.Others.rest c.args.self.now c.observe.new.who in
    let h : Frame = frame_of g.R.Others.rest c.affect.new.self c.observe.new.who in
    let x : Object = object_by (node c.self.inside.tables.objects c.in_ok-spot.spot.object) c.in-Some.x in
    remove_is _ _ _ m l h _ _ _ x c.in_ok-spot.ensures.row (ap (λ (v : Parts). at v.objects n) (sym c.self.view_is) ∙ c.in-Some.ensures.object)
    (ap (λ (k : Kind). is_dir (record nothing { kind = k })) c.in-Dir.is) c.in_ok-observe.ensures.row (ap (λ (k : ℕ). n == first_inode c.args.self.now.fss k) (sym c.fs_number.ensures)
    ∙ ap (λ (v : Parts). n == first_inode v.fss c.fs_number.result) (sym c.self.view_is) ∙ sym c.is_root.ensures ∙ c.if-is_root.false)
    (sym c.is_bare.ensures ∙ c.if-not-is_bare.false) (sym c.is_home.ensures ∙ c.if-is_home.false)
    c.in-Some-dir.is (ap (λ (z : Categories). affect g.R.Others.rest.pid c.in-Some-dir.dir z l) (sym c.bottom.ensures) ∙ c.in_ok-affect.ensures.row)
    (ap (λ (v : Parts). frame_of g.R.Others.rest v c.observe.new.who) c.drop_dir.ensures
    ∙ (λ i. let k : Frame = record h { objects = put (change h.objects c.in-Some-dir.dir (without_name (c.last_name.ensures i))) n None } in k))

pub returns-clause-counted : goal.returns-clause-counted
returns-clause-counted g c = counted_left _ _ _ true _ c.in_ok-spot.spot.object (without_name (name_of c.last_name.result)) _ c.in_ok-affect.ensures.counted c.drop_dir.ensures

pub returns-clause-content : goal.returns-clause-content
returns-clause-content g c = content_left g.R.Others.rest _ _ _ _ c.requires.sound
    (processes_twice _ _ _ (processes_spot g.R.Others.rest c.args.self.now _ _ _ c.requires.sound _ c.in_ok-spot.ensures.row)
    (processes_seen g.R.Others.rest c.args.self.now _ _ _ c.in_ok-observe.ensures.row)) _ _ c.in_ok-affect.ensures.row c.in_ok-affect.ensures.kept c.in_ok-affect.ensures.limits.2 true
    c.in_ok-spot.spot.object
    (without_name (name_of c.last_name.result)) _ c.drop_dir.ensures
