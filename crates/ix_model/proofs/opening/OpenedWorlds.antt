-- The opening world of a valid config, line by line.
use Rattle.std.proofs.Common.{◌≡◌, ◌<◌, ◌≤◌, ◌+◌, ℕ, true, List, [], ◌∷◌, ◌++◌, length, map, replicate, take, drop, Option, Some, None, option_map, unwrap_or}
use Rattle.std.{proofs.{Common.{set, refl, sym, ap, ◌∙◌, subst, arith, append_assoc, append-nil}, lemmas.Bool.{and_parts, or_parts}}, specs.{Option.option_map_or, List.list_any}}
use Rattle.ix_model.specs.{world.{World.{fs_at, World, Frame, Object, Holding, lowest_free}, Naming.{same_names, last_name}}, rows.Walks.{nothing, node}}
use Rattle.ix_model.specs.{world.Numbers.{first_inode, free_inode}, opening.Opening.{process_of, directory_of, placed, with_object, with_objects}}
use Rattle.ix_model.specs.{opening.Valid.{fs_of, is_mount, object_fits, objects_fit}, declared.config.{Config.Config, ObjSpec.ObjSpec}}
use Rattle.ix_model.proofs.{tables.Inodes.{first_within, free_is}, opening.{Leading.directory_is, Lines.{parent_of, line_is, fs_of_child}}}
use Rattle.ix_model.proofs.opening.{Placing.{Place, with_one}, Built.Built, NamesPlaced.named_after, HeldPlaced.held_after}
use Rattle.ix_model.proofs.opening.{WaysPlaced.{name_is_new, ways_after}, CountsPlaced.{holding_for, fits_after, counted_after}}

-- the config's world with these objects, which hold these
abbrev pub world_with : Config → List (Option Object) → List Holding → World
world_with c t hs = record {
  frame = record { limits = c.limits; fss = c.fss; objects = t; processes = None ∷ map (λ p. Some (process_of p)) c.procs; opens = replicate c.limits.opens None; log = [] };
  content = record { holdings = hs; offsets = replicate c.limits.opens 0; statuses = replicate (length c.procs + 1) 0 };
}

-- a world that such lines have made
pub record WorldBuilt (c : Config) (before : List ObjSpec) (w : World) : Type 0 where
  pub objects : List (Option Object)
  pub holdings : List Holding
  pub is : w ≡ world_with c objects holdings
  pub built : Built c.fss c.limits before objects holdings

-- what an object line comes to where its directory is found and a number is free
line_at : (c : Config) (t : List (Option Object)) (hs : List Holding) (b : ObjSpec) (d k o : ℕ) → directory_of t 0 b.path.names ≡ d
    → unwrap_or (node t d).fs 0 ≡ k → free_inode (world_with c t hs).frame k ≡ Some o
    → with_object (world_with c t hs) b ≡ world_with c (with_one t b d k o) (set hs o (holding_for b))
unfolding with_object
line_at c t hs b d k o is_dir is_fs free =
    let w = world_with c t hs in
    ap (λ e. let j = unwrap_or (node t e).fs 0 in option_map_or (placed w b e j) (free_inode w.frame j) w) is_dir
    ∙ ap (λ j. option_map_or (placed w b d j) (free_inode w.frame j) w) is_fs
    ∙ ap (λ x. option_map_or (placed w b d k) x w) free

free_at : (f : Frame) (k n : ℕ) → lowest_free (take (fs_at f.fss k).inodes (drop (first_inode f.fss k) f.objects)) ≡ Some n → free_inode f k ≡ Some (first_inode f.fss k + n)
unfolding free_inode
free_at f k n is = ap (option_map (λ m. first_inode f.fss k + m)) is

-- one line more
pub line_built : (c : Config) (before : List ObjSpec) (t : List (Option Object)) (hs : List Holding) (b : ObjSpec) → Built c.fss c.limits before t hs
    → object_fits c.fss c.limits before b ≡ true → WorldBuilt c (before ++ b ∷ []) (with_object (world_with c t hs) b)
line_built c before t hs b r fits =
    let line = line_is c.fss c.limits before b fits in
    let home = r.ways.dirs (parent_of b.path.names) line.dir in
    let k : ℕ = fs_of c.fss b.path.names in
    let no_root = or_parts (is_mount c.fss b.path.names) (list_any (λ x. same_names x.path.names b.path.names) before) line.new in
    let same_fs : k ≡ fs_of c.fss (parent_of b.path.names) = ap (fs_of c.fss) line.is_path
    ∙ fs_of_child c.fss (parent_of b.path.names) (last_name b.path.names) (ap (is_mount c.fss) (sym line.is_path) ∙ no_root.0) in
    let free = free_is t (first_inode c.fss k) (fs_at c.fss k).inodes (omega (arith, first_within c.fss k, r.counted.long)) (omega (arith, r.counted.taken k, line.inodes)) in
    let o : ℕ = first_inode c.fss k + free.step in
    let p : Place t o home.number = record { low = omega (arith, free.low, first_within c.fss k, r.counted.long); free = free.none; dir = home.object; is_dir = home.is_object } in
    let from : first_inode c.fss k ≤ o = omega arith in
    let to : o < first_inode c.fss k + (fs_at c.fss k).inodes = omega (arith, free.low) in
    record {
      objects = with_one t b home.number k o;
      holdings = set hs o (holding_for b);
      is = line_at c t hs b home.number k o
          (ap (directory_of t 0) line.is_path ∙ directory_is t 0 home.number (parent_of b.path.names) (last_name b.path.names) home.leads)
          (ap (λ x. unwrap_or (unwrap_or x nothing).fs 0) home.is_object ∙ ap (λ x. unwrap_or x 0) home.on ∙ sym same_fs)
          (free_at (world_with c t hs).frame k free.step free.found);
      built = record {
        fits = fits_after c.fss c.limits before t hs b o home.number k p line refl from to r.fits;
        named = named_after t b o home.number k p r.named home.dir (name_is_new c.fss c.limits before t b o k r.ways line home p refl refl);
        ways = ways_after c.fss c.limits before t b o k r.ways line home p refl refl;
        counted = counted_after c.fss c.limits before t hs b o home.number k p line refl from to r.counted;
        held = held_after c.fss c.limits before t hs b o home.number k p line (omega (arith, p.low, r.counted.room)) r.held;
      };
    }

-- all lines
pub lines_built : (c : Config) (before lines : List ObjSpec) (w : World) → WorldBuilt c before w → objects_fit c.fss c.limits before lines ≡ true
    → WorldBuilt c (before ++ lines) (with_objects w lines)
lines_built c before [] w r fit = subst (λ (bs : List ObjSpec). WorldBuilt c bs w) (sym (append-nil before)) r
lines_built c before (b ∷ lines) w r fit =
    let p = and_parts (object_fits c.fss c.limits before b) (objects_fit c.fss c.limits (before ++ b ∷ []) lines) fit in
    let one = line_built c before r.objects r.holdings b r.built p.0 in
    subst (λ (bs : List ObjSpec). WorldBuilt c bs (with_objects w (b ∷ lines))) (append_assoc before (b ∷ []) lines)
    (lines_built c (before ++ b ∷ []) lines (with_object w b) (record { objects = one.objects; holdings = one.holdings; is = ap (λ v. with_object v b) r.is ∙ one.is; built = one.built }) p.1)
