-- The opening world is clean.
use Rattle.std.proofs.Common.{◌≡◌, ◌<◌, ◌+◌, ℕ, zero, suc, List, [], ◌∷◌, length, take, drop, replicate, Option, Some, None, is_some, is_none, refl, sym}
use Rattle.std.proofs.Common.{option_map, ap, ◌∙◌, arith, get_or, unwrap_or, true≢false, inl, inr}
use Rattle.std.{specs.Option.option_map_or, proofs.lemmas.{Bool.Decides.eqb_tells, List.Quantifiers.position-Some}}
use Rattle.std.proofs.lemmas.List.{get_or-set_other, get_or-set_same, length-replicate, length-map, length-take, length-drop}
use Rattle.ix_model.{specs.world.{World.{fs_at, World, Frame, at, put, lowest_free}, Contents.holds_nothing, Numbers.{first_inode, free_inode}}, proofs.tables.Tables.seen_changed}
use Rattle.ix_model.specs.{rows.Walks.node, laws.Clean.IsClean, declared.config.{Config.Config, ObjSpec.ObjSpec}}
use Rattle.ix_model.specs.opening.Opening.{bare_world, directory_of, process_of, object_of, placed, with_object, with_objects, opening_world}

-- what is read of a list of one value
pub all_one : {A : Type 0} (d : A) (n i : ℕ) → get_or (replicate n d) i d ≡ d
all_one d zero i = refl
all_one d (suc n) zero = refl
all_one d (suc n) (suc i) = all_one d n i

clean_bare : (c : Config) → IsClean (bare_world c)
clean_bare c = record {
  holdings = λ o gone. all_one _ _ o;
  offsets = λ e gone. all_one 0 _ e;
  statuses = λ p gone. all_one 0 _ p;
  count = length-replicate _ 0 ∙ omega (arith, length-map c.procs (λ p. Some (process_of p)));
}

-- a free inode is one of the table's numbers
pub free_inside : (f : Frame) (k o : ℕ) → free_inode f k ≡ Some o → o < length f.objects
unfolding free_inode
free_inside f k o h = go _ refl h
  where
    go : (p : Option ℕ) → lowest_free (take (fs_at f.fss k).inodes (drop (first_inode f.fss k) f.objects)) ≡ p → option_map (λ n. first_inode f.fss k + n) p ≡ Some o → o < length f.objects
    go None is h = cc
    go (Some n) is h =
        let low = (position-Some is_none _ n None is).0 in
        let e : first_inode f.fss k + n ≡ o = cc in
        omega (arith, length-take (fs_at f.fss k).inodes (drop (first_inode f.fss k) f.objects), length-drop (first_inode f.fss k) f.objects)

clean_placed : (w : World) (spec : ObjSpec) (dir k o : ℕ) → o < length w.frame.objects → IsClean w → IsClean (placed w spec dir k o)
clean_placed w spec dir k o low clean = record {
  holdings = λ m gone.
      let put_gone =
      sym (seen_changed is_some _ (λ x. refl) (put w.frame.objects o (Some (object_of k spec))) dir m) ∙ gone in
      elim (eqb_tells m o) [
        | inl here ↦ absurd (true≢false (sym (ap is_some (ap (λ n. at (put w.frame.objects o (Some (object_of k spec))) n) here.1
            ∙ get_or-set_same w.frame.objects o _ None low)) ∙ put_gone))
        | inr other ↦ get_or-set_other w.content.holdings o m _ holds_nothing other.1
            ∙ clean.holdings m (sym (ap is_some (get_or-set_other w.frame.objects o m (Some (object_of k spec)) None other.1)) ∙ put_gone)
      ];
  offsets = clean.offsets;
  statuses = clean.statuses;
  count = clean.count;
}

clean_with_object : (w : World) (spec : ObjSpec) → IsClean w → IsClean (with_object w spec)
unfolding with_object
clean_with_object w spec clean = go _ refl
  where
    go : (o : Option ℕ) → free_inode w.frame (unwrap_or (node w.frame.objects (directory_of w.frame.objects 0 spec.path.names)).fs 0) ≡ o
        → IsClean (option_map_or (placed w spec (directory_of w.frame.objects 0 spec.path.names)
        (unwrap_or (node w.frame.objects (directory_of w.frame.objects 0 spec.path.names)).fs 0)) o w)
    go None is = clean
    go (Some o) is = clean_placed w spec _ _ o (free_inside _ _ o is) clean

clean_with_objects : (w : World) (specs : List ObjSpec) → IsClean w → IsClean (with_objects w specs)
clean_with_objects w [] clean = clean
clean_with_objects w (spec ∷ specs) clean = clean_with_objects (with_object w spec) specs (clean_with_object w _ clean)

pub clean_opening : (c : Config) → IsClean (opening_world c)
unfolding opening_world
clean_opening c = clean_with_objects _ c.objects (clean_bare c)
