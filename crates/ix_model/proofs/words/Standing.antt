-- What stands behind a descriptor in a sound world: an open entry, and an object that is no directory.
use Rattle.std.{proofs.{Common.{◌≡◌, ◌==◌, ℕ, Bool, true, false, not, ◌&&◌, ◌||◌, Option, Some, None, option_map, refl, sym, ap, ◌∙◌}, lemmas.Bool.eqb-true}, specs.Option.option_map_or}
use Rattle.ix_model.specs.{world.{World.{Frame, Object, Process, Open, at, is_dir, is_pipe}, Contents.on_pipe}, laws.Sound.OpensSound, rows.Walks.{OpenFile, behind, behind_of, entry_at}}

entry_is : (f : Frame) (d : Option ℕ) (e : OpenFile) → entry_at f d ≡ Some e → at f.opens e.id ≡ Some e.entry
entry_is f None e h = cc
entry_is f (Some n) e h = go _ refl h
  where
    go : (o : Option Open) → at f.opens n ≡ o → option_map (λ x. let b : OpenFile = record { id = n; entry = x } in b) o ≡ Some e → at f.opens e.id ≡ Some e.entry
    go None is h = cc
    go (Some x) is h = let i : n ≡ e.id = cc in let k : x ≡ e.entry = cc in ap (at f.opens) (sym i) ∙ is ∙ ap Some k

-- the open entry behind a descriptor stands
pub behind_is : (f : Frame) (pid fd : ℕ) (e : OpenFile) → behind f pid fd ≡ Some e → at f.opens e.id ≡ Some e.entry
unfolding behind
behind_is f pid fd e h = go _ h
  where
    go : (p : Option Process) → behind_of p f fd ≡ Some e → at f.opens e.id ≡ Some e.entry
    go None h = cc
    go (Some p) h = entry_is f _ e h

-- the object of an open entry
pub record Standing (f : Frame) (x : Open) : Type 0 where
  pub object : Object
  pub is_object : at f.objects x.object ≡ Some object
  pub no_dir : not (is_dir object) ≡ true
  pub at_end : is_pipe object ≡ false → x.end ≡ 0

no_pipe_end : (n : ℕ) (b : Bool) → b ≡ false → (n == 0 || n == 1 && b) ≡ true → n ≡ 0
no_pipe_end n b is h = eqb-true n 0 (go _ _ (ap (λ c. n == 0 || n == 1 && c) (sym is) ∙ h))
  where
    go : (x y : Bool) → (x || y && false) ≡ true → x ≡ true
    go true y h = refl
    go false true h = h
    go false false h = h

pub stands : (f : Frame) (e : ℕ) (x : Open) → OpensSound f → at f.opens e ≡ Some x → Standing f x
stands f e x r is = go (at f.objects x.object) refl
  where
    go : (o : Option Object) → at f.objects x.object ≡ o → Standing f x
    go None none = let h : false ≡ true = sym (ap (λ o. option_map_or (λ y. not (is_dir y)) o false) none) ∙ r.target e x is in cc
    go (Some y) there = record {
      object = y;
      is_object = there;
      no_dir = sym (ap (λ o. option_map_or (λ y. not (is_dir y)) o false) there) ∙ r.target e x is;
      at_end = λ other. no_pipe_end x.end (is_pipe y) other (ap (λ o. x.end == 0 || x.end == 1 && option_map_or is_pipe o false) (sym there) ∙ r.end e x is);
    }

pub on_pipe_is : (f : Frame) (e : OpenFile) (s : Standing f e.entry) → on_pipe f e ≡ is_pipe s.object
on_pipe_is f e s = ap (λ o. option_map_or is_pipe o false) s.is_object
