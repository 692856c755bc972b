-- In a sound world an object stands wherever a walk ends.
use Rattle.std.{proofs.Common.{◌≡◌, ℕ, true, false, not, List, Option, Some, None, is_some, refl, subst}, specs.Option.option_map_or}
use Rattle.ix_model.{specs.{laws.Sound.{Sound, NamesSound}, world.{Naming.{PathOf, last_name}, World.{Process, Object, Frame, at, is_dir, is_pipe}}}, proofs.frames.Frames.follows_itself}
use Rattle.ix_model.specs.rows.{Outcomes.Pass, Walks.{walked_to, object_at}}
use Rattle.ix_model.proofs.words.{Ends.{Ends, Anything, ends_bind, ends_there}, There.child_named, Walked.{Leads, along_itself, leads_walked_to}}
use Rattle.ix_tables.specs.Parts.{Parts}
use Rattle.ix_fcalls.specs.Around.{Around, frame_of, world_of}
use Rattle.ix_model.specs.rows.Walks as walks
use Rattle.ix_model.proofs.frames.Frames as frames

-- a directory stands, and so does what is no pipe
dir_stands : (x : Option Object) → option_map_or is_dir x false ≡ true → is_some x ≡ true
dir_stands None h = cc
dir_stands (Some x) h = refl

inode_stands : (x : Option Object) → option_map_or (λ y. not (is_pipe y)) x false ≡ true → is_some x ≡ true
inode_stands None h = cc
inode_stands (Some x) h = refl

-- where names lead something stands
leads_stands : (f : Frame) → NamesSound f → (name : List ℕ) (o : ℕ) (dir : Option ℕ) → Leads f name (walks.Found o dir) → is_some (at f.objects o) ≡ true
leads_stands f n name o None leads = dir_stands _ leads
leads_stands f n name o (Some d) leads = inode_stands _ (n.living d o leads.dir leads.is (child_named leads.dir.names name o leads.leads))

module _ (a : Around) (t : Parts) (ps : List (Option Process)) (path : PathOf) (s : Sound (world_of a t ps)) where
  abbrev start : Frame
  start = frame_of a t ps

  abbrev Stands : ℕ → Frame → Type 0
  Stands o g = is_some (at t.objects o) ≡ true

  found_ends : Ends (object_at a.pid path start) Anything Stands
  unfolding object_at
  found_ends = ends_bind (walked_to a.pid path) _ _ _ _ (leads_walked_to _ _ _ _ _ _ (along_itself _ (follows_itself _ (frames.frame_of _ s))) (λ r h k. tt)
      (λ w h k leads. ends_there w h _ _ (λ o dir is. leads_stands _ s.names _ o _ (subst (λ v. Leads start (last_name path.names) v) is leads)) tt tt))

-- the object of a path stands
pub stands_found : (a : Around) (t : Parts) (ps qs : List (Option Process)) (path : PathOf) (o : ℕ) → Sound (world_of a t ps)
    → object_at a.pid path (frame_of a t ps) ≡ Pass o (frame_of a t qs) → is_some (at t.objects o) ≡ true
unfolding Ends
stands_found a t ps qs path o s row = subst (λ out. Ends out Anything (Stands a t ps path s)) row (found_ends a t ps path s)
