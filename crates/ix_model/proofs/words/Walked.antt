-- Where a walk leads: the directory that was looked into last, and what it has under the last name.
use Rattle.std.proofs.Common.{◌≡◌, ◌-◌, ℕ, suc, Bool, true, false, true≢false, List, [], ◌∷◌, length, Option, Some, None, unwrap_or, if◌then◌else◌, refl, sym, ap, ◌∙◌, subst, arith, get_or}
use Rattle.std.specs.Option.{option_map_or}
use Rattle.ix_model.specs.{world.{Naming.{PathOf, last_name}, World.{Frame, Object, Process, at, is_dir}}, rows.{Outcomes.Row, Rows.observe}, declared.refusal.Refusal.Refusal}
use Rattle.ix_model.specs.rows.Walks.{Spot, Sought, node, child, lacking, looking_into, walk_from, walk, join_all, walked_to, found_object, vacant, spot_at, missing}
use Rattle.ix_model.proofs.{tables.Tables.{SameBut, back, seen_same}, words.{Keeps.Keeps, RowEnds.{ends_spot, ends_vacant}}, sound.Logging.holds_both}
use Rattle.ix_model.proofs.words.Ends.{Ends, ends_kept, ends_bind, ends_then, ends_pass, ends_frame, ends_caller, ends_there}
use Rattle.ix_model.proofs.frames.{Floats.{Floats, object_but, floats_itself, floats_observe}, Frames.{Follows, follows_observe}}
use Rattle.ix_model.specs.rows.Walks as sought

-- ---- a name in a directory
-- under that name the directory has that object, or none
pub record Within (f : Frame) (d : ℕ) (name : List ℕ) (c : Option ℕ) : Type 0 where
  pub dir : Object
  pub is : at f.objects d ≡ Some dir
  pub is_directory : is_dir dir ≡ true
  pub leads : child dir name ≡ c

-- where a walk along a path with that last name leads
abbrev pub Leads : Frame → List ℕ → Sought → Type 0
Leads f name (sought.Found o None) = option_map_or is_dir (at f.objects o) false ≡ true
Leads f name (sought.Found o (Some d)) = Within f d name (Some o)
Leads f name (sought.Missing d) = Within f d name None
Leads f name sought.NotFound = Unit
Leads f name sought.NotDir = Unit

node_is : (f : Frame) (n : ℕ) (name : List ℕ) (c : Option ℕ) → is_dir (node f.objects n) ≡ true → child (node f.objects n) name ≡ c → Within f n name c
node_is f n name c dir leads = go (at f.objects n) refl dir leads
  where
    go : (x : Option Object) → at f.objects n ≡ x → is_dir (unwrap_or x sought.nothing) ≡ true → child (unwrap_or x sought.nothing) name ≡ c → Within f n name c
    go None is dir leads = absurd (true≢false (sym dir))
    go (Some x) is dir leads = search

last_later : (name next : List ℕ) (names : List (List ℕ)) → last_name (name ∷ next ∷ names) ≡ last_name (next ∷ names)
last_later name next names =
    let e : length (name ∷ next ∷ names) - 1 ≡ suc (length (next ∷ names) - 1) = omega arith in
    ap (λ n. get_or (name ∷ next ∷ names) n []) e

module _ (f : Frame) where
  walk_leads : (name : List ℕ) (names : List (List ℕ)) (n : ℕ) (before : Option ℕ) → Leads f (last_name (name ∷ names)) (walk_from f.objects n before (name ∷ names)).outcome
  walk_leads name [] n before = go (is_dir (node f.objects n)) refl (child (node f.objects n) name) refl
    where
      go : (b : Bool) → is_dir (node f.objects n) ≡ b → (c : Option ℕ) → child (node f.objects n) name ≡ c
          → Leads f name (if b then looking_into (node f.objects n) (option_map_or (λ o. walk_from f.objects o (Some n) []) c (lacking n [])) else
          record { outcome = sought.NotDir; looked = [] }).outcome
      go false other c is = tt
      go true dir None is = node_is f n name None dir is
      go true dir (Some m) is = node_is f n name (Some m) dir is
  walk_leads name (next ∷ names) n before = subst (λ (l : List ℕ). Leads f l (walk_from f.objects n before (name ∷ next ∷ names)).outcome)
      (sym (last_later name next names)) (go (is_dir (node f.objects n)) (child (node f.objects n) name) (λ m. walk_leads next names m (Some n)))
    where
      go : (b : Bool) (c : Option ℕ) → ((m : ℕ) → Leads f (last_name (next ∷ names)) (walk_from f.objects m (Some n) (next ∷ names)).outcome)
          → Leads f (last_name (next ∷ names)) (if b then
          looking_into (node f.objects n) (option_map_or (λ o. walk_from f.objects o (Some n) (next ∷ names)) c (lacking n (next ∷ names))) else
          record { outcome = sought.NotDir; looked = [] }).outcome
      go false c on = tt
      go true None on = tt
      go true (Some m) on = on m

  start_dir : (p : Process) (absolute : Bool) → option_map_or is_dir (at f.objects 0) false ≡ true → option_map_or is_dir (at f.objects p.cwd) false ≡ true
      → option_map_or is_dir (at f.objects (if absolute then 0 else p.cwd)) false ≡ true
  start_dir p true root home = root
  start_dir p false root home = home

  pub walks : (p : Process) (path : PathOf) → option_map_or is_dir (at f.objects 0) false ≡ true → option_map_or is_dir (at f.objects p.cwd) false ≡ true
      → Leads f (last_name path.names) (walk f.objects p path).outcome
  walks p path root home = go _
    where
      go : (names : List (List ℕ)) → Leads f (last_name names) (walk_from f.objects (if path.absolute then 0 else p.cwd) None names).outcome
      go [] = start_dir p _ root home
      go (name ∷ names) = walk_leads _ _ _ None

-- ---- in a frame that is one but for labels
pub within_back : (f g : Frame) → SameBut object_but f.objects g.objects → (d : ℕ) (name : List ℕ) (c : Option ℕ) → Within g d name c → Within f d name c
within_back f g same d name c w =
    let b = back _ (λ y. refl) _ _ same d _ w.is in
    record { dir = b.was; is = b.is_was; is_directory = sym (ap is_dir b.same) ∙ w.is_directory; leads = sym (ap (λ y. child y name) b.same) ∙ w.leads }

pub within_on : (f g : Frame) → Floats f g → (d : ℕ) (name : List ℕ) (c : Option ℕ) → Within f d name c → Within g d name c
within_on f g r d name c w = within_back g f (record { same = sym r.objects.same }) d _ c w

-- ---- the frames on the way
-- a frame that follows, and is one but for labels
pub record Along (f g : Frame) : Type 0 where
  pub follows : Follows f g
  pub floats : Floats f g

pub along_itself : (f : Frame) → Follows f f → Along f f
along_itself f s = record { follows = s; floats = floats_itself f }

leads_back : (f g : Frame) → Floats f g → (name : List ℕ) (w : Sought) → Leads g name w → Leads f name w
leads_back f g r name (sought.Found o None) h = sym (seen_same _ (λ y. option_map_or is_dir y false) (λ y. refl) _ _ r.objects o) ∙ h
leads_back f g r name (sought.Found o (Some d)) h = within_back f g r.objects d _ _ h
leads_back f g r name (sought.Missing d) h = within_back f g r.objects d _ _ h
leads_back f g r name sought.NotFound h = h
leads_back f g r name sought.NotDir h = h

module _ {A : Type 0} (f g : Frame) (m : Row A) (follow : Keeps (Follows f) m) (float : Keeps (Floats f) m) where
  pub ends_along : (P : Refusal → Frame → Type 0) (Q : A → Frame → Type 0) → Along f g → ((r : Refusal) (h : Frame) → Follows f h → P r h) → ((a : A) (h : Frame) → Along f h → Q a h) → Ends (m g) P Q
  ends_along P Q s refused passed = ends_kept _ (m g) P Q (holds_both _ _ _ (follow.led g s.follows) (float.led g s.floats))
      (λ r h k. refused r h k.0) (λ a h k. passed a h (search))

-- what a walk tells holds of the frame from which it began
pub leads_walked_to : (f g : Frame) (pid : ℕ) (path : PathOf) (P : Refusal → Frame → Type 0) (Q : Sought → Frame → Type 0) → Along f g
    → ((r : Refusal) (h : Frame) → Follows f h → P r h) → ((w : Sought) (h : Frame) → Along f h → Leads f (last_name path.names) w → Q w h)
    → Ends (walked_to pid path g) P Q
unfolding walked_to
leads_walked_to f g pid path P Q s refused passed =
    let t = s.follows.sound in
    ends_bind _ _ g P Q (ends_caller pid g P _ (λ p lives.
    ends_bind _ _ g P Q (ends_frame g P _ (
    ends_then _ _ g P Q (ends_along f g (observe pid (join_all (walk g.objects p path).looked)) (follows_observe f pid _) (floats_observe f pid _) P _ s refused (λ u h k.
    ends_pass _ h P Q (passed _ h k (leads_back f g s.floats (last_name path.names) _ (walks g p path t.names.root (t.processes.home pid p lives)))))))))
    (refused _ g s.follows))

-- ---- what was found
-- what a walk told, and where it led
pub leads_vacant : (f : Frame) (name : List ℕ) (w : Sought) (h : Frame) (P : Refusal → Frame → Type 0) (Q : ℕ → Frame → Type 0) → Leads f name w
    → ((d : ℕ) → Within f d name None → Q d h) → ((r : Refusal) → P r h) → Ends (vacant w h) P Q
leads_vacant f name w h P Q leads next k = ends_vacant w h P Q (λ d is. next d (subst (λ v. Leads f name v) is leads)) (k _) (k _) (k _)

pub leads_there : (f : Frame) (name : List ℕ) (w : Sought) (h : Frame) (P : Refusal → Frame → Type 0) (Q : ℕ → Frame → Type 0) → Leads f name w
    → ((o : ℕ) (dir : Option ℕ) → Leads f name (sought.Found o dir) → Q o h) → ((r : Refusal) → P r h) → Ends (found_object w h) P Q
leads_there f name w h P Q leads next k = ends_there w h P Q (λ o dir is. next o dir (subst (λ v. Leads f name v) is leads)) (k _) (k _)

pub leads_missing : (f : Frame) (pid : ℕ) (path : PathOf) (P : Refusal → Frame → Type 0) (Q : ℕ → Frame → Type 0) → Follows f f
    → ((r : Refusal) (h : Frame) → Follows f h → P r h) → ((d : ℕ) (h : Frame) → Along f h → Within f d (last_name path.names) None → Q d h)
    → Ends (missing pid path f) P Q
unfolding missing
leads_missing f pid path P Q s refused passed = ends_bind _ _ f P Q (leads_walked_to f f pid path P _ (along_itself f s) refused (λ w h k leads.
    leads_vacant f (last_name path.names) w h P Q leads (λ d within. passed d h k within) (λ r. refused r h k.follows)))

pub leads_found_in : (f : Frame) (pid : ℕ) (path : PathOf) (P : Refusal → Frame → Type 0) (Q : Spot → Frame → Type 0) → Follows f f
    → ((r : Refusal) (h : Frame) → Follows f h → P r h) → ((o : ℕ) (dir : Option ℕ) (h : Frame) → Along f h
    → Leads f (last_name path.names) (sought.Found o dir) → Q (record { object = o; dir = dir }) h) → Ends (spot_at pid path f) P Q
unfolding spot_at
leads_found_in f pid path P Q s refused passed = ends_bind _ _ f P Q (leads_walked_to f f pid path P _ (along_itself f s) refused (λ w h k leads.
    ends_spot w h P Q (λ o dir is. passed o dir h k (subst (λ (v : Sought). Leads f (last_name path.names) v) is leads)) (refused _ h k.follows) (refused _ h k.follows)))
