-- The rows that take a name away leave a sound frame.
use Rattle.std.proofs.Common.{◌≡◌, ◌≢◌, ◌+◌, ◌==◌, ℕ, true, false, true≢false, not, List, [], find, option_map, length, Option, Some, None, if◌then◌else◌, refl}
use Rattle.std.{proofs.Common.{sym, ap, ◌∙◌, subst, arith, inl, inr}, specs.{Option.option_map_or, List.list_any}}
use Rattle.std.proofs.lemmas.{Bool.{not-true, eqb-true, eq-eqb, and_from, Decides.eqb_tells}, List.{nil_from_length, get_or-set_other}}
use Rattle.ix_label.specs.Category.{bottom}
use Rattle.ix_model.specs.world.{Naming.{PathOf, last_name, same_bytes}, Directories.without_name, World.{Frame, Object, Process, at, put, change, living, is_dir}}
use Rattle.ix_model.{specs.rows.{Walks.child, Rows.observe, OnPaths.{is_home, unlink_at, remove_dir}}, proofs.sound.{Logging.{Refused, Passed, holds_both}, Making.affect_on}}
use Rattle.ix_model.proofs.tables.{Tables.{back, seen_changed, seen_same}, Finds.no_any, SameKinds.{Kinds, kinds_change, kinds_gone}}
use Rattle.ix_model.proofs.words.{Living.{is_living, not_ended}, Endings.ends_put_object, Walked.{Within, Leads, Along, within_on, leads_found_in}}
use Rattle.ix_model.proofs.frames.{Floats.{Floats, object_but, floats_itself, floats_observe}, Awaiting.awaiting, Named.{unnamed, times_fewer}}
use Rattle.ix_model.proofs.frames.{Frames.{FrameSound, Follows, follows_itself, follows_observe}, Gone.{IsUnneeded, gone_sound, object_released}}
use Rattle.ix_model.proofs.words.Ends.{Ends, ends_kept, ends_bind, ends_then, ends_pass, ends_frame, ends_need, ends_some, ends_object, ends_change_object}
use Rattle.ix_model.specs.rows.Walks as sought

-- what was found stands in the directory that was looked into last
inside_of : (f : Frame) (name : List ℕ) (o d : ℕ) (dir : Option ℕ) → dir ≡ Some d → Leads f name (sought.Found o dir) → Within f d name (Some o)
inside_of f name o d dir is leads = subst (λ t. Leads f name (sought.Found o t)) is leads

-- ---- a file's name
module _ (f : Frame) (s : FrameSound f) where
  pub unlink_at_ends : (pid : ℕ) (path : PathOf) → Ends (unlink_at pid path f) (Refused f) (Passed f)
  unfolding unlink_at
  unlink_at_ends pid path =
      ends_bind _ _ f (Refused f) (Passed f) (leads_found_in f pid path (Refused f) _ (follows_itself f s) (λ r h k. k) (λ o dir m k leads.
      ends_bind _ _ m (Refused f) (Passed f) (ends_object o m (Refused f) _ (λ x is.
      ends_then _ _ m (Refused f) (Passed f) (ends_need _ _ m (Refused f) _ (λ no_dir.
      ends_bind _ _ m (Refused f) (Passed f) (ends_some _ _ m (Refused f) _ (λ d in_dir.
      ends_then _ _ m (Refused f) (Passed f) (affect_on f m k.follows pid d bottom _ (λ h b r same.
      ends_then _ _ h (Refused f) (Passed f) (ends_change_object d _ h (Refused f) _ (
      let name : List ℕ = last_name path.names in
      let w = within_on m h r d name (Some o) (within_on f m k.floats d name (Some o) (inside_of f name o d dir in_dir leads)) in
      let g : Frame = record h { objects = change h.objects d (without_name (last_name path.names)) } in
      let kinds : Kinds f.objects g.objects = kinds_change f.objects h.objects b.kinds d (without_name (last_name path.names)) (λ y. record { pipe = refl; dir = refl; fs = refl }) in
      let other : option_map_or is_dir (at g.objects o) false ≡ false =
      seen_changed (λ y. option_map_or is_dir y false) (without_name (last_name path.names)) (λ y. refl) h.objects d o
      ∙ seen_same object_but (λ y. option_map_or is_dir y false) (λ y. refl) m.objects h.objects r.objects o ∙ ap (λ y. option_map_or is_dir y false) is ∙ not-true _ no_dir in
      ends_then _ _ g (Refused f) (Passed f) (object_released g o (Refused f) _ (unnamed h d o w.dir name w.is w.is_directory w.leads (awaiting o h b.sound)) other
      (λ sound. ends_pass _ _ (Refused f) (Passed f) (record { sound = sound; kinds = kinds }))
      (λ sound. ends_pass _ _ (Refused f) (Passed f) (record { sound = sound; kinds = kinds_gone f.objects g.objects kinds o })))))))) k.follows)) k.follows)) k.follows)))

-- ---- a directory's name
no_child : (x : Object) (name : List ℕ) (o : ℕ) → x.names ≡ [] → child x name ≡ Some o → ⊥
no_child x name o none leads = let e = sym (ap (λ ns. option_map (λ e. e.1) (find (λ e. same_bytes e.0 name) ns)) none) ∙ leads in cc

-- a directory that is named once less isn't named any more, and is no root
once_less : (o n m : ℕ) → n + 1 ≡ m → m ≡ (if o == 0 then 0 else 1) → (n ≡ 0) × (o ≢ 0)
once_less o n m less once = elim (eqb_tells o 0) [
  | inl root ↦ let e = once ∙ ap (λ b. if b then 0 else 1) root.0 in absurd (omega arith)
  | inr other ↦ let e = once ∙ ap (λ b. if b then 0 else 1) other.0 in (omega arith, other.1)
]

-- nobody's home
nobody : (f : Frame) (o : ℕ) → not (list_any (is_home o) f.processes) ≡ true → (p : ℕ) (q : Process) → living (at f.processes p) ≡ Some q → q.cwd ≢ o
nobody f o none p q lives same = no_any (is_home o) refl f.processes (not-true _ none) p (ap (is_home o) (is_living _ q lives)
    ∙ and_from _ _ (ap not (not_ended _ q lives)) (eq-eqb q.cwd o same))

removed : (f m l h : Frame) → Along f m → Floats m l → Floats l h → Follows f h → h.processes ≡ l.processes → (d o : ℕ) (name : List ℕ) (x : Object)
    → at m.objects o ≡ Some x → is_dir x ≡ true → (length x.names == 0) ≡ true → not (list_any (is_home o) l.processes) ≡ true → Within f d name (Some o)
    → Follows f (record h { objects = put (change h.objects d (without_name name)) o None })
removed f m l h a r1 r2 b same d o name x is dir empty none within =
    let w = within_on l h r2 d name (Some o) (within_on m l r1 d name (Some o) (within_on f m a.floats d name (Some o) within)) in
    let b1 = back object_but (λ y. refl) l.objects m.objects (record { same = sym r1.objects.same }) o x is in
    let b2 = back object_but (λ y. refl) h.objects l.objects (record { same = sym r2.objects.same }) o b1.was b1.is_was in
    let y : Object = b2.was in
    let list : x.names ≡ b2.was.names = ap (λ z. z.names) b1.same ∙ ap (λ z. z.names) b2.same in
    let nameless : b2.was.names ≡ [] = sym list ∙ nil_from_length x.names (eqb-true _ 0 empty) in
    let y_dir : is_dir b2.was ≡ true = sym (ap is_dir b1.same ∙ ap is_dir b2.same) ∙ dir in
    let apart : o ≢ d = λ e.
    let both : Some w.dir ≡ Some b2.was = sym w.is ∙ ap (at h.objects) (sym e) ∙ b2.is_was in
    let one : w.dir ≡ b2.was = cc in
    no_child w.dir name o (ap (λ z. z.names) one ∙ nameless) w.leads in
    let g : Frame = record h { objects = change h.objects d (without_name name) } in
    let there : at g.objects o ≡ Some b2.was = get_or-set_other h.objects d o _ None apart ∙ b2.is_was in
    let s1 = unnamed h d o w.dir name w.is w.is_directory w.leads (awaiting o h b.sound) in
    let n = once_less o _ _ (times_fewer h d o w.dir name w.is w.is_directory w.leads (awaiting o h b.sound).names) (b.sound.names.once o b2.was b2.is_was y_dir) in
    let u : IsUnneeded g o b2.was = record {
      there = there;
      nameless = nameless;
      unnamed = n.0;
      unopened = λ e z at_e to. true≢false (sym (b.sound.opens.target e z at_e) ∙ ap (λ k. option_map_or (λ v. not (is_dir v)) (at h.objects k) false) to
          ∙ ap (λ v. option_map_or (λ t. not (is_dir t)) v false) b2.is_was ∙ ap not y_dir);
      no_home = λ p q lives. nobody l o none p q (ap (λ t. living (at t p)) (sym same) ∙ lives);
      no_root = n.1;
    } in
    record {
      sound = gone_sound g o b2.was u s1;
      kinds = kinds_gone f.objects g.objects (kinds_change f.objects h.objects b.kinds d (without_name name) (λ z. record { pipe = refl; dir = refl; fs = refl })) o;
    }

module _ (f : Frame) (s : FrameSound f) where
  pub remove_dir_ends : (pid : ℕ) (path : PathOf) → Ends (remove_dir pid path f) (Refused f) (Passed f)
  unfolding remove_dir
  remove_dir_ends pid path =
      ends_bind _ _ f (Refused f) (Passed f) (leads_found_in f pid path (Refused f) _ (follows_itself f s) (λ r h k. k) (λ o dir m k leads.
      ends_bind _ _ m (Refused f) (Passed f) (ends_object o m (Refused f) _ (λ x is.
      ends_then _ _ m (Refused f) (Passed f) (ends_need _ _ m (Refused f) _ (λ is_d.
      ends_then _ _ m (Refused f) (Passed f) (ends_kept (λ l. Follows f l × Floats m l) (observe pid x.label m) (Refused f) _
      (holds_both _ _ _ ((follows_observe f pid x.label).led m k.follows) ((floats_observe m pid x.label).led m (floats_itself m))) (λ r l j. j.0) (λ u l j.
      ends_bind _ _ l (Refused f) (Passed f) (ends_frame l (Refused f) _ (
      ends_then _ _ l (Refused f) (Passed f) (ends_need _ _ l (Refused f) _ (λ no_root.
      ends_then _ _ l (Refused f) (Passed f) (ends_need _ _ l (Refused f) _ (λ empty.
      ends_then _ _ l (Refused f) (Passed f) (ends_need _ _ l (Refused f) _ (λ none.
      ends_bind _ _ l (Refused f) (Passed f) (ends_some _ _ l (Refused f) _ (λ d in_dir.
      ends_then _ _ l (Refused f) (Passed f) (affect_on f l j.0 pid d bottom _ (λ h b r same.
      ends_then _ _ h (Refused f) (Passed f) (ends_change_object d _ h (Refused f) _ (
      ends_then _ _ _ (Refused f) (Passed f) (ends_put_object o None _ (Refused f) _ (
      ends_pass _ _ (Refused f) (Passed f) (removed f m l h k j.1 r b same d o (last_name path.names) x is is_d empty none
      (inside_of f (last_name path.names) o d dir in_dir leads))))))))) j.0)) j.0)) j.0)) j.0)))))) k.follows)) k.follows)))
