-- What every row leaves of descriptors, of the open entries and objects behind them, and of their labels.
use Rattle.std.proofs.Common.{◌≡◌, ◌==◌, ◌&&◌, ℕ, Bool, true, false, true≢false, List, [], ◌∷◌, position, Option, Some, None, is_some, if◌then◌else◌, refl, sym, ap, ◌∙◌, inl, inr}
use Rattle.std.{specs.Option.option_map_or, proofs.lemmas.{Bool.{and_parts, eq-eqb, Decides.eqb_tells}, List.{get_or-set_same, get_or-set_other, Quantifiers.position-Some}}}
use Rattle.ix_label.specs.Category.{Categories, bottom, join}
use Rattle.ix_model.specs.{world.{Naming.PathOf, Privs.no_privileges, Numbers.{free_inode, free_pipe}}, rows.{Outcomes.{Outcome, Refuse, Pass, Row}, Rows.{observe, affect}}}
use Rattle.ix_model.specs.{world.World.{Frame, Object, Process, Open, at, put, lowest_free, living, is_dir, is_ended, no_claims}, rows.Auditing.logged}
use Rattle.ix_model.specs.{rows.{OnPaths.new_object, OnDescriptors.float_entry, OnProcesses.{is_child, end_process}}, declared.{audit.AuditLine.AuditLine, reply.Kind.Kind}}
use Rattle.ix_model.specs.rows.Rows.{◌>>=◌, on_pass, process, change_process, change_object, put_object, put_process, add_process, put_open, change_open}
use Rattle.ix_model.specs.rows.Walks.{OpenFile, node, lacking, looking_into, walk_from, walked_to, object_at, opened}
use Rattle.ix_model.proofs.{tables.FreeNumbers.{lowest_free_is, free_inode_is, free_pipe_is}, words.Living.{is_living, not_ended}}
use Rattle.ix_model.proofs.words.{Keeps.{Holds, Keeps, keeping, keeping_tests, keeps_only_if}, Ends.{Ends, ends_more, ends_bind}}
use Rattle.ix_model.proofs.words.{Lasts.{Lasting, lasting_itself, lasting_change, lasting_put}, Rowwise.{keeps_bind_frame, keeps_bind_some}}
use Rattle.ix_fresh.proofs.Tables.{Both, both_itself, both_change, both_gone, both_new, HasFd, has_elsewhere, has_changed, has_pushed}
use Rattle.ix_model.specs.rows.Walks as sought
use Rattle.ix_model.specs.declared.reply.Kind.TheVariants as kind

-- ---- what is kept
-- an object by its kind, its file system and its label, and by the first two alone
abbrev pub labelled : Object → Object
labelled x = record x { frozen = false; cap = no_privileges; lic = no_privileges; claims = no_claims; names = [] }

abbrev pub plain : Object → Object
plain x = record (labelled x) { label = bottom }

abbrev unlabelled : Object → Object
unlabelled x = record x { label = bottom }

abbrev its_label : Object → Categories
its_label x = x.label

-- one object, whose label changes only where it is a directory or the target
pub record SameObject (to : Option ℕ) (n : ℕ) (x y : Object) : Type 0 where
  pub plain : plain y ≡ plain x
  pub label : is_dir x ≡ false → (to ≡ Some n → ⊥) → y.label ≡ x.label

-- one open entry, whose label changes only where it is gone through
pub record SameOpen (through : Option ℕ) (n : ℕ) (x y : Open) : Type 0 where
  pub plain : record y { label = bottom } ≡ record x { label = bottom }
  pub label : (through ≡ Some n → ⊥) → y.label ≡ x.label

-- of all descriptors those stay that the caller doesn't give up, and what stands before and after is one
pub record Kept (f : Frame) (pid : ℕ) (to through : Option ℕ) (gone : ℕ → Bool) (g : Frame) : Type 0 where
  pub descriptors : (n fd d : ℕ) (q : Process) → living (at f.processes n) ≡ Some q → at q.fds fd ≡ Some d → (n == pid && gone fd) ≡ false → HasFd g.processes n fd d
  pub objects : Both (SameObject to) f.objects g.objects
  pub opens : Both (SameOpen through) f.opens g.opens

pub kept_itself : (f : Frame) (pid : ℕ) (to through : Option ℕ) (gone : ℕ → Bool) → Kept f pid to through gone f
kept_itself f pid to through gone = record {
  descriptors = λ n fd d q lives on stays. search;
  objects = both_itself _ (λ n x. search) _;
  opens = both_itself _ (λ n x. search) _;
}

-- the second of two free numbers is free at first too
free_second : {A : Type 0} (t : List (Option A)) (d e : ℕ) (x : A) → lowest_free t ≡ Some d → lowest_free (put t d (Some x)) ≡ Some e → at t e ≡ None
free_second t d e x first second =
    let inside = (lowest_free_is t d first).0 in
    let none = (lowest_free_is _ e second).1 in
    elim (eqb_tells e d) [
      | inl same ↦ let e = sym (get_or-set_same t d _ None inside) ∙ ap (at _) (sym same.1) ∙ none in absurd (true≢false (ap is_some e))
      | inr other ↦ sym (get_or-set_other t d e _ None other.1) ∙ none
    ]

-- ---- where a walk ends, it looked into a directory
pub walk_lacks : (objects : List (Option Object)) (names : List (List ℕ)) (n : ℕ) (before : Option ℕ) (d : ℕ)
    → (walk_from objects n before names).outcome ≡ sought.Missing d → is_dir (node objects d) ≡ true
walk_lacks objects [] n before d h = cc
walk_lacks objects (name ∷ names) n before d h = go _ refl _ h (λ m k. walk_lacks _ names m (Some n) d k)
  where
    blocked : sought.Walk
    blocked = record { outcome = sought.NotDir; looked = [] }

    lacks : is_dir (node objects n) ≡ true → (rest : List (List ℕ)) → (lacking n rest).outcome ≡ sought.Missing d → is_dir (node objects d) ≡ true
    lacks dir [] k = let same : n ≡ d = cc in ap (λ m. is_dir (node objects m)) (sym same) ∙ dir
    lacks dir (r ∷ rest) k = cc

    go : (b : Bool) → is_dir (node objects n) ≡ b → (c : Option ℕ)
        → (if b then looking_into (node objects n) (option_map_or (λ o. walk_from objects o (Some n) names) c (lacking n names)) else blocked).outcome
        ≡ sought.Missing d → ((m : ℕ) → (walk_from objects m (Some n) names).outcome ≡ sought.Missing d → is_dir (node objects d) ≡ true)
        → is_dir (node objects d) ≡ true
    go false other c k on = cc
    go true dir None k on = lacks dir names k
    go true dir (Some m) k on = on m k

pub walk_finds : (objects : List (Option Object)) (names : List (List ℕ)) (n : ℕ) (before : Option ℕ) (o d : ℕ)
    → ((m : ℕ) → before ≡ Some m → is_dir (node objects m) ≡ true) → (walk_from objects n before names).outcome ≡ sought.Found o (Some d)
    → is_dir (node objects d) ≡ true
walk_finds objects [] n before o d dirs h = let same : before ≡ Some d = cc in dirs d same
walk_finds objects (name ∷ names) n before o d dirs h =
    go _ refl _ h (λ dir m k. walk_finds objects names m (Some n) o d (λ l is. let same : n ≡ l = cc in
    ap (λ i. is_dir (node objects i)) (sym same) ∙ dir) k)
  where
    blocked : sought.Walk
    blocked = record { outcome = sought.NotDir; looked = [] }

    lacks : (rest : List (List ℕ)) → (lacking n rest).outcome ≡ sought.Found o (Some d) → is_dir (node objects d) ≡ true
    lacks [] k = cc
    lacks (r ∷ rest) k = cc

    go : (b : Bool) → is_dir (node objects n) ≡ b → (c : Option ℕ)
        → (if b then looking_into (node objects n) (option_map_or (λ o. walk_from objects o (Some n) names) c (lacking n names)) else blocked).outcome
        ≡ sought.Found o (Some d) → (is_dir (node objects n) ≡ true → (m : ℕ) → (walk_from objects m (Some n) names).outcome ≡ sought.Found o (Some d)
        → is_dir (node objects d) ≡ true) → is_dir (node objects d) ≡ true
    go false other c k on = cc
    go true dir None k on = lacks names k
    go true dir (Some m) k on = on dir m k

-- ---- the words
module _ (f : Frame) (pid : ℕ) (to through : Option ℕ) (gone : ℕ → Bool) (loses : Bool) where
  -- what is kept, and that nothing goes
  pub record R (g : Frame) : Type 0 where
    pub kept : Kept f pid to through gone g
    pub objects_last : loses ≡ false → Lasting f.objects g.objects
    pub opens_last : loses ≡ false → Lasting f.opens g.opens

  pub r_itself : R f
  r_itself = record { kept = kept_itself f _ to _ _; objects_last = λ lasts. lasting_itself _; opens_last = λ lasts. lasting_itself _ }

  -- an object that may be labelled: a directory, or the target
  abbrev pub May : ℕ → Type 0
  May o = (x : Object) → at f.objects o ≡ Some x → is_dir x ≡ false → to ≡ Some o

  -- no descriptor of the caller that stays has that number
  abbrev pub Unused : ℕ → Type 0
  Unused fd = (q : Process) (d : ℕ) → living (at f.processes pid) ≡ Some q → at q.fds fd ≡ Some d → gone fd ≡ false → ⊥

  -- a caller who has the descriptors that stay
  pub record Owns (p : Process) : Type 0 where
    pub all : (q : Process) (fd d : ℕ) → living (at f.processes pid) ≡ Some q → at q.fds fd ≡ Some d → gone fd ≡ false → at p.fds fd ≡ Some d

  stays_of : (fd : ℕ) → (pid == pid && gone fd) ≡ false → gone fd ≡ false
  stays_of fd h = sym (ap (λ b. b && gone fd) (eq-eqb pid pid refl)) ∙ h

  -- ---- objects
  with_objects : (g : Frame) (t : List (Option Object)) → Both (SameObject to) f.objects t → (loses ≡ false → Lasting f.objects t) → R g → R (record g { objects = t })
  with_objects g t same last r = search

  pub k_object : (o : ℕ) (h : Object → Object) → ((x : Object) → labelled (h x) ≡ labelled x) → Keeps R (change_object o h)
  unfolding change_object Holds
  k_object o h same = record {
    led = λ g r. with_objects g _ (both_change _ _ _ o h (λ x was is s. record {
      plain = ap unlabelled (same _) ∙ s.plain;
      label = λ file other. ap its_label (same _) ∙ s.label file other;
    }) r.kept.objects) (λ lasts. lasting_change _ _ o h (r.objects_last lasts)) r;
  }

  pub k_labelled : (o : ℕ) (h : Object → Object) → May o → ((x : Object) → plain (h x) ≡ plain x) → Keeps R (change_object o h)
  unfolding change_object Holds
  k_labelled o h may same = record {
    led = λ g r. with_objects g _ (both_change _ _ _ o h (λ x was is s. record {
      plain = same _ ∙ s.plain;
      label = λ file other. absurd (other (may x is file));
    }) r.kept.objects) (λ lasts. lasting_change _ _ o h (r.objects_last lasts)) r;
  }

  was_free : {A : Type 0} (t u : List (Option A)) (n : ℕ) → Lasting t u → at u n ≡ None → at t n ≡ None
  was_free {A} t u n last free = go _ refl
    where
      go : (x : Option A) → at t n ≡ x → x ≡ None
      go None is = refl
      go (Some x) is = absurd (true≢false (sym (last.stays n (ap is_some is)) ∙ ap is_some free))

  new_here : (m g : Frame) (o : ℕ) (x : Object) → loses ≡ false → R m → at m.objects o ≡ None → R g → R (record g { objects = put g.objects o (Some x) })
  new_here m g o x lasts was free r =
      with_objects g _ (both_new _ _ _ o _ (was_free _ _ o (was.objects_last lasts) free) r.kept.objects)
      (λ b. lasting_put _ _ o x (r.objects_last b)) r

  pub k_inode : loses ≡ false → (m : Frame) (o k : ℕ) (kind : Kind) → R m → free_inode m k ≡ Some o → Keeps R (put_object o (Some (new_object kind (Some k))))
  unfolding put_object Holds
  k_inode lasts m o k kind was free = record { led = λ g r. new_here m g o _ lasts was (free_inode_is m k o free).free r }

  pub k_pipe : loses ≡ false → (m : Frame) (o : ℕ) → R m → free_pipe m ≡ Some o → Keeps R (put_object o (Some (new_object kind.Pipe None)))
  unfolding put_object Holds
  k_pipe lasts m o was free = record { led = λ g r. new_here m g o _ lasts was (free_pipe_is m o free).free r }

  pub k_no_object : loses ≡ true → (o : ℕ) → Keeps R (put_object o None)
  unfolding put_object Holds
  k_no_object goes o = record { led = λ g r. with_objects g _ (both_gone _ _ _ o r.kept.objects) (λ lasts. absurd (true≢false (sym goes ∙ lasts))) r }

  -- ---- open entries
  with_opens : (g : Frame) (t : List (Option Open)) → Both (SameOpen through) f.opens t → (loses ≡ false → Lasting f.opens t) → R g → R (record g { opens = t })
  with_opens g t same last r = search

  pub k_open : loses ≡ false → (m : Frame) (e : ℕ) (x : Open) → R m → lowest_free m.opens ≡ Some e → Keeps R (put_open e (Some x))
  unfolding put_open Holds
  k_open lasts m e x was free =
      record {
        led = λ g r. with_opens g _ (both_new _ _ _ e _ (was_free _ _ e (was.opens_last lasts)
            (lowest_free_is _ e free).1) r.kept.opens) (λ b. lasting_put _ _ e x (r.opens_last b)) r;
      }

  pub k_second_open : loses ≡ false → (m : Frame) (d e : ℕ) (x y : Open) → R m → lowest_free m.opens ≡ Some d → lowest_free (put m.opens d (Some y)) ≡ Some e → Keeps R (put_open e (Some x))
  unfolding put_open Holds
  k_second_open lasts m d e x y was first second =
      record {
        led = λ g r. with_opens g _ (both_new _ _ _ e _ (was_free _ _ e (was.opens_last lasts)
            (free_second _ d e y first second)) r.kept.opens) (λ b. lasting_put _ _ e x (r.opens_last b)) r;
      }

  pub k_float : (e : ℕ) (l : Categories) → through ≡ Some e → Keeps R (change_open e (λ y. record y { label = join y.label l }))
  unfolding change_open Holds
  k_float e l on = record {
    led = λ g r. with_opens g _ (both_change _ _ _ e _ (λ x was is s. record {
      plain = s.plain;
      label = λ other. absurd (other on);
    }) r.kept.opens) (λ lasts. lasting_change _ _ e _ (r.opens_last lasts)) r;
  }

  pub k_no_open : loses ≡ true → (e : ℕ) → Keeps R (put_open e None)
  unfolding put_open Holds
  k_no_open goes e = record { led = λ g r. with_opens g _ (both_gone _ _ _ e r.kept.opens) (λ lasts. absurd (true≢false (sym goes ∙ lasts))) r }

  -- ---- processes
  with_processes : (g : Frame) (t : List (Option Process)) → ((n fd d : ℕ) (q : Process) → living (at f.processes n) ≡ Some q → at q.fds fd ≡ Some d
      → (n == pid && gone fd) ≡ false → HasFd g.processes n fd d → HasFd t n fd d) → R g → R (record g { processes = t })
  with_processes g t on r =
      record {
        kept = record {
          descriptors = λ n fd d q lives is stays. on n fd d q lives is stays (r.kept.descriptors n fd d q lives is stays);
          objects =
              r.kept.objects;
          opens = r.kept.opens;
        };
        objects_last = r.objects_last;
        opens_last = r.opens_last;
      }

  pub k_process : (p : ℕ) (h : Process → Process) → ((q : Process) → (h q).fds ≡ q.fds) → ((q : Process) → (h q).ended ≡ q.ended) → Keeps R (change_process p h)
  unfolding change_process Holds
  k_process p h fds ended = record { led = λ g r. with_processes g _ (λ n fd d q lives is stays has. has_changed _ p h n fd d ended (λ here z on. ap (λ t. at t fd) (fds z) ∙ on) has) r }

  -- the caller's descriptors, of which those stay that aren't given up
  caller_fds : (k : List (Option ℕ) → List (Option ℕ)) → ((q : Process) (fds : List (Option ℕ)) (fd d : ℕ) → living (at f.processes pid) ≡ Some q
      → at q.fds fd ≡ Some d → gone fd ≡ false → at fds fd ≡ Some d → at (k fds) fd ≡ Some d) → Keeps R (change_process pid (λ q. record q { fds = k q.fds }))
  unfolding change_process Holds
  caller_fds k keeps = record {
    led = λ g r. with_processes g _ (λ n fd d q lives is stays has. has_changed _ _ _ n fd d (λ z. refl) (λ here z on.
        keeps q z.fds fd d (ap (λ m. living (at f.processes m)) (sym here) ∙ lives) is (stays_of fd (ap (λ m. m == pid && gone fd) (sym here) ∙ stays)) on) has) r;
  }

  put_unused : (a : ℕ) (x : Option ℕ) (q : Process) (fds : List (Option ℕ)) (fd d : ℕ) → Unused a → living (at f.processes pid) ≡ Some q → at q.fds fd ≡ Some d
      → gone fd ≡ false → at fds fd ≡ Some d → at (put fds a x) fd ≡ Some d
  put_unused a x q fds fd d unused lives is stays on = elim (eqb_tells fd a) [
    | inl same ↦ absurd (unused q d lives (ap (at _) (sym same.1) ∙ is) (ap gone (sym same.1) ∙ stays))
    | inr apart ↦ get_or-set_other fds a fd x None apart.1 ∙ on
  ]

  first_unused : (p : Process) (a : ℕ) → Owns p → lowest_free p.fds ≡ Some a → Unused a
  first_unused p a owns free q d lives is stays = let h = sym (lowest_free_is _ a free).1 ∙ owns.all q a d lives is stays in cc

  second_unused : (p : Process) (a b x : ℕ) → Owns p → lowest_free p.fds ≡ Some a → lowest_free (put p.fds a (Some x)) ≡ Some b → Unused b
  second_unused p a b x owns first second q d lives is stays = let h = sym (free_second _ a b x first second) ∙ owns.all q b d lives is stays in cc

  pub k_first_fd : (p : Process) (a e : ℕ) → Owns p → lowest_free p.fds ≡ Some a → Keeps R (change_process pid (λ q. record q { fds = put q.fds a (Some e) }))
  k_first_fd p a e owns free = caller_fds _ (λ q fds fd d lives is stays on. put_unused a _ q _ fd d (first_unused p a owns free) lives is stays on)

  pub k_two_fds : (p : Process) (a b x d e : ℕ) → Owns p → lowest_free p.fds ≡ Some a → lowest_free (put p.fds a (Some x)) ≡ Some b
      → Keeps R (change_process pid (λ q. record q { fds = put (put q.fds a (Some d)) b (Some e) }))
  k_two_fds p a b x d e owns first second = caller_fds _ (λ q fds fd c lives is stays on.
      put_unused b _ q _ fd c (second_unused p a b x owns first second) lives is stays
      (put_unused a _ q _ fd c (first_unused p a owns first) lives is stays on))

  pub k_given_up : (a : ℕ) → gone a ≡ true → Keeps R (change_process pid (λ q. record q { fds = put q.fds a None }))
  k_given_up a goes = caller_fds _ (λ q fds fd d lives is stays on. put_unused a _ q _ fd d (λ z c alive here stay. true≢false (sym goes ∙ stay)) lives is stays on)

  pub k_fork : (p : Process) → Keeps R (add_process p)
  unfolding add_process Holds
  k_fork p = record { led = λ g r. with_processes g _ (λ n fd d q lives is stays has. has_pushed _ p n fd d has) r }

  pub k_end : ((fd : ℕ) → gone fd ≡ true) → Keeps R (end_process pid)
  unfolding end_process put_process Holds
  k_end all = record {
    led = λ g r. with_processes g _ (λ n fd d q lives is stays has. elim (eqb_tells n pid) [
      | inl same ↦ absurd (true≢false (sym (all fd) ∙ stays_of fd (ap (λ m. m == pid && gone fd) (sym same.1) ∙ stays)))
      | inr apart ↦ has_elsewhere _ _ _ n fd d apart.1 has
    ]) r;
  }

  -- an ended process has no descriptors that stay
  pub k_collect : (m : Frame) (c : ℕ) → R m → position (λ q. is_child pid q && is_ended q) m.processes ≡ Some c → Keeps R (put_process c None)
  unfolding put_process Holds
  k_collect m c was first = record {
    led = λ g r. with_processes g _ (λ n fd d q lives is stays has. elim (eqb_tells n c) [
      | inl same ↦
          let h = was.kept.descriptors n fd d q lives is stays in
          let ended =
          (and_parts _ _ (position-Some (λ z. is_child pid z && is_ended z) m.processes c None
          first).1).1 in
          let dead = ap is_ended (sym (is_living _ h.process h.lives)) ∙ ap (λ i. is_ended (at m.processes i)) same.1 ∙ ended in
          absurd (true≢false (sym dead ∙ not_ended _ h.process h.lives))
      | inr apart ↦ has_elsewhere _ c _ n fd d apart.1 has
    ]) r;
  }

  pub k_logged : (l : AuditLine) → Keeps R (logged l)
  unfolding logged Holds
  k_logged l = record {
    led = λ g r. record {
      kept = record { descriptors = r.kept.descriptors; objects = r.kept.objects; opens = r.kept.opens };
      objects_last =
          r.objects_last;
      opens_last = r.opens_last;
    };
  }

  -- ---- what a part tells
  -- a part that keeps all that, with a fact of its answer
  pub record Gives {A : Type 0} (Fact : A → Type 0) (m : Row A) : Type 0 where
    pub led : (g : Frame) → R g → Ends (m g) (λ why h. R h) (λ a h. R h × Fact a)

  pub held_on_pass : {A B : Type 0} (Fact : A → Type 0) (o : Outcome A) (k : A → Row B) → Ends o (λ why h. R h) (λ a h. R h × Fact a) → ((a : A) → Fact a → Keeps R (k a)) → Holds (on_pass o k) R
  unfolding Ends Holds on_pass
  held_on_pass Fact (Refuse why g) k h hk = h
  held_on_pass Fact (Pass a g) k h hk = (hk a h.1).led g h.0

  pub bind_given : {A B : Type 0} (Fact : A → Type 0) (m : Row A) (k : A → Row B) → Gives Fact m → ((a : A) → Fact a → Keeps R (k a)) → Keeps R (◌>>=◌ m k)
  unfolding ◌>>=◌
  bind_given Fact m k hm hk = record { led = λ g r. held_on_pass _ (m g) k (hm.led g r) hk }

  pub gives_bind : {A B : Type 0} (Fact : A → Type 0) (More : B → Type 0) (m : Row A) (k : A → Row B) → Gives Fact m → ((a : A) → Fact a → Gives More (k a)) → Gives More (◌>>=◌ m k)
  gives_bind Fact More m k hm hk = record { led = λ g r. ends_bind m k g _ _ (ends_more _ _ _ _ (hm.led g r) (λ a h both. (hk a both.1).led h both.0)) }

  -- the caller has the descriptors that stay
  pub k_bind_process : {B : Type 0} (k : Process → Row B) → ((p : Process) → Owns p → Keeps R (k p)) → Keeps R (◌>>=◌ (process pid) k)
  unfolding ◌>>=◌ process
  k_bind_process k hk = record { led = λ g r. (keeps_bind_some R _ _ k (λ p is. hk p (owns g r p is))).led g r }
    where
      owns : (g : Frame) → R g → (p : Process) → living (at g.processes pid) ≡ Some p → Owns p
      owns g r p is = record {
        all = λ q fd d lives on stays.
            let h = r.kept.descriptors pid fd d q lives on (ap (λ b. b && gone fd) (eq-eqb pid pid refl) ∙ stays) in
            let one : h.process ≡ p = cc (sym h.lives ∙ is) in
            ap (λ z. at z.fds fd) (sym one) ∙ h.descriptor;
      }

  pub ruleset words = (
    k_bind_process,
    keeps_bind_frame,
    keeps_bind_some,
    keeping,
    keeping_tests,
    k_object,
    k_labelled,
    k_inode,
    k_pipe,
    k_no_object,
    k_open,
    k_second_open,
    k_float,
    k_no_open,
    k_process,
    k_first_fd,
    k_two_fds,
    k_given_up,
    k_fork,
    k_end,
    k_collect,
    k_logged,
  )

  -- ---- parts of rows
  pub k_observe : (seen : Categories) → Keeps R (observe pid seen)
  unfolding observe
  k_observe seen = search words depth 30

  pub k_affect : (o : ℕ) (l : Categories) → May o → Keeps R (affect pid o l)
  unfolding affect
  k_affect o l may = search (words, may) depth 30

  pub k_float_entry : (p : Process) (x : Object) (e : OpenFile) → through ≡ Some e.id → Keeps R (float_entry p x e)
  unfolding float_entry
  k_float_entry p x e on = keeps_only_if R _ _ (k_float _ _ on)

  pub k_walked_to : (path : PathOf) → Keeps R (walked_to pid path)
  unfolding walked_to
  k_walked_to path = search (words, k_observe) depth 30

  pub k_object_at : (path : PathOf) → Keeps R (object_at pid path)
  unfolding object_at
  k_object_at path = search (words, k_walked_to) depth 30

  pub k_opened : (fd : ℕ) → Keeps R (opened pid fd)
  unfolding opened
  k_opened fd = search words depth 30
