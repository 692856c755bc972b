-- In a sound world each word asks for what stands: the refusals for want of it come from the two tests that are meant.
use Rattle.std.proofs.Common.{◌≡◌, ◌-◌, ℕ, Bool, true, false, not, ◌&&◌, List, Option, Some, None, is_some, option_map, refl, sym, ap, ◌∙◌, subst, inl, inr, if◌then◌else◌}
use Rattle.std.specs.{Option.option_map_or, List.list_any}
use Rattle.ix_label.specs.Category.{Categories}
use Rattle.ix_model.specs.{world.{Naming.PathOf, World.{Frame, Object, Process, at, put, living, lives, is_on}}, rows.OnLabels.{allowed, movable}, laws.CallLaws.has_descriptor}
use Rattle.ix_model.{specs.rows.{Rows.{process, object, observe, affect}, Auditing.{exercise, entitled, log_has_room}}, proofs.refused.Refusing.{Relabelled, relabelled_more}}
use Rattle.ix_model.specs.rows.{Walks.{Sought, OpenFile, behind, behind_of, entry_at, walk, walk_from, join_all, walked_to, opened}, OnDescriptors.claimed}
use Rattle.ix_model.{specs.declared.{privs.PrivSet.PrivSet, reply.Reply.Reply, refusal.Refusal.Refusal}, proofs.words.Ends.{Ends, plain, ends_bind, ends_then, ends_pass, ends_frame}}
use Rattle.ix_model.proofs.{tables.{Tables.at_changed, Finds.at_put}, words.{Living.{is_living, not_ended, lives_as}, There.{walk_there, start_there}}}
use Rattle.ix_model.proofs.{words.{Walked.{Within, Leads, walks}, Standing.{behind_is, stands}}, frames.Frames.FrameSound}
use Rattle.ix_model.specs.rows.Walks as sought
use Rattle.ix_model.specs.declared.refusal.Refusal.TheVariants as refusal

-- the two refusals for want of what a call names
abbrev pub is_for_want : Refusal → Bool
is_for_want refusal.BadFd = true
is_for_want refusal.NoProcess = true
is_for_want _ = false

-- ---- asking for what is there
pub there_is : {A : Type 0} (o : Option A) (r : Refusal) (g : Frame) (P : Refusal → Frame → Type 0) (Q : A → Frame → Type 0) → is_some o ≡ true
    → ((a : A) → o ≡ Some a → Q a g) → Ends (Rattle.ix_model.specs.rows.Rows.some o r g) P Q
unfolding Ends Rattle.ix_model.specs.rows.Rows.some Rattle.ix_model.specs.rows.Rows.pass
there_is None r g P Q h k = cc
there_is (Some a) r g P Q h k = k a refl

-- an object that stands when the call begins
pub record Stands (f : Frame) (o : ℕ) : Type 0 where
  pub is : is_some (at f.objects o) ≡ true

module _ (f : Frame) (s : FrameSound f) (pid : ℕ) (alive : lives f pid ≡ true) where
  -- ---- the caller
  lives_on : (g : Frame) → Relabelled pid f g → is_some (living (at g.processes pid)) ≡ true
  lives_on g r = ap (λ h. is_some (living (at h.processes pid))) r.is ∙ ap (λ o. is_some (living o)) (at_changed f.processes pid _) ∙ go _ alive
    where
      ended : (b : Bool) (q : Process) → not b ≡ true → is_some (if b then None else Some q) ≡ true
      ended true q h = cc
      ended false q h = refl

      go : (o : Option Process) → option_map_or (λ p. not p.ended) o false ≡ true → is_some (living (option_map (λ (p : Process). record p { label = r.label }) o)) ≡ true
      go None h = cc
      go (Some q) h = ended _ _ h

  pub ask_caller : (g : Frame) (P : Refusal → Frame → Type 0) (Q : Process → Frame → Type 0) → Relabelled pid f g
      → ((p : Process) → living (at g.processes pid) ≡ Some p → Q p g) → Ends (process pid g) P Q
  unfolding process
  ask_caller g P Q r next = there_is _ _ g P Q (lives_on g r) next

  -- ---- objects
  pub ask_object : (o : ℕ) (g : Frame) (P : Refusal → Frame → Type 0) (Q : Object → Frame → Type 0) → Relabelled pid f g → Stands f o
      → ((x : Object) → at g.objects o ≡ Some x → Q x g) → Ends (object o g) P Q
  unfolding object
  ask_object o g P Q r there next = there_is _ _ g P Q (ap (λ (h : Frame). is_some (at h.objects o)) r.is ∙ there.is) next

  -- ---- the two rules of floating
  pub ask_observe : (l : Categories) (g : Frame) (P : Refusal → Frame → Type 0) (Q : Unit {0} → Frame → Type 0) → Relabelled pid f g
      → ((r : Refusal) (h : Frame) → is_for_want r ≡ false → P r h) → ((h : Frame) → Relabelled pid f h → Q tt h) → Ends (observe pid l g) P Q
  unfolding observe
  ask_observe l g P Q r refused next = search (plain, ask_caller, refused, next, relabelled_more) depth 40 fits 8000

  pub ask_affect : (o : ℕ) (l : Categories) (g : Frame) (P : Refusal → Frame → Type 0) (Q : Unit {0} → Frame → Type 0) → Relabelled pid f g → Stands f o
      → ((r : Refusal) (h : Frame) → is_for_want r ≡ false → P r h) → ((h : Frame) → Q tt h) → Ends (affect pid o l g) P Q
  unfolding affect
  ask_affect o l g P Q r there refused next = search (plain, ask_caller, ask_object, refused, next) depth 40 fits 8000

  -- ---- paths
  -- the caller's record before the looks
  record Was (p : Process) : Type 0 where
    process : Process
    lived : living (at f.processes pid) ≡ Some process
    home : p.cwd ≡ process.cwd

  was : (g : Frame) (p : Process) → Relabelled pid f g → living (at g.processes pid) ≡ Some p → Was p
  was g p r lives = go _ refl (sym (ap (λ h. at h.processes pid) r.is ∙ at_changed f.processes pid (λ q. record q { label = r.label })) ∙ is_living _ p lives)
    where
      go : (o : Option Process) → at f.processes pid ≡ o → option_map (λ (q : Process). record q { label = r.label }) o ≡ Some p → Was p
      go None is h = cc
      go (Some q) is h =
          let same : record q { label = r.label } ≡ p = cc in
          record { process = q; lived = lives_as _ q is (ap (λ x. x.ended) same ∙ not_ended _ p lives); home = sym (ap (λ x. x.cwd) same) }

  stands_within : (d : ℕ) (name : List ℕ) (c : Option ℕ) → Within f d name c → Stands f d
  stands_within d name c w = record { is = ap is_some w.is }

  -- where a walk leads stands
  record Leading (w : Sought) : Type 0 where
    object : (o : ℕ) (dir : Option ℕ) → w ≡ sought.Found o dir → Stands f o
    dir : (o d : ℕ) (dir : Option ℕ) → w ≡ sought.Found o dir → dir ≡ Some d → Stands f d
    missing : (d : ℕ) → w ≡ sought.Missing d → Stands f d

  leading : (q : Process) (path : PathOf) → living (at f.processes pid) ≡ Some q → Leading (walk f.objects q path).outcome
  leading q path lived =
      let home = s.processes.home pid q lived in
      let leads = walks f q path s.names.root home in
      let name = Rattle.ix_model.specs.world.Naming.last_name path.names in
      record {
        object = λ o dir is. record { is = walk_there f s.names path.names (if path.absolute then 0 else q.cwd) None o dir (start_there f q path.absolute s.names home) is };
        dir = λ o d dir is some. stands_within d name (Some o) (subst (λ (w : Sought). Leads f name w) (is ∙ ap (sought.Found o) some) leads);
        missing = λ d is. stands_within d name None (subst (λ (w : Sought). Leads f name w) is leads);
      }

  led_again : (g : Frame) (p : Process) (path : PathOf) → Relabelled pid f g → living (at g.processes pid) ≡ Some p → Leading (walk g.objects p path).outcome
  led_again g p path r lives =
      let b = was g p r lives in
      let start : ℕ → ℕ = λ n. if path.absolute then 0 else n in
      let same : (walk f.objects b.process path).outcome ≡ (walk g.objects p path).outcome = sym (λ i. (walk_from (r.is i).objects (if path.absolute then 0 else b.home i) None path.names).outcome) in
      subst Leading same (leading b.process path b.lived)

  pub ask_walk : (path : PathOf) (g : Frame) (P : Refusal → Frame → Type 0) (Q : Sought → Frame → Type 0) → Relabelled pid f g
      → ((r : Refusal) (h : Frame) → is_for_want r ≡ false → P r h)
      → ((w : Sought) (h : Frame) → Relabelled pid f h → ((o : ℕ) (dir : Option ℕ) → w ≡ sought.Found o dir → Stands f o)
      → ((o d : ℕ) (dir : Option ℕ) → w ≡ sought.Found o dir → dir ≡ Some d → Stands f d) → ((d : ℕ) → w ≡ sought.Missing d → Stands f d) → Q w h)
      → Ends (walked_to pid path g) P Q
  unfolding walked_to
  ask_walk path g P Q r refused next =
      ends_bind _ _ g P Q (ask_caller g P _ r (λ p lives.
      let led = led_again g p path r lives in
      ends_bind _ _ g P Q (ends_frame g P _ (
      ends_then _ _ g P Q (ask_observe (join_all (walk g.objects p path).looked) g P _ r refused (λ h k.
      ends_pass _ h P Q (next _ h k led.object led.dir led.missing)))))))

  -- ---- tests alone
  module _ (g : Frame) (P : Refusal → Frame → Type 0) (Q : Unit {0} → Frame → Type 0) (r : Relabelled pid f g) (refused : (why : Refusal) → is_for_want why ≡ false → P why g) (next : Q tt g) where
    pub ask_entitled : (x : PrivSet) → Ends (entitled pid x g) P Q
    unfolding entitled
    ask_entitled x = search (plain, ask_caller, refused, next) depth 40

    pub ask_room : Ends (log_has_room g) P Q
    unfolding log_has_room
    ask_room = search (plain, refused, next) depth 40

  pub ask_exercise : (x : PrivSet) (g : Frame) (P : Refusal → Frame → Type 0) (Q : Unit {0} → Frame → Type 0) → Relabelled pid f g
      → ((why : Refusal) → is_for_want why ≡ false → P why g) → Q tt g → Ends (exercise pid x g) P Q
  unfolding exercise
  ask_exercise x g P Q r refused next = ends_then _ _ g P Q (ask_entitled g P _ r refused (ask_room g P Q r refused next) x)

  pub ask_allowed : (before now : Categories) (g : Frame) (P : Refusal → Frame → Type 0) (Q : Unit {0} → Frame → Type 0) → Relabelled pid f g
      → ((why : Refusal) → is_for_want why ≡ false → P why g) → Q tt g → Ends (allowed pid before now g) P Q
  unfolding allowed
  ask_allowed before now g P Q r refused next = search (plain, ask_caller, ask_exercise, refused, next) depth 40 fits 8000

  pub ask_movable : (x : Object) (now : Categories) (g : Frame) (P : Refusal → Frame → Type 0) (Q : Unit {0} → Frame → Type 0)
      → ((why : Refusal) → is_for_want why ≡ false → P why g) → Q tt g → Ends (movable x now g) P Q
  unfolding movable
  ask_movable x now g P Q refused next = search (plain, refused, next) depth 40

  -- ---- descriptors
  -- a descriptor without an open entry behind it is none of the caller's
  none_behind : (fd : ℕ) → behind f pid fd ≡ None → has_descriptor f pid fd ≡ false
  unfolding behind
  none_behind fd h = go _ refl h
    where
      at_entry : (q : Process) (d : Option ℕ) → living (at f.processes pid) ≡ Some q → at q.fds fd ≡ d → entry_at f d ≡ None → is_some d ≡ false
      at_entry q None lives is h = refl
      at_entry q (Some e) lives is h = stood _ (s.opens.descriptor pid q fd e lives is) h
        where
          stood : (x : Option Rattle.ix_model.specs.world.World.Open) → is_some x ≡ true → option_map (λ y. let b : OpenFile = record { id = e; entry = y } in b) x ≡ None → is_some (Some e) ≡ false
          stood None there h = cc
          stood (Some y) there h = cc

      go : (p : Option Process) → living (at f.processes pid) ≡ p → behind_of p f fd ≡ None → option_map_or (λ q. is_some (at q.fds fd)) p false ≡ false
      go None is h = refl
      go (Some q) is h = at_entry q _ is refl h

  stands_behind : (fd : ℕ) (e : OpenFile) → behind f pid fd ≡ Some e → Stands f e.entry.object
  stands_behind fd e is = record { is = ap is_some (stands f e.id e.entry s.opens (behind_is f _ fd e is)).is_object }

  pub ask_opened : (fd : ℕ) (P : Refusal → Frame → Type 0) (Q : OpenFile → Frame → Type 0) → (has_descriptor f pid fd ≡ false → P refusal.BadFd f)
      → ((e : OpenFile) → behind f pid fd ≡ Some e → Stands f e.entry.object → Q e f) → Ends (opened pid fd f) P Q
  unfolding opened Ends Rattle.ix_model.specs.rows.Rows.some Rattle.ix_model.specs.rows.Rows.refuse Rattle.ix_model.specs.rows.Rows.pass
  ask_opened fd P Q refused next = ends_bind _ _ f P Q (ends_frame f P _ (go _ refl))
    where
      go : (b : Option OpenFile) → behind f pid fd ≡ b → Ends (Rattle.ix_model.specs.rows.Rows.some b refusal.BadFd f) P Q
      go None is = refused (none_behind fd is)
      go (Some e) is = next e is (stands_behind fd e is)

  -- ---- processes
  not_living : (o : Option Process) → living o ≡ None → option_map_or (λ p. not p.ended) o false ≡ false
  not_living None h = refl
  not_living (Some q) h = go _ h
    where
      go : (b : Bool) → (if b then None else Some q) ≡ None → not b ≡ false
      go true h = refl
      go false h = cc

  pub ask_target : (target : ℕ) (P : Refusal → Frame → Type 0) (Q : Process → Frame → Type 0) → (lives f target ≡ false → P refusal.NoProcess f)
      → ((q : Process) → living (at f.processes target) ≡ Some q → Q q f) → Ends (process target f) P Q
  unfolding process Ends Rattle.ix_model.specs.rows.Rows.some Rattle.ix_model.specs.rows.Rows.refuse Rattle.ix_model.specs.rows.Rows.pass
  ask_target target P Q refused next = go _ refl
    where
      go : (o : Option Process) → living (at f.processes target) ≡ o → Ends (Rattle.ix_model.specs.rows.Rows.some o refusal.NoProcess f) P Q
      go None is = refused (not_living _ is)
      go (Some q) is = next q is

  -- a claimant lives
  claimant_lives : (o end p : ℕ) (x : Object) → at f.objects o ≡ Some x → at x.claims end ≡ Some p → lives f p ≡ true
  claimant_lives o end p x is claim = go _ (s.claims.claimant o end p x is claim)
    where
      go : (q : Option Process) → option_map_or (λ q. not q.ended && list_any (λ d. option_map_or (λ e. is_on o end (at f.opens e)) d false) q.fds) q false
          ≡ true → option_map_or (λ q. not q.ended) q false ≡ true
      go None h = h
      go (Some q) h = (Rattle.std.proofs.lemmas.Bool.and_parts _ _ h).0

  is_live : (o : Option Process) → option_map_or (λ p. not p.ended) o false ≡ true → is_some (living o) ≡ true
  is_live None h = cc
  is_live (Some q) h = go _ h
    where
      go : (b : Bool) → not b ≡ true → is_some (if b then None else Some q) ≡ true
      go true h = cc
      go false h = refl

  pub ask_claimed : (o end : ℕ) (x : Object) (P : Refusal → Frame → Type 0) (Q : Reply → Frame → Type 0) → at f.objects o ≡ Some x → ((a : Reply) → Q a f)
      → Ends (claimed (at (put x.claims end (Some pid)) (1 - end)) f) P Q
  unfolding claimed process
  ask_claimed o end x P Q is next = go _ refl
    where
      lives_as_claimant : (q : ℕ) → at (put x.claims end (Some pid)) (1 - end) ≡ Some q → lives f q ≡ true
      lives_as_claimant q c = elim (at_put x.claims end (1 - end) (Some pid) q c) [
        | inl here ↦ let same : pid ≡ q = cc in subst (λ (n : ℕ). lives f n ≡ true) same alive
        | inr other ↦ claimant_lives o (1 - end) q x is other.1
      ]

      go : (c : Option ℕ) → at (put x.claims end (Some pid)) (1 - end) ≡ c → Ends (claimed c f) P Q
      go None c = ends_pass _ f P Q (next _)
      go (Some q) c = ends_bind _ _ f P Q (there_is _ _ f P _ (is_live _ (lives_as_claimant q c)) (λ p lives. ends_pass _ f P Q (next _)))
