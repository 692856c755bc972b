-- A child of a living process, in the world and in the parts that count it.
use Rattle.std.proofs.Common.{◌≡◌, ◌<◌, ◌≤◌, ◌-◌, ◌^◌, ◌++◌, ◌∷◌, [], ℕ, Bool, true, false, true≢false, nat_lt, List, length, count_by, Option, Some, None, sym}
use Rattle.std.proofs.Common.{is_some, option_map, refl, ap, subst, ◌∙◌, arith, if◌then◌else◌}
use Rattle.std.specs.Option.{option_map_or}
use Rattle.ix_model.specs.{world.{World.{World, Frame, Object, Process, at, living, is_dir}, Contents.carried, Callers.caller_of}, laws.Sound.Sound}
use Rattle.ix_model.specs.{rows.OnProcesses.{fork, has_kept}, rows.Outcomes.{Outcome, Pass}}
use Rattle.ix_model.specs.rows.Rows.{◌>>=◌, ◌>>◌, on_pass, process, some, need, frame, pass, add_process}
use Rattle.ix_model.specs.declared.{reply.Reply.Reply, call.Keep.Keep, ids.Pid.Pid, config.Limits.Limits, views.Caller.Caller}
use Rattle.ix_model.specs.declared.reply.Reply.TheVariants as reply
use Rattle.ix_model.specs.declared.call.Keep.TheVariants as keep
use Rattle.ix_model.proofs.{tables.Finds.in_table, words.Living.not_ended, sound.Forking.kept_is}
use Rattle.ix_audit.specs.Lines.{Lines}
use Rattle.ix_proc.specs.Table.{ProcTable, Adds, child_of, keeps}
use Rattle.ix_tables.specs.Parts.{Parts}
use Rattle.ix_fcalls.specs.Counted.{IsCounted}
use Rattle.ix_machine.{specs.{Born.{BornIs, with_process}, Joined.{joined, AreJoined}}, proofs.Carried.carried_more}

-- ---- the child's descriptors
pub kept_same : (k : Keep) (p : Process) → keeps k p.fds ≡ has_kept k p
kept_same keep.All p = refl
kept_same keep.Nothing p = refl
kept_same (keep.One fd) p = refl

pub kept_living : (k : Keep) (o : Option Process) (p : Process) (b : Bool) → o ≡ Some p → b ≡ keeps k p.fds → b ≡ true → option_map_or (has_kept k) o false ≡ true
kept_living k o p b is same h = ap (λ x. option_map_or (has_kept k) x false) is ∙ sym (kept_same k p) ∙ sym same ∙ h

-- ---- the child in the table of processes
at_end : (ps : List (Option Process)) (q : Process) → at (ps ++ Some q ∷ []) (length ps) ≡ Some q
at_end [] q = refl
at_end (x ∷ ps) q = at_end ps q

pub parent_of : (k : Keep) (o : Option Process) → option_map_or (has_kept k) o false ≡ true → (p : Process) × (o ≡ Some p)
parent_of k None h = absurd (true≢false (sym h))
parent_of k (Some p) h = (p, refl)

module _ (t u : ProcTable) (parent : ℕ) (k : Keep) (p : Process) (child : Pid) (alive : living (at t.processes parent) ≡ Some p) (adds : Adds (Some child) (child_of parent k p) t u) where
  there : living (at u.processes child.0) ≡ Some (child_of parent k p)
  there =
      let ended : (child_of parent k p).ended ≡ false = not_ended _ p alive in
      ap (λ n. living (at u.processes n)) adds.1 ∙ ap (λ (v : ProcTable). living (at v.processes (length t.processes))) adds.2
      ∙ ap living (at_end t.processes (child_of parent k p)) ∙ ap (λ b. if b then None else Some (child_of parent k p)) ended

  pub child_is : (c : Caller) → Some c ≡ option_map (caller_of child.0) (living (at u.processes child.0)) → c ≡ caller_of child.0 (child_of parent k p)
  child_is c h = let e : Some c ≡ Some (caller_of child.0 (child_of parent k p)) = h ∙ ap (option_map (caller_of child.0)) there in cc

  pub child_lives : None ≡ option_map (caller_of child.0) (living (at u.processes child.0)) → ⊥
  child_lives h = let e : None ≡ Some (caller_of child.0 (child_of parent k p)) = h ∙ ap (option_map (caller_of child.0)) there in true≢false (sym (ap is_some e))

  pub child_entry : (c : Caller) → Some c ≡ option_map (caller_of child.0) (living (at u.processes child.0)) → (fd e : ℕ) → at c.fds fd ≡ Some e → at p.fds fd ≡ Some e
  child_entry c h fd e is = kept_is k p.fds fd e (ap (λ (d : Caller). at d.fds fd) (sym (child_is c h)) ∙ is)

  pub child_home : (c : Caller) → Some c ≡ option_map (caller_of child.0) (living (at u.processes child.0)) → c.cwd.0 ≡ p.cwd
  child_home c h = ap (λ (d : Caller). d.cwd.0) (child_is c h)

  pub child_counted : (c : Caller) (x : Parts) → Some c ≡ option_map (caller_of child.0) (living (at u.processes child.0))
      → ((q : Process) → q.fds ≡ c.fds → q.cwd ≡ c.cwd.0 → q.ended ≡ false → IsCounted x (t.processes ++ Some q ∷ [])) → IsCounted x u.processes
  child_counted c x h counts =
      subst (λ (v : ProcTable). IsCounted x v.processes) (sym adds.2) (counts (child_of parent k p) (sym (ap (λ (d : Caller). d.fds) (child_is c h))) (sym (child_home c h)) (not_ended _ p alive))

-- ---- the child in the world
adds_limit : (r : Option Pid) (q : Process) (t u : ProcTable) → Adds r q t u → u.limit ≡ t.limit
adds_limit None q t u h = ap (λ (v : ProcTable). v.limit) h.1
adds_limit (Some c) q t u h = ap (λ (v : ProcTable). v.limit) h.2

pub born_joined : (t x : Parts) (p q : ProcTable) (l : Lines) (r : Option Pid) (c : Process) → AreJoined t p l → Adds r c p q → IsCounted x q.processes
    → x ≡ record t { owners = x.owners; homes = x.homes } → AreJoined x q l
born_joined t x p q l r c j adds counted rest =
    let limits : x.limits ≡ t.limits = ap (λ (v : Parts). v.limits) rest in
    record {
      counted = counted;
      procs = adds_limit r c p q adds ∙ j.procs ∙ sym (ap (λ (m : Limits). m.procs) limits);
      log =
          j.log ∙ sym (ap (λ (m : Limits). m.log) limits);
      few = subst (λ (m : Limits). m.procs ≤ 1024) (sym limits) j.few;
    }

born_is : (t x : Parts) (p q : ProcTable) (l : Lines) (r : Option Pid) (c : Process) → AreJoined t p l → Adds r c p q
    → x ≡ record t { owners = x.owners; homes = x.homes } → BornIs r c (joined t p l) (joined x q l)
born_is t x p q l None c j adds rest = (ap (nat_lt (count_by is_some p.processes)) (sym j.procs) ∙ adds.0, (λ i. joined (rest i) (adds.1 i) l))
born_is t x p q l (Some n) c j adds rest = (ap (nat_lt (count_by is_some p.processes)) (sym j.procs) ∙ adds.0, adds.1, (λ i. joined (rest i) (adds.2 i) l))

pub born : (t x : Parts) (p q : ProcTable) (l : Lines) (w u : World) (r : Option Pid) (c : Process) → joined t p l ≡ w → joined x q l ≡ u → AreJoined t p l
    → Adds r c p q → x ≡ record t { owners = x.owners; homes = x.homes } → BornIs r c w u
born t x p q l w u r c here there j adds rest = subst (λ (v : World). BornIs r c w v) there (subst (λ (v : World). BornIs r c v (joined x q l)) here (born_is t x p q l r c j adds rest))

home_inside : (objects : List (Option Object)) (n : ℕ) → option_map_or is_dir (at objects n) false ≡ true → n < length objects
home_inside objects n h = go (at objects n) refl h
  where
    go : (o : Option Object) → at objects n ≡ o → option_map_or is_dir o false ≡ true → n < length objects
    go None is k = absurd (true≢false (sym k))
    go (Some x) is k = in_table objects n x is

-- what is asked where a child is added
abbrev pub Asks : Parts → ProcTable → ℕ → Keep → Type 0
Asks t p pid k =
    (p.processes ≡ p.processes)
    × (IsCounted t p.processes
    × ((length p.processes < 2 ^ 32 - 1) × ((count_by is_some p.processes ≤ 1024) × ((option_map_or (has_kept k) (living (at p.processes pid)) false ≡ true)
    × (((n : ℕ) (q : Process) → at p.processes n ≡ Some q → length q.fds ≡ 32)
    × (((q : Process) (fd e : ℕ) → living (at p.processes pid) ≡ Some q → at q.fds fd ≡ Some e → is_some (at t.opens e) ≡ true)
    × ((q : Process) → living (at p.processes pid) ≡ Some q → q.cwd < length t.objects)))))))

pub may_bear : (t : Parts) (p : ProcTable) (l : Lines) (w : World) (pid : ℕ) (k : Keep) → joined t p l ≡ w → AreJoined t p l → Sound w
    → length w.frame.processes < 2 ^ 32 - 1 → option_map_or (has_kept k) (living (at w.frame.processes pid)) false ≡ true → Asks t p pid k
may_bear t p l w pid k here j sound next kept =
    let s : Sound (joined t p l) = subst (λ (v : World). Sound v) (sym here) sound in
    let few : count_by is_some p.processes ≤ t.limits.procs = s.limits.processes in (
      refl,
      (
        j.counted,
        (
          subst (λ (v : World). length v.frame.processes < 2 ^ 32 - 1) (sym here) next,
          (
            omega (arith, few, j.few),
            (
              subst (λ (v : World). option_map_or (has_kept k) (living (at v.frame.processes pid)) false ≡ true) (sym here) kept,
              (s.processes.descriptors, ((λ q fd e alive is. s.opens.descriptor pid q fd e alive is), (λ q alive. home_inside t.objects q.cwd (s.processes.home pid q alive)))),
            ),
          ),
        ),
      ),
    )

-- ---- the row of a fork
pub fork_row : (f : Frame) (pid : ℕ) (k : Keep) (p : Process) → living (at f.processes pid) ≡ Some p → has_kept k p ≡ true
    → nat_lt (count_by is_some f.processes) f.limits.procs ≡ true
    → fork pid k f ≡ Pass (reply.Number (length f.processes)) (record f { processes = f.processes ++ Some (child_of pid k p) ∷ [] })
unfolding fork ◌>>=◌ ◌>>◌ on_pass process some need frame pass add_process
fork_row f pid k p alive kept room = rw (alive, kept, room) refl

pub fork_is : (w u : World) (pid n : ℕ) (k : Keep) (p : Process) → living (at w.frame.processes pid) ≡ Some p → has_kept k p ≡ true
    → nat_lt (count_by is_some w.frame.processes) w.frame.limits.procs ≡ true → n ≡ length w.frame.processes → u ≡ with_process (child_of pid k p) w
    → fork pid k w.frame ≡ Pass (reply.Number n) u.frame
fork_is w u pid n k p alive kept room next is =
    let last : ◌≡◌ {A = Outcome Reply} (Pass (reply.Number (length w.frame.processes)) (record w.frame {
      processes =
          w.frame.processes ++ Some (child_of pid k p) ∷ [];
    })) (Pass (reply.Number n) u.frame) = λ i. Pass (reply.Number (sym next i)) (sym is i).frame in
    fork_row w.frame pid k p alive kept room ∙ last

-- ---- what is carried over
pub born_carried : (w u : World) (q : Process) → Sound w → u ≡ with_process q w → u.content ≡ carried w.frame u.frame w.content
born_carried w u q s is = ap (λ (v : World). v.content) is ∙ sym (carried_more w q s.holdings.clean) ∙ ap (λ (v : World). carried w.frame v.frame w.content) (sym is)

pub ruleset forking = (kept_living, born_carried)
