-- A process ends, and the record of one that has ended goes.
use Rattle.std.proofs.Common.{◌≡◌, ◌≢◌, ◌<◌, ◌≤◌, ◌&&◌, ◌||◌, ℕ, zero, suc, Bool, true, false, true≢false, not, List, [], ◌∷◌, length, map, sum, count_by, cond}
use Rattle.std.proofs.Common.{Option, Some, None, option_map, is_some, refl, sym, ap, subst, ◌∙◌, arith, inl, inr, get_or, set, if◌then◌else◌, length-set}
use Rattle.std.proofs.Common.{slice_index_or}
use Rattle.std.specs.{Option.{option_map_or, option_and_then}, List.{list_any, range_with_len}}
use Rattle.std.proofs.lemmas.{List.{get_or-set_same, get_or-set_other, set-get_or, Sums.sum-map}, Bool.Decides.eqb_tells}
use Rattle.ix_model.specs.{world.World.{World, Frame, Content, Process, at, put, change, living, lives, is_ended}, world.Callers.with_caller, laws.Sound.Sound}
use Rattle.ix_model.specs.{world.Contents.{after_exit, carried, keep, grown, status_of}, rows.Lifetimes.let_go_all, rows.OnPaths.is_home, history.Step.step}
use Rattle.ix_model.specs.{rows.OnProcesses.{is_child, remains, end_process, exit}, rows.Outcomes.{Outcome, Refuse, Pass}}
use Rattle.ix_model.specs.{rows.Rows.{◌>>=◌, ◌>>◌, on_pass, need, frame, pass, put_process}, declared.{config.Limits.Limits, views.Caller.Caller}}
use Rattle.ix_model.specs.history.Events as op
use Rattle.ix_model.specs.declared.reply.Reply.TheVariants as reply
use Rattle.ix_model.proofs.{tables.{Finds.{in_table, put_none}, Tables.seen_changed}, words.Fixed.fixed_step}
use Rattle.ix_tables.specs.Parts.{Parts, named_by}
use Rattle.ix_audit.specs.Lines.{Lines}
use Rattle.ix_proc.specs.Table.{ProcTable, collected, ended, ended_as}
use Rattle.ix_fcalls.specs.{Around.{with_who, around, frame_of, world_of}, Counted.IsCounted}
use Rattle.ix_machine.specs.{Joined.{joined, AreJoined}, OwnCalls.let_go_and_end, Restoring.Restores}
use Rattle.ix_machine.proofs.{Restoring.has_label, Carried.{as_was, carried_without, statuses_are}, Stepped.exited}

-- ---- the row of an exit
passes_done : (o : Outcome (Unit {0})) (g : Frame) (k : Unit {0} → Frame → Outcome (Unit {0})) → on_pass o k ≡ Pass tt g → on_pass o (λ a h. on_pass (k a h) (λ b. pass reply.Done)) ≡ Pass reply.Done g
unfolding on_pass pass
passes_done (Refuse r h) g k is = cc
passes_done (Pass a h) g k is = ap (λ o. on_pass o (λ b. pass reply.Done)) is

pub exit_passes : (pid : ℕ) (f g : Frame) → list_any (is_child pid) f.processes ≡ false → let_go_and_end pid f ≡ Pass tt g → exit pid f ≡ Pass reply.Done g
unfolding exit ◌>>=◌ ◌>>◌ frame need pass on_pass
exit_passes pid f g childless is = rw childless (passes_done (let_go_all pid f) g (λ a. end_process pid) is)

-- ---- counts
map_put : {B : Type 0} (P : Option Process → B) (t : List (Option Process)) (n : ℕ) (x y : Option Process) → P x ≡ P y → map P (put t n x) ≡ map P (put t n y)
map_put P [] n x y h = refl
map_put P (z ∷ t) zero x y h = ap (λ m. m ∷ map P t) h
map_put P (z ∷ t) (suc n) x y h = ap (λ ms. P z ∷ ms) (map_put P t n x y h)

-- one record or another that is counted alike
counted_put : (t : Parts) (ps : List (Option Process)) (pid : ℕ) (x y : Option Process) → ((e : ℕ) → named_by e x ≡ named_by e y)
    → ((o : ℕ) → is_home o x ≡ is_home o y) → IsCounted t (put ps pid x) → IsCounted t (put ps pid y)
counted_put t ps pid x y named home c = record {
  owners = c.owners ∙ (λ i. map (λ e. sum (map_put (named_by e) ps pid x y (named e) i)) (range_with_len 0 (length t.opens)));
  homes = c.homes ∙ (λ i. map (λ o. homes_same o i) (range_with_len 0 (length t.objects)));
}
  where
    homes_same : (o : ℕ) → count_by (is_home o) (put ps pid x) ≡ count_by (is_home o) (put ps pid y)
    homes_same o =
        let w : Option Process → ℕ = λ q. cond (is_home o q) 1 0 in
        sym (sum-map w (put ps pid x)) ∙ ap sum (map_put w ps pid x y (ap (λ b. cond b 1 0) (home o))) ∙ sum-map w (put ps pid y)

-- one that has ended is counted nowhere
ended_named : (o : Option Process) (e : ℕ) → is_ended o ≡ true → named_by e o ≡ 0
ended_named None e h = refl
ended_named (Some q) e h = rw h refl

ended_home : (o : Option Process) (n : ℕ) → is_ended o ≡ true → is_home n o ≡ false
ended_home None n h = refl
ended_home (Some q) n h = rw h refl

-- ---- a process that lives
not_ended_yet : (o : Option Process) → option_map_or (λ q. not q.ended) o false ≡ true → is_ended o ≡ false
not_ended_yet None h = refl
not_ended_yet (Some q) h = go q.ended h
  where
    go : (b : Bool) → not b ≡ true → b ≡ false
    go true h = cc
    go false h = refl

lives_inside : (ps : List (Option Process)) (pid : ℕ) → option_map_or (λ q. not q.ended) (at ps pid) false ≡ true → pid < length ps
lives_inside ps pid h = go (at ps pid) refl h
  where
    go : (o : Option Process) → at ps pid ≡ o → option_map_or (λ q. not q.ended) o false ≡ true → pid < length ps
    go None is k = absurd (true≢false (sym k))
    go (Some q) is k = in_table ps pid q is

-- ---- the record of an ended process goes
pub collected_joined : (t : Parts) (p q : ProcTable) (l : Lines) (w : World) (c : ℕ) → joined t p l ≡ w → is_ended (at w.frame.processes c) ≡ true
    → q ≡ collected c p → AreJoined t p l → AreJoined t q l
collected_joined t p q l w c here ended is j =
    let done : is_ended (at p.processes c) ≡ true = ap (λ (v : World). is_ended (at v.frame.processes c)) here ∙ ended in
    subst (λ (v : ProcTable). AreJoined t v l) (sym is) (record {
      counted = counted_put t p.processes c (at p.processes c) None (λ e. ended_named (at p.processes c) e done) (λ o. ended_home (at p.processes c) o done)
          (subst (IsCounted t) (sym (set-get_or p.processes c None)) j.counted);
      procs = j.procs;
      log = j.log;
      few = j.few;
    })

pub collected_is : (t : Parts) (p q : ProcTable) (l : Lines) (w : World) (c : ℕ) → joined t p l ≡ w → q ≡ collected c p
    → joined t q l ≡ record {
      frame = record w.frame { processes = put w.frame.processes c None };
      content =
          record w.content { statuses = set w.content.statuses c 0 };
    }
collected_is t p q l w c here is = ap (λ (v : ProcTable). joined t v l) is ∙ ap (λ (v : World). let u : World =
    record { frame = record v.frame { processes = put v.frame.processes c None }; content = record v.content { statuses = set v.content.statuses c 0 } } in
    u) here

-- ---- a wait
-- a label alone was raised, so whoever has ended has ended still
ended_restored : (f g : Frame) (pid n : ℕ) → lives f pid ≡ true → Restores f g pid → is_ended (at g.processes n) ≡ is_ended (at f.processes n)
ended_restored f g pid n alive r =
    let l = has_label f pid alive in
    sym (seen_changed is_ended (λ p. record p { label = l.0 }) (λ p. refl) g.processes pid n) ∙ ap (λ (h : Frame). is_ended (at h.processes n)) (r.back l.0 l.1)

count_restored : (f g : Frame) (pid : ℕ) → lives f pid ≡ true → Restores f g pid → length g.processes ≡ length f.processes
count_restored f g pid alive r =
    let l = has_label f pid alive in
    sym (length-set g.processes pid _) ∙ ap (λ (h : Frame). length h.processes) (r.back l.0 l.1)

pub ended_still : (w v : World) (pid c : ℕ) → lives w.frame pid ≡ true → Restores w.frame v.frame pid → is_ended (at w.frame.processes c) ≡ true → is_ended (at v.frame.processes c) ≡ true
ended_still w v pid c alive r h = ended_restored w.frame v.frame pid c alive r ∙ h

pub waited_carried : (w v u : World) (pid c : ℕ) → Sound w → lives w.frame pid ≡ true → v ≡ record w { frame = record w.frame { processes = v.frame.processes } } → Restores w.frame v.frame pid
    → u ≡ record v { frame = record v.frame { processes = put v.frame.processes c None }; content = record v.content { statuses = set v.content.statuses c 0 } }
    → u.content ≡ carried w.frame u.frame w.content
waited_carried w v u pid c s alive rest r is =
    let content : v.content ≡ w.content = ap (λ (x : World). x.content) rest in
    let frame : u.frame ≡ record w.frame { processes = put v.frame.processes c None } = ap (λ (x : World). x.frame) is ∙ ap (λ (x : World). let g : Frame =
    record x.frame { processes = put v.frame.processes c None } in g) rest in
    ap (λ (x : World). x.content) is ∙ ap (λ (x : Content). let y : Content = record x { statuses = set x.statuses c 0 } in y) content
    ∙ sym (carried_without w v.frame.processes c s.holdings.clean (count_restored w.frame v.frame pid alive r) (λ n. ended_restored w.frame v.frame pid n alive r))
    ∙ ap (λ (g : Frame). carried w.frame g w.content) (sym frame)

-- the status of a child in the world
pub status_is : (t : Parts) (p : ProcTable) (l : Lines) (w : World) (c status : ℕ) → joined t p l ≡ w → slice_index_or p.statuses c 0 ≡ status → status ≡ status_of w.content c
status_is t p l w c status here is = sym is ∙ ap (λ (v : World). status_of v.content c) here

-- ---- an end
ended_processes : (o : Option Process) (pid status : ℕ) (t : ProcTable) → (ended_as o pid status t).processes ≡ put t.processes pid o
ended_processes None pid status t = refl
ended_processes (Some q) pid status t = refl

ended_limit : (o : Option Process) (pid status : ℕ) (t : ProcTable) → (ended_as o pid status t).limit ≡ t.limit
ended_limit None pid status t = refl
ended_limit (Some q) pid status t = refl

remains_ended : (o : Option Process) (q : Process) → option_and_then remains o ≡ Some q → q.ended ≡ true
remains_ended None q h = cc
remains_ended (Some p) q h = go p.parent h
  where
    go : (r : Option ℕ) → (if is_some r then Some (record p { ended = true }) else None) ≡ Some q → q.ended ≡ true
    go None h = cc
    go (Some n) h = let e : ◌≡◌ {A = Process} (record p { ended = true }) q = cc in sym (ap (λ (x : Process). x.ended) e)

-- what stays of a process that ends is counted as its record is
remains_named : (o : Option Process) (e : ℕ) → named_by e (option_map {T = Process} {U = Process} (λ q. record q { ended = true }) o) ≡ named_by e (option_and_then remains o)
remains_named None e = refl
remains_named (Some p) e = go (is_some p.parent)
  where
    go : (b : Bool) → 0 ≡ named_by e (if b then Some (record p { ended = true }) else None)
    go true = refl
    go false = refl

remains_home : (o : Option Process) (n : ℕ) → is_home n (option_map {T = Process} {U = Process} (λ q. record q { ended = true }) o) ≡ is_home n (option_and_then remains o)
remains_home None n = refl
remains_home (Some p) n = go (is_some p.parent)
  where
    go : (b : Bool) → false ≡ is_home n (if b then Some (record p { ended = true }) else None)
    go true = refl
    go false = refl

-- the statuses that an end leaves, by what stays of the process
status_left : (ps : List (Option Process)) (st : List ℕ) (o : Option Process) (pid status : ℕ) (t : ProcTable) → pid < length ps → get_or st pid 0 ≡ 0
    → ((q : Process) → o ≡ Some q → q.ended ≡ true) → t.statuses ≡ st
    → (ended_as o pid status t).statuses ≡ (if is_ended (at (put ps pid o) pid) then set st pid status else st)
status_left ps st None pid status t low none ended same =
    let gone : is_ended (at (put ps pid None) pid) ≡ false = ap is_ended (put_none ps pid) in
    rw gone (ap (λ xs. set xs pid 0) same ∙ ap (set st pid) (sym none) ∙ set-get_or st pid 0)
status_left ps st (Some q) pid status t low none ended same =
    let there : is_ended (at (put ps pid (Some q)) pid) ≡ true = ap is_ended (get_or-set_same ps pid (Some q) None low) ∙ ended q refl in
    rw there (ap (λ xs. set xs pid status) same)

some_living : (o : Option Process) → option_map_or (λ q. not q.ended) o false ≡ true → is_some (living o) ≡ true
some_living None h = cc
some_living (Some q) h = go q.ended h
  where
    go : (b : Bool) → not b ≡ true → is_some (if b then None else Some q) ≡ true
    go true h = cc
    go false h = refl

seen_living : (c : Caller) (q : Process) → is_some (living (Some (with_caller c q))) ≡ is_some (living (Some q))
seen_living c q = go q.ended
  where
    go : (b : Bool) → is_some (if b then None else Some (with_caller c q)) ≡ is_some (if b then None else Some q)
    go true = refl
    go false = refl

any_changed : (P : Option Process → Bool) (h : Process → Process) → ((q : Process) → P (Some (h q)) ≡ P (Some q)) → (ps : List (Option Process)) (n : ℕ) → list_any P (change ps n h) ≡ list_any P ps
any_changed P h same [] n = refl
any_changed P h same (None ∷ ps) zero = refl
any_changed P h same (Some q ∷ ps) zero = ap (λ b. b || list_any P ps) (same q)
any_changed P h same (x ∷ ps) (suc n) = ap (λ b. P x || b) (any_changed P h same ps n)

pub put_lives : (t : Parts) (p : ProcTable) (l : Lines) (w : World) (pid n : ℕ) → joined t p l ≡ w → lives w.frame pid ≡ true → n ≡ pid → is_some (living (at p.processes n)) ≡ true
put_lives t p l w pid n here alive is = ap (λ m. is_some (living (at p.processes m))) is ∙ ap (λ (v : World). is_some (living (at v.frame.processes pid))) here
    ∙ some_living (at w.frame.processes pid) alive

pub end_asks : (t : Parts) (p mid : ProcTable) (l : Lines) (w : World) (c : Caller) (pid : ℕ) → joined t p l ≡ w → lives w.frame pid ≡ true
    → list_any (is_child pid) w.frame.processes ≡ false → mid ≡ record p { processes = change p.processes c.pid.0 (with_caller c) }
    → (is_some (living (at mid.processes pid)) ≡ true) × (list_any (is_child pid) mid.processes ≡ false)
end_asks t p mid l w c pid here alive childless put_is =
    let is : mid.processes ≡ change w.frame.processes c.pid.0 (with_caller c) = ap (λ (v : ProcTable). v.processes) put_is
    ∙ ap (λ (v : World). change v.frame.processes c.pid.0 (with_caller c)) here in (
      ap (λ qs. is_some (living (at qs pid))) is ∙ seen_changed (λ o. is_some (living o)) (with_caller c) (seen_living c) w.frame.processes c.pid.0 pid ∙ some_living (at w.frame.processes pid) alive,
      ap (list_any (is_child pid)) is ∙ any_changed (is_child pid) (with_caller c) (λ q. refl) w.frame.processes c.pid.0 ∙ childless,
    )

module _ (v w : World) (pid n status : ℕ) (t : Parts) (p mid final : ProcTable) (l : Lines) (x : Parts) (c : Caller) (s : Sound w) (lived : lives v.frame pid ≡ true)
    (none_there : list_any (is_child pid) v.frame.processes ≡ false) (shown : joined t p l ≡ v) (same : v ≡ w) (j : AreJoined t p l) (is_n : n ≡ pid)
    (goes : let_go_all n w.frame ≡ Pass tt (frame_of (around 0 n w) x (with_who w.frame.processes c)))
    (content : (world_of (around 0 n w) x (with_who w.frame.processes c)).content ≡ carried w.frame (frame_of (around 0 n w) x (with_who w.frame.processes c)) w.content)
    (counts : IsCounted x (change (with_who w.frame.processes c) n (λ q. record q { ended = true })))
    (put_is : mid ≡ record p { processes = change p.processes c.pid.0 (with_caller c) }) (final_is : final ≡ ended pid status mid) where
  alive : lives w.frame pid ≡ true
  alive = subst (λ (u : World). lives u.frame pid ≡ true) same lived

  childless : list_any (is_child pid) w.frame.processes ≡ false
  childless = subst (λ (u : World). list_any (is_child pid) u.frame.processes ≡ false) same none_there

  here : joined t p l ≡ w
  here = shown ∙ same

  abbrev ps : List (Option Process)
  ps = with_who w.frame.processes c

  abbrev left : Option Process
  left = option_and_then remains (at ps pid)

  mid_is : mid.processes ≡ ps
  mid_is = ap (λ (v : ProcTable). v.processes) put_is ∙ ap (λ (v : World). change v.frame.processes c.pid.0 (with_caller c)) here

  mid_statuses : mid.statuses ≡ w.content.statuses
  mid_statuses = ap (λ (v : ProcTable). v.statuses) put_is ∙ ap (λ (v : World). v.content.statuses) here

  processes_are : final.processes ≡ put ps pid left
  processes_are = ap (λ (v : ProcTable). v.processes) final_is ∙ ended_processes _ pid status mid ∙ ap (λ (qs : List (Option Process)). put qs pid (option_and_then remains (at qs pid))) mid_is

  log_is : w.frame.log ≡ l.lines
  log_is = ap (λ (v : World). v.frame.log) (sym here)

  ends_so : let_go_and_end pid w.frame ≡ Pass tt (joined x final l).frame
  unfolding ◌>>◌ on_pass end_process put_process
  ends_so = ap (λ o. on_pass o (λ a. end_process pid)) (ap (λ m. let_go_all m w.frame) (sym is_n) ∙ goes)
      ∙ (λ i. Pass tt (record { limits = x.limits; fss = x.fss; objects = x.objects; processes = sym processes_are i; opens = x.opens; log = log_is i }))

  none_left : get_or w.content.statuses pid 0 ≡ 0
  none_left = s.holdings.clean.statuses pid (not_ended_yet (at w.frame.processes pid) alive)

  low : pid < length ps
  low = omega (arith, length-set w.frame.processes c.pid.0 (option_map (with_caller c) (at w.frame.processes c.pid.0)), lives_inside w.frame.processes pid alive)

  still : (n : ℕ) → n ≢ pid → is_ended (at (put ps pid left) n) ≡ is_ended (at w.frame.processes n)
  still n other = ap is_ended (get_or-set_other ps pid n left None other) ∙ seen_changed is_ended (with_caller c) (λ q. refl) w.frame.processes c.pid.0 n

  carried_so : (n : ℕ) → (if is_ended (at w.frame.processes n) && is_ended (at (put ps pid left) n) then get_or w.content.statuses n 0 else 0) ≡ get_or w.content.statuses n 0
  carried_so n = elim (eqb_tells n pid) [
    | inl same ↦
        let e : is_ended (at w.frame.processes n) ≡ false = ap (λ m. is_ended (at w.frame.processes m)) same.1 ∙ not_ended_yet (at w.frame.processes pid) alive in
        rw e (sym none_left ∙ ap (λ m. get_or w.content.statuses m 0) (sym same.1))
    | inr other ↦ as_was w (put ps pid left) n s.holdings.clean (still n other.1)
  ]

  wide : length (put ps pid left) ≡ length w.frame.processes
  wide = length-set ps pid left ∙ length-set w.frame.processes c.pid.0 (option_map (with_caller c) (at w.frame.processes c.pid.0))

  before : carried w.frame (joined x final l).frame w.content ≡ record { holdings = x.holdings; offsets = x.offsets; statuses = w.content.statuses }
  unfolding carried
  before =
      let st : keep 0 (λ n. is_ended (at w.frame.processes n) && is_ended (at final.processes n)) 0 (grown (length final.processes) w.content.statuses) ≡ w.content.statuses =
      subst (λ (qs : List (Option Process)). keep 0 (λ n. is_ended (at w.frame.processes n) && is_ended (at qs n)) 0 (grown (length qs) w.content.statuses) ≡ w.content.statuses) (sym processes_are)
      (statuses_are w.frame.processes (put ps pid left) w.content.statuses w.content.statuses (omega (arith, wide, s.holdings.clean.count)) (s.holdings.clean.count ∙ sym wide) carried_so) in
      λ i. record { holdings = (sym content i).holdings; offsets = (sym content i).offsets; statuses = st i }

  leaves_so : (joined x final l).content ≡ after_exit (joined x final l).frame pid status (carried w.frame (joined x final l).frame w.content)
  unfolding after_exit
  leaves_so =
      let st : final.statuses ≡ (if is_ended (at final.processes pid) then set w.content.statuses pid status else w.content.statuses) =
      ap (λ (v : ProcTable). v.statuses) final_is ∙ ap (λ (qs : List (Option Process)). (ended_as (option_and_then remains (at qs pid)) pid status mid).statuses) mid_is
      ∙ status_left ps w.content.statuses (option_and_then remains (at ps pid)) pid status mid low none_left (remains_ended (at ps pid)) mid_statuses
      ∙ ap (λ (qs : List (Option Process)). if is_ended (at qs pid) then set w.content.statuses pid status else w.content.statuses) (sym processes_are) in
      (λ i. record { holdings = x.holdings; offsets = x.offsets; statuses = st i }) ∙ inside (is_ended (at final.processes pid)) ∙ ap (after (is_ended (at final.processes pid))) (sym before)
    where
      after : Bool → Content → Content
      after b k = if b then record k { statuses = set k.statuses pid status } else k

      inside : (b : Bool) → ◌≡◌ {A = Content} (record {
        holdings = x.holdings;
        offsets = x.offsets;
        statuses = if b then set w.content.statuses pid status else
            w.content.statuses;
      }) (after b (record { holdings = x.holdings; offsets = x.offsets; statuses = w.content.statuses }))
      inside true = refl
      inside false = refl

  counts_so : IsCounted x final.processes
  counts_so = subst (IsCounted x) (sym processes_are)
      (counted_put x ps pid (option_map {T = Process} {U = Process} (λ q. record q { ended = true }) (at ps pid)) (option_and_then remains (at ps pid))
      (remains_named (at ps pid)) (remains_home (at ps pid))
      (subst (λ m. IsCounted x (change ps m (λ q. record q { ended = true }))) is_n counts))

  pub joined_so : AreJoined x final l
  joined_so =
      let moved : (joined x final l) ≡ (step w 0 pid (op.Exit status)).world =
      (exited w (joined x final l) 0 pid status reply.Done [] alive (exit_passes pid w.frame (joined x final l).frame childless ends_so) refl
      leaves_so).world in
      let limits : x.limits ≡ t.limits = ap (λ (v : World). v.frame.limits) moved ∙ (fixed_step w 0 pid (op.Exit status)).limits ∙ ap (λ (v : World). v.frame.limits) (sym here) in
      let same : final.limit ≡ p.limit = ap (λ (v : ProcTable). v.limit) final_is ∙ ended_limit _ pid status mid ∙ ap (λ (v : ProcTable). v.limit) put_is in
      record {
        counted = counts_so;
        procs = same ∙ j.procs ∙ sym (ap (λ (m : Limits). m.procs) limits);
        log =
            j.log ∙ sym (ap (λ (m : Limits). m.log) limits);
        few = subst (λ (m : Limits). m.procs ≤ 1024) (sym limits) j.few;
      }

  -- the same, by the machine's world
  pub ends_there : let_go_and_end pid v.frame ≡ Pass tt (joined x final l).frame
  ends_there = subst (λ (u : World). let_go_and_end pid u.frame ≡ Pass tt (joined x final l).frame) (sym same) ends_so

  pub leaves_there : (joined x final l).content ≡ after_exit (joined x final l).frame pid status (carried v.frame (joined x final l).frame v.content)
  leaves_there = subst (λ (u : World). (joined x final l).content ≡ after_exit (joined x final l).frame pid status (carried u.frame (joined x final l).frame u.content)) (sym same) leaves_so

pub ruleset waiting = (ended_still, waited_carried)
