-- One process among all, and what the machine counts when it changes.
use Rattle.std.proofs.Common.{◌≡◌, ℕ, Bool, true, false, not, List, Option, Some, None, option_map, unwrap_or, refl, sym, ap, subst, ◌∙◌, if◌then◌else◌}
use Rattle.std.specs.Option.{option_map_or}
use Rattle.ix_label.specs.Category.{Categories}
use Rattle.ix_model.specs.world.{World.{World, Process, at, put, change, living}, Privs.{either_of, without}, Callers.{caller_of, with_caller}}
use Rattle.ix_model.specs.declared.{privs.PrivSet.PrivSet, views.Caller.Caller}
use Rattle.ix_model.proofs.tables.Tables.{change_same, change_twice}
use Rattle.ix_proc.specs.Table.{ProcTable}
use Rattle.ix_tables.specs.Parts.{Parts}
use Rattle.ix_audit.specs.Lines.{Lines}
use Rattle.ix_fcalls.{specs.Around.{with_who, no_process}, proofs.Counting.counted_kept}
use Rattle.ix_machine.specs.Joined.{joined, AreJoined}

-- ---- a living process, as it is got
-- what was got, and the record of which it was got
record Got (o : Option Process) (pid : ℕ) (c : Caller) : Type 0 where
  process : Process
  is : o ≡ Some process
  lives : process.ended ≡ false
  shows : c ≡ caller_of pid process

got : (o : Option Process) (pid : ℕ) (c : Caller) → Some c ≡ option_map (caller_of pid) (living o) → Got o pid c
got None pid c h = cc
got (Some p) pid c h = go p.ended refl h
  where
    go : (b : Bool) → p.ended ≡ b → Some c ≡ option_map (caller_of pid) (if b then None else Some p) → Got (Some p) pid c
    go true is k = cc
    go false is k = record { process = p; is = refl; lives = is; shows = cc }

pub got_shown : (ps : List (Option Process)) (pid : ℕ) (c : Caller) → Some c ≡ option_map (caller_of pid) (living (at ps pid)) → with_who ps c ≡ ps
got_shown ps pid c h =
    let g = got (at ps pid) pid c h in
    ap (λ (x : Caller). with_who ps x) g.shows ∙ change_same ps pid (with_caller (caller_of pid g.process)) (λ p here. let e : Some g.process ≡ Some p =
    sym g.is ∙ here in let q : g.process ≡ p = cc in ap (λ (x : Process). with_caller (caller_of pid x) p) q)

pub got_pid : (ps : List (Option Process)) (pid : ℕ) (c : Caller) → Some c ≡ option_map (caller_of pid) (living (at ps pid)) → c.pid.0 ≡ pid
got_pid ps pid c h = let g = got (at ps pid) pid c h in ap (λ (x : Caller). x.pid.0) g.shows

pub got_living : (ps : List (Option Process)) (pid : ℕ) (c : Caller) → Some c ≡ option_map (caller_of pid) (living (at ps pid))
    → living (at ps pid) ≡ Some (with_caller c (unwrap_or (at ps pid) no_process))
got_living ps pid c h =
    let g = got (at ps pid) pid c h in
    let lives : living (Some g.process) ≡ Some g.process = ap (λ b. if b then None else Some g.process) g.lives in
    ap living g.is ∙ lives ∙ ap (λ (x : Caller). Some (with_caller x g.process)) (sym g.shows) ∙ ap (λ (o : Option Process). Some (with_caller c (unwrap_or o no_process))) (sym g.is)

pub got_none : (ps : List (Option Process)) (pid : ℕ) → None ≡ option_map (caller_of pid) (living (at ps pid)) → option_map_or (λ p. not p.ended) (at ps pid) false ≡ false
got_none ps pid h = go (at ps pid) h
  where
    go : (o : Option Process) → None ≡ option_map (caller_of pid) (living o) → option_map_or (λ p. not p.ended) o false ≡ false
    go None k = refl
    go (Some p) k = within p.ended k
      where
        within : (b : Bool) → None ≡ option_map (caller_of pid) (if b then None else Some p) → not b ≡ false
        within true j = refl
        within false j = cc

pub got_some : (ps : List (Option Process)) (pid : ℕ) (c : Caller) → Some c ≡ option_map (caller_of pid) (living (at ps pid)) → option_map_or (λ p. not p.ended) (at ps pid) false ≡ true
got_some ps pid c h = let g = got (at ps pid) pid c h in ap (λ (o : Option Process). option_map_or (λ p. not p.ended) o false) g.is ∙ ap not g.lives

pub ruleset getting = (got_shown, got_pid, got_living, got_none, got_some)

-- ---- a living process, as it is put
-- one change more of a process that is shown
again : (ps : List (Option Process)) (c : Caller) (pid : ℕ) (k : Process → Process) → with_who ps c ≡ ps → c.pid.0 ≡ pid → change ps c.pid.0 (λ p. k (with_caller c p)) ≡ change ps pid k
again ps c pid k shown is = ap (λ n. change ps n (λ p. k (with_caller c p))) is ∙ sym (change_twice ps pid (with_caller c) k)
    ∙ ap (λ (t : List (Option Process)). change t pid k) (ap (λ n. change ps n (with_caller c)) (sym is) ∙ shown)

pub label_put : (ps : List (Option Process)) (c : Caller) (pid : ℕ) (l : Categories) → with_who ps c ≡ ps → c.pid.0 ≡ pid
    → with_who ps (record c { float = record c.float { label = l } }) ≡ change ps pid (λ q. record q { label = l })
label_put ps c pid l = again ps c pid (λ q. record q { label = l })

pub frozen_put : (ps : List (Option Process)) (c : Caller) (pid : ℕ) (on : Bool) → with_who ps c ≡ ps → c.pid.0 ≡ pid
    → with_who ps (record c { float = record c.float { frozen = on } }) ≡ change ps pid (λ q. record q { frozen = on })
frozen_put ps c pid on = again ps c pid (λ q. record q { frozen = on })

pub ceiling_put : (ps : List (Option Process)) (c : Caller) (pid : ℕ) (l : Categories) → with_who ps c ≡ ps → c.pid.0 ≡ pid
    → with_who ps (record c { float = record c.float { ceiling = l } }) ≡ change ps pid (λ q. record q { ceiling = l })
ceiling_put ps c pid l = again ps c pid (λ q. record q { ceiling = l })

pub dropped_put : (ps : List (Option Process)) (c : Caller) (pid : ℕ) (set : PrivSet) → with_who ps c ≡ ps → c.pid.0 ≡ pid
    → with_who ps (record c { cap = without c.cap set; lic = without c.lic set; own = without c.own set })
    ≡ change ps pid (λ q. record q { cap = without q.cap set; lic = without q.lic set; own = without q.own set })
dropped_put ps c pid set = again ps c pid (λ q. record q { cap = without q.cap set; lic = without q.lic set; own = without q.own set })

pub licensed_put : (ps : List (Option Process)) (c : Caller) (pid : ℕ) (set : PrivSet) → with_who ps c ≡ ps → c.pid.0 ≡ pid
    → with_who ps (record c { lic = either_of c.lic set }) ≡ change ps pid (λ q. record q { lic = either_of q.lic set })
licensed_put ps c pid set = again ps c pid (λ q. record q { lic = either_of q.lic set })

pub program_put : (ps : List (Option Process)) (c : Caller) (pid : ℕ) (cap own : PrivSet) → with_who ps c ≡ ps → c.pid.0 ≡ pid
    → with_who ps (record c { cap = cap; own = own }) ≡ change ps pid (λ q. record q { cap = cap; own = own })
program_put ps c pid cap own = again ps c pid (λ q. record q { cap = cap; own = own })

-- ---- what is counted
-- a process that changes, but for its descriptors and its working directory
joined_processes : (t : Parts) (p : ProcTable) (l : Lines) (pid : ℕ) (h : Process → Process) → ((x : Process) → (h x).fds ≡ x.fds)
    → ((x : Process) → (h x).cwd ≡ x.cwd) → ((x : Process) → (h x).ended ≡ x.ended) → AreJoined t p l
    → AreJoined t (record p { processes = change p.processes pid h }) l
joined_processes t p l pid h fds cwd ended j =
    record {
      counted = counted_kept h (λ e x. rw (fds x, ended x) refl) (λ o x. rw (cwd x, ended x) refl) t p.processes pid j.counted;
      procs = j.procs;
      log =
          j.log;
      few = j.few;
    }

pub joined_put : (t : Parts) (p q : ProcTable) (l : Lines) (w : World) (c : Caller) (pid : ℕ) (k : Process → Process) → ((x : Process) → (k x).fds ≡ x.fds)
    → ((x : Process) → (k x).cwd ≡ x.cwd) → ((x : Process) → (k x).ended ≡ x.ended)
    → joined t p l ≡ w → with_who w.frame.processes c ≡ w.frame.processes → c.pid.0 ≡ pid
    → q ≡ record p { processes = change p.processes c.pid.0 (λ x. k (with_caller c x)) } → AreJoined t p l → AreJoined t q l
joined_put t p q l w c pid k fds cwd ended view shown is put j =
    let here : with_who p.processes c ≡ p.processes = subst (λ (v : World). with_who v.frame.processes c ≡ v.frame.processes) (sym view) shown in
    let e : q ≡ record p { processes = change p.processes pid k } = put ∙ ap (λ (ps : List (Option Process)). let u : ProcTable = record p { processes = ps } in
    u) (again p.processes c pid k here is) in
    subst (λ (u : ProcTable). AreJoined t u l) (sym e) (joined_processes t p l pid k fds cwd ended j)
