-- The calling process in the table of all processes.
use Rattle.std.{proofs.Common.{◌≡◌, ℕ, Bool, true, false, not, List, Option, Some, None, option_map, unwrap_or, refl, sym, ap, ◌∙◌, if◌then◌else◌, slice_set}, specs.Option.option_map_or}
use Rattle.ix_label.specs.Category.{Categories}
use Rattle.ix_model.{specs.{world.{World.{Process, at, put, change, living}, Callers.with_caller}, declared.views.Caller.Caller}, proofs.tables.Tables.{change_twice, at_changed}}
use Rattle.ix_fcalls.specs.{Around.{Around, with_who, no_process, process_of}, Calling.IsCalling}

living_at : (o : Option Process) (c : Caller) → option_map_or (λ p. not p.ended) o false ≡ true → living (option_map (with_caller c) o) ≡ Some (with_caller c (unwrap_or o no_process))
living_at None c h = cc
living_at (Some p) c h = go _ _ h
  where
    go : (b : Bool) (q : Process) → not b ≡ true → (if b then None else Some q) ≡ Some q
    go true q h = cc
    go false q h = refl

pub table_is : (a : Around) (c : Caller) (ps : List (Option Process)) → IsCalling a c.pid.0 → with_who a.processes c ≡ ps → ps ≡ change a.processes a.pid (with_caller c)
table_is a c ps i is = sym is ∙ ap (λ n. change a.processes n (with_caller c)) i.is

pub calls : (a : Around) (c : Caller) (ps : List (Option Process)) → IsCalling a c.pid.0 → with_who a.processes c ≡ ps → living (at ps a.pid) ≡ Some (process_of a c)
calls a c ps i is = ap (λ t. living (at t a.pid)) (table_is a c ps i is) ∙ ap living (at_changed a.processes a.pid (with_caller c)) ∙ living_at _ c i.lives

lives_at : (o : Option Process) (p : Process) → living o ≡ Some p → option_map_or (λ q. not q.ended) o false ≡ true
lives_at None p h = cc
lives_at (Some q) p h = go _ h
  where
    go : (b : Bool) → (if b then None else Some q) ≡ Some p → not b ≡ true
    go true h = cc
    go false h = refl

pub calls_living : (a : Around) (c : Caller) (ps : List (Option Process)) → IsCalling a c.pid.0 → with_who a.processes c ≡ ps → option_map_or (λ q. not q.ended) (at ps a.pid) false ≡ true
calls_living a c ps i is = lives_at _ _ (calls a c ps i is)

-- one more change of the caller is a change of its process
again : (a : Around) (c : Caller) (ps : List (Option Process)) (k : Process → Process) → IsCalling a c.pid.0 → with_who a.processes c ≡ ps
    → change a.processes c.pid.0 (λ p. k (with_caller c p)) ≡ change ps a.pid k
again a c ps k i is = ap (λ n. change a.processes n (λ p. k (with_caller c p))) i.is ∙ sym (change_twice _ _ _ k)
    ∙ ap (λ t. change t a.pid k) (sym (table_is a c ps i is))

pub label_set : (a : Around) (c : Caller) (ps : List (Option Process)) (l : Categories) → IsCalling a c.pid.0 → with_who a.processes c ≡ ps
    → with_who a.processes (record c { float = record c.float { label = l } }) ≡ change ps a.pid (λ q. record q { label = l })
label_set a c ps l i is = again a c ps _ i is

pub cwd_set : (a : Around) (c : Caller) (ps : List (Option Process)) (d : ℕ) → IsCalling a c.pid.0 → with_who a.processes c ≡ ps
    → with_who a.processes (record c { cwd = record { 0 = d } }) ≡ change ps a.pid (λ q. record q { cwd = d })
cwd_set a c ps d i is = again a c ps _ i is

pub fd_set : (a : Around) (c : Caller) (ps : List (Option Process)) (n : ℕ) (e : Option ℕ) → IsCalling a c.pid.0 → with_who a.processes c ≡ ps
    → with_who a.processes (record c { fds = slice_set c.fds n e }) ≡ change ps a.pid (λ q. record q { fds = put q.fds n e })
fd_set a c ps n e i is = again a c ps _ i is

pub who_set : (a : Around) (c : Caller) → c.pid.0 ≡ a.pid → with_who a.processes c ≡ change a.processes a.pid (with_caller c)
who_set a c is = ap (λ n. change a.processes n (with_caller c)) is

pub calling_again : (a : Around) (c d : Caller) → IsCalling a c.pid.0 → d.pid.0 ≡ a.pid → IsCalling a d.pid.0
calling_again a c d i is = record { is = is; lives = i.lives }

pub ruleset calling = (calls, calls_living, table_is, label_set, cwd_set, fd_set, who_set, calling_again)
