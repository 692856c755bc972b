-- A line asks for nine calls at most, whatever they are answered.
use Rattle.std.proofs.Common.{ℕ, List, [], ◌∷◌, Option, Some, None, arith}
use Rattle.ix_model.specs.declared.ids.{Fd.Fd, Pid.Pid}
use Rattle.ix_policy.specs.declared.rule.Rule.{Rule}
use Rattle.ix_asking.specs.{Asking.{Asked, Asking}, Copies.{copies, write_all}, declared.serving.outcome.Outcome.Outcome, serving.Serving.Server}
use Rattle.ix_asking.proofs.Few.{Few, few-mapped, few-more}
use Rattle.ix_privserv.specs.Serving as privileges
use Rattle.ix_privserv.proofs.Few as privileges_few
use Rattle.ix_sessserv.specs.Serving as sessions
use Rattle.ix_sessserv.proofs.Few as sessions_few
use Rattle.ix_script.specs.declared.line.Line.{Line}
use Rattle.ix_script.specs.declared.line.Line.TheVariants as line
use Rattle.ix_lanes.specs.declared.asking.handed.Handed.{Handed}
use Rattle.ix_lanes.specs.asking.{Asked.{Names, Numbers, asked, fd_of, pid_of}, Handing.who_in, LineAsks.{by_rules, line_asks, one_call, server_of}}
use Rattle.ix_lanes.specs.declared.asking.handed.Handed.TheVariants as handed

few_one : (o : Option Asked) → Few 9 (one_call o)
few_one None = tt
few_one (Some a) = λ x. tt

few_written : (n : ℕ) (pid : Pid) (to : Fd) (bytes : List ℕ) → Few 1 (write_all n pid to bytes)
few_written n pid to [] = tt
few_written n pid to (b ∷ bytes) = λ x. tt

few_copied : (n : ℕ) (pid : Pid) (from to : Fd) (count : ℕ) → Few 2 (copies n pid from to count)
few_copied n pid from to count = λ x. few_written n pid to x.bytes

few_ruled : (told : Option (List Rule)) (serves : List Rule → Asking Handed) → ((rules : List Rule) → Few 9 (serves rules))
    → Few 9 (by_rules told serves)
few_ruled None serves few = tt
few_ruled (Some rules) serves few = few rules

pub few-of-line : (rules : Option (List Rule)) (header : Numbers) (names : Names) (n : ℕ) (l : Line) → Few 9 (line_asks rules header names n l)
unfolding line_asks
few-of-line rules header names n (line.Copy proc from to count) =
    let pid : Pid = record { 0 = pid_of header names proc } in
    let f : Fd = record { 0 = fd_of names from } in
    let t : Fd = record { 0 = fd_of names to } in
    few-mapped (Unit {0}) Handed 9 (λ r. handed.Nothing) (copies n pid f t count)
    (few-more (Unit {0}) 2 9 (copies n pid f t count) (omega arith) (few_copied n pid f t count))
few-of-line rules header names n (line.Priv proc fd) =
    let s : Server = server_of header names n proc fd in
    few_ruled rules _
    (λ r. few-mapped Outcome Handed 9 (λ o. handed.Nothing) (privileges.serves r s)
    (few-more Outcome 5 9 (privileges.serves r s) (omega arith) (privileges_few.few-served s r)))
few-of-line rules header names n (line.Login proc fd hand named) =
    let s : Server = server_of header names n proc fd in
    let h : Fd = record { 0 = fd_of names hand } in
    few_ruled rules _ (λ r. few-mapped Outcome Handed 9 who_in (sessions.serves r s h) (sessions_few.few-served s r h))
few-of-line rules header names n l = few_one (asked header names n l)
