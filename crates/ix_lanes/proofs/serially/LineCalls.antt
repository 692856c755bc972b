-- What holds of every call that a line asks for.
use Rattle.std.{proofs.{Common.{◌≡◌, ◌≤◌, ℕ, List, [], ◌∷◌, Option, Some, None, refl, arith}, lemmas.Option.IfSome_then}, specs.Prelude.IfSome}
use Rattle.ix_model.specs.history.Cost.{cost_of}
use Rattle.ix_model.specs.history.Events as op
use Rattle.ix_policy.specs.declared.rule.Rule.{Rule}
use Rattle.ix_script.specs.{scripts.Need.{cost_of_line}, declared.line.Line.Line}
use Rattle.ix_script.specs.declared.line.Line.TheVariants as line
use Rattle.ix_asking.specs.{declared.serving.outcome.Outcome.Outcome, Asking.{Asked, Asking}, Copies.{copies, write_all}}
use Rattle.ix_asking.proofs.{Every.{AllOf, all-mapped}, Serves.GivesNoLabel}
use Rattle.ix_privserv.specs.Serving as privileges
use Rattle.ix_privserv.proofs.Asked as privileges_asked
use Rattle.ix_sessserv.specs.Serving as sessions
use Rattle.ix_sessserv.specs.Serving.{clear_of}
use Rattle.ix_sessserv.proofs.Asked as sessions_asked
use Rattle.ix_lanes.specs.{declared.asking.handed.Handed.Handed, asking.Asked.{Names, Numbers, asked, fd_of, pid_of}, asking.Handing.who_in}
use Rattle.ix_lanes.specs.asking.LineAsks.{OfLine, by_rules, line_asks, one_call, server_of}
use Rattle.ix_lanes.specs.declared.asking.handed.Handed.TheVariants as handed

module _ (P : Asked → Type 0) (rules : Option (List Rule)) (header : Numbers) (names : Names) (n : ℕ) where
  -- it holds of the calls of the line n that give no label
  abbrev pub OfPlain : Type 0
  OfPlain = (pid : ℕ) (o : op.Op) → GivesNoLabel o → P (record { line = n; pid = pid; op = o })

  -- and of those that set a ceiling to the label of a rule
  abbrev pub OfCeilings : Type 0
  OfCeilings =
      (r : List Rule) → rules ≡ Some r → (pid target rule : ℕ) → P
      (record { line = n; pid = pid; op = op.SetCeiling target (clear_of r rule) })

  all_one : (o : Option Asked) → IfSome o P → AllOf P (one_call o)
  all_one None h = tt
  all_one (Some a) h = (h, λ x. tt)

  all_written : (pid to : ℕ) (bytes : List ℕ) → OfPlain → AllOf P (write_all n (record { 0 = pid }) (record { 0 = to }) bytes)
  all_written pid to [] each = tt
  all_written pid to (b ∷ bytes) each = (each pid (op.WriteFd to (b ∷ bytes)) tt, λ x. tt)

  all_copied : (pid from to count : ℕ) → OfPlain → AllOf P (copies n (record { 0 = pid }) (record { 0 = from }) (record { 0 = to }) count)
  all_copied pid from to count each = (each pid (op.ReadFd from count) tt, λ x. all_written pid to x.bytes each)

  all_ruled : (told : Option (List Rule)) (serves : List Rule → Asking Handed) → ((r : List Rule) → told ≡ Some r → AllOf P (serves r))
      → AllOf P (by_rules told serves)
  all_ruled None serves h = tt
  all_ruled (Some r) serves h = h r refl

  pub all-of-line : (l : Line) → IfSome (asked header names n l) P → OfPlain → OfCeilings → AllOf P (line_asks rules header names n l)
  unfolding line_asks
  all-of-line (line.Copy proc from to count) one each ceilings =
      all-mapped (Unit {0}) Handed P (λ r. handed.Nothing)
      (copies n (record { 0 = pid_of header names proc }) (record { 0 = fd_of names from }) (record { 0 = fd_of names to }) count)
      (all_copied (pid_of header names proc) (fd_of names from) (fd_of names to) count each)
  all-of-line (line.Priv proc fd) one each ceilings =
      all_ruled rules _ (λ r is. all-mapped Outcome Handed P (λ o. handed.Nothing) (privileges.serves r (server_of header names n proc fd))
      (privileges_asked.all-served P (server_of header names n proc fd) each r))
  all-of-line (line.Login proc fd hand named) one each ceilings =
      all_ruled rules _
      (λ r is. all-mapped Outcome Handed P who_in (sessions.serves r (server_of header names n proc fd) (record { 0 = fd_of names hand }))
      (sessions_asked.all-served P (server_of header names n proc fd) each r (ceilings r is (pid_of header names proc)) (record { 0 = fd_of names hand })))
  all-of-line l one each ceilings = all_one (asked header names n l) one

-- ---- the number of the line, and what it costs
abbrev pub OfOne : ℕ → Line → Asked → Type 0
OfOne n l a = OfLine n a × (cost_of a.op ≤ cost_of_line l)

pub asked_of_line : (header : Numbers) (names : Names) (n : ℕ) (l : Line) → IfSome (asked header names n l) (OfOne n l)
unfolding asked cost_of cost_of_line
asked_of_line header names n line.Skipped = tt
asked_of_line header names n (line.Version form) = tt
asked_of_line header names n (line.Limit w k) = tt
asked_of_line header names n (line.Fs name ceiling blocks inodes) = tt
asked_of_line header names n (line.Proc name label ceiling cap lic) = tt
asked_of_line header names n (line.Dir path label frozen) = tt
asked_of_line header names n (line.File path label frozen cap lic bytes) = tt
asked_of_line header names n (line.Policy text) = tt
asked_of_line header names n line.Phase = tt
asked_of_line header names n (line.Lane name) = tt
asked_of_line header names n (line.Copy proc from to count) = tt
asked_of_line header names n (line.Priv proc fd) = tt
asked_of_line header names n (line.Login proc fd hand named) = tt
asked_of_line header names n _ = (refl, omega arith)

-- each call that a line asks for has its number
pub all-numbered : (rules : Option (List Rule)) (header : Numbers) (names : Names) (n : ℕ) (l : Line)
    → AllOf (OfLine n) (line_asks rules header names n l)
all-numbered rules header names n l =
    all-of-line (OfLine n) rules header names n l (IfSome_then _ (asked_of_line header names n l) (λ a. λ (h : OfOne n l a). h.0)) (λ pid o plain. refl) (λ r is pid target rule. refl)
