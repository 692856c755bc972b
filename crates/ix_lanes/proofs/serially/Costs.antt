-- What entries cost, and what the lines need that they come from.
use Rattle.std.proofs.Common.{◌≡◌, ℕ, ◌+◌, ◌≤◌, List, [], ◌∷◌, ◌++◌, length, Option, Some, None, refl, arith, min}
use Rattle.std.{specs.Prelude.IfSome, proofs.lemmas.List.{Sums.{sum_by-cons, sum_by-append, sum-map}, length-take}, proofs.lemmas.Option.IfSome_then}
use Rattle.ix_model.specs.{world.{World.{Frame, World}, Contents.readable}, rows.{Table.{Decision, verdict}, Telling.told, Walks.{OpenFile, behind}}}
use Rattle.ix_model.specs.{history.Cost.{cost_of, cost_of_history}, history.Shown.AreShown, history.Step.{answer, plainly, read_answer, step, step_of}}
use Rattle.ix_model.specs.{history.Events.{Op, Event}, declared.reply.Reply.Reply}
use Rattle.ix_model.proofs.clean.Showing.{shown_step}
use Rattle.ix_model.specs.history.Events as op
use Rattle.ix_model.specs.declared.reply.Reply.TheVariants as reply
use Rattle.ix_script.specs.{scripts.Need.{cost_of_line, need}, declared.line.{Line.Line, FdWord.FdWord}}
use Rattle.ix_script.specs.declared.line.Line.TheVariants as line
use Rattle.ix_policy.specs.declared.rule.Rule.{Rule}
use Rattle.ix_asking.specs.{declared.serving.outcome.Outcome.Outcome, Asking.{Asked, Asking}, Copies.copies}
use Rattle.ix_asking.proofs.Costs.{AreFew, Costs, copy-costs, costs-mapped}
use Rattle.ix_privserv.specs.Serving as privileges
use Rattle.ix_privserv.proofs.Asked as privileges_asked
use Rattle.ix_sessserv.specs.Serving as sessions
use Rattle.ix_sessserv.proofs.Asked as sessions_asked
use Rattle.ix_lanes.specs.declared.asking.handed.Handed.{Handed}
use Rattle.ix_lanes.proofs.serially.LineCalls.{OfOne, asked_of_line}
use Rattle.ix_lanes.specs.asking.{Asked.{Names, Numbers, asked, fd_of, pid_of}, Handing.who_in, LineAsks.{by_rules, line_asks, one_call, server_of}}
use Rattle.ix_lanes.specs.declared.asking.handed.Handed.TheVariants as handed

-- ---- sums
pub cost-none : cost_of_history [] ≡ 0
unfolding cost_of_history
cost-none = refl

pub cost-cons : (e : Event) (events : List Event) → cost_of_history (e ∷ events) ≡ cost_of e.op + cost_of_history events
unfolding cost_of_history
cost-cons e events =
    let cost : Event → ℕ = λ (x : Event). cost_of x.op in
    omega (arith, sum-map cost (e ∷ events), sum-map cost events, sum_by-cons cost e events)

pub cost-append : (xs ys : List Event) → cost_of_history (xs ++ ys) ≡ cost_of_history xs + cost_of_history ys
unfolding cost_of_history
cost-append xs ys =
    let cost : Event → ℕ = λ (x : Event). cost_of x.op in
    omega (arith, sum-map cost (xs ++ ys), sum-map cost xs, sum-map cost ys, sum_by-append cost xs ys)

pub cost-push : (events : List Event) (e : Event) → cost_of_history (events ++ e ∷ []) ≡ cost_of_history events + cost_of e.op
cost-push events e = omega (arith, cost-append events (e ∷ []), cost-cons e [], cost-none)

pub need-none : need [] ≡ 0
unfolding need
need-none = refl

pub need-cons : (l : Line) (lines : List Line) → need (l ∷ lines) ≡ cost_of_line l + need lines
unfolding need
need-cons l lines = omega (arith, sum-map cost_of_line (l ∷ lines), sum-map cost_of_line lines, sum_by-cons cost_of_line l lines)

-- ---- one entry
read_few : (w : World) (count : ℕ) (b : Option OpenFile) (r : Reply) (g : Frame) → length (read_answer w count b r g).bytes ≤ count
unfolding read_answer plainly
read_few w count (Some e) (reply.Bytes k) g = omega (arith, length-take count (readable w.frame w.content e))
read_few w count _ r g = omega arith

shown_few : (r : Reply) (bytes : List ℕ) → AreShown r bytes → length bytes ≤ 4096
shown_few (reply.Bytes k) bytes h = omega (arith, h.0, h.1)
shown_few reply.Done bytes h = rw h (omega arith)
shown_few (reply.Number n) bytes h = rw h (omega arith)
shown_few (reply.Two f g) bytes h = rw h (omega arith)
shown_few (reply.Stat obj kind size links frozen cap lic) bytes h = rw h (omega arith)
shown_few (reply.Lab label) bytes h = rw h (omega arith)
shown_few (reply.Named name obj) bytes h = rw h (omega arith)
shown_few reply.Half bytes h = rw h (omega arith)
shown_few (reply.Whole pid label lic) bytes h = rw h (omega arith)
shown_few (reply.LogLine line) bytes h = rw h (omega arith)
shown_few (reply.Child pid status) bytes h = rw h (omega arith)
shown_few (reply.No why) bytes h = rw h (omega arith)

few_by : (w : World) (place pid : ℕ) (o : Op) → AreFew o (length (step w place pid o).bytes)
unfolding step answer
few_by w place pid (op.ReadFd fd count) =
    let o : Op = op.ReadFd fd count in
    let d : Decision = verdict (told w pid o) place pid o w.frame in
    let most : length (step w place pid o).bytes ≤ 4096 = shown_few (step w place pid o).reply (step w place pid o).bytes (shown_step w place pid o) in
    let counted : length (step w place pid o).bytes ≤ count = read_few w count (behind w.frame pid fd) d.reply d.frame in
    omega (arith, most, counted)
few_by w place pid _ = tt

-- what an entry is answered
pub few_bytes : (w : World) (place : ℕ) (e : Event) → AreFew e.op (length (step_of w place e).bytes)
few_bytes w place e = few_by w place e.pid e.op

-- ---- one line
one_costs : (o : Option Asked) (m : ℕ) → IfSome o (λ a. cost_of a.op ≤ m) → Costs m (one_call o)
one_costs None m h = tt
one_costs (Some a) m h = (0, omega (arith, h), λ x few. tt)

ruled_costs : (rules : Option (List Rule)) (m : ℕ) (serves : List Rule → Asking Handed)
    → ((r : List Rule) → rules ≡ Some r → Costs m (serves r)) → Costs m (by_rules rules serves)
ruled_costs None m serves h = tt
ruled_costs (Some r) m serves h = h r refl

module _ (rules : Option (List Rule)) (few : (r : List Rule) → rules ≡ Some r → length r ≤ 256) (header : Numbers) (names : Names) (n : ℕ) where
  copies_cost : (proc : List ℕ) (from to : FdWord) (count : ℕ)
      → Costs (cost_of_line (line.Copy proc from to count)) (line_asks rules header names n (line.Copy proc from to count))
  unfolding line_asks cost_of_line
  copies_cost proc from to count =
      costs-mapped (Unit {0}) Handed (λ r. handed.Nothing) (256 + min count 4096)
      (copies n (record { 0 = pid_of header names proc }) (record { 0 = fd_of names from }) (record { 0 = fd_of names to }) count)
      (copy-costs n (record { 0 = pid_of header names proc }) (record { 0 = fd_of names from }) (record { 0 = fd_of names to }) count)

  priv_costs : (proc : List ℕ) (fd : FdWord) → Costs (cost_of_line (line.Priv proc fd)) (line_asks rules header names n (line.Priv proc fd))
  unfolding line_asks cost_of_line
  priv_costs proc fd =
      ruled_costs rules 656 _
      (λ r is. costs-mapped Outcome Handed (λ o. handed.Nothing) 656 (privileges.serves r (server_of header names n proc fd))
      (privileges_asked.serve-costs r (few r is) (server_of header names n proc fd)))

  login_costs : (proc : List ℕ) (fd hand : FdWord) (q : Option (List ℕ))
      → Costs (cost_of_line (line.Login proc fd hand q)) (line_asks rules header names n (line.Login proc fd hand q))
  unfolding line_asks cost_of_line
  login_costs proc fd hand q =
      ruled_costs rules 1168 _
      (λ r is. costs-mapped Outcome Handed who_in 1168 (sessions.serves r (server_of header names n proc fd) (record { 0 = fd_of names hand }))
      (sessions_asked.serve-costs r (few r is) (server_of header names n proc fd) (record { 0 = fd_of names hand })))

  -- what a line asks for costs no more than the line
  pub line-costs : (l : Line) → Costs (cost_of_line l) (line_asks rules header names n l)
  unfolding line_asks
  line-costs (line.Copy proc from to count) = copies_cost proc from to count
  line-costs (line.Priv proc fd) = priv_costs proc fd
  line-costs (line.Login proc fd hand q) = login_costs proc fd hand q
  line-costs l = one_costs (asked header names n l) (cost_of_line l) (IfSome_then _ (asked_of_line header names n l) (λ a. λ (h : OfOne n l a). h.1))
