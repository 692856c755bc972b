use Rattle.std.proofs.Common.{◌||◌, ◌∙◌, Bool, List, Option, ap, sym}
use Rattle.ix_model.specs.world.World.{held}
use Rattle.ix_pipe.specs.Pipe.{Pipe}
use Rattle.ix_tables.specs.Joined.{joined}
use Rattle.ix_tables.proofs.LettingGo.{none_goes, goes_there, none_there, held_there, second_held}
use Rattle.ix_tables.proofs.tables.Tables.let_go_pipe.Goals.{else-lives-via-then-lives+then-not-held+else-not-held-2, else-lives-via-then-lives+else-not-held, else-lives-via-else-lives}
use Rattle.ix_tables.proofs.tables.Tables.let_go_pipe.Goals as goal

pub returns-then-n-self : goal.returns-then-n-self
returns-then-n-self c = none_goes _ _ _ _ _ _ _ _ c.self.invariant c.self.view_is c.args.n c.if-n-self.true c.requires

pub returns-then-not-held-2 : goal.returns-then-not-held-2
returns-then-not-held-2 c =
    ap (λ (ps : List (Option Pipe)). joined c.self.inside.limits c.self.inside.inodes c.self.inside.names ps c.self.inside.opens c.self.inside.homes.items) c.free.ensures
    ∙ goes_there _ _ _ _ _ _ _ _ c.self.invariant c.self.view_is c.args.n c.if-n-self.false (sym c.lives.ensures ∙ c.if-lives.true) (sym c.held.ensures
    ∙ c.if-not-held.true) (sym c.held-then-not-held.ensures ∙ c.if-not-held-2.true)

pub returns-else-lives : goal.returns-else-lives
returns-else-lives c = elim c.else-lives.branch [
  | else-lives-via-then-lives+then-not-held+else-not-held-2 w ↦ held_there _ _ _ _ _ _ _ _ c.self.invariant c.self.view_is c.args.n c.if-n-self.false
      (second_held (held c.self.inside.opens.opens c.args.n 0) (held c.self.inside.opens.opens c.args.n 1) (sym w.held-then-not-held.ensures
      ∙ w.if-not-held-2.false))
  | else-lives-via-then-lives+else-not-held w ↦ held_there _ _ _ _ _ _ _ _ c.self.invariant c.self.view_is c.args.n c.if-n-self.false
      (ap (λ (b : Bool). b || held c.self.inside.opens.opens c.args.n 1) (sym w.held.ensures ∙ w.if-not-held.false))
  | else-lives-via-else-lives w ↦ none_there _ _ _ _ _ _ _ _ c.self.invariant c.self.view_is c.args.n c.if-n-self.false (sym c.lives.ensures
      ∙ w.if-lives.false)
]
