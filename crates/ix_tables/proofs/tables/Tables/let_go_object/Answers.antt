use Rattle.std.proofs.Common.{◌∙◌, sym, arith, length-set, None}
use Rattle.ix_tables.proofs.Unmaking.{piped, idle_bare, idle_joined, idle_gone}
use Rattle.ix_tables.proofs.tables.Tables.let_go_object.Goals as goal

pub let_go_pipe-requires : goal.let_go_pipe-requires
let_go_pipe-requires c = piped _ _ _ _ _ _ _ c.self.invariant.0 c.self.view_is c.args.n (omega (arith, c.if-n-self.true, c.self.invariant.1))

pub free-requires : goal.free-requires
free-requires c = (idle_bare _ _ _ _ _ _ _ c.self.invariant.0 c.self.view_is c.args.n (omega (arith, c.if-n-self.false, c.self.invariant.1)) (sym c.is_idle.ensures
    ∙ c.if-is_idle.true)).0

pub invariant_of-self : goal.invariant_of-self
invariant_of-self c = (
  idle_joined _ _ _ _ _ _ _ c.self.invariant.0 c.self.view_is c.free.new.self c.args.n (omega (arith, c.if-n-self.false, c.self.invariant.1)) (sym c.is_idle.ensures
      ∙ c.if-is_idle.true) c.free.ensures,
  c.self.invariant.1 ∙ sym (rw c.free.ensures (length-set c.self.inside.inodes.nodes c.args.n None)),
)

pub returns-then-is_idle : goal.returns-then-is_idle
returns-then-is_idle c = idle_gone _ _ _ _ _ _ _ c.self.invariant.0 c.self.view_is c.free.new.self c.args.n (omega (arith, c.if-n-self.false, c.self.invariant.1))
    (sym c.is_idle.ensures ∙ c.if-is_idle.true) c.free.ensures
