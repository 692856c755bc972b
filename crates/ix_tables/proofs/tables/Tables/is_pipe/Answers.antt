use Rattle.std.{proofs.Common.{◌≡◌, ◌+◌, ◌-◌, ◌∙◌, ap, sym, false, length, arith}, specs.Option.option_map_or}
use Rattle.ix_model.specs.world.World.{at, is_pipe}
use Rattle.ix_tables.{specs.Parts.Parts, proofs.Telling.{inode_no_pipe, pipe_is_pipe}}
use Rattle.ix_tables.proofs.tables.Tables.is_pipe.Goals as goal

pub returns-then-n-self : goal.returns-then-n-self
returns-then-n-self c = sym (inode_no_pipe c.self.inside.inodes c.self.inside.names c.self.inside.pipes c.args.self.now.objects
    (ap (λ (v : Parts). v.objects) c.self.view_is) c.args.n (omega (arith, c.if-n-self.true, c.self.invariant.1)))

pub returns : goal.returns
returns c =
    let place : length c.self.inside.inodes.nodes + (c.args.n - c.self.inside.first_pipe) ≡ c.args.n = omega (arith, c.if-n-self.false, c.self.invariant.1) in
    c.lives.ensures
    ∙ sym (pipe_is_pipe c.self.inside.inodes c.self.inside.names c.self.inside.pipes c.args.self.now.objects (ap (λ (v : Parts). v.objects) c.self.view_is) (c.args.n - c.self.inside.first_pipe))
    ∙ ap (λ n. option_map_or is_pipe (at c.args.self.now.objects n) false) place
