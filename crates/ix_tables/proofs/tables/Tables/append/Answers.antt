use Rattle.std.proofs.Common.{◌≡◌, ◌∙◌, ◌-◌, ◌++◌, true, Bool, ap, List, Option, refl, if◌then◌else◌}
use Rattle.ix_model.specs.world.{World.change, Contents.{side, with_side}}
use Rattle.ix_pipe.specs.Pipe.{Pipe, fits_at, with_more}
use Rattle.ix_tables.{specs.Joined.joined, proofs.{Refusing.not_refused, Piping.{is_past, is_living, fits_there, filled_there}}}
use Rattle.ix_tables.proofs.tables.Tables.append.Goals as goal

pub overflow_sub-n : goal.overflow_sub-n
overflow_sub-n c = is_past _ _ _ _ _ _ _ _ c.args.n c.self.invariant c.self.view_is c.requires.pipe

pub write-requires-clause-lives : goal.write-requires-clause-lives
write-requires-clause-lives c = is_living _ _ _ _ _ _ _ _ c.args.n c.self.invariant c.self.view_is c.requires.pipe

pub unreachable-requires : goal.unreachable-requires
unreachable-requires c = let room : fits_at c.self.inside.pipes (c.args.n - c.self.inside.first_pipe) (1 - c.args.end) c.args.bytes.now ≡ true =
    fits_there _ _ _ _ _ _ _ _ c.args.n c.self.invariant c.self.view_is c.requires.pipe (1 - c.args.end) c.args.bytes.now c.requires.room in
    not_refused (fits_at c.self.inside.pipes (c.args.n - c.self.inside.first_pipe) (1 - c.args.end) c.args.bytes.now) (record {}) c.in-Err.field-0
    c.write.result c.write.ensures.room c.in-Err.is room

pub returns : goal.returns
returns c =
    let room : fits_at c.self.inside.pipes (c.args.n - c.self.inside.first_pipe) (1 - c.args.end) c.args.bytes.now ≡ true =
    fits_there _ _ _ _ _ _ _ _ c.args.n c.self.invariant c.self.view_is c.requires.pipe (1 - c.args.end) c.args.bytes.now c.requires.room in
    ap (λ (ps : List (Option Pipe)). joined c.self.inside.limits c.self.inside.inodes c.self.inside.names ps c.self.inside.opens c.self.inside.homes.items)
    (c.write.ensures.bytes ∙ ap (λ (b : Bool). if b then
    change c.self.inside.pipes (c.args.n - c.self.inside.first_pipe) (with_more (1 - c.args.end) c.args.bytes.now) else c.self.inside.pipes) room)
    ∙ filled_there _ _ _ _ _ _ _ _ c.args.n c.self.invariant c.self.view_is c.requires.pipe (with_more (1 - c.args.end) c.args.bytes.now)
    (λ h. with_side (1 - c.args.end) (side (1 - c.args.end) h ++ c.args.bytes.now) h) (λ p. refl) (λ p. refl)
