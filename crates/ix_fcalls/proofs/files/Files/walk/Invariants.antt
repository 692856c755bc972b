use Rattle.std.proofs.Common.{◌≡◌, ◌<◌, ◌≤◌, IsSome, length, option_map, None, if◌then◌else◌}
use Rattle.ix_model.specs.{rows.Walks.walk_from, world.Paths.{names_left, path_of}}
use Rattle.ix_fcalls.{specs.Views.seen_in, proofs.Walking.raised}
use Rattle.ix_fcalls.proofs.files.Files.walk.Given as goal

abbrev pub invariant-names : goal.invariant-names
invariant-names g l = (IsSome l.dir → 0 < length (path_of l.path).names) × (length (names_left l.left) ≤ length (path_of l.path).names)
    × (raised l.seen (walk_from l.self.objects l.at (option_map (λ d. d.0) l.dir) (names_left l.left))
    ≡ seen_in (walk_from l.self.objects (if l.path.absolute then 0 else l.who.cwd.0) None (path_of l.path).names))

abbrev pub decreases-names : goal.decreases-names
decreases-names g l = length (names_left l.left)
