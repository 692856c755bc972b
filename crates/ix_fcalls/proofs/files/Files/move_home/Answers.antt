use Rattle.std.proofs.Common.{◌≡◌, ◌+◌, ◌-◌, ◌<◌, ap, sym, subst, ◌∙◌, length, length-set, slice_set, slice_index_or, arith}
use Rattle.ix_tables.specs.Parts.{Parts}
use Rattle.ix_fcalls.proofs.{Counting.homes_long, Moving.{is_there, few_left, moved_is, counted_moved}}
use Rattle.ix_fcalls.proofs.files.Files.move_home.Goals as goal

pub leave-requires-clause-within : goal.leave-requires-clause-within
leave-requires-clause-within g c =
    let home = c.requires.home _ c.caller.ensures.living in
    omega (arith, home, homes_long _ _ c.requires.counted, ap (λ (v : Parts). length v.homes) c.self.view_is)

pub leave-requires-clause-some : goal.leave-requires-clause-some
leave-requires-clause-some g c =
    let home : c.caller.result.now.cwd.0 < length c.args.self.now.objects = c.requires.home _ c.caller.ensures.living in
    subst (λ (v : Parts). 0 < slice_index_or v.homes c.caller.result.now.cwd.0 0) (sym c.self.view_is) (is_there _ _ c.requires.counted _ _ c.caller.ensures.living home)

pub settle-requires-clause-within : goal.settle-requires-clause-within
settle-requires-clause-within g c =
    let less : c.leave.new.self ≡ record c.args.self.now { homes = slice_set c.args.self.now.homes c.caller.result.now.cwd.0 (slice_index_or c.args.self.now.homes c.caller.result.now.cwd.0 0 - 1) } =
    c.leave.ensures ∙ ap (λ (v : Parts). let w : Parts =
    record v { homes = slice_set v.homes c.caller.result.now.cwd.0 (slice_index_or v.homes c.caller.result.now.cwd.0 0 - 1) } in w) c.self.view_is in
    omega (
      arith,
      c.requires.within,
      homes_long _ _ c.requires.counted,
      ap (λ (v : Parts). length v.homes) less,
      length-set c.args.self.now.homes c.caller.result.now.cwd.0 (slice_index_or c.args.self.now.homes c.caller.result.now.cwd.0 0 - 1),
    )

pub settle-requires-clause-few : goal.settle-requires-clause-few
settle-requires-clause-few g c =
    let home : c.caller.result.now.cwd.0 < length c.args.self.now.objects = c.requires.home _ c.caller.ensures.living in
    let less : c.leave.new.self ≡ record c.args.self.now { homes = slice_set c.args.self.now.homes c.caller.result.now.cwd.0 (slice_index_or c.args.self.now.homes c.caller.result.now.cwd.0 0 - 1) } =
    c.leave.ensures ∙ ap (λ (v : Parts). let w : Parts =
    record v { homes = slice_set v.homes c.caller.result.now.cwd.0 (slice_index_or v.homes c.caller.result.now.cwd.0 0 - 1) } in w) c.self.view_is in
    subst (λ (v : Parts). slice_index_or v.homes c.args.dir 0 + 1 < 4294967296) (sym less) (few_left _ _ c.requires.counted _ _
    c.caller.ensures.living home _ c.requires.within c.requires.few)

pub returns-clause-homes : goal.returns-clause-homes
returns-clause-homes g c =
    let home : c.caller.result.now.cwd.0 < length c.args.self.now.objects = c.requires.home _ c.caller.ensures.living in
    let less : c.leave.new.self ≡ record c.args.self.now { homes = slice_set c.args.self.now.homes c.caller.result.now.cwd.0 (slice_index_or c.args.self.now.homes c.caller.result.now.cwd.0 0 - 1) } =
    c.leave.ensures ∙ ap (λ (v : Parts). let w : Parts =
    record v { homes = slice_set v.homes c.caller.result.now.cwd.0 (slice_index_or v.homes c.caller.result.now.cwd.0 0 - 1) } in w) c.self.view_is in
    moved_is _ _ c.requires.counted _ _ c.caller.ensures.living home _ c.requires.within _ _ _ less c.settle.ensures c.set_cwd.ensures

pub returns-clause-counted : goal.returns-clause-counted
returns-clause-counted g c =
    let home = c.requires.home _ c.caller.ensures.living in
    counted_moved _ _ c.requires.counted _ _ c.caller.ensures.living home _ c.requires.within _
    _ (returns-clause-homes g c) c.set_cwd.ensures
