use Rattle.std.proofs.Common.{◌<◌, ◌-◌, length, slice_index_or, slice_set, sym, ap, ◌∙◌, subst}
use Rattle.ix_tables.specs.Parts.{Parts}
use Rattle.ix_fcalls.{specs.Around.{process_of}, proofs.{Callers.who_set, Bare.{home_within, home_some, left_content, left_counted}}}
use Rattle.ix_fcalls.proofs.files.Files.leave.Goals as goal

pub leave-requires-clause-within : goal.leave-requires-clause-within
leave-requires-clause-within g c = subst (λ (v : Parts). c.caller.result.now.cwd.0 < length v.homes) (sym c.self.view_is)
    (home_within g.R.Others.rest _ _ (process_of g.R.Others.rest c.caller.result.now) c.give_up_all.ensures.sound c.give_up_all.ensures.counted c.caller.ensures.living c.give_up_all.ensures.bare)

pub leave-requires-clause-some : goal.leave-requires-clause-some
leave-requires-clause-some g c = subst (λ (v : Parts). 0 < slice_index_or v.homes c.caller.result.now.cwd.0 0) (sym c.self.view_is)
    (home_some g.R.Others.rest _ _ (process_of g.R.Others.rest c.caller.result.now) c.give_up_all.ensures.sound c.give_up_all.ensures.counted c.caller.ensures.living c.give_up_all.ensures.bare)

pub returns-clause-content : goal.returns-clause-content
returns-clause-content g c =
    left_content g.R.Others.rest c.args.self.now c.give_up_all.new.self _ _ _ _ _ _ c.requires.sound c.give_up_all.ensures.leaves c.new-who.ensures
    (who_set g.R.Others.rest _ c.caller.ensures.pid ∙ sym c.caller.ensures.table)
    (c.leave.ensures ∙ ap (λ (v : Parts). record v { homes = slice_set v.homes c.caller.result.now.cwd.0 (slice_index_or v.homes c.caller.result.now.cwd.0 0 - 1) }) c.self.view_is)

pub returns-clause-counted : goal.returns-clause-counted
returns-clause-counted g c =
    left_counted g.R.Others.rest _ _ _ _ (process_of g.R.Others.rest c.caller.result.now) c.give_up_all.ensures.sound c.give_up_all.ensures.counted c.caller.ensures.living c.give_up_all.ensures.bare
    (who_set g.R.Others.rest _ c.caller.ensures.pid ∙ sym c.caller.ensures.table)
    (c.leave.ensures ∙ ap (λ (v : Parts). record v { homes = slice_set v.homes c.caller.result.now.cwd.0 (slice_index_or v.homes c.caller.result.now.cwd.0 0 - 1) }) c.self.view_is)
