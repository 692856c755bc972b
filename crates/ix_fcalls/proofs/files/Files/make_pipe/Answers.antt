use Rattle.std.{proofs.Common.{◌≡◌, ◌<◌, ◌∙◌, ℕ, [], Option, Some, refl, sym, ap, subst, inl, inr, count_by, is_none, arith}, specs.Option.option_map_or}
use Rattle.ix_label.specs.Category.{bottom}
use Rattle.ix_model.specs.{laws.Sound.Sound, world.World.{Frame, Process, at, put, living, lowest_free}, rows.{Outcomes.Refuse, OnDescriptors.make_pipe}}
use Rattle.ix_tables.specs.{Parts.Parts, Views.vacant_pipe}
use Rattle.ix_fcalls.{specs.{Around.world_of, Counted.Keeps}, proofs.{Ends.{few_free, kept_made}, Giving.free_there}}
use Rattle.ix_model.specs.declared.call.Mode.TheVariants as mode
use Rattle.ix_model.specs.declared.refusal.Refusal.TheVariants as refusal
use Rattle.ix_fcalls.proofs.files.Files.make_pipe.Goals as goal

-- with a pipe and both descriptors found, the row refuses where fewer than two entries are free
too_few : (f : Frame) (pid n a b : ℕ) (p q : Process) → Some n ≡ vacant_pipe f.fss f.objects → living (at f.processes pid) ≡ Some p
    → living (at f.processes pid) ≡ Some q → lowest_free p.fds ≡ Some a → lowest_free (put q.fds a (Some 0)) ≡ Some b → count_by is_none f.opens < 2
    → make_pipe pid f ≡ Refuse refusal.NoOpen f
unfolding make_pipe Rattle.ix_model.specs.world.Numbers.free_pipe Rattle.ix_model.specs.rows.Rows.◌>>=◌ Rattle.ix_model.specs.rows.Rows.on_pass
    Rattle.ix_model.specs.rows.Rows.frame Rattle.ix_model.specs.rows.Rows.process Rattle.ix_model.specs.rows.Rows.some Rattle.ix_model.specs.rows.Rows.pass
    Rattle.ix_model.specs.rows.Rows.refuse
too_few f pid n a b p q pipe lives again first second few =
    let same : p.fds ≡ q.fds = ap (λ (o : Option Process). option_map_or (λ r. r.fds) o []) (sym lives ∙ again) in
    let beside : lowest_free (put p.fds a (Some 0)) ≡ Some b = ap (λ fds. lowest_free (put fds a (Some 0))) same ∙ second in
    elim (few_free f.opens (record { object = n; end = 0; mode = mode.Both; label = bottom }) few) [
      | inl none ↦ rw (sym pipe, lives, first, beside, none) refl
      | inr left ↦ rw (sym pipe, lives, first, beside, left.is, left.alone) refl
    ]

pub returns-then-free_opens-lt2-clause-row : goal.returns-then-free_opens-lt2-clause-row
returns-then-free_opens-lt2-clause-row g c =
    let vacant = sym c.in_ok-n.ensures.ok_part ∙ c.vacant_pipe.ensures.vacant in
    let few : count_by is_none c.args.self.now.opens < 2 = omega (arith, c.if-free_opens-lt2.true, c.free_opens.ensures, ap (λ (v : Parts). count_by is_none v.opens) c.self.view_is) in
    too_few _ _ _ _ _
    _ _ (vacant ∙ ap (λ v. vacant_pipe v.fss v.objects) c.self.view_is) c.caller.ensures.living c.caller-2.ensures.living (sym c.free_fd.ensures.free
    ∙ c.in_ok-a.ensures.ok_part) (sym c.second_fd.ensures.second ∙ c.in_ok-b.ensures.ok_part) few

pub open_both-requires-clause-first : goal.open_both-requires-clause-first
open_both-requires-clause-first g c = free_there g.R.Others.rest c.caller.result.now c.args.who.now _ c.caller.ensures.living (sym c.in_ok-a.ensures.ok_part ∙ c.free_fd.ensures.free)

pub returns-clause-kept : goal.returns-clause-kept
returns-clause-kept g c =
    let vacant : Some c.in_ok-n.n ≡ vacant_pipe c.self.inside.tables.fss c.self.inside.tables.objects = sym c.in_ok-n.ensures.ok_part ∙ c.vacant_pipe.ensures.vacant in
    subst (λ (v : Parts). Keeps v c.open_both.new.self) c.self.view_is (kept_made g.R.Others.rest _ _ _ _ _ _ _ _
    (subst (λ (v : Parts). Sound (world_of g.R.Others.rest v c.args.who.now)) (sym c.self.view_is) c.requires.sound) vacant c.make_pipe.ensures c.open_both.ensures.new)
