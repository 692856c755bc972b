use Rattle.std.proofs.Common.{◌≡◌, ◌∙◌, [], ◌∷◌, refl, sym, rules}
use Rattle.ix_script.{specs.lines.{Before.{dir_spec, file_spec}, Faults.said_fault, Rules.{first_of, is_one_too_many, lacks_policy}}, proofs.lines.Refusals.{broken, kept, other_said}}
use Rattle.ix_script.proofs.draft.Draft.check_said.Given.{Over}
use Rattle.ix_script.proofs.draft.Draft.check_said.Goals.{After-is_one_too_many}
use Rattle.ix_script.proofs.draft.Draft.check_said.Goals.{in-Proc+else-not-fits+else-self-most, in-Limit+else-self-gt2, in-Fs+else-self-gt3, in_default}
use Rattle.ix_script.proofs.draft.Draft.check_said.Goals as goal

-- rules 22 to 25 are kept
first_kept : (g : Over) (c : After-is_one_too_many g) → said_fault c.args.self.now.lines.said c.args.line.now
    ≡ first_of ((26, is_one_too_many c.args.self.now.lines.said c.args.line.now) ∷ (28, lacks_policy c.args.self.now.lines.said c.args.line.now) ∷ [])
unfolding said_fault
first_kept g c = elim c.match-line.branch [
  | in-Proc+else-not-fits+else-self-most w ↦ search rules
  | in-Limit+else-self-gt2 w ↦ search rules
  | in-Fs+else-self-gt3 w ↦ search rules
  | in_default w ↦ other_said _ _ w.in_default.not-Proc w.in_default.not-Dir w.in_default.not-File w.in_default.not-Limit w.in_default.not-Fs
]

pub returns-in-Dir : goal.returns-in-Dir
unfolding said_fault
returns-in-Dir g c = rw c.in-Dir.is (c.check_object.ensures (dir_spec c.in-Dir.path c.in-Dir.label c.in-Dir.frozen) refl refl refl)

pub returns-in-File : goal.returns-in-File
unfolding said_fault
returns-in-File g c =
    rw c.in-File.is (c.check_object-in-File.ensures (file_spec c.in-File.path c.in-File.label c.in-File.frozen c.in-File.cap c.in-File.lic c.in-File.bytes) refl refl (sym c.len.ensures.len))

pub returns-then-is_one_too_many : goal.returns-then-is_one_too_many
returns-then-is_one_too_many g c = first_kept g c.before ∙ broken 26 _ ((28, lacks_policy c.args.self.now.lines.said c.args.line.now) ∷ []) (sym c.is_one_too_many.ensures ∙ c.if-is_one_too_many.true)

pub returns-then-lacks_policy : goal.returns-then-lacks_policy
returns-then-lacks_policy g c =
    let few = kept 26 _ ((28, lacks_policy c.args.self.now.lines.said c.args.line.now) ∷ []) (sym c.is_one_too_many.ensures ∙ c.if-is_one_too_many.false) in
    first_kept g c.before.before.before ∙ few ∙ broken 28 _ [] (sym c.lacks_policy.ensures ∙ c.if-lacks_policy.true)

pub returns : goal.returns
returns g c =
    let few = kept 26 _ ((28, lacks_policy c.args.self.now.lines.said c.args.line.now) ∷ []) (sym c.is_one_too_many.ensures ∙ c.if-is_one_too_many.false) in
    first_kept g c.before.before.before ∙ few ∙ kept 28 _ [] (sym c.lacks_policy.ensures ∙ c.if-lacks_policy.false)
