use Rattle.std.proofs.Common.{◌≡◌, true, inl, inr, refl}
use Rattle.ix_text.specs.Names.{is_script_name}
use Rattle.ix_script.specs.{lines.Before.{fds_given, proc_names}, texts.Cutting.word_at}
use Rattle.ix_script.proofs.lines.{NearNames.{both_right, proc_right}, Readings.none_broken}
use Rattle.ix_script.proofs.draft.Draft.near_names.Goals as goal

pub returns-then-not-has_near-clause-right : goal.returns-then-not-has_near-clause-right
returns-then-not-has_near-clause-right c = none_broken

pub returns-in_default-clause-right : goal.returns-in_default-clause-right
returns-in_default-clause-right c = none_broken

pub returns-in_default-2-clause-right : goal.returns-in_default-2-clause-right
returns-in_default-2-clause-right c = none_broken

pub returns-in-OnFd-clause-right : goal.returns-in-OnFd-clause-right
returns-in-OnFd-clause-right c =
    let lines = c.args.self.now.lines.said in
    let proc : is_script_name (word_at c.args.words.now 1) ≡ true = rw c.get.ensures at (c.if-not-has_near.ensures.name (proc_names lines) c.requires.told.header.procs refl) in
    let fd : is_script_name (word_at c.args.words.now 2) ≡ true = rw c.get-fd.ensures at (c.if-has_near.ensures.name (fds_given lines) c.requires.told.body.fds refl) in
    let right = both_right _ _ proc fd in
    elim c.in-OnFd.is [
      | inl e ↦ rw e.1 right
      | inr (inl e) ↦ rw e.1 right
      | inr (inr (inl e)) ↦ rw e right
      | inr (inr (inr e)) ↦ rw e right
    ]

pub returns-in-Plain-clause-right : goal.returns-in-Plain-clause-right
returns-in-Plain-clause-right c =
    let proc : is_script_name (word_at c.args.words.now 1) ≡ true = rw c.get.ensures at (c.if-not-has_near.ensures.name (proc_names c.args.self.now.lines.said) c.requires.told.header.procs refl) in
    let right = proc_right _ proc in
    elim c.in-Plain.is [
      | inl e ↦ rw e.1 right
      | inr (inl e) ↦ rw e.1 right
      | inr (inr (inl e)) ↦ rw e right
      | inr (inr (inr (inl e))) ↦ rw e right
      | inr (inr (inr (inr e))) ↦ rw e right
    ]

pub returns-in-List-clause-right : goal.returns-in-List-clause-right
returns-in-List-clause-right c =
    let proc : is_script_name (word_at c.args.words.now 1) ≡ true = rw c.get.ensures at (c.if-not-has_near.ensures.name (proc_names c.args.self.now.lines.said) c.requires.told.header.procs refl) in
    let right = proc_right _ proc in
    elim c.in-List.is [
      | inl e ↦ rw e right
      | inr (inl e) ↦ rw e right
      | inr (inr (inl e)) ↦ rw e right
      | inr (inr (inr (inl e))) ↦ rw e right
      | inr (inr (inr (inr e))) ↦ rw e right
    ]
