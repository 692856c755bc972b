use Rattle.std.{proofs.Common.{◌||◌, sym, ap, ◌∙◌}, specs.{BTreeSet.contains, List.list_any}}
use Rattle.ix_script.{specs.{declared.index.Place.Place, reader.Indexed.place_cmp}, proofs.reader.Indexing.named_well}
use Rattle.ix_script.proofs.index.Given.has_near.Goals as goal

pub returns-in-Some-clause-given : goal.returns-in-Some-clause-given
returns-in-Some-clause-given c = λ items are is.
    let p : Place = record { name = record { name = c.args.word }; lane = record { name = c.in-Some.lane } } in
    let near =
    sym (c.is_near.ensures ∙ ap (list_any _) c.as_slice.ensures.value) ∙ is in
    rw c.in-Some.is (sym (are.0 p) ∙ ap (λ b. b || contains place_cmp c.args.self.now.index p) near)

pub returns-in-Some-clause-name : goal.returns-in-Some-clause-name
returns-in-Some-clause-name c = λ items are is.
    let near =
    sym (c.is_near.ensures ∙ ap (list_any _) c.as_slice.ensures.value) ∙ is in
    named_well _ _ _ near are.1
