use Rattle.std.{proofs.Common.{◌||◌, ◌&&◌, sym, ap, ◌∙◌}, specs.{BTreeSet.contains, List.list_any}}
use Rattle.ix_model.specs.world.Naming.{same_bytes}
use Rattle.ix_script.specs.{declared.index.Place.Place, reader.Indexed.{is_named, place_cmp}}
use Rattle.ix_script.proofs.index.Given.has.Goals as goal

pub returns-then-is_near : goal.returns-then-is_near
returns-then-is_near c = λ items are.
    let p : Place = record { name = record { name = c.args.word }; lane = record { name = c.in-Some.lane } } in
    let near =
    sym (c.is_near.ensures ∙ ap (list_any _) c.as_slice.ensures.value) ∙ c.if-is_near.true in
    rw c.in-Some.is (c.if-is_near.true ∙ sym (ap (λ b. b || contains place_cmp c.args.self.now.index p) near) ∙ are.0 p)

pub returns-else-is_near : goal.returns-else-is_near
returns-else-is_near c = λ items are.
    let p = c.place_of.result in
    let near =
    sym (c.is_near.ensures ∙ ap (list_any _) c.as_slice.ensures.value) ∙ c.if-is_near.false in
    let not_near = (λ i. list_any (is_named (c.place_of.ensures.lane i) (c.place_of.ensures.name i)) c.args.self.now.near.items) ∙ near in
    rw c.in-Some.is (c.contains.ensures ∙ sym (ap (λ b. b || contains place_cmp c.args.self.now.index p) not_near) ∙ are.0 p
    ∙ (λ i. list_any (λ n. same_bytes (c.place_of.ensures.lane i) n.0 && same_bytes (c.place_of.ensures.name i) n.1) items))
