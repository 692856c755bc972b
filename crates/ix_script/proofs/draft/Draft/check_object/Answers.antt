use Rattle.std.proofs.Common.{◌∙◌, refl, sym}
use Rattle.ix_script.proofs.draft.Draft.check_object.Goals as goal

pub returns-then-is_above : goal.returns-then-is_above
returns-then-is_above g c = λ o path label len. rw (sym (c.is_above.ensures o path label) ∙ c.if-is_above.true) refl

pub returns-then-is_misplaced : goal.returns-then-is_misplaced
returns-then-is_misplaced g c = λ o path label len. rw (
  sym (c.is_above.ensures o path label) ∙ c.if-is_above.false,
  sym (c.is_misplaced.ensures o (path ∙ sym c.path.ensures)) ∙ c.if-is_misplaced.true,
) refl

pub returns-then-lacks_room : goal.returns-then-lacks_room
returns-then-lacks_room g c = λ o path label len.
    rw (
      sym (c.is_above.ensures o path label) ∙ c.if-is_above.false,
      sym (c.is_misplaced.ensures o (path ∙ sym c.path.ensures)) ∙ c.if-is_misplaced.false,
      sym (c.lacks_room.ensures o path len) ∙ c.if-lacks_room.true,
    ) refl

pub returns : goal.returns
returns g c = λ o path label len.
    rw (
      sym (c.is_above.ensures o path label) ∙ c.if-is_above.false,
      sym (c.is_misplaced.ensures o (path ∙ sym c.path.ensures)) ∙ c.if-is_misplaced.false,
      sym (c.lacks_room.ensures o path len) ∙ c.if-lacks_room.false,
    ) refl
