use Rattle.std.proofs.Common.{sym, ◌∙◌, ap}
use Rattle.ix_label.{specs.Forms.all_of, proofs.Bits.{members-all_of_one, top-all_of}}
use Rattle.ix_label.proofs.label.Label.all_of.Goals as goal

pub returns-in-One : goal.returns-in-One
returns-in-One c = members-all_of_one ∙ ap all_of (sym c.in-One.is)

pub returns-in-Two : goal.returns-in-Two
returns-in-Two c = c.top.ensures ∙ top-all_of ∙ ap all_of (sym c.in-Two.is)
