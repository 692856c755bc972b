-- What is made of narrow labels is narrow.
use Rattle.std.proofs.Common.{◌≡◌, true}
use Rattle.ix_label.specs.declared.form.Form.TheVariants.{One}
use Rattle.ix_label.specs.Category.{Categories, bottom, join, meet, leq, all_below}
use Rattle.ix_label.specs.Forms.{narrow, all_of, greatest}
use Rattle.ix_label.specs.Lattice.{leq-refl, leq-trans, bottom-leq, join-least, leq-meet_left, leq-meet_right}

pub narrow-bottom : narrow bottom ≡ true
unfolding narrow
narrow-bottom = bottom-leq (all_below 256)

pub narrow-all_of : narrow (all_of One) ≡ true
unfolding narrow all_of greatest
narrow-all_of = leq-refl (all_below 256)

-- what is at or below a narrow label
pub narrow-below : (a b : Categories) → leq a b ≡ true → narrow b ≡ true → narrow a ≡ true
unfolding narrow
narrow-below a b h k = leq-trans a b (all_below 256) h k

pub narrow-join : (a b : Categories) → narrow a ≡ true → narrow b ≡ true → narrow (join a b) ≡ true
unfolding narrow
narrow-join a b h k = join-least a b (all_below 256) h k

pub narrow-meet_left : (a b : Categories) → narrow a ≡ true → narrow (meet a b) ≡ true
narrow-meet_left a b h = narrow-below (meet a b) a (leq-meet_left a b) h

pub narrow-meet_right : (a b : Categories) → narrow b ≡ true → narrow (meet a b) ≡ true
narrow-meet_right a b h = narrow-below (meet a b) b (leq-meet_right a b) h
