-- An edit of a slot, as the pipe that it shows.
use Rattle.std.proofs.{Common.{◌≡◌, ℕ, Bool, true, false, List, set, Option, Some, None, option_map, is_some, refl, ap}, lemmas.List.map-set}
use Rattle.ix_label.specs.Category.{Categories}
use Rattle.ix_model.specs.{declared.ids.Pid.Pid, world.Contents.holds_nothing}
use Rattle.ix_pipe.specs.{Pipe.with_claim, Claims.{claimed_with, emptied}, Slots.shown}

abbrev pid_in : Option Pid → Option ℕ
pid_in q = option_map (λ p. p.0) q

-- a claim set
pub shown_claim : (b : Bool) (l : Categories) (cs : List (Option Pid)) (f s : List ℕ) (end : ℕ) (q : Option Pid)
    → shown b l (set cs end q) f s ≡ option_map (with_claim end (pid_in q)) (shown b l cs f s)
shown_claim true l cs f s end q = ap (λ (ps : List (Option ℕ)). Some (record { label = l; claims = ps; holding = record { first = f; second = s } })) (map-set pid_in cs end q)
shown_claim false l cs f s end q = refl

-- a claim where somebody has the other end, and where nobody has
pub shown_whole : (b : Bool) (l : Categories) (cs : List (Option Pid)) (f s : List ℕ) (end : ℕ) (q : Pid) (other : Option Pid) → is_some other ≡ true
    → option_map emptied (shown b l (set cs end (Some q)) f s) ≡ option_map (λ p. claimed_with (pid_in other) (with_claim end (Some q.0) p)) (shown b l cs f s)
shown_whole true l cs f s end q (Some r) h = ap (λ (ps : List (Option ℕ)). Some (record { label = l; claims = ps; holding = holds_nothing })) (map-set pid_in cs end (Some q))
shown_whole true l cs f s end q None h = absurd (cc h)
shown_whole false l cs f s end q other h = refl

pub shown_half : (b : Bool) (l : Categories) (cs : List (Option Pid)) (f s : List ℕ) (end : ℕ) (q : Pid) (other : Option Pid) → is_some other ≡ false
    → shown b l (set cs end (Some q)) f s ≡ option_map (λ p. claimed_with (pid_in other) (with_claim end (Some q.0) p)) (shown b l cs f s)
shown_half b l cs f s end q (Some r) h = absurd (cc h)
shown_half true l cs f s end q None h = ap (λ (ps : List (Option ℕ)). Some (record { label = l; claims = ps; holding = record { first = f; second = s } })) (map-set pid_in cs end (Some q))
shown_half false l cs f s end q None h = refl
