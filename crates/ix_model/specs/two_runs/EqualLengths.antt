-- Two runs in which lengths and offsets are equal. Nothing is asked of their replies.
use Rattle.std.specs.Prelude.{◌≡◌, ℕ, suc, List, [], ◌∷◌, map, length}
use Rattle.ix_label.specs.Category.{Categories}
use Rattle.ix_model.specs.world.World.{World, Frame, Holding}
use Rattle.ix_model.specs.history.Step.{step_of}
use Rattle.ix_model.specs.two_runs.TwoRuns.{AlikeIn, IsHigh}
use Rattle.ix_model.specs.history.Events.{Op, Event}
use Rattle.ix_model.specs.history.Events as op

-- ---- worlds
-- every byte is 0; lengths stay
abbrev pub zeros : List ℕ → List ℕ
zeros bytes = map (λ b. 0) bytes

-- the same of both lists of an object
abbrev pub zeroed : Holding → Holding
zeroed h = record { first = zeros h.first; second = zeros h.second }

-- the world with every byte of every object and every exit status replaced by 0; lengths and offsets stay
unfoldable pub outline : World → World
outline w = record w { content = record w.content { holdings = map zeroed w.content.holdings; statuses = zeros w.content.statuses } }

-- two worlds are alike at L in length: they have one outline, and are equal in what L may know
pub record AlikeInLength (l : Categories) (v w : World) : Type 0 where
  pub outlines : outline v ≡ outline w
  pub inside : AlikeIn l v.frame v.content w.content

-- ---- histories
-- other bytes of the same length are written, or another status is given at exit
pub data ReplacedInLength : Op → Op → Type 0 where
  Written : {fd : ℕ} {a b : List ℕ} → length a ≡ length b → ReplacedInLength (op.WriteFd fd a) (op.WriteFd fd b)
  Exited : {s t : ℕ} → ReplacedInLength (op.Exit s) (op.Exit t)

-- two entries agree where they are equal, or where a process that isn't at or below L has bytes or a status replaced
pub data AgreeInLengthAt (l : Categories) (f : Frame) : Event → Event → Type 0 where
  Same : {e : Event} → AgreeInLengthAt l f e e
  Other : {seat line pid : ℕ} {a b : Op} → IsHigh l f pid → ReplacedInLength a b
      → AgreeInLengthAt l f (record { seat = seat; line = line; pid = pid; op = a }) (record { seat = seat; line = line; pid = pid; op = b })

-- two histories agree at L in length where they have one length and agree at each place; the worlds are those of the first run
abbrev pub AgreeInLength : Categories → World → ℕ → List Event → List Event → Type 0
AgreeInLength l w place [] [] = Unit {0}
AgreeInLength l w place [] (e ∷ others) = ⊥
AgreeInLength l w place (e ∷ events) [] = ⊥
AgreeInLength l w place (e ∷ events) (f ∷ others) = AgreeInLengthAt l w.frame e f × AgreeInLength l (step_of w place e).world (suc place) events others
