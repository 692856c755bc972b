-- What a call that has nothing to look at tells of its process.
use Rattle.std.{proofs.Common.{◌≡◌, ℕ, true, false, not, Option, Some, ap, ◌∙◌}, specs.Option.option_map_or}
use Rattle.ix_model.{specs.{world.World.{Frame, Process, at, living, lives}, history.Events.Op}, proofs.words.Living.{is_living, not_ended}}
use Rattle.ix_model.specs.history.Events as op
use Rattle.ix_fcalls.specs.Tested.{IsKnown}

alive : (o : Option Process) (p : Process) → living o ≡ Some p → option_map_or (λ q. not q.ended) o false ≡ true
alive o p h = ap (λ (x : Option Process). option_map_or (λ q. not q.ended) x false) (is_living o p h) ∙ ap not (not_ended o p h)

-- it lives
pub known_lives : (f : Frame) (pid : ℕ) (o : Op) → IsKnown f pid o → lives f pid ≡ true
known_lives f pid (op.ReadFd fd count) k = alive (at f.processes pid) k.process k.lives
known_lives f pid (op.WriteFd fd bytes) k = alive (at f.processes pid) k.process k.lives
known_lives f pid _ k = absurd k
