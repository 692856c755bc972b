-- Claimed ends and whole paths: who gets through a claimed end, and what the claimants of a whole path read.
use Rattle.std.specs.Prelude.{◌≡◌, ℕ, suc, Bool, true, false, ◌&&◌, List, [], ◌∷◌, ◌++◌, Option, Some, None, if◌then◌else◌}
use Rattle.std.specs.Option.{option_map_or}
use Rattle.ix_model.specs.world.World.{World, Frame, Object, at, is_pipe, may_read, may_write, claimed_by_another, claimed_by}
use Rattle.ix_model.specs.rows.Walks.{OpenFile, behind}
use Rattle.ix_model.specs.history.Step.{Given, step, step_of, run, is_whole}
use Rattle.ix_model.specs.laws.WholePaths.{sent}
use Rattle.ix_model.specs.laws.Clean.{IsClean}
use Rattle.ix_model.specs.laws.Sound.{Sound}
use Rattle.ix_model.specs.history.Events.{Op, Event}
use Rattle.ix_model.specs.history.Events as op
use Rattle.ix_model.specs.declared.call.Mode.{Mode}
use Rattle.ix_model.specs.declared.refusal.Refusal.{Refusal}
use Rattle.ix_model.specs.declared.refusal.Refusal.TheVariants as refusal
use Rattle.ix_model.specs.declared.reply.Reply.{Reply}
use Rattle.ix_model.specs.declared.reply.Reply.TheVariants as reply

-- ---- claimed ends
-- a call that is refused so gives no bytes and changes nothing
pub record Stopped (w : World) (given : Given) (r : Refusal) : Type 0 where
  pub reply : given.reply ≡ reply.No r
  pub bytes : given.bytes ≡ []
  pub frame : given.world.frame ≡ w.frame
  pub content : IsClean w → given.world.content ≡ w.content

-- through the descriptor nothing is read or written, and the end isn't claimed
pub record NotThrough (w : World) (place pid fd : ℕ) (m : Mode) (x : Object) : Type 0 where
  pub reads : (count : ℕ) → Stopped w (step w place pid (op.ReadFd fd count)) (if may_read m then refusal.PexHeld else refusal.NotReadable)
  pub writes : (bytes : List ℕ) → Stopped w (step w place pid (op.WriteFd fd bytes)) (if may_write m then refusal.PexHeld else refusal.NotWritable)
  pub claims : is_pipe x ≡ true → Stopped w (step w place pid (op.Pex fd)) refusal.PexHeld

-- nobody but the claimant gets through a claimed end
abbrev pub OnlyClaimantsGetThrough : Type 0
OnlyClaimantsGetThrough = (w : World) (place pid fd : ℕ) (e : OpenFile) (x : Object) → behind w.frame pid fd ≡ Some e
    → at w.frame.objects e.entry.object ≡ Some x → claimed_by_another x e.entry.end pid ≡ true → NotThrough w place pid fd e.entry.mode x

-- ---- whole paths
-- whether a path is whole before each entry of a history, and after the last
unfoldable pub stays_whole : World → ℕ → List Event → ℕ → Bool
stays_whole w place [] o = is_whole w.frame o
stays_whole w place (e ∷ events) o = is_whole w.frame o && stays_whole (step_of w place e).world (suc place) events o

-- whether a process has claimed the end that an open entry is on
abbrev pub claims_its_end : Frame → ℕ → Option OpenFile → Bool
claims_its_end f pid None = false
claims_its_end f pid (Some e) = option_map_or (λ x. claimed_by x e.entry.end pid) (at f.objects e.entry.object) false

-- the bytes that a claimant wrote which can be read at that end of that pipe
abbrev pub sent_by_claimant : Frame → ℕ → Op → Reply → ℕ → ℕ → List ℕ
sent_by_claimant f pid (op.WriteFd fd bytes) r o end = if claims_its_end f pid (behind f pid fd) then sent f pid (op.WriteFd fd bytes) r o end else []
sent_by_claimant f pid c r o end = []

-- all that claimants wrote to it along a history, in order; the first entry is at this place
unfoldable pub written_by_claimants : World → ℕ → List Event → ℕ → ℕ → List ℕ
written_by_claimants w place [] o end = []
written_by_claimants w place (e ∷ events) o end = sent_by_claimant w.frame e.pid e.op (step_of w place e).reply o end ++ written_by_claimants (step_of w place e).world (suc place) events o end

-- bytes that stand in a row in a list
pub record IsInside (part whole : List ℕ) : Type 0 where
  pub before : List ℕ
  pub after : List ℕ
  pub is : whole ≡ before ++ (part ++ after)

-- Where a call made a path whole, and it has been whole since, all that is read from it was written by a claimant since.
-- The number of the pipe may have been another pipe's before.
abbrev pub ClaimantsReadWhatClaimantsWrote : Type 0
ClaimantsReadWhatClaimantsWrote = (w : World) (place pid : ℕ) (c : Op) (h : List Event) (o : ℕ) → Sound w → is_whole w.frame o ≡ false
    → stays_whole (step w place pid c).world (suc place) h o ≡ true → (n reader fd count : ℕ) (e : OpenFile)
    → behind (run (step w place pid c).world (suc place) h).frame reader fd ≡ Some e → e.entry.object ≡ o
    → IsInside (step (run (step w place pid c).world (suc place) h) n reader (op.ReadFd fd count)).bytes
    (written_by_claimants (step w place pid c).world (suc place) h o e.entry.end)
