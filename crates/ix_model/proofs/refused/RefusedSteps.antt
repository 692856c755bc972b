-- What a refused step leaves: the world but for the caller's label, joined with what the call had looked at.
use Rattle.std.proofs.Common.{◌≡◌, ℕ, ap, sym, ◌∙◌, subst}
use Rattle.ix_model.{specs.{world.World.{Frame, World}, rows.{OnDescriptors.LengthChecks, Table.{Decision, verdict}, Telling.told}, laws.Laws.Refused}, proofs.clean.Carrying.carried_same}
use Rattle.ix_model.specs.{history.{Step.step, Events.Op}, declared.refusal.Refusal.Refusal}
use Rattle.ix_model.proofs.{refused.{Refusing.{plain_answer, decided_frames}, SeeingRows.decided_seen}, words.Lasts.{Lasts, lasts_relabelled}}
use Rattle.ix_model.specs.declared.reply.Reply.TheVariants as reply

pub refused_step : (w : World) (place pid : ℕ) (c : Op) (r : Refusal) → (step w place pid c).reply ≡ reply.No r → Refused w pid c r (step w place pid c).world
unfolding step
refused_step w place pid c r is =
    let t : LengthChecks = told w pid c in
    let d : Decision = verdict t place pid c w.frame in
    let plain = plain_answer w pid c d r (λ refused. ap (λ (f : Frame). f.objects) (decided_frames t place pid c w.frame r refused).relabelled.is) is in
    let frames = decided_frames t place pid c w.frame r plain.reply in
    record {
      label = λ keeps. ap (λ (v : World). v.frame) plain.world ∙ (decided_seen t place pid c w.frame r plain.reply keeps).is;
      kept = λ keeps. ap (λ (v : World). v.frame) plain.world ∙ frames.kept keeps;
      content = λ clean. ap (λ (v : World). v.content) plain.world
          ∙ carried_same w d.frame (subst (λ (g : Frame). Lasts w.frame g) (sym frames.relabelled.is) (lasts_relabelled pid frames.relabelled.label w.frame))
          clean;
    }
