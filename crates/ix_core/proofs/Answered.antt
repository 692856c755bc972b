-- What a core answers where its machine's step gave a reply.
use Rattle.std.proofs.Common.{◌≡◌, ◌+◌, ℕ, List, length, refl, sym, ap, ◌∙◌, subst}
use Rattle.ix_model.{specs.{world.World.World, history.{Events.Event, History.{History, next}, Shown.AreShown, Step.{step, put_front}}}, proofs.clean.Showing.shown_step}
use Rattle.ix_model.specs.{history.Systems.{FitsCall, LeavesRest}, declared.{config.Config.Config, reply.Reply.Reply}}
use Rattle.ix_journal.specs.Entries.{Entries, Fits, with_event}
use Rattle.ix_fcalls.specs.Filed.{Answers}
use Rattle.ix_marks.specs.Known.{Known}
use Rattle.ix_core.specs.{Marking.{AreTold, IsKept}, Stepping.{StandsFor, Shows, AnswersAlike}}
use Rattle.ix_core.proofs.{Keeping.marked_next, Standing.{answers_alike, fits_next, gives_next, rest_stays, shows, stands_next}}
use Rattle.ix_model.specs.declared.reply.Answer.TheVariants as answer

-- what a core says of a reply
pub record Replied (h : History) (e : Event) (r : Reply) (before after : List ℕ) : Type 0 where
  pub reply : r ≡ (next h e).reply
  pub bytes : after ≡ put_front (next h e).bytes before
  pub shown : Shows (answer.Given r) after (next h e).bytes
  pub fits : FitsCall e.op r
  pub rest : LeavesRest (answer.Given r) before after
  pub alike : AnswersAlike (answer.Given r) h e before after

pub replied : (w : World) (j : Entries) (k h : History) (place : ℕ) (e : Event) (v : World) (r : Reply) (before after : List ℕ) → StandsFor w j k → k ≡ h → place ≡ length k.events
    → Answers (step w (place + 1) e.pid e.op) v r before after → Replied h e r before after
replied w j k h place e v r before after s same count a =
    let is = gives_next w j k h _ e s same count in
    let said = a.reply ∙ ap (λ x. x.reply) is in
    let put = a.bytes ∙ ap (λ x. put_front x.bytes before) is in
    let are = subst (λ x. AreShown x (next h e).bytes) (sym said) (shown_step _ _ _ _) in
    record {
      reply = said;
      bytes = put;
      shown = shows r _ _ _ are put;
      fits = fits_next w j k h e r s same said;
      rest = rest_stays r _ _ _ are put;
      alike = answers_alike h e r _ _ said put;
    }

-- what a core keeps after a reply, with the marks that it was told of
pub kept_next : (w v : World) (j n : Entries) (f : Config) (place : ℕ) (e : Event) (l m : Known) (r : Reply) (before after : List ℕ)
    → IsKept w j l (record { config = f; events = j.events }) → place ≡ length j.events → Fits j e → Answers (step w (place + 1) e.pid e.op) v r before after
    → AreTold l m w (place + 1) e.pid e.op → n ≡ with_event e j → IsKept v n m (record { config = f; events = n.events })
kept_next w v j n f place e l m r before after k count fits a told is =
    let h : History = record { config = f; events = j.events } in
    let at = ap (λ x. x + 1) count in
    let stands = stands_next w v j h e k.stands refl fits (a.world ∙ ap (λ x. (step w x e.pid e.op).world) at) in
    let here = subst (λ u. AreTold l m u (length j.events + 1) e.pid e.op) k.stands.run (subst (λ x. AreTold l m w x e.pid e.op) at told) in
    let marked = marked_next l h k.stands.valid k.marked m e here in
    subst (λ x. IsKept v x m (record { config = f; events = x.events })) (sym is) (record { stands = stands; marked = marked })
