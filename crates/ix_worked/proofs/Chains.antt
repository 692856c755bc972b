-- A history shows what its steps give, one after another.
use Rattle.std.{proofs.Common.{◌≡◌, ℕ, zero, suc, ◌+◌, ◌&&◌, List, [], ◌∷◌, ◌++◌, length, take, if◌then◌else◌, refl, ap, ◌∙◌, arith}, specs.Option.option_map_or}
use Rattle.ix_model.specs.{world.World.World, history.{Step.{Given, answer, step, step_of, run}, Events.{Op, Event}}, opening.Opening.opening_world}
use Rattle.ix_model.specs.{history.AuditLog.{is_answer, is_licensed, exercises, line_of_act, lines_added, audit_log}, rows.{Table.{Decision, verdict}, Telling.told}}
use Rattle.ix_model.specs.declared.{audit.AuditLine.AuditLine, config.Config.Config, refusal.Refusal.Refusal, reply.Reply.Reply}
use Rattle.ix_worked.specs.Sessions.{Line, Shown, line_of, lines_of, labels_in, shown_from, shown, log_of}
use Rattle.ix_model.specs.history.Events as op
use Rattle.ix_model.specs.declared.reply.Reply.TheVariants as reply

infixr 5 ◌⨾◌
-- what an answer by a number, one by bytes and a refusal give
abbrev pub number : World → ℕ → Given
number w n = record { world = w; reply = reply.Number n; bytes = [] }

abbrev pub bytes : World → List ℕ → Given
bytes w text = record { world = w; reply = reply.Bytes (length text); bytes = text }

abbrev pub refused : World → Refusal → Given
refused w why = record { world = w; reply = reply.No why; bytes = [] }

-- any other answer
abbrev pub answered : World → Reply → Given
answered w r = record { world = w; reply = r; bytes = [] }

abbrev pub done : World → Given
done w = answered w reply.Done

-- what is decided before that is given: what is filled in from the content is 0 in it
abbrev reply_before : Op → Reply → Reply
reply_before (op.ReadFd fd count) (reply.Bytes k) = reply.Bytes 0
reply_before (op.WriteFd fd new) (reply.Number k) = reply.Number 0
reply_before (op.StatAt path) (reply.Stat o kind size links frozen cap lic) = reply.Stat o kind 0 links frozen cap lic
reply_before op.WaitChild (reply.Child p status) = reply.Child p 0
reply_before _ r = r

abbrev pub decision_before : Op → Given → Decision
decision_before o g = record { reply = reply_before o g.reply; frame = g.world.frame }

-- A call gives that: it is decided on the frame, and then answered from the content. The two are computed one after the
-- other, since what waits on a label is written out for each number that the content has.
abbrev pub Steps : World → ℕ → ℕ → Op → Given → Type 0
Steps w place pid o g = (verdict (told w pid o) place pid o w.frame ≡ decision_before o g) × (answer w pid o (decision_before o g) ≡ g)

pub stepped : (w : World) (place pid : ℕ) (o : Op) (g : Given) → Steps w place pid o g → step w place pid o ≡ g
unfolding step
stepped w place pid o g h = ap (answer w pid o) h.0 ∙ h.1

-- a link, and the rest of a chain
pub data Chained (A B : Type 0) : Type 0 where
  ◌⨾◌ : A → B → Chained A B

-- each entry gives the one that stands at its place, and the next is made from the world after it
abbrev pub Gives : World → ℕ → List Event → List Given → Type 0
Gives w place [] gs = Unit
Gives w place (e ∷ events) [] = ⊥
Gives w place (e ∷ events) (g ∷ gs) = Chained (Steps w place e.pid e.op g) (Gives g.world (suc place) events gs)

abbrev pub lines_by : List Event → List Given → List Line
lines_by [] gs = []
lines_by (e ∷ events) [] = []
lines_by (e ∷ events) (g ∷ gs) = line_of e g ∷ lines_by events gs

abbrev pub last_of : World → List Event → List Given → World
last_of w [] gs = w
last_of w (e ∷ events) [] = w
last_of w (e ∷ events) (g ∷ gs) = last_of g.world events gs

-- the lines of a history are those of what is given, and so is its last world
pub lines_given : (w : World) (place : ℕ) (events : List Event) (gs : List Given) → Gives w place events gs → lines_of w place events ≡ lines_by events gs
lines_given w place [] gs h = refl
lines_given w place (e ∷ events) [] h = absurd h
lines_given w place (e ∷ events) (g ∷ gs) (link ⨾ links) =
    ap (λ x. line_of e x ∷ lines_of x.world (suc place) events) (stepped w place e.pid e.op g link)
    ∙ ap (λ ls. line_of e g ∷ ls) (lines_given g.world (suc place) events gs links)

pub run_given : (w : World) (place : ℕ) (events : List Event) (gs : List Given) → Gives w place events gs → run w place events ≡ last_of w events gs
run_given w place [] gs h = refl
run_given w place (e ∷ events) [] h = absurd h
run_given w place (e ∷ events) (g ∷ gs) (link ⨾ links) = ap (λ x. run x.world (suc place) events) (stepped w place e.pid e.op g link) ∙ run_given g.world (suc place) events gs links

-- the lines that are given, and the labels of the last world
abbrev pub shown_by : World → List Event → List Given → Shown
shown_by w events gs = record {
  lines = lines_by events gs;
  objects = labels_in (λ o. o.label) 0 (last_of w events gs).frame.objects;
  processes = labels_in (λ p. p.label) 0 (last_of w events gs).frame.processes;
  log = (last_of w events gs).frame.log;
}

pub shown_given : (c : Config) (w : World) (events : List Event) (gs : List Given) → opening_world c ≡ w → Gives w 1 events gs → shown c events ≡ shown_by w events gs
shown_given c w events gs opening h = ap (λ v. shown_from v events) opening ∙ (λ i. record {
  lines = lines_given w 1 _ gs h i;
  objects = labels_in (λ o. o.label) 0 (run_given w 1 _ gs h i).frame.objects;
  processes = labels_in (λ p. p.label) 0 (run_given w 1 _ gs h i).frame.processes;
  log = (run_given w 1 _ gs h i).frame.log;
})

-- the lines of the licensed entries among those that give these
abbrev lines_for : World → ℕ → Event → Given → List AuditLine
lines_for w place e g = if is_answer g.reply && exercises w.frame e.pid e.op then option_map_or (λ l. l ∷ []) (line_of_act w.frame g.world.frame place e.pid e.op) [] else []

abbrev pub log_by : World → ℕ → List Event → List Given → List AuditLine
log_by w place [] gs = []
log_by w place (e ∷ events) [] = []
log_by w place (e ∷ events) (g ∷ gs) = lines_for w place e g ++ log_by g.world (suc place) events gs

log_given_from : (w : World) (place : ℕ) (events : List Event) (gs : List Given) → Gives w place events gs → audit_log w place events ≡ log_by w place events gs
unfolding audit_log lines_added is_licensed
log_given_from w place [] gs h = refl
log_given_from w place (e ∷ events) [] h = absurd h
log_given_from w place (e ∷ events) (g ∷ gs) (link ⨾ links) =
    ap (λ x. lines_for w place e x ++ audit_log x.world (suc place) events) (stepped w place e.pid e.op g link)
    ∙ ap (λ ls. lines_for w place e g ++ ls) (log_given_from g.world (suc place) events gs links)

pub log_given : (c : Config) (w : World) (events : List Event) (gs : List Given) → opening_world c ≡ w → Gives w 1 events gs → log_of c events ≡ log_by w 1 events gs
log_given c w events gs opening h = ap (λ v. audit_log v 1 events) opening ∙ log_given_from w 1 _ gs h

-- a history's beginning gives the beginning of what it gives
pub gives_some : (n : ℕ) (w : World) (place : ℕ) (events : List Event) (gs : List Given) → Gives w place events gs → Gives w place (take n events) (take n gs)
gives_some zero w place events gs h = tt
gives_some (suc n) w place [] gs h = tt
gives_some (suc n) w place (e ∷ events) [] h = absurd h
gives_some (suc n) w place (e ∷ events) (g ∷ gs) (link ⨾ links) = link ⨾ gives_some n _ _ _ gs links

-- the lines of a history in two parts
pub lines_more : (w : World) (place : ℕ) (es fs : List Event) → lines_of w place (es ++ fs) ≡ lines_of w place es ++ lines_of (run w place es) (length es + place) fs
lines_more w place [] fs = ap (λ p. lines_of w p fs) (let e : place ≡ 0 + place = omega arith in e)
lines_more w place (e ∷ es) fs =
    let v = (step_of w place e).world in
    let same : length es + suc place ≡ suc (length es) + place = omega arith in
    ap (λ ls. line_of e (step_of w place e) ∷ ls)
    (lines_more v _ es fs ∙ ap (λ p. lines_of v (suc place) es ++ lines_of (run v (suc place) es) p fs) same)
