-- What a look at an object comes to as a step of the world.
use Rattle.std.{proofs.Common.{◌≡◌, ℕ, Bool, true, false, List, Option, Some, refl, sym, ap, subst, ◌∙◌}, specs.Option.option_map_or}
use Rattle.ix_model.specs.{world.{World.{World, Frame, Object, Process, Holding, at, is_file}, Naming.PathOf}, laws.Sound.Sound, rows.Table.{verdict, row}}
use Rattle.ix_model.specs.rows.{Outcomes.{Outcome, Refuse, Pass}, OnDescriptors.LengthChecks, OnPaths.{stat_at, stat_passed}, Walks.object_at}
use Rattle.ix_model.specs.{rows.Telling.{told, nothing_told}, history.{AuditLog.is_answer, Step.{step, answer, plainly, stat_answer}, Events.Op}}
use Rattle.ix_model.{specs.declared.{ids.Obj.Obj, privs.PrivSet.PrivSet, reply.{Kind.Kind, Reply.Reply}}, proofs.words.{Ends.{Ends, Anything, ending}, Looks.ends_observe, Answered.passed}}
use Rattle.ix_tables.specs.Parts.{Parts}
use Rattle.ix_fcalls.{specs.{Around.{Around, frame_of, world_of}, Filed.{Answers, IsLook, Leaves, is_filed, lets_go}}, proofs.Answering.answers_plainly}
use Rattle.ix_fcalls.specs.Telling.{TellsOfFile, size_told, with_size}
use Rattle.ix_model.specs.history.Events as op
use Rattle.ix_model.specs.declared.reply.Kind.TheVariants as kind
use Rattle.ix_model.specs.declared.reply.Reply.TheVariants as reply

-- ---- a file that is told of is there
-- whatever a row comes to
any_outcome : {A : Type 0} (o : Outcome A) (Q : A → Frame → Type 0) → ((x : A) (g : Frame) → Q x g) → Ends o Anything Q
unfolding Ends
any_outcome (Refuse r g) Q h = tt
any_outcome (Pass x g) Q h = h x g

any_found : (pid : ℕ) (path : PathOf) (f : Frame) (Q : ℕ → Frame → Type 0) → ((o : ℕ) (g : Frame) → Q o g) → Ends (object_at pid path f) Anything Q
any_found pid path f Q h = any_outcome (object_at _ _ f) Q h

record Tells (objects : List (Option Object)) (r : Reply) : Type 0 where
  tells : TellsOfFile objects r

tells_passed : (objects : List (Option Object)) (o links : ℕ) (x : Object) → at objects o ≡ Some x → Tells objects (stat_passed o x links)
tells_passed objects o links x is = record { tells = go _ (ap (λ y. option_map_or is_file y false) is) }
  where
    go : (k : Kind) → option_map_or is_file (at objects o) false ≡ is_file (record x { kind = k }) → TellsOfFile objects (stat_passed o (record x { kind = k }) links)
    go kind.File there = there
    go kind.Dir there = tt
    go kind.Pipe there = tt

stat_ends : (pid : ℕ) (path : PathOf) (f : Frame) → Ends (stat_at pid path f) Anything (λ r g. Tells g.objects r)
unfolding stat_at
stat_ends pid path f = search (ending, any_found, ends_observe, tells_passed) depth 40 fits 8000

tells_decided : (m : LengthChecks) (place pid : ℕ) (path : PathOf) (f : Frame) → TellsOfFile (verdict m place pid (op.StatAt path) f).frame.objects (verdict m place pid (op.StatAt path) f).reply
unfolding row
tells_decided m place pid path f = go _ refl
  where
    facts : is_answer (verdict m place pid (op.StatAt path) f).reply ≡ true → TellsOfFile (verdict m place pid (op.StatAt path) f).frame.objects (verdict m place pid (op.StatAt path) f).reply
    facts h = (passed m _ _ _ f (λ r g. Tells _ r) (stat_ends _ _ f) h).tells

    go : (r : Reply) → (verdict m place pid (op.StatAt path) f).reply ≡ r → TellsOfFile (verdict m place pid (op.StatAt path) f).frame.objects r
    go (reply.No why) is = tt
    go r is = subst (λ s. TellsOfFile (verdict m place pid (op.StatAt path) f).frame.objects s) is (facts (ap is_answer is))

pub tells_file : (a : Around) (t u : Parts) (ps qs : List (Option Process)) (c : Op) (m : LengthChecks) (r : Reply) → IsLook c
    → r ≡ (verdict m a.place a.pid c (frame_of a t ps)).reply → frame_of a u qs ≡ (verdict m a.place a.pid c (frame_of a t ps)).frame → TellsOfFile u.objects r
tells_file a t u ps qs (op.StatAt path) m r look said stands = subst (λ s. TellsOfFile u.objects s) (sym said)
    (subst (λ g. TellsOfFile g.objects (verdict m a.place a.pid (op.StatAt path) (frame_of a t ps)).reply) (sym stands) (tells_decided m _ _ _ _))
tells_file a t u ps qs _ m r look said stands = absurd look

-- ---- sizes
-- what is no file keeps the size that is told
pub unsized_kind : (holdings : List Holding) (o size : ℕ) (k : Kind) → (k ≡ kind.File → ⊥) → size ≡ size_told holdings o k size
unsized_kind holdings o size kind.File not = absurd (not refl)
unsized_kind holdings o size _ not = refl

pub unsized : (holdings : List Holding) (r : Reply) → ((o : Obj) (k : Kind) (size links : ℕ) (frozen : Bool) (cap lic : PrivSet)
    → r ≡ reply.Stat o k size links frozen cap lic → ⊥) → r ≡ with_size holdings r
unsized holdings (reply.Stat o k size links frozen cap lic) not = absurd (not o k size links frozen cap lic refl)
unsized holdings _ not = refl

-- ---- the step
sized : (w : World) (r : Reply) (g : Frame) → stat_answer w r g ≡ plainly w (record { reply = with_size w.content.holdings r; frame = g })
unfolding stat_answer
sized w (reply.Stat o kind.File size links frozen cap lic) g = refl
sized w _ g = refl

stat_step : (w : World) (place pid : ℕ) (path : PathOf)
    → step w place pid (op.StatAt path) ≡ stat_answer w (verdict nothing_told place pid (op.StatAt path) w.frame).reply
    (verdict nothing_told place pid (op.StatAt path) w.frame).frame
unfolding step answer told
stat_step w place pid path = refl

pub answers_look : (a : Around) (t u : Parts) (ps qs : List (Option Process)) (c : Op) (r s : Reply) (buf : List ℕ) → IsLook c → Sound (world_of a t ps) → Leaves (lets_go c) a t u ps qs
    → r ≡ (verdict nothing_told a.place a.pid c (frame_of a t ps)).reply → frame_of a u qs ≡ (verdict nothing_told a.place a.pid c (frame_of a t ps)).frame → s ≡ with_size u.holdings r
    → Answers (step (world_of a t ps) a.place a.pid c) (world_of a u qs) s buf buf
answers_look a t u ps qs (op.StatAt path) r s buf look sound kept said stands is =
    let w = world_of a t ps in
    let g = (verdict nothing_told a.place a.pid (op.StatAt path) w.frame).frame in
    let told_is =
    ap (with_size t.holdings) (sym said) ∙ ap (λ hs. with_size hs r) (sym kept.holdings) ∙ sym is in
    answers_plainly a t u ps qs _ _ refl sound kept stands s _ (stat_step w _ _ _ ∙ sized w _ g ∙ ap (λ x. plainly w (record { reply = x; frame = g })) told_is)
answers_look a t u ps qs _ r s buf look sound kept said stands is = absurd look

pub look_filed : (c : Op) → IsLook c → is_filed c ≡ true
look_filed (op.StatAt path) look = refl
look_filed _ look = absurd look
