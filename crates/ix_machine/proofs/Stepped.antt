-- Steps that are refused, and steps that leave what the world holds.
use Rattle.std.proofs.Common.{◌≡◌, ◌&&◌, ℕ, Bool, true, false, not, List, [], Option, Some, None, option_map, unwrap_or, refl, sym, ap, subst, ◌∙◌}
use Rattle.std.proofs.Common.{if◌then◌else◌}
use Rattle.ix_model.specs.world.{World.{World, Frame, Process, at, lives, living}, Contents.{after_exit, carried, status_of}, Callers.with_caller}
use Rattle.ix_model.specs.{laws.Clean.IsClean, rows.OnDescriptors.{LengthChecks, pex}, rows.OnProcesses.{fork, exit, wait_child, wait_passed}}
use Rattle.ix_model.specs.{rows.Outcomes.{Refuse, Pass}, rows.Refusals.keeps_label, rows.Table.{Decision, verdict, row}, rows.Telling.{told, nothing_told}}
use Rattle.ix_model.specs.{rows.Walks.{OpenFile, behind}, rows.OnLabels.self_label, history.Events.Op}
use Rattle.ix_model.specs.declared.{call.Keep.Keep, refusal.Refusal.Refusal, reply.Reply.Reply, views.Caller.Caller}
use Rattle.ix_model.specs.history.Events as op
use Rattle.ix_model.specs.history.Step.{Given, step, answer, plainly, read_answer, write_answer, cut_answer, seek_answer, stat_answer, exit_answer, wait_answer}
use Rattle.ix_model.specs.history.Step.{pex_answer, is_whole, put_front}
use Rattle.ix_model.specs.declared.refusal.Refusal.TheVariants as refusal
use Rattle.ix_model.specs.declared.reply.Reply.TheVariants as reply
use Rattle.ix_model.proofs.{clean.Carrying.carried_decided, frames.Floats.floats_itself, sound.Carried.carried_floats, words.Lasts.lets_nothing_go}
use Rattle.ix_fcalls.specs.{Around.no_process, Filed.Answers}
use Rattle.ix_machine.specs.OwnCalls.{is_still, is_tested}

pub answers : (given : Given) (w : World) (r : Reply) (buf : List ℕ) → given ≡ record { world = w; reply = r; bytes = [] } → Answers given w r buf buf
answers given w r buf is = record {
  world = sym (ap (λ (g : Given). g.world) is);
  reply = sym (ap (λ (g : Given). g.reply) is);
  bytes = sym (ap (λ (g : Given). put_front g.bytes buf) is);
}

-- ---- a refusal that leaves the frame
read_no : (w : World) (count : ℕ) (b : Option OpenFile) (r : Refusal) (g : Frame) → read_answer w count b (reply.No r) g ≡ plainly w (record { reply = reply.No r; frame = g })
unfolding read_answer
read_no w count None r g = refl
read_no w count (Some e) r g = refl

write_no : (w : World) (new : List ℕ) (b : Option OpenFile) (r : Refusal) (g : Frame) → write_answer w new b (reply.No r) g ≡ plainly w (record { reply = reply.No r; frame = g })
unfolding write_answer
write_no w new None r g = refl
write_no w new (Some e) r g = refl

cut_no : (w : World) (len : ℕ) (b : Option OpenFile) (r : Refusal) (g : Frame) → cut_answer w len b (reply.No r) g ≡ plainly w (record { reply = reply.No r; frame = g })
unfolding cut_answer
cut_no w len None r g = refl
cut_no w len (Some e) r g = refl

seek_no : (w : World) (offset : ℕ) (b : Option OpenFile) (r : Refusal) (g : Frame) → seek_answer w offset b (reply.No r) g ≡ plainly w (record { reply = reply.No r; frame = g })
unfolding seek_answer
seek_no w offset None r g = refl
seek_no w offset (Some e) r g = refl

and_not : (b : Bool) → (b && not b) ≡ false
and_not true = refl
and_not false = refl

pex_no : (w : World) (b : Option OpenFile) (r : Refusal) → pex_answer w b (reply.No r) w.frame ≡ plainly w (record { reply = reply.No r; frame = w.frame })
unfolding pex_answer plainly
pex_no w None r = refl
pex_no w (Some e) r = let stays : (is_whole w.frame e.entry.object && not (is_whole w.frame e.entry.object)) ≡ false = and_not (is_whole w.frame e.entry.object) in rw stays refl

no_answer : (w : World) (pid : ℕ) (c : Op) (r : Refusal) → answer w pid c (record { reply = reply.No r; frame = w.frame }) ≡ plainly w (record { reply = reply.No r; frame = w.frame })
unfolding answer stat_answer exit_answer wait_answer
no_answer w pid (op.ReadFd fd count) r = read_no w count (behind w.frame pid fd) r w.frame
no_answer w pid (op.WriteFd fd bytes) r = write_no w bytes (behind w.frame pid fd) r w.frame
no_answer w pid (op.CutFd fd len) r = cut_no w len (behind w.frame pid fd) r w.frame
no_answer w pid (op.SeekFd fd offset) r = seek_no w offset (behind w.frame pid fd) r w.frame
no_answer w pid (op.StatAt path) r = refl
no_answer w pid (op.Exit status) r = refl
no_answer w pid op.WaitChild r = refl
no_answer w pid (op.Pex fd) r = pex_no w (behind w.frame pid fd) r
no_answer w pid _ r = refl

unmoved : (w : World) (r : Reply) → IsClean w → plainly w (record { reply = r; frame = w.frame }) ≡ record { world = w; reply = r; bytes = [] }
unfolding plainly
unmoved w r clean = λ i. record { world = record { frame = w.frame; content = carried_floats w w.frame (floats_itself w.frame) clean i }; reply = r; bytes = [] }

refused_by : (w : World) (place pid : ℕ) (c : Op) (r : Refusal) (buf : List ℕ) → IsClean w → verdict (told w pid c) place pid c w.frame ≡ record {
  reply =
      reply.No r;
  frame = w.frame;
} → Answers (step w place pid c) w (reply.No r) buf buf
unfolding step
refused_by w place pid c r buf clean is = answers _ w (reply.No r) buf (ap (answer w pid c) is ∙ no_answer w pid c r ∙ unmoved w (reply.No r) clean)

dead_verdict : (t : LengthChecks) (place pid : ℕ) (c : Op) (f : Frame) → lives f pid ≡ false → verdict t place pid c f ≡ record { reply = reply.No refusal.NoProcess; frame = f }
unfolding verdict
dead_verdict t place pid c f dead = rw dead refl

-- nobody calls
pub dead_step : (w : World) (place pid : ℕ) (c : Op) (buf : List ℕ) → IsClean w → lives w.frame pid ≡ false → Answers (step w place pid c) w (reply.No refusal.NoProcess) buf buf
dead_step w place pid c buf clean dead = refused_by w place pid c refusal.NoProcess buf clean (dead_verdict (told w pid c) place pid c w.frame dead)

refused_verdict : (t : LengthChecks) (place pid : ℕ) (c : Op) (f : Frame) (r : Refusal) → lives f pid ≡ true → row t place pid c f ≡ Refuse r f
    → verdict t place pid c f ≡ record { reply = reply.No r; frame = f }
unfolding verdict
refused_verdict t place pid c f r alive is = rw (alive, is) (go (keeps_label r))
  where
    go : (b : Bool) → ◌≡◌ {A = Decision} (record { reply = reply.No r; frame = if b then f else f }) (record { reply = reply.No r; frame = f })
    go true = refl
    go false = refl

-- the row refuses, and leaves all as it was
pub refused_step : (w : World) (place pid : ℕ) (c : Op) (r : Refusal) (buf : List ℕ) → IsClean w → lives w.frame pid ≡ true
    → row (told w pid c) place pid c w.frame ≡ Refuse r w.frame → Answers (step w place pid c) w (reply.No r) buf buf
refused_step w place pid c r buf clean alive is = refused_by w place pid c r buf clean (refused_verdict (told w pid c) place pid c w.frame r alive is)

-- the row passes
pub passed_verdict : (t : LengthChecks) (place pid : ℕ) (c : Op) (f g : Frame) (r : Reply) → lives f pid ≡ true → row t place pid c f ≡ Pass r g
    → verdict t place pid c f ≡ record { reply = r; frame = g }
unfolding verdict
passed_verdict t place pid c f g r alive is = rw (alive, is) refl

-- ---- calls that leave what the world holds
still_step : (w : World) (place pid : ℕ) (c : Op) → is_still c ≡ true → step w place pid c ≡ plainly w (verdict nothing_told place pid c w.frame)
unfolding step answer told
still_step w place pid op.SelfLabel still = refl
still_step w place pid _ still = cc

pub tested_still : (c : Op) → is_tested c ≡ true → is_still c ≡ true
tested_still op.SelfLabel tested = refl
tested_still _ tested = tested

still_stays : (c : Op) → is_still c ≡ true → lets_nothing_go c ≡ true
still_stays op.SelfLabel still = refl
still_stays _ still = cc

plainly_still : (w u : World) (place pid : ℕ) (c : Op) (r : Reply) → is_still c ≡ true → IsClean w → r ≡ (verdict nothing_told place pid c w.frame).reply
    → u.frame ≡ (verdict nothing_told place pid c w.frame).frame → u.content ≡ w.content
    → plainly w (verdict nothing_told place pid c w.frame) ≡ record { world = u; reply = r; bytes = [] }
unfolding plainly
plainly_still w u place pid c r still clean said stands same =
    λ i. record {
      world = record { frame = sym stands i; content = (carried_decided w nothing_told place pid c (still_stays c still) clean ∙ sym same) i };
      reply = sym said i;
      bytes = [];
    }

pub still_answers : (w u : World) (place pid : ℕ) (c : Op) (r : Reply) (buf : List ℕ) → is_still c ≡ true → IsClean w
    → r ≡ (verdict nothing_told place pid c w.frame).reply → u.frame ≡ (verdict nothing_told place pid c w.frame).frame → u.content ≡ w.content
    → Answers (step w place pid c) u r buf buf
still_answers w u place pid c r buf still clean said stands same = answers _ u r buf (still_step w place pid c still ∙ plainly_still w u place pid c r still clean said stands same)

-- SelfLabel tells the caller's label, and all stands
pub label_step : (w : World) (place pid : ℕ) (r : Reply) (buf : List ℕ) → IsClean w → lives w.frame pid ≡ true → self_label pid w.frame ≡ Pass r w.frame
    → Answers (step w place pid op.SelfLabel) w r buf buf
unfolding row
label_step w place pid r buf clean alive passes =
    let told = passed_verdict nothing_told place pid op.SelfLabel w.frame w.frame r alive passes in
    still_answers w w place pid op.SelfLabel r buf refl clean (sym (ap (λ d. d.reply) told)) (sym (ap (λ d. d.frame) told)) refl

-- ---- a row's refusal, as it is settled
-- one that keeps no label leaves the frame as it was
pub settled_back : (t : LengthChecks) (place pid : ℕ) (c : Op) (f g : Frame) (why : Refusal) → lives f pid ≡ true → row t place pid c f ≡ Refuse why g
    → keeps_label why ≡ false → (verdict t place pid c f).frame ≡ f
unfolding verdict
settled_back t place pid c f g why l r k = rw (l, r, k) refl

pub label_of_caller : (ps : List (Option Process)) (pid : ℕ) (c : Caller) → living (at ps pid) ≡ Some (with_caller c (unwrap_or (at ps pid) no_process))
    → option_map (λ p. p.label) (at ps pid) ≡ Some c.float.label
label_of_caller ps pid c is = go (at ps pid) is
  where
    go : (o : Option Process) → living o ≡ Some (with_caller c (unwrap_or o no_process)) → option_map (λ p. p.label) o ≡ Some c.float.label
    go None h = cc
    go (Some p) h = pick p.ended h
      where
        pick : (b : Bool) → (if b then None else Some p) ≡ Some (with_caller c p) → Some p.label ≡ Some c.float.label
        pick true h = cc
        pick false h = let e : p ≡ with_caller c p = cc in ap (λ (q : Process). Some q.label) e

-- ---- calls whose row passes
answered : (w u : World) (place pid : ℕ) (c : Op) (s r : Reply) (g : Frame) (buf : List ℕ) → lives w.frame pid ≡ true
    → row (told w pid c) place pid c w.frame ≡ Pass s g → answer w pid c (record { reply = s; frame = g }) ≡ record { world = u; reply = r; bytes = [] }
    → Answers (step w place pid c) u r buf buf
unfolding step
answered w u place pid c s r g buf alive is given = answers _ u r buf (ap (answer w pid c) (passed_verdict (told w pid c) place pid c w.frame g s alive is) ∙ given)

pub forked : (w u : World) (place pid : ℕ) (keep : Keep) (r : Reply) (buf : List ℕ) → lives w.frame pid ≡ true → fork pid keep w.frame ≡ Pass r u.frame
    → u.content ≡ carried w.frame u.frame w.content → Answers (step w place pid (op.Fork keep)) u r buf buf
unfolding row answer plainly
forked w u place pid keep r buf alive is content =
    answered w u place pid (op.Fork keep) r r u.frame buf alive is (λ i. record {
      world = record { frame = u.frame; content = sym content i };
      reply =
          r;
      bytes = [];
    })

pub exited : (w u : World) (place pid status : ℕ) (r : Reply) (buf : List ℕ) → lives w.frame pid ≡ true → exit pid w.frame ≡ Pass r u.frame → r ≡ reply.Done
    → u.content ≡ after_exit u.frame pid status (carried w.frame u.frame w.content) → Answers (step w place pid (op.Exit status)) u r buf buf
unfolding row answer exit_answer
exited w u place pid status r buf alive is done content =
    answered w u place pid (op.Exit status) reply.Done r u.frame buf alive (is ∙ ap (λ s. Pass s u.frame) done) (λ i. record {
      world =
          record { frame = u.frame; content = sym content i };
      reply = sym done i;
      bytes = [];
    })

pub waited : (w u : World) (place pid child status : ℕ) (buf : List ℕ) → lives w.frame pid ≡ true → wait_child pid w.frame ≡ Pass (wait_passed child) u.frame
    → status ≡ status_of w.content child → u.content ≡ carried w.frame u.frame w.content
    → Answers (step w place pid op.WaitChild) u (reply.Child (record { 0 = child }) status) buf buf
unfolding row answer wait_answer plainly
waited w u place pid child status buf alive is status_is content =
    answered w u place pid op.WaitChild (wait_passed child) (reply.Child (record { 0 = child }) status) u.frame buf alive is (λ i. record {
      world =
          record { frame = u.frame; content = sym content i };
      reply = reply.Child (record { 0 = child }) (sym status_is i);
      bytes = [];
    })

pex_given : (w u : World) (b : Option OpenFile) (r : Reply) → u ≡ (pex_answer w b r u.frame).world → pex_answer w b r u.frame ≡ record { world = u; reply = r; bytes = [] }
unfolding pex_answer plainly
pex_given w u None r is = λ i. record { world = sym is i; reply = r; bytes = [] }
pex_given w u (Some e) r is = λ i. record { world = sym is i; reply = r; bytes = [] }

pub pexed : (w u : World) (place pid fd : ℕ) (r : Reply) (buf : List ℕ) → lives w.frame pid ≡ true → pex pid fd w.frame ≡ Pass r u.frame
    → u ≡ (pex_answer w (behind w.frame pid fd) r u.frame).world → Answers (step w place pid (op.Pex fd)) u r buf buf
unfolding row answer
pexed w u place pid fd r buf alive is world = answered w u place pid (op.Pex fd) r r u.frame buf alive is (pex_given w u (behind w.frame pid fd) r world)

-- ---- one of these calls that is refused
refuses : (w u : World) (place pid : ℕ) (c : Op) (why : Refusal) (buf : List ℕ) → IsClean w → lives w.frame pid ≡ true → u ≡ w
    → row (told w pid c) place pid c w.frame ≡ Refuse why u.frame → Answers (step w place pid c) u (reply.No why) buf buf
refuses w u place pid c why buf clean alive same is =
    subst (λ (v : World). Answers (step w place pid c) v (reply.No why) buf buf) (sym same) (refused_step w place pid c why buf clean alive (is ∙ ap (λ (v : World). Refuse why v.frame) same))

pub fork_refused : (w u : World) (place pid : ℕ) (keep : Keep) (why : Refusal) (buf : List ℕ) → IsClean w → lives w.frame pid ≡ true → u ≡ w
    → fork pid keep w.frame ≡ Refuse why u.frame → Answers (step w place pid (op.Fork keep)) u (reply.No why) buf buf
unfolding row
fork_refused w u place pid keep why buf clean alive same is = refuses w u place pid (op.Fork keep) why buf clean alive same is

pub exit_refused : (w u : World) (place pid status : ℕ) (why : Refusal) (buf : List ℕ) → IsClean w → lives w.frame pid ≡ true → u ≡ w
    → exit pid w.frame ≡ Refuse why u.frame → Answers (step w place pid (op.Exit status)) u (reply.No why) buf buf
unfolding row
exit_refused w u place pid status why buf clean alive same is = refuses w u place pid (op.Exit status) why buf clean alive same is

pub wait_refused : (w u : World) (place pid : ℕ) (why : Refusal) (buf : List ℕ) → IsClean w → lives w.frame pid ≡ true → u ≡ w
    → wait_child pid w.frame ≡ Refuse why u.frame → Answers (step w place pid op.WaitChild) u (reply.No why) buf buf
unfolding row
wait_refused w u place pid why buf clean alive same is = refuses w u place pid op.WaitChild why buf clean alive same is

pub pex_refused : (w u : World) (place pid fd : ℕ) (why : Refusal) (buf : List ℕ) → IsClean w → lives w.frame pid ≡ true → u ≡ w
    → pex pid fd w.frame ≡ Refuse why u.frame → Answers (step w place pid (op.Pex fd)) u (reply.No why) buf buf
unfolding row
pex_refused w u place pid fd why buf clean alive same is = refuses w u place pid (op.Pex fd) why buf clean alive same is
