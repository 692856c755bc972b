-- Worlds of one outline stay so, and give equal replies but for a status; so runs with equal lengths agree.
use Rattle.std.proofs.Common.{◌≡◌, ℕ, zero, suc, ◌+◌, Bool, true, false, not, ◌&&◌, List, [], ◌∷◌, length, take, Option, Some, None, if◌then◌else◌, refl, sym}
use Rattle.std.{proofs.{Common.{ap, ◌∙◌, subst, inl, inr, arith}, lemmas.List.length-map}, specs.Prelude.slice_get}
use Rattle.ix_label.specs.Category.{Categories}
use Rattle.ix_model.specs.{world.World.{World, Frame, Content}, two_runs.TwoRuns.{shape, Alike, Agree, AgreeAt, Replaced}, history.Events.{Op, Event}, declared.reply.Reply.Reply}
use Rattle.ix_model.specs.{rows.{Walks.{OpenFile, behind}, Table.{Decision, verdict}, Telling.{told, told_of_read, told_of_write, told_of_cut}}, two_runs.EqualLengths.Exited}
use Rattle.ix_model.{specs.world.Contents.{carried, holding_of, readable, after_read, after_write, after_cut, after_seek, after_exit, emptied}, proofs.words.Answered.step_frame}
use Rattle.ix_model.specs.history.Step.{Given, plainly, read_answer, write_answer, cut_answer, seek_answer, stat_answer, exit_answer, wait_answer, pex_answer}
use Rattle.ix_model.specs.history.Step.{is_whole, answer, step, step_of, run}
use Rattle.ix_model.specs.two_runs.EqualLengths.{zeros, zeroed, outline, AlikeInLength, AgreeInLength, AgreeInLengthAt, ReplacedInLength, Same, Other, Written}
use Rattle.ix_iso.{specs.Laws.{AreLikeInLength, but_status, OneOutline, IsolatedInLength}, proofs.Zeroed.{seek_zero, exit_zero, emptied_zero, told_read_zero, told_write_zero, told_cut_zero}}
use Rattle.ix_iso.proofs.{OneKind.one_kind, Counts.{SameCounts, shape_from}, Shapes.{Twins, twins_itself, twins_replaced}, Histories.isolated}
use Rattle.ix_iso.proofs.Zeroed.{zero_content, take_zeros, length_zeros, first_length, same_zeros, readable_zero, carried_zero, read_zero, write_zero, cut_zero}
use Rattle.ix_model.specs.two_runs.TwoRuns as two
use Rattle.ix_model.specs.history.Events as op
use Rattle.ix_model.specs.declared.reply.Kind.TheVariants as kind
use Rattle.ix_model.specs.declared.reply.Reply.TheVariants as reply

-- ---- outlines
pub outline_from : (v w : World) → v.frame ≡ w.frame → zero_content v.content ≡ zero_content w.content → outline v ≡ outline w
unfolding outline
outline_from v w frames contents = λ i. record { frame = frames i; content = contents i }

outline_frames : (v w : World) → outline v ≡ outline w → v.frame ≡ w.frame
unfolding outline
outline_frames v w h = ap (λ u. u.frame) h

outline_contents : (v w : World) → outline v ≡ outline w → zero_content v.content ≡ zero_content w.content
unfolding outline
outline_contents v w h = ap (λ u. u.content) h

zero_counts : (c d : Content) → zero_content c ≡ zero_content d → SameCounts c d
zero_counts c d h = record {
  holdings = sym (length-map c.holdings zeroed) ∙ ap (λ x. length x.holdings) h ∙ length-map d.holdings zeroed;
  offsets = ap (λ x. length x.offsets) h;
  statuses = sym (length_zeros _) ∙ ap (λ x. length x.statuses) h ∙ length_zeros _;
}

-- worlds of one outline are of one shape
pub outline_shape : (v w : World) → outline v ≡ outline w → shape v ≡ shape w
outline_shape v w h = shape_from v w (outline_frames v w h) (zero_counts _ _ (outline_contents v w h))

-- ---- answers
module _ (f : Frame) (c d : Content) (same : zero_content c ≡ zero_content d) where
  abbrev one : World
  one = record { frame = f; content = c }

  abbrev other : World
  other = record { frame = f; content = d }

  abbrev Zeroed : Given → Given → Type 0
  Zeroed a b = zero_content a.world.content ≡ zero_content b.world.content

  kept : (g : Frame) → zero_content (carried f g c) ≡ zero_content (carried f g d)
  kept g = carried_zero f g c ∙ ap (carried f g) same ∙ sym (carried_zero f g d)

  -- an edit that does the same to what is held with every byte 0
  edited : (g : Frame) (h k m : Content → Content) → ((x : Content) → zero_content (h x) ≡ m (zero_content x))
      → ((x : Content) → zero_content (k x) ≡ m (zero_content x)) → zero_content (h (carried f g c)) ≡ zero_content (k (carried f g d))
  edited g h k m one_way other_way = one_way _ ∙ ap m (kept g) ∙ sym (other_way _)

  read_length : (x : Content) (count : ℕ) (e : OpenFile) → length (take count (readable f x e)) ≡ length (take count (readable f (zero_content x) e))
  read_length x count e = sym (length_zeros _) ∙ ap length (take_zeros _ _) ∙ ap (λ bytes. length (take count bytes)) (sym (readable_zero f x e))

  read_outline : (count : ℕ) (b : Option OpenFile) (r : Reply) (g : Frame) → Zeroed (read_answer one count b r g) (read_answer other count b r g)
  unfolding read_answer plainly
  read_outline count (Some e) (reply.Bytes k) g =
      let long = read_length c count e ∙ ap (λ x. length (take count (readable f x e))) same ∙ sym (read_length d count e) in
      edited g (after_read f e (length (take count (readable f c e)))) (after_read f e (length (take count (readable f d e))))
      (after_read f e (length (take count (readable f c e)))) (λ x. read_zero f e _ x) (λ x. read_zero f e _ x
      ∙ ap (λ k. after_read f e k (zero_content x)) (sym long))
  read_outline count _ r g = kept g

  write_outline : (m n : List ℕ) → zeros m ≡ zeros n → (b : Option OpenFile) (r : Reply) (g : Frame) → Zeroed (write_answer one m b r g) (write_answer other n b r g)
  unfolding write_answer plainly
  write_outline m n equal (Some e) (reply.Number k) g = edited g (after_write f e m) (after_write f e n) (after_write f e (zeros m)) (λ x. write_zero f e m x)
      (λ x. write_zero f e n x ∙ ap (λ z. after_write f e z (zero_content x)) (sym equal))
  write_outline m n equal _ r g = kept g

  cut_outline : (len : ℕ) (b : Option OpenFile) (r : Reply) (g : Frame) → Zeroed (cut_answer one len b r g) (cut_answer other len b r g)
  unfolding cut_answer plainly
  cut_outline len (Some e) reply.Done g = edited g (after_cut e len) (after_cut e len) (after_cut e len) (λ x. cut_zero e len x) (λ x. cut_zero e len x)
  cut_outline len _ r g = kept g

  seek_outline : (offset : ℕ) (b : Option OpenFile) (r : Reply) (g : Frame) → Zeroed (seek_answer one offset b r g) (seek_answer other offset b r g)
  unfolding seek_answer plainly
  seek_outline offset (Some e) reply.Done g = edited g (after_seek e offset) (after_seek e offset) (after_seek e offset) (λ x. seek_zero e offset x) (λ x. seek_zero e offset x)
  seek_outline offset _ r g = kept g

  stat_outline : (r : Reply) (g : Frame) → Zeroed (stat_answer one r g) (stat_answer other r g)
  unfolding stat_answer plainly
  stat_outline (reply.Stat o kind.File size links frozen x y) g = kept g
  stat_outline r g = kept g

  exit_outline : (pid s t : ℕ) (r : Reply) (g : Frame) → Zeroed (exit_answer one pid s r g) (exit_answer other pid t r g)
  unfolding exit_answer plainly
  exit_outline pid s t reply.Done g = edited g (after_exit g pid s) (after_exit g pid t) (after_exit g pid 0) (λ x. exit_zero g pid s x) (λ x. exit_zero g pid t x)
  exit_outline pid s t r g = kept g

  wait_outline : (r : Reply) (g : Frame) → Zeroed (wait_answer one r g) (wait_answer other r g)
  unfolding wait_answer plainly
  wait_outline (reply.Child p status) g = kept g
  wait_outline r g = kept g

  either_way : (b : Bool) (v x w y : Content) → zero_content v ≡ zero_content w → zero_content x ≡ zero_content y → zero_content (if b then v else x) ≡ zero_content (if b then w else y)
  either_way true v x w y r s = r
  either_way false v x w y r s = s

  pex_outline : (b : Option OpenFile) (r : Reply) (g : Frame) → Zeroed (pex_answer one b r g) (pex_answer other b r g)
  unfolding pex_answer plainly
  pex_outline (Some e) r g =
      either_way (is_whole g e.entry.object && not (is_whole f e.entry.object)) _ _ _ _ (edited g (emptied e.entry.object) (emptied e.entry.object)
      (emptied e.entry.object) (λ x. emptied_zero e.entry.object x) (λ x. emptied_zero e.entry.object x)) (kept g)
  pex_outline None r g = kept g

  -- ---- replies
  abbrev Told : Given → Given → Type 0
  Told a b = but_status a.reply ≡ but_status b.reply

  read_replies : (count : ℕ) (b : Option OpenFile) (r : Reply) (g : Frame) → Told (read_answer one count b r g) (read_answer other count b r g)
  unfolding read_answer plainly
  read_replies count (Some e) (reply.Bytes k) g = ap (λ n. reply.Bytes n) (read_length c count e ∙ ap (λ x. length (take count (readable f x e))) same ∙ sym (read_length d count e))
  read_replies count _ r g = refl

  write_replies : (m n : List ℕ) → length m ≡ length n → (b : Option OpenFile) (r : Reply) (g : Frame) → Told (write_answer one m b r g) (write_answer other n b r g)
  unfolding write_answer plainly
  write_replies m n equal (Some e) (reply.Number k) g = ap (λ n. reply.Number n) equal
  write_replies m n equal _ r g = refl

  cut_replies : (len : ℕ) (b : Option OpenFile) (r : Reply) (g : Frame) → Told (cut_answer one len b r g) (cut_answer other len b r g)
  unfolding cut_answer plainly
  cut_replies len (Some e) reply.Done g = refl
  cut_replies len _ r g = refl

  seek_replies : (offset : ℕ) (b : Option OpenFile) (r : Reply) (g : Frame) → Told (seek_answer one offset b r g) (seek_answer other offset b r g)
  unfolding seek_answer plainly
  seek_replies offset (Some e) reply.Done g = refl
  seek_replies offset _ r g = refl

  stat_replies : (r : Reply) (g : Frame) → Told (stat_answer one r g) (stat_answer other r g)
  unfolding stat_answer plainly
  stat_replies (reply.Stat o kind.File size links frozen x y) g = ap (λ n. reply.Stat o kind.File n links frozen x y) (sym (first_length c o.0)
      ∙ ap (λ (t : Content). length (holding_of t o.0).first) same ∙ first_length d o.0)
  stat_replies r g = refl

  exit_replies : (pid s t : ℕ) (r : Reply) (g : Frame) → Told (exit_answer one pid s r g) (exit_answer other pid t r g)
  unfolding exit_answer plainly
  exit_replies pid s t reply.Done g = refl
  exit_replies pid s t r g = refl

  wait_replies : (r : Reply) (g : Frame) → Told (wait_answer one r g) (wait_answer other r g)
  unfolding wait_answer plainly
  wait_replies (reply.Child p status) g = refl
  wait_replies r g = refl

  pex_replies : (b : Option OpenFile) (r : Reply) (g : Frame) → Told (pex_answer one b r g) (pex_answer other b r g)
  unfolding pex_answer plainly
  pex_replies (Some e) r g = refl
  pex_replies None r g = refl

  -- ---- both
  abbrev Agreed : Given → Given → Type 0
  Agreed a b = Zeroed a b × Told a b

  answer_agreed : (pid : ℕ) (o : Op) (e : Decision) → Agreed (answer one pid o e) (answer other pid o e)
  unfolding answer plainly
  answer_agreed pid (op.ReadFd fd count) e = (read_outline count (behind f pid fd) _ _, read_replies count (behind f pid fd) _ _)
  answer_agreed pid (op.WriteFd fd bytes) e = (write_outline bytes bytes refl (behind f pid fd) _ _, write_replies bytes bytes refl (behind f pid fd) _ _)
  answer_agreed pid (op.CutFd fd len) e = (cut_outline len (behind f pid fd) _ _, cut_replies len (behind f pid fd) _ _)
  answer_agreed pid (op.SeekFd fd offset) e = (seek_outline offset (behind f pid fd) _ _, seek_replies offset (behind f pid fd) _ _)
  answer_agreed pid (op.StatAt path) e = (stat_outline _ _, stat_replies _ _)
  answer_agreed pid (op.Exit status) e = (exit_outline pid status status _ _, exit_replies pid status status _ _)
  answer_agreed pid op.WaitChild e = (wait_outline _ _, wait_replies _ _)
  answer_agreed pid (op.Pex fd) e = (pex_outline (behind f pid fd) _ _, pex_replies (behind f pid fd) _ _)
  answer_agreed pid o e = (kept e.frame, refl)

  replaced_agreed : (pid : ℕ) (o p : Op) (e : Decision) → ReplacedInLength o p → Agreed (answer one pid o e) (answer other pid p e)
  unfolding answer plainly
  replaced_agreed pid _ _ e (Written {fd = fd} {a = a} {b = b} long) =
      (write_outline a b (same_zeros a b long) (behind f pid fd) _ _, write_replies a b long (behind f pid fd) _ _)
  replaced_agreed pid _ _ e (Exited {s = s} {t = t}) = (exit_outline pid s t _ _, exit_replies pid s t _ _)

  like_agreed : (pid : ℕ) (o p : Op) (e : Decision) → AreLikeInLength o p → Agreed (answer one pid o e) (answer other pid p e)
  like_agreed pid o p e (inl equal) = subst (λ (q : Op). Agreed (answer one pid o e) (answer other pid q e)) equal (answer_agreed pid o e)
  like_agreed pid o p e (inr replaced) = replaced_agreed pid o p e replaced

  -- ---- what is told
  told_same : (pid : ℕ) (o : Op) → told one pid o ≡ told other pid o
  unfolding told
  told_same pid (op.ReadFd fd count) = sym (told_read_zero f c (behind f pid fd)) ∙ ap (λ x. told_of_read f x (behind f pid fd)) same ∙ told_read_zero f d (behind f pid fd)
  told_same pid (op.WriteFd fd bytes) = sym (told_write_zero f c (length bytes) (behind f pid fd))
      ∙ ap (λ x. told_of_write f x (length bytes) (behind f pid fd)) same ∙ told_write_zero f d (length bytes) (behind f pid fd)
  told_same pid (op.CutFd fd len) = sym (told_cut_zero f c len (behind f pid fd)) ∙ ap (λ x. told_of_cut f x len (behind f pid fd)) same ∙ told_cut_zero f d len (behind f pid fd)
  told_same pid o = refl

-- a call is told the lengths of what it writes alone
told_replaced : (w : World) (pid : ℕ) (o p : Op) → ReplacedInLength o p → told w pid o ≡ told w pid p
unfolding told
told_replaced w pid _ _ (Written {fd = fd} {a = a} {b = b} long) = ap (λ n. told_of_write w.frame w.content n (behind w.frame pid fd)) long
told_replaced w pid _ _ Exited = refl

-- ---- steps
in_length : (o p : Op) → ReplacedInLength o p → Replaced o p
in_length _ _ (Written long) = two.Written
in_length _ _ Exited = two.Exited

like_twins : (o p : Op) → AreLikeInLength o p → Twins o p
like_twins o p (inl equal) = subst (λ q. Twins o q) equal (twins_itself o)
like_twins o p (inr replaced) = twins_replaced o p (in_length o p replaced)

like_told : (w : World) (pid : ℕ) (o p : Op) → AreLikeInLength o p → told w pid o ≡ told w pid p
like_told w pid o p (inl equal) = ap (told w _) equal
like_told w pid o p (inr replaced) = told_replaced w _ o p replaced

-- at one frame
at_one_frame : (f : Frame) (c d : Content) (place pid : ℕ) (o p : Op) → zero_content c ≡ zero_content d → AreLikeInLength o p
    → OneOutline (step (record { frame = f; content = c }) place pid o) (step (record { frame = f; content = d }) place pid p)
unfolding step
at_one_frame f c d place pid o p same like =
    let v : World = record { frame = f; content = c } in
    let w : World = record { frame = f; content = d } in
    let left : Decision = verdict (told v pid o) place pid o f in
    let right : Decision = verdict (told w pid p) place pid p f in
    let told_one : told v pid o ≡ told w pid p = told_same f c d same pid o ∙ like_told w pid o p like in
    let one : left ≡ right = ap (λ t. verdict t place pid o f) told_one ∙ (like_twins o p like).verdicts (told w pid p) place pid f in
    let contents : zero_content (step v place pid o).world.content ≡ zero_content (step w place pid p).world.content = (like_agreed f c d same pid o p left like).0
    ∙ ap (λ (e : Decision). zero_content (answer w pid p e).world.content) one in
    record {
      replies = (like_agreed f c d same pid o p left like).1 ∙ ap (λ (e : Decision). but_status (answer w pid p e).reply) one;
      outlines = outline_from _ _ (step_frame v place pid o ∙ ap (λ (e : Decision). e.frame) one ∙ sym (step_frame w place pid p)) contents;
    }

pub one_outline : (v w : World) (place pid : ℕ) (o p : Op) → outline v ≡ outline w → AreLikeInLength o p → OneOutline (step v place pid o) (step w place pid p)
one_outline v w place pid o p outlines like =
    subst (λ (f : Frame). OneOutline (step v place pid o) (step (record { frame = f; content = w.content }) place pid p)) (outline_frames v w outlines)
    (at_one_frame v.frame v.content w.content place pid o p (outline_contents v w outlines) like)

-- ---- histories
events_outline : (l : Categories) (v w : World) (place : ℕ) (e f : Event) → outline v ≡ outline w → AgreeInLengthAt l v.frame e f → OneOutline (step_of v place e) (step_of w place f)
events_outline l v w place _ _ outlines (Same {e = e}) = one_outline v w place e.pid e.op e.op outlines (inl refl)
events_outline l v w place _ _ outlines (Other {seat = seat} {line = line} {pid = pid} {a = a} {b = b} high replaced) = one_outline v w place pid a b outlines (inr replaced)

agree_at : (l : Categories) (f : Frame) (a b : Event) → AgreeInLengthAt l f a b → AgreeAt l f a b
agree_at l f _ _ Same = two.Same
agree_at l f _ _ (Other {a = a} {b = b} high replaced) = two.Other high (in_length a b replaced)

-- so the replies are of one kind, and the histories agree
pub agree_from : (l : Categories) (v w : World) (place : ℕ) (events others : List Event) → outline v ≡ outline w → AgreeInLength l v place events others → Agree l v w place events others
agree_from l v w place [] [] outlines agree = tt
agree_from l v w place [] (f ∷ others) outlines agree = absurd agree
agree_from l v w place (e ∷ events) [] outlines agree = absurd agree
agree_from l v w place (e ∷ events) (f ∷ others) outlines agree =
    let here = events_outline l v w place e f outlines agree.0 in
    (agree_at l v.frame e f agree.0, one_kind _ _ here.replies, agree_from l (step_of v place e).world (step_of w place f).world (suc place) events others here.outlines agree.1)

outlines_along : (l : Categories) (v w : World) (place : ℕ) (events others : List Event) → outline v ≡ outline w → AgreeInLength l v place events others
    → (n : ℕ) → outline (run v place (take n events)) ≡ outline (run w place (take n others))
outlines_along l v w place events others outlines agree zero = outlines
outlines_along l v w place [] [] outlines agree (suc n) = outlines
outlines_along l v w place [] (f ∷ others) outlines agree (suc n) = absurd agree
outlines_along l v w place (e ∷ events) [] outlines agree (suc n) = absurd agree
outlines_along l v w place (e ∷ events) (f ∷ others) outlines agree (suc n) =
    outlines_along l (step_of v place e).world (step_of w place f).world (suc place) events others (events_outline l v w place e f outlines agree.0).outlines agree.1 n

-- at each place the replies are equal but for a status
replies_along : (l : Categories) (v w : World) (place k : ℕ) (events others : List Event) → outline v ≡ outline w → AgreeInLength l v place events others
    → (n : ℕ) (e f : Event) → k ≡ place + n → slice_get events n ≡ Some e → slice_get others n ≡ Some f →
    but_status (step_of (run v place (take n events)) k e).reply ≡ but_status (step_of (run w place (take n others)) k f).reply
replies_along l v w place k [] others outlines agree n e f there is here = cc
replies_along l v w place k (a ∷ events) [] outlines agree n e f there is here = absurd agree
replies_along l v w place k (a ∷ events) (b ∷ others) outlines agree zero e f there is here =
    let at_k : place ≡ k = omega (arith, there) in
    let i : a ≡ e = cc in
    let j : b ≡ f = cc in
    (λ t. but_status (step_of v (sym at_k t) (sym i t)).reply) ∙ (events_outline l v w place a b outlines agree.0).replies ∙ (λ t. but_status (step_of w (at_k t) (j t)).reply)
replies_along l v w place k (a ∷ events) (b ∷ others) outlines agree (suc n) e f there is here =
    replies_along l (step_of v place a).world (step_of w place b).world (suc place) k events others (events_outline l v w place a b outlines agree.0).outlines
    agree.1 n e f (omega (arith, there)) is here

-- worlds that are alike in length are alike
pub alike_from : (l : Categories) (v w : World) → AlikeInLength l v w → Alike l v w
alike_from l v w alike = record { shapes = outline_shape v w alike.outlines; inside = alike.inside }

pub isolated_in_length : (l : Categories) (v w : World) (place : ℕ) (events others : List Event) → AlikeInLength l v w → AgreeInLength l v place events others
    → IsolatedInLength l v w place events others
isolated_in_length l v w place events others alike agree = record {
  isolated = isolated l v w place events others (alike_from l v w alike) (agree_from l v w place events others alike.outlines agree);
  outlines = λ n. outlines_along l v w place events others alike.outlines agree n;
  replies = λ n e f is here. replies_along l v w place (place + n) events others alike.outlines agree n e f refl is here;
}
