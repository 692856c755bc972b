-- What a step does to the bytes that objects hold is what a call does to whatever they hold.
use Rattle.std.proofs.Common.{◌≡◌, ℕ, zero, suc, Bool, true, false, not, ◌&&◌, List, [], ◌∷◌, length, take, Option, Some, None, if◌then◌else◌, refl, sym, ap, ◌∙◌, set}
use Rattle.ix_model.specs.{declared.reply.Reply.Reply, history.{Events.Op, Step.{pex_answer, is_whole, answer, step, plainly, read_answer, write_answer, cut_answer, seek_answer}}}
use Rattle.ix_model.specs.{history.Step.{stat_answer, exit_answer, wait_answer}, rows.Walks.{OpenFile, behind}, world.Contents.{after_cut, after_exit, after_read, after_seek, after_write}}
use Rattle.ix_model.{specs.world.{Contents.{carried, emptied, kept, on_pipe, readable}, World.{World, Frame, Content, Holding}}, proofs.words.Answered.step_frame}
use Rattle.ix_flow.specs.Moves.{taken, put_there, cut_there, emptied_there, edited, moved, bytes_written}
use Rattle.ix_model.specs.history.Events as op
use Rattle.ix_model.specs.declared.reply.Kind.TheVariants as kind
use Rattle.ix_model.specs.declared.reply.Reply.TheVariants as reply

either_held : (b : Bool) (x y : Content) (v w : List Holding) → x.holdings ≡ v → y.holdings ≡ w → (if b then x else y).holdings ≡ (if b then v else w)
either_held true x y v w r s = r
either_held false x y v w r s = s

carried_held : (f g : Frame) (c : Content) → (carried f g c).holdings ≡ kept f g c.holdings
unfolding carried
carried_held f g c = refl

read_held : (w : World) (count : ℕ) (b : Option OpenFile) (r : Reply) (g : Frame)
    → (read_answer w count b r g).world.content.holdings ≡ taken w.frame b (read_answer w count b r g).reply (kept w.frame g w.content.holdings)
unfolding read_answer plainly after_read taken carried
read_held w count (Some e) (reply.Bytes k) g = either_held (on_pipe w.frame e) _ _ _ _ refl refl
read_held w count _ r g = refl

write_held : (w : World) (new : List ℕ) (b : Option OpenFile) (r : Reply) (g : Frame)
    → (write_answer w new b r g).world.content.holdings ≡ put_there 0 w.frame (carried w.frame (write_answer w new b r g).world.frame w.content) new b (write_answer w new b r g).reply
    (kept w.frame g w.content.holdings)
unfolding write_answer plainly after_write put_there carried
write_held w new (Some e) (reply.Number k) g = either_held (on_pipe w.frame e) _ _ _ _ refl refl
write_held w new _ r g = refl

cut_held : (w : World) (len : ℕ) (b : Option OpenFile) (r : Reply) (g : Frame)
    → (cut_answer w len b r g).world.content.holdings ≡ cut_there 0 len b (cut_answer w len b r g).reply (kept w.frame g w.content.holdings)
unfolding cut_answer plainly after_cut cut_there carried
cut_held w len (Some e) reply.Done g = refl
cut_held w len _ r g = refl

pex_held : (w : World) (b : Option OpenFile) (r : Reply) (g : Frame)
    → (pex_answer w b r g).world.content.holdings ≡ emptied_there w.frame (pex_answer w b r g).world.frame b (kept w.frame g w.content.holdings)
unfolding pex_answer plainly emptied emptied_there carried
pex_held w (Some e) r g = either_held (is_whole g e.entry.object && not _) _ _ _ _ refl refl
pex_held w None r g = refl

seek_held : (w : World) (offset : ℕ) (b : Option OpenFile) (r : Reply) (g : Frame) → (seek_answer w offset b r g).world.content.holdings ≡ kept w.frame g w.content.holdings
unfolding seek_answer plainly after_seek carried
seek_held w offset (Some e) reply.Done g = refl
seek_held w offset _ r g = refl

stat_held : (w : World) (r : Reply) (g : Frame) → (stat_answer w r g).world.content.holdings ≡ kept w.frame g w.content.holdings
unfolding stat_answer plainly carried
stat_held w (reply.Stat o kind.File size links frozen cap lic) g = refl
stat_held w r g = refl

exit_held : (w : World) (pid status : ℕ) (r : Reply) (g : Frame) → (exit_answer w pid status r g).world.content.holdings ≡ kept w.frame g w.content.holdings
unfolding exit_answer plainly after_exit carried
exit_held w pid status reply.Done g = go _
  where
    c : Content
    c = carried w.frame g w.content

    go : (b : Bool) → (if b then record c { statuses = set c.statuses pid status } else c).holdings ≡ kept w.frame g w.content.holdings
    go true = refl
    go false = refl
exit_held w pid status r g = refl

wait_held : (w : World) (r : Reply) (g : Frame) → (wait_answer w r g).world.content.holdings ≡ kept w.frame g w.content.holdings
unfolding wait_answer plainly carried
wait_held w (reply.Child p status) g = refl
wait_held w r g = refl

pub step_held : (w : World) (place pid : ℕ) (o : Op) → (step w place pid o).world.content.holdings ≡ moved 0 (bytes_written o) w pid o (step w place pid o) w.content.holdings
unfolding step answer edited plainly carried
step_held w place pid (op.ReadFd fd count) = read_held w _ _ _ _
    ∙ ap (λ g. taken w.frame (behind w.frame pid fd) (step w place pid (op.ReadFd fd count)).reply (kept w.frame g w.content.holdings)) (sym (step_frame w place pid (op.ReadFd fd count)))
step_held w place pid (op.WriteFd fd bytes) = write_held w _ _ _ _
    ∙ ap (λ g. put_there 0 w.frame (carried w.frame (step w place pid (op.WriteFd fd bytes)).world.frame w.content) bytes (behind w.frame pid fd) (step w place pid (op.WriteFd fd bytes)).reply
    (kept w.frame g w.content.holdings)) (sym (step_frame w place pid (op.WriteFd fd bytes)))
step_held w place pid (op.CutFd fd len) = cut_held w _ _ _ _
    ∙ ap (λ g. cut_there 0 len (behind w.frame pid fd) (step w place pid (op.CutFd fd len)).reply (kept w.frame g w.content.holdings)) (sym (step_frame w place pid (op.CutFd fd len)))
step_held w place pid (op.Pex fd) = pex_held w _ _ _
    ∙ ap (λ g. emptied_there w.frame (step w place pid (op.Pex fd)).world.frame (behind w.frame pid fd) (kept w.frame g w.content.holdings)) (sym (step_frame w place pid (op.Pex fd)))
step_held w place pid (op.SeekFd fd offset) = seek_held w _ _ _ _ ∙ ap (λ g. kept w.frame g w.content.holdings) (sym (step_frame w place pid (op.SeekFd fd offset)))
step_held w place pid (op.StatAt path) = stat_held w _ _ ∙ ap (λ g. kept w.frame g w.content.holdings) (sym (step_frame w place pid (op.StatAt path)))
step_held w place pid (op.Exit status) = exit_held w _ _ _ _ ∙ ap (λ g. kept w.frame g w.content.holdings) (sym (step_frame w place pid (op.Exit status)))
step_held w place pid op.WaitChild = wait_held w _ _ ∙ ap (λ g. kept w.frame g w.content.holdings) (sym (step_frame w place pid op.WaitChild))
step_held w place pid o = refl

-- ---- what is read
-- so many of a list as the first so many are
take_short : {A : Type 0} (xs : List A) (n : ℕ) → take (length (take n xs)) xs ≡ take n xs
take_short xs zero = refl
take_short [] (suc n) = refl
take_short (x ∷ xs) (suc n) = ap (λ ys. x ∷ ys) (take_short xs n)

-- the front of what there is to read, where the reply says how long that is
abbrev pub front_of : World → Option OpenFile → Reply → List ℕ
front_of w (Some e) (reply.Bytes k) = take k (readable w.frame w.content e)
front_of w _ r = []

read_bytes : (w : World) (count : ℕ) (b : Option OpenFile) (r : Reply) (g : Frame) → (read_answer w count b r g).bytes ≡ front_of w b (read_answer w count b r g).reply
unfolding read_answer plainly
read_bytes w count (Some e) (reply.Bytes k) g = sym (take_short _ _)
read_bytes w count b r g = refl

-- what a call reads, as bytes
abbrev pub fronts : World → ℕ → Op → Reply → List ℕ
fronts w pid (op.ReadFd fd count) r = front_of w (behind w.frame pid fd) r
fronts w pid _ r = []

write_bytes : (w : World) (new : List ℕ) (b : Option OpenFile) (r : Reply) (g : Frame) → (write_answer w new b r g).bytes ≡ []
unfolding write_answer plainly
write_bytes w new (Some e) (reply.Number k) g = refl
write_bytes w new _ r g = refl

cut_bytes : (w : World) (len : ℕ) (b : Option OpenFile) (r : Reply) (g : Frame) → (cut_answer w len b r g).bytes ≡ []
unfolding cut_answer plainly
cut_bytes w len (Some e) reply.Done g = refl
cut_bytes w len _ r g = refl

seek_bytes : (w : World) (offset : ℕ) (b : Option OpenFile) (r : Reply) (g : Frame) → (seek_answer w offset b r g).bytes ≡ []
unfolding seek_answer plainly
seek_bytes w offset (Some e) reply.Done g = refl
seek_bytes w offset _ r g = refl

stat_bytes : (w : World) (r : Reply) (g : Frame) → (stat_answer w r g).bytes ≡ []
unfolding stat_answer plainly
stat_bytes w (reply.Stat o kind.File size links frozen cap lic) g = refl
stat_bytes w r g = refl

exit_bytes : (w : World) (pid status : ℕ) (r : Reply) (g : Frame) → (exit_answer w pid status r g).bytes ≡ []
unfolding exit_answer plainly
exit_bytes w pid status reply.Done g = refl
exit_bytes w pid status r g = refl

wait_bytes : (w : World) (r : Reply) (g : Frame) → (wait_answer w r g).bytes ≡ []
unfolding wait_answer plainly
wait_bytes w (reply.Child p status) g = refl
wait_bytes w r g = refl

pex_bytes : (w : World) (b : Option OpenFile) (r : Reply) (g : Frame) → (pex_answer w b r g).bytes ≡ []
unfolding pex_answer plainly
pex_bytes w (Some e) r g = refl
pex_bytes w None r g = refl

pub step_bytes : (w : World) (place pid : ℕ) (o : Op) → (step w place pid o).bytes ≡ fronts w pid o (step w place pid o).reply
unfolding step answer plainly
step_bytes w place pid (op.ReadFd fd count) = read_bytes w _ _ _ _
step_bytes w place pid (op.WriteFd fd bytes) = write_bytes w _ _ _ _
step_bytes w place pid (op.CutFd fd len) = cut_bytes w _ _ _ _
step_bytes w place pid (op.SeekFd fd offset) = seek_bytes w _ _ _ _
step_bytes w place pid (op.StatAt path) = stat_bytes w _ _
step_bytes w place pid (op.Exit status) = exit_bytes w _ _ _ _
step_bytes w place pid op.WaitChild = wait_bytes w _ _
step_bytes w place pid (op.Pex fd) = pex_bytes w _ _ _
step_bytes w place pid o = refl
