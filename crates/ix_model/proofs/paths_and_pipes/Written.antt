-- What a pipe holds was written in it.
use Rattle.std.proofs.Common.{◌≡◌, ◌≢◌, ◌≤◌, ◌+◌, ◌-◌, ◌==◌, ℕ, zero, suc, Bool, true, false, not, List, [], ◌∷◌, ◌++◌, length, take, drop, Option, Some}
use Rattle.std.proofs.Common.{None, refl, sym, ap, ◌∙◌, subst, arith, append-nil, append_assoc, true≢false, get_or, set, if◌then◌else◌, inl, inr}
use Rattle.std.{specs.Option.option_map_or, proofs.lemmas.{Bool.{ne_eqb, eq-eqb, Decides.eqb_tells}, List.{get_or-set_other, take-append-drop}}}
use Rattle.ix_model.specs.{world.{World.{World, Frame, Content, Object, Holding, at, is_pipe}, Numbers.first_pipe, Contents.{after_seek, after_exit, emptied}}, history.Events.{Op, Event}}
use Rattle.ix_model.specs.{rows.{Walks.{OpenFile, behind}, OnDescriptors.LengthChecks, Table.verdict, Telling.told}, declared.reply.Reply.Reply}
use Rattle.ix_model.{specs.laws.{WholePaths.{reaches, sent, written_to, IsEndOf}, Sound.Sound}, proofs.paths_and_pipes.PipesPast.{PipesPast, is_other, pipes_past, past_step, past_next}}
use Rattle.ix_model.specs.world.Contents.{carried, holding_of, offset_of, holds_nothing, side, with_side, on_pipe, spliced, after_read, after_write, after_cut}
use Rattle.ix_model.specs.history.Step.{plainly, read_answer, write_answer, cut_answer, seek_answer, exit_answer, pex_answer, answer, step, step_of, run}
use Rattle.ix_model.proofs.{clean.{Carrying.get_or-keep, Cleaning.{wrote, was_cut}}, words.Answered.{world_stat, world_wait}}
use Rattle.ix_model.specs.history.Events as op
use Rattle.ix_model.specs.declared.reply.Reply.TheVariants as reply

-- ---- ends of lists
end_itself : (xs : List ℕ) → IsEndOf xs xs
end_itself xs = record { before = []; is = refl }

end_nothing : (xs : List ℕ) → IsEndOf [] xs
end_nothing xs = record { before = xs; is = sym (append-nil xs) }

end_dropped : (k : ℕ) (xs : List ℕ) → IsEndOf (drop k xs) xs
end_dropped k xs = record { before = take k xs; is = sym (take-append-drop k xs) }

-- more at the end of both, and of what is left then the end
end_more : (s t new whole : List ℕ) → IsEndOf s whole → IsEndOf t (s ++ new) → IsEndOf t (whole ++ new)
end_more s t new whole a b = record {
  before = a.before ++ b.before;
  is = ap (λ xs. xs ++ new) a.is ∙ append_assoc a.before s new ∙ ap (λ xs. a.before ++ xs) b.is ∙ sym (append_assoc a.before b.before t);
}

end_none : (s whole : List ℕ) → IsEndOf s whole → IsEndOf s (whole ++ [])
end_none s whole a = rw append-nil a

-- ---- holdings
-- what is read of a list after an edit: the new value at its number, or what was there
read_set : {A : Type 0} (d : A) (P : A → Type 0) (xs : List A) (n : ℕ) (x : A) (m : ℕ) → (m ≡ n → P x) → P (get_or xs m d) → P (get_or (set xs n x) m d)
read_set d P [] n x m here there = there
read_set d P (y ∷ xs) zero x zero here there = here refl
read_set d P (y ∷ xs) zero x (suc m) here there = there
read_set d P (y ∷ xs) (suc n) x zero here there = there
read_set d P (y ∷ xs) (suc n) x (suc m) here there = read_set d P xs n x m (λ e. here (ap suc e)) there

-- what is carried over is there, or nothing is
end_carried : (f g : Frame) (c : Content) (o end : ℕ) → IsEndOf (side end (holding_of (carried f g c) o)) (side end (holding_of c o))
unfolding carried
end_carried f g c o end = rw get_or-keep
    (go _)
  where
    none : (b : Bool) → IsEndOf (if b then holds_nothing.first else holds_nothing.second) (side end (holding_of c o))
    none true = end_nothing _
    none false = end_nothing _

    go : (b : Bool) → IsEndOf (side end (if b then holding_of c o else holds_nothing)) (side end (holding_of c o))
    go true = end_itself _
    go false = none _

-- a side of which the front is dropped
end_side : (end e k : ℕ) (h : Holding) → IsEndOf (side end (with_side e (drop k (side e h)) h)) (side end h)
end_side end e k h = go _ _
  where
    go : (a b : Bool) → IsEndOf (let r : Holding = if b then record h { first = drop k (if b then h.first else h.second) } else
        record h { second = drop k (if b then h.first else h.second) } in if a then r.first else r.second) (if a then h.first else h.second)
    go true true = end_dropped k _
    go true false = end_itself _
    go false true = end_itself _
    go false false = end_dropped k _

-- a side to which bytes were added
end_wrote : (end n : ℕ) (new : List ℕ) (h : Holding) → end ≤ 1 → n ≤ 1 → IsEndOf (side end (with_side n (side n h ++ new) h)) (side end h ++ (if n == end then new else []))
end_wrote zero zero new h low few = end_itself _
end_wrote zero (suc zero) new h low few = end_none _ _ (end_itself _)
end_wrote (suc zero) zero new h low few = end_none _ _ (end_itself _)
end_wrote (suc zero) (suc zero) new h low few = end_itself _
end_wrote (suc (suc m)) n new h low few = absurd (omega (arith, low))
end_wrote end (suc (suc m)) new h low few = absurd (omega (arith, few))

-- what is read at the number of an edit: the new value, or nothing where the list doesn't go so far
read_here : {A : Type 0} (d : A) (P : A → Type 0) (xs : List A) (n : ℕ) (x : A) → P x → P d → P (get_or (set xs n x) n d)
read_here d P [] n x new none = none
read_here d P (y ∷ xs) zero x new none = new
read_here d P (y ∷ xs) (suc n) x new none = read_here d P xs n x new none

nothing_side : (end : ℕ) (whole : List ℕ) → IsEndOf (side end holds_nothing) whole
nothing_side end whole = go _
  where
    go : (b : Bool) → IsEndOf (if b then holds_nothing.first else holds_nothing.second) whole
    go true = end_nothing _
    go false = end_nothing _

-- ---- reads and writes
end_read : (f : Frame) (c : Content) (e : OpenFile) (k o end : ℕ) → IsEndOf (side end (holding_of (after_read f e k c) o)) (side end (holding_of c o))
unfolding after_read
end_read f c e k o end = go _
  where
    there : Holding
    there = holding_of c e.entry.object

    go : (b : Bool) → IsEndOf
        (side end (holding_of (if b then record c { holdings = set c.holdings e.entry.object (with_side e.entry.end (drop k (side e.entry.end there)) there) }
        else record c { offsets = set c.offsets e.id (offset_of c e.id + k) }) o)) (side end (holding_of c o))
    go true = read_set holds_nothing (λ h. IsEndOf (side end h) (side end (holding_of c o))) c.holdings e.entry.object (with_side e.entry.end (drop k (side e.entry.end there)) there) o
        (λ here. subst (λ n. IsEndOf (side end (with_side e.entry.end (drop k (side e.entry.end there)) there)) (side end (holding_of c n))) (sym here) (end_side end e.entry.end k there))
        (end_itself (side end (holding_of c o)))
    go false = end_itself (side end (holding_of c o))

-- what a write to the pipe of that number adds
reached : OpenFile → List ℕ → ℕ → ℕ → List ℕ
reached e new o end = if reaches (Some e) o end then new else []

reached_other : (e : OpenFile) (new : List ℕ) (o end : ℕ) → o ≢ e.entry.object → reached e new o end ≡ []
unfolding reached
reached_other e new o end apart = rw (ne_eqb e.entry.object o (λ same. apart (sym same))) refl

-- a write to something else, or to the pipe, whose number is in reach of the list or not
end_set : (c : Content) (e : OpenFile) (new : List ℕ) (o end : ℕ) (x : Holding)
    → (o ≡ e.entry.object → IsEndOf (side end x) (side end (holding_of c o) ++ reached e new o end))
    → IsEndOf (side end (get_or (set c.holdings e.entry.object x) o holds_nothing)) (side end (holding_of c o) ++ reached e new o end)
end_set c e new o end x here = elim (eqb_tells o e.entry.object) [
  | inl same ↦
      subst (λ n. IsEndOf (side end (get_or (set c.holdings n x) o holds_nothing)) (side end (holding_of c o) ++ reached e new o end)) same.1
      (read_here holds_nothing (λ h. IsEndOf (side end h) (side end (holding_of c o) ++ reached e new o end)) c.holdings o x (here same.1) (nothing_side end _))
  | inr apart ↦
      subst (λ h. IsEndOf (side end h) (side end (holding_of c o) ++ reached e new o end)) (sym (get_or-set_other c.holdings e.entry.object o x holds_nothing apart.1))
      (rw (reached_other e new o end apart.1) (end_none _ _ (end_itself (side end (holding_of c o)))))
]

reached_same : (e : OpenFile) (new : List ℕ) (o end : ℕ) → o ≡ e.entry.object → reached e new o end ≡ (if 1 - e.entry.end == end then new else [])
unfolding reached
reached_same e new o end same = rw (eq-eqb e.entry.object o (sym same)) refl

end_write : (f : Frame) (c : Content) (e : OpenFile) (new : List ℕ) (o end : ℕ) → end ≤ 1 → (on_pipe f e ≡ false → o ≢ e.entry.object)
    → IsEndOf (side end (holding_of (after_write f e new c) o)) (side end (holding_of c o) ++ reached e new o end)
unfolding after_write
end_write f c e new o end low file = go (on_pipe f e) refl
  where
    n : ℕ
    n = 1 - e.entry.end

    there : Holding
    there = holding_of c e.entry.object

    piped : Content
    piped = record c { holdings = set c.holdings e.entry.object (with_side n (side n there ++ new) there) }

    filed : Content
    filed = record c {
      holdings = set c.holdings e.entry.object (with_side e.entry.end (spliced (offset_of c e.id) new (side e.entry.end there)) there);
      offsets = set c.offsets e.id (offset_of c e.id + length new);
    }

    go : (b : Bool) → on_pipe f e ≡ b → IsEndOf (side end (holding_of (if b then piped else filed) o)) (side end (holding_of c o) ++ reached e new o end)
    go true is = end_set c e new o end _ (λ same. subst (λ xs. IsEndOf (side end (with_side n (side n there ++ new) there)) (side end (holding_of c o) ++ xs)) (sym (reached_same e new o end same))
        (subst (λ m. IsEndOf (side end (with_side n (side n there ++ new) there)) (side end (holding_of c m) ++ (if n == end then new else []))) (sym same)
        (end_wrote end n new there low (omega arith))))
    go false is = end_set c e new o end _ (λ same. absurd (file is same))

-- ---- the step
-- the end of an end
end_trans : (whole s t : List ℕ) → IsEndOf s whole → IsEndOf t s → IsEndOf t whole
end_trans whole s t a b = record { before = a.before ++ b.before; is = a.is ∙ ap (λ xs. a.before ++ xs) b.is ∙ sym (append_assoc a.before b.before t) }

module _ (w : World) (o end : ℕ) (low : end ≤ 1) where
  -- what the pipe's end has now
  now : List ℕ
  now = side end (holding_of w.content o)

  -- the end after a world's content
  Ending : World → List ℕ → Type 0
  Ending v more = IsEndOf (side end (holding_of v.content o)) (now ++ more)

  plain_end : (g : Frame) → IsEndOf (side end (holding_of (carried w.frame g w.content) o)) (now ++ [])
  unfolding now
  plain_end g = end_none _ _ (end_carried _ g _ o _)

  read_ending : (count : ℕ) (b : Option OpenFile) (r : Reply) (g : Frame) → Ending (read_answer w count b r g).world []
  unfolding Ending read_answer plainly now
  read_ending count (Some e) (reply.Bytes k) g = end_none _ _ (end_trans _ _ _ (end_carried _ g _ o _) (end_read _ _ e _ o _))
  read_ending count _ r g = plain_end g

  cut_ending : (len : ℕ) (b : Option OpenFile) (r : Reply) (g : Frame) → ((e : OpenFile) → b ≡ Some e → r ≡ reply.Done → o ≢ e.entry.object) → Ending (cut_answer w len b r g).world []
  unfolding Ending cut_answer after_cut plainly now
  cut_ending len (Some e) reply.Done g apart =
      end_none _ _ (subst (λ h. IsEndOf (side end h) now)
      (sym (get_or-set_other _ e.entry.object o _ holds_nothing (apart e refl refl)))
      (end_carried _ g _ o _))
  cut_ending len _ r g apart = plain_end g

  seek_ending : (offset : ℕ) (b : Option OpenFile) (r : Reply) (g : Frame) → Ending (seek_answer w offset b r g).world []
  unfolding Ending seek_answer after_seek plainly
  seek_ending offset (Some e) reply.Done g = plain_end g
  seek_ending offset _ r g = plain_end g

  exit_ending : (pid status : ℕ) (r : Reply) (g : Frame) → Ending (exit_answer w pid status r g).world []
  unfolding Ending exit_answer after_exit plainly
  exit_ending pid status reply.Done g = go _
    where
      go : (b : Bool) → IsEndOf
          (side end (holding_of (if b then record (carried w.frame g w.content) { statuses = set (carried w.frame g w.content).statuses pid status } else
          carried w.frame g w.content) o)) (now ++ [])
      go true = plain_end g
      go false = plain_end g
  exit_ending pid status _ g = plain_end g

  pex_ending : (b : Option OpenFile) (r : Reply) (g : Frame) → Ending (pex_answer w b r g).world []
  unfolding Ending pex_answer emptied plainly now
  pex_ending None r g = plain_end g
  pex_ending (Some e) r g = go _
    where
      c : Content
      c = carried w.frame g w.content

      go : (b : Bool) → IsEndOf (side end (holding_of (if b then record c { holdings = set c.holdings e.entry.object holds_nothing } else c) o)) (now ++ [])
      go true = read_set _ (λ h. IsEndOf (side end h) (now ++ [])) c.holdings _ _ o (λ here. nothing_side _ _) (plain_end g)
      go false = plain_end g

  wrote_end : (e : OpenFile) (new : List ℕ) (g : Frame) → (on_pipe w.frame e ≡ false → o ≢ e.entry.object)
      → IsEndOf (side end (holding_of (after_write w.frame e new (carried w.frame g w.content)) o)) (side end (holding_of (carried w.frame g w.content) o)
      ++ (if reaches (Some e) o end then new else []))
  unfolding reached
  wrote_end e new g file = end_write _ _ e _ o _ low file

  write_ending : (pid fd : ℕ) (new : List ℕ) (b : Option OpenFile) (r : Reply) (g : Frame) → behind w.frame pid fd ≡ b
      → ((e : OpenFile) (k : ℕ) → b ≡ Some e → r ≡ reply.Number k → on_pipe w.frame e ≡ false → o ≢ e.entry.object)
      → Ending (write_answer w new b r g).world (sent w.frame pid (op.WriteFd fd new) (write_answer w new b r g).reply o end)
  unfolding Ending write_answer plainly now
  write_ending pid fd new (Some e) (reply.Number k) g is file =
      rw is (end_more _ _ _ _ (end_carried _ g _ o _) (wrote_end e _ g (file e k refl refl)))
  write_ending pid fd new None (reply.Number k) g is file = rw is (plain_end g)
  write_ending pid fd new b r g is file = plain_end g

-- a file's number is before the pipes'
before_pipes : (f : Frame) (o m : ℕ) (x : Object) → PipesPast f f → first_pipe f.fss ≤ o → at f.objects m ≡ Some x → is_pipe x ≡ false → o ≢ m
before_pipes f o m x past far is file same =
    let other = ap (λ n. is_other (at f.objects n)) same ∙ ap is_other is ∙ ap not file in
    true≢false (sym other ∙ past.pipes o far)

not_true : (b : Bool) → not b ≡ true → b ≡ false
not_true false h = refl
not_true true h = cc

write_apart : (w : World) (place pid fd o : ℕ) (new : List ℕ) (t : LengthChecks) → PipesPast w.frame w.frame → first_pipe w.frame.fss ≤ o
    → (e : OpenFile) (k : ℕ) → behind w.frame pid fd ≡ Some e → (verdict t place pid (op.WriteFd fd new) w.frame).reply ≡ reply.Number k
    → on_pipe w.frame e ≡ false → o ≢ e.entry.object
write_apart w place pid fd o new t past far e k is wrote_k file =
    let facts = wrote t place pid fd new w.frame k wrote_k in
    let same : facts.entry ≡ e = let h = facts.is_entry in cc in
    let there : at w.frame.objects e.entry.object ≡ Some facts.object = ap (λ (b : OpenFile). at w.frame.objects b.entry.object) (sym same) ∙ facts.is_object in
    before_pipes w.frame o e.entry.object facts.object past far there (sym (ap (λ x. option_map_or is_pipe x false) there) ∙ file)

cut_apart : (w : World) (place pid fd len o : ℕ) (t : LengthChecks) → PipesPast w.frame w.frame → first_pipe w.frame.fss ≤ o → (e : OpenFile)
    → behind w.frame pid fd ≡ Some e → (verdict t place pid (op.CutFd fd len) w.frame).reply ≡ reply.Done → o ≢ e.entry.object
cut_apart w place pid fd len o t past far e is done =
    let facts = was_cut t place pid fd len w.frame done in
    let same : facts.entry ≡ e = let h = facts.is_entry in cc in
    let there : at w.frame.objects e.entry.object ≡ Some facts.object = ap (λ (b : OpenFile). at w.frame.objects b.entry.object) (sym same) ∙ facts.is_object in
    before_pipes w.frame o e.entry.object facts.object past far there (not_true (is_pipe facts.object) facts.no_pipe)

-- what a pipe's end has after a call: the end of what it had and what was written to it
step_end : (w : World) (place pid : ℕ) (c : Op) (o end : ℕ) → end ≤ 1 → PipesPast w.frame w.frame → first_pipe w.frame.fss ≤ o
    → IsEndOf (side end (holding_of (step w place pid c).world.content o)) (side end (holding_of w.content o)
    ++ sent w.frame pid c (step w place pid c).reply o end)
unfolding step answer told plainly now Ending
step_end w place pid (op.WriteFd fd new) o end low past far =
    write_ending w o end low pid fd new (behind w.frame pid fd) _ _ refl (λ e k is wrote_k. write_apart w place pid fd o new _ past far e k is wrote_k)
step_end w place pid (op.ReadFd fd count) o end low past far = read_ending w o end low count (behind w.frame pid fd) _ _
step_end w place pid (op.CutFd fd len) o end low past far = cut_ending w o end low len (behind w.frame pid fd) _ _ (λ e is done. cut_apart w place pid fd len o _ past far e is done)
step_end w place pid (op.SeekFd fd offset) o end low past far = seek_ending w o end low offset (behind w.frame pid fd) _ _
step_end w place pid (op.StatAt path) o end low past far =
    subst (λ (v : World). IsEndOf (side end (holding_of v.content o)) (side end (holding_of w.content o) ++ [])) (sym (world_stat w _ _))
    (plain_end w o end low _)
step_end w place pid (op.Exit status) o end low past far = exit_ending w o end low pid status _ _
step_end w place pid op.WaitChild o end low past far =
    subst (λ (v : World). IsEndOf (side end (holding_of v.content o)) (side end (holding_of w.content o) ++ [])) (sym (world_wait w _ _))
    (plain_end w o end low _)
step_end w place pid (op.Pex fd) o end low past far = pex_ending w o end low (behind w.frame pid fd) _ _
step_end w place pid c o end low past far = plain_end w o end low _

-- ---- runs
run_end : (w : World) (place : ℕ) (h : List Event) (o end : ℕ) (whole : List ℕ) → end ≤ 1 → PipesPast w.frame w.frame → first_pipe w.frame.fss ≤ o
    → IsEndOf (side end (holding_of w.content o)) whole → IsEndOf (side end (holding_of (run w place h).content o)) (whole ++ written_to w place h o end)
unfolding written_to
run_end w place [] o end whole low past far is = end_none _ whole is
run_end w place (e ∷ h) o end whole low past far is =
    let next = past_step w place e.pid e.op past in
    let new = sent w.frame e.pid e.op (step_of w place e).reply o end in
    subst (λ xs. IsEndOf (side end (holding_of (run (step_of w place e).world (suc place) h).content o)) xs) (append_assoc whole new (written_to (step_of w place e).world (suc place) h o end))
    (run_end (step_of w place e).world (suc place) h o end (whole ++ new) low (past_next _ _ next) (rw next.fss far)
    (end_more _ _ new whole is (step_end w place e.pid e.op o end low past far)))

pub holds_written : (w : World) (place : ℕ) (h : List Event) (o end : ℕ) → Sound w → first_pipe w.frame.fss ≤ o → end ≤ 1
    → holding_of w.content o ≡ holds_nothing → IsEndOf (side end (holding_of (run w place h).content o)) (written_to w place h o end)
holds_written w place h o end sound far low empty =
    run_end w place h o end [] low (pipes_past w.frame sound.limits) far (subst (λ x. IsEndOf (side end x) []) (sym empty) (nothing_side end []))
