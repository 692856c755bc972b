-- How many of each a content has, and the part of a reply that the frame decides: neither looks at what is held.
use Rattle.std.proofs.{Common.{◌≡◌, ◌+◌, ◌-◌, ℕ, Bool, true, false, true≢false, List, [], ◌∷◌, length, map, Option, Some, None, refl, sym}, lemmas.List.{length-map, length-replicate}}
use Rattle.std.proofs.Common.{if◌then◌else◌, ap, ◌∙◌, arith, set, length-set, length-append}
use Rattle.ix_model.specs.{world.{Naming.PathOf, World.{Frame, World, Content, Holding, at, is_ended}}, rows.{Walks.OpenFile, Table.Decision}, history.Step.answer}
use Rattle.ix_model.{specs.{two_runs.TwoRuns.{shape, blank}, history.Events.Op, declared.reply.Reply.Reply}, proofs.clean.Carrying.length-keep}
use Rattle.ix_model.specs.world.Contents.{grown, carried, after_read, after_write, after_cut, after_seek, after_exit, emptied, holds_nothing}
use Rattle.ix_model.specs.history.Step.{Given, plainly, read_answer, write_answer, cut_answer, seek_answer, stat_answer, exit_answer, wait_answer, pex_answer}
use Rattle.ix_iso.{specs.Laws.{frame_part, gives_bytes}, proofs.OneKind.kind_number}
use Rattle.ix_model.specs.history.Events as op
use Rattle.ix_model.specs.declared.reply.Kind.TheVariants as kind
use Rattle.ix_model.specs.declared.reply.Reply.TheVariants as reply

-- as many objects, open entries and processes
pub record SameCounts (c d : Content) : Type 0 where
  pub holdings : length c.holdings ≡ length d.holdings
  pub offsets : length c.offsets ≡ length d.offsets
  pub statuses : length c.statuses ≡ length d.statuses

pub counts_itself : (c : Content) → SameCounts c c
counts_itself c = search

-- ---- shapes
map_constant : {A B : Type 0} (b : B) (xs ys : List A) → length xs ≡ length ys → map (λ x. b) xs ≡ map (λ x. b) ys
map_constant b [] [] h = refl
map_constant b [] (y ∷ ys) h = absurd (omega (arith, h))
map_constant b (x ∷ xs) [] h = absurd (omega (arith, h))
map_constant b (x ∷ xs) (y ∷ ys) h = ap (λ zs. b ∷ zs) (map_constant b xs ys (omega (arith, h)))

map_length : {A B : Type 0} (b : B) (xs ys : List A) → map (λ x. b) xs ≡ map (λ x. b) ys → length xs ≡ length ys
map_length b xs ys h = sym (length-map xs (λ x. b)) ∙ ap length h ∙ length-map ys (λ x. b)

blank_same : (c d : Content) → SameCounts c d → blank c ≡ blank d
blank_same c d r = λ i. record {
  holdings = map_constant holds_nothing _ _ r.holdings i;
  offsets =
      map_constant 0 _ _ r.offsets i;
  statuses = map_constant 0 _ _ r.statuses i;
}

pub shape_from : (v w : World) → v.frame ≡ w.frame → SameCounts v.content w.content → shape v ≡ shape w
unfolding shape
shape_from v w frames counts = λ i. record { frame = frames i; content = blank_same _ _ counts i }

pub shape_frames : (v w : World) → shape v ≡ shape w → v.frame ≡ w.frame
unfolding shape
shape_frames v w h = ap (λ u. u.frame) h

pub shape_counts : (v w : World) → shape v ≡ shape w → SameCounts v.content w.content
unfolding shape
shape_counts v w h = record {
  holdings = map_length _ _ _ (ap (λ u. u.content.holdings) h);
  offsets = map_length 0 _ _ (ap (λ u. u.content.offsets) h);
  statuses = map_length 0 _ _ (ap (λ u. u.content.statuses) h);
}

-- ---- what a step does
length_grown : (n : ℕ) (xs : List ℕ) → length (grown n xs) ≡ length xs + (n - length xs)
length_grown n xs = length-append xs _ ∙ ap (λ k. length xs + k) (length-replicate _ 0)

pub counts_carried : (f g : Frame) (c d : Content) → SameCounts c d → SameCounts (carried f g c) (carried f g d)
unfolding carried
counts_carried f g c d r =
    let few = length_grown _ _
    ∙ ap (λ n. n + (length g.processes - n)) r.statuses ∙ sym (length_grown _ _) in
    record {
      holdings = length-keep _ _ 0 _ ∙ r.holdings ∙ sym (length-keep _ _ 0 _);
      offsets = length-keep 0 _ 0 _ ∙ r.offsets ∙ sym (length-keep 0 _ 0 _);
      statuses = length-keep 0 _ 0 _ ∙ few ∙ sym (length-keep 0 _ 0 _);
    }

module _ (c : Content) where
  set_holding : (o : ℕ) (h : Holding) → SameCounts (record c { holdings = set c.holdings o h }) c
  set_holding o h = let holdings = length-set c.holdings o h in search

  set_offset : (e n : ℕ) → SameCounts (record c { offsets = set c.offsets e n }) c
  set_offset e n = let offsets = length-set c.offsets e n in search

  either : (b : Bool) (x y : Content) → SameCounts x c → SameCounts y c → SameCounts (if b then x else y) c
  either true x y r s = r
  either false x y r s = s

  counts_read : (f : Frame) (e : OpenFile) (k : ℕ) → SameCounts (after_read f e k c) c
  unfolding after_read
  counts_read f e k = either _ _ _ (set_holding _ _) (set_offset _ _)

  counts_write : (f : Frame) (e : OpenFile) (new : List ℕ) → SameCounts (after_write f e new c) c
  unfolding after_write
  counts_write f e new = either _ _ _ (set_holding _ _) (record { holdings = length-set c.holdings e.entry.object _; offsets = length-set c.offsets e.id _; statuses = refl })

  counts_cut : (e : OpenFile) (len : ℕ) → SameCounts (after_cut e len c) c
  unfolding after_cut
  counts_cut e len = set_holding _ _

  counts_seek : (e : OpenFile) (offset : ℕ) → SameCounts (after_seek e offset c) c
  unfolding after_seek
  counts_seek e offset = set_offset _ _

  counts_exit : (g : Frame) (pid status : ℕ) → SameCounts (after_exit g pid status c) c
  unfolding after_exit
  counts_exit g pid status = either (is_ended (at g.processes pid)) _ _ (let statuses = length-set c.statuses pid status in search) (counts_itself c)

  counts_emptied : (o : ℕ) → SameCounts (emptied o c) c
  unfolding emptied
  counts_emptied o = set_holding o _

-- an answer has as many of each as what is carried over
module _ (w : World) where
  abbrev Kept : Frame → Given → Type 0
  Kept g a = SameCounts a.world.content (carried w.frame g w.content)

  kept_read : (count : ℕ) (b : Option OpenFile) (r : Reply) (g : Frame) → Kept g (read_answer w count b r g)
  unfolding read_answer plainly
  kept_read count (Some e) (reply.Bytes k) g = counts_read _ _ e _
  kept_read count _ r g = counts_itself _

  kept_write : (new : List ℕ) (b : Option OpenFile) (r : Reply) (g : Frame) → Kept g (write_answer w new b r g)
  unfolding write_answer plainly
  kept_write new (Some e) (reply.Number k) g = counts_write _ _ e new
  kept_write new _ r g = counts_itself _

  kept_cut : (len : ℕ) (b : Option OpenFile) (r : Reply) (g : Frame) → Kept g (cut_answer w len b r g)
  unfolding cut_answer plainly
  kept_cut len (Some e) reply.Done g = counts_cut _ e len
  kept_cut len _ r g = counts_itself _

  kept_seek : (offset : ℕ) (b : Option OpenFile) (r : Reply) (g : Frame) → Kept g (seek_answer w offset b r g)
  unfolding seek_answer plainly
  kept_seek offset (Some e) reply.Done g = counts_seek _ e offset
  kept_seek offset _ r g = counts_itself _

  kept_stat : (r : Reply) (g : Frame) → Kept g (stat_answer w r g)
  unfolding stat_answer plainly
  kept_stat (reply.Stat o kind.File size links frozen x y) g = counts_itself _
  kept_stat r g = counts_itself _

  kept_exit : (pid status : ℕ) (r : Reply) (g : Frame) → Kept g (exit_answer w pid status r g)
  unfolding exit_answer plainly
  kept_exit pid status reply.Done g = counts_exit _ g _ status
  kept_exit pid status r g = counts_itself _

  kept_wait : (r : Reply) (g : Frame) → Kept g (wait_answer w r g)
  unfolding wait_answer plainly
  kept_wait (reply.Child p status) g = counts_itself _
  kept_wait r g = counts_itself _

  kept_pex : (b : Option OpenFile) (r : Reply) (g : Frame) → Kept g (pex_answer w b r g)
  unfolding pex_answer plainly
  kept_pex (Some e) r g = either _ _ _ _
      (counts_emptied _ e.entry.object) (counts_itself _)
  kept_pex None r g = counts_itself _

  pub kept_answer : (pid : ℕ) (c : Op) (d : Decision) → Kept d.frame (answer w pid c d)
  unfolding answer plainly
  kept_answer pid (op.ReadFd fd count) d = kept_read _ _ _ _
  kept_answer pid (op.WriteFd fd bytes) d = kept_write _ _ _ _
  kept_answer pid (op.CutFd fd len) d = kept_cut _ _ _ _
  kept_answer pid (op.SeekFd fd offset) d = kept_seek _ _ _ _
  kept_answer pid (op.StatAt path) d = kept_stat _ _
  kept_answer pid (op.Exit status) d = kept_exit _ _ _ _
  kept_answer pid op.WaitChild d = kept_wait _ _
  kept_answer pid (op.Pex fd) d = kept_pex _ _ _
  kept_answer pid c d = counts_itself _

  -- ---- replies
  -- the reply of an answer and that of its decision are of one kind, and equal in the part that the frame decides
  pub record Told (c : Op) (a : Given) (r : Reply) : Type 0 where
    pub kind : kind_number a.reply ≡ kind_number r
    pub part : frame_part c a.reply ≡ frame_part c r
    pub bytes : gives_bytes c ≡ false → a.bytes ≡ []

  told_same : (c : Op) (a : Given) (r : Reply) → a.reply ≡ r → a.bytes ≡ [] → Told c a r
  told_same c a r h none = record { kind = ap kind_number h; part = ap (frame_part c) h; bytes = λ other. none }

  told_read : (fd count : ℕ) (b : Option OpenFile) (r : Reply) (g : Frame) → Told (op.ReadFd fd count) (read_answer w count b r g) r
  unfolding read_answer plainly
  told_read fd count (Some e) (reply.Bytes k) g = record { kind = refl; part = refl; bytes = λ other. absurd (true≢false other) }
  told_read fd count _ r g = told_same _ _ r refl refl

  told_write : (fd : ℕ) (new : List ℕ) (b : Option OpenFile) (r : Reply) (g : Frame) → Told (op.WriteFd fd new) (write_answer w new b r g) r
  unfolding write_answer plainly
  told_write fd new (Some e) (reply.Number k) g = search
  told_write fd new _ r g = told_same _ _ r refl refl

  told_cut : (c : Op) (len : ℕ) (b : Option OpenFile) (r : Reply) (g : Frame) → Told c (cut_answer w len b r g) r
  unfolding cut_answer plainly
  told_cut c len (Some e) reply.Done g = told_same c _ _ refl refl
  told_cut c len _ r g = told_same c _ r refl refl

  told_seek : (c : Op) (offset : ℕ) (b : Option OpenFile) (r : Reply) (g : Frame) → Told c (seek_answer w offset b r g) r
  unfolding seek_answer plainly
  told_seek c offset (Some e) reply.Done g = told_same c _ _ refl refl
  told_seek c offset _ r g = told_same c _ r refl refl

  told_stat : (path : PathOf) (r : Reply) (g : Frame) → Told (op.StatAt path) (stat_answer w r g) r
  unfolding stat_answer plainly
  told_stat path (reply.Stat o kind.File size links frozen x y) g = search
  told_stat path r g = told_same _ _ r refl refl

  told_exit : (c : Op) (pid status : ℕ) (r : Reply) (g : Frame) → Told c (exit_answer w pid status r g) r
  unfolding exit_answer plainly
  told_exit c pid status reply.Done g = told_same c _ _ refl refl
  told_exit c pid status r g = told_same c _ r refl refl

  told_wait : (r : Reply) (g : Frame) → Told op.WaitChild (wait_answer w r g) r
  unfolding wait_answer plainly
  told_wait (reply.Child p status) g = search
  told_wait r g = told_same _ _ r refl refl

  told_pex : (c : Op) (b : Option OpenFile) (r : Reply) (g : Frame) → Told c (pex_answer w b r g) r
  unfolding pex_answer plainly
  told_pex c (Some e) r g = told_same c _ r refl refl
  told_pex c None r g = told_same c _ r refl refl

  pub told_answer : (pid : ℕ) (c : Op) (d : Decision) → Told c (answer w pid c d) d.reply
  unfolding answer plainly
  told_answer pid (op.ReadFd fd count) d = told_read fd _ _ _ _
  told_answer pid (op.WriteFd fd bytes) d = told_write fd _ _ _ _
  told_answer pid (op.CutFd fd len) d = told_cut _ _ _ _ _
  told_answer pid (op.SeekFd fd offset) d = told_seek _ _ _ _ _
  told_answer pid (op.StatAt path) d = told_stat _ _ _
  told_answer pid (op.Exit status) d = told_exit _ _ _ _ _
  told_answer pid op.WaitChild d = told_wait _ _
  told_answer pid (op.Pex fd) d = told_pex _ _ _ _
  told_answer pid c d = told_same c _ _ refl refl
