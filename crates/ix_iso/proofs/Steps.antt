-- Two worlds alike at a label are so after each call, and what a low process is told is the same.
use Rattle.std.{proofs.Common.{◌≡◌, ◌⊎◌, ◌+◌, ◌-◌, ℕ, Bool, true, false, true≢false, not, ◌&&◌, List, ◌++◌, length, take, drop, Option, Some, None, refl, sym}, specs.Option.option_map_or}
use Rattle.std.proofs.Common.{if◌then◌else◌, ap, ◌∙◌, subst, inl, inr, set}
use Rattle.ix_label.specs.{Category.{Categories, leq}, Lattice.leq-trans}
use Rattle.ix_model.specs.{world.World.{World, Frame, Content, Holding, Object, Process, Open, at, living, is_pipe}, declared.reply.Reply.Reply}
use Rattle.ix_model.specs.{rows.{Walks.{OpenFile, behind}, OnDescriptors.LengthChecks, Table.{Decision, row, verdict}, Telling.told}, history.Step.{is_whole, answer, step, step_of}}
use Rattle.ix_model.specs.{history.{AuditLog.is_answer, Lowering.Crosses, Events.{Op, Event}}, world.Contents.{spliced, after_cut, cut_to, after_seek, after_exit, emptied}}
use Rattle.ix_model.specs.world.Contents.{carried, holding_of, offset_of, status_of, side, with_side, on_pipe, readable, change_side, after_read, after_write}
use Rattle.ix_model.specs.history.Step.{Given, plainly, read_answer, write_answer, cut_answer, seek_answer, stat_answer, exit_answer, wait_answer, pex_answer}
use Rattle.ix_model.specs.two_runs.TwoRuns.{AlikeIn, Alike, IsLow, IsHigh, AgreeAt, Same, Other, Replaced, Written, Exited, is_one_kind}
use Rattle.ix_model.proofs.words.{Answered.passed, Living.is_living, Standing.behind_is}
use Rattle.ix_iso.{specs.Laws.AlikeAfter, proofs.{Counts.{SameCounts, counts_carried, shape_counts, shape_frames}, Entries.{EntriesRise, entries_rise}}}
use Rattle.ix_iso.proofs.Shapes.{twins_itself, twins_replaced, Twins, one_decision, shape_twins}
use Rattle.ix_iso.proofs.Facts.{ReadKnown, read_known, WriteKnown, write_known, StatFacts, stat_known, WaitFacts, wait_known}
use Rattle.ix_iso.proofs.Inside.{carried_alike, object_was_low, process_was_low, offset_carried, holding_alike, offset_alike, status_alike}
use Rattle.ix_model.specs.history.Events as op
use Rattle.ix_model.specs.declared.reply.Kind.TheVariants as kind
use Rattle.ix_model.specs.declared.reply.Reply.TheVariants as reply

-- what is alike after two calls, from one frame
pub record Inside (l : Categories) (pid : ℕ) (f : Frame) (a b : Given) : Type 0 where
  pub inside : (Crosses l f a.world.frame → ⊥) → AlikeIn l a.world.frame a.world.content b.world.content
  pub replies : IsLow l a.world.frame pid → (a.reply ≡ b.reply) × (a.bytes ≡ b.bytes)

same_bytes_of : (f : Frame) (e : OpenFile) (c d : Content) → (on_pipe f e ≡ false → offset_of c e.id ≡ offset_of d e.id)
    → holding_of c e.entry.object ≡ holding_of d e.entry.object → readable f c e ≡ readable f d e
unfolding readable
same_bytes_of f e c d offsets holdings = go _ offsets
  where
    go : (b : Bool) → (b ≡ false → offset_of c e.id ≡ offset_of d e.id)
        → drop (if b then 0 else offset_of c e.id) (side e.entry.end (holding_of c e.entry.object)) ≡ drop (if b then 0 else
        offset_of d e.id) (side e.entry.end (holding_of d e.entry.object))
    go true h = ap (λ x. drop 0 (side e.entry.end x)) holdings
    go false h = λ i. drop (h refl i) (side e.entry.end (holdings i))

module _ (l : Categories) (g : Frame) (c d : Content) (counts : SameCounts c d) (same : AlikeIn l g c d) where
  -- the same is done to what an end reads from
  side_alike : (o end : ℕ) (h k : List ℕ → List ℕ) → ((x : Object) → at g.objects o ≡ Some x → leq x.label l ≡ true → (bytes : List ℕ) → h bytes ≡ k bytes)
      → AlikeIn l g (change_side o end h c) (change_side o end k d)
  side_alike o end h k one = holding_alike l g c d counts same o _ _ (λ x here below.
      let equal = same.bytes o x here below in
      ap (λ y. with_side end (h (side end y)) y) equal ∙ ap (λ b. with_side end b (holding_of d o)) (one x here below (side end (holding_of d o))))

  read_edited : (b : Bool) (e : OpenFile) (m n : ℕ) → (b ≡ true → (x : Object) → at g.objects e.entry.object ≡ Some x → leq x.label l ≡ true → m ≡ n)
      → (b ≡ false → (y : Open) → at g.opens e.id ≡ Some y → leq y.label l ≡ true → m ≡ n)
      → AlikeIn l g (if b then change_side e.entry.object e.entry.end (drop m) c else record c { offsets = set c.offsets e.id (offset_of c e.id + m) }) (if b
      then change_side e.entry.object e.entry.end (drop n) d else record d { offsets = set d.offsets e.id (offset_of d e.id + n) })
  read_edited true e m n pipe file = side_alike _ _ _ _ (λ x here below bytes. ap (λ k. drop k bytes) (pipe refl x here below))
  read_edited false e m n pipe file = offset_alike l g c d counts same _ _ _ (λ y here below. let one = file refl y here below in let equal = same.offsets e.id y here below in λ i. equal i + one i)

  read_alike : (f : Frame) (e : OpenFile) (m n : ℕ) → (on_pipe f e ≡ true → (x : Object) → at g.objects e.entry.object ≡ Some x → leq x.label l ≡ true → m ≡ n)
      → (on_pipe f e ≡ false → (y : Open) → at g.opens e.id ≡ Some y → leq y.label l ≡ true → m ≡ n) → AlikeIn l g (after_read f e m c) (after_read f e n d)
  unfolding after_read
  read_alike f e m n pipe file = read_edited _ e m n pipe file

  write_edited : (b : Bool) (e : OpenFile) (m n : List ℕ) → ((x : Object) → at g.objects e.entry.object ≡ Some x → leq x.label l ≡ true
      → (m ≡ n) × (b ≡ false → offset_of c e.id ≡ offset_of d e.id)) → (b ≡ false → (y : Open) → at g.opens e.id ≡ Some y → leq y.label l ≡ true → m ≡ n)
      → AlikeIn l g (if b then change_side e.entry.object (1 - e.entry.end) (λ old. old ++ m) c else
      record (change_side e.entry.object e.entry.end (spliced (offset_of c e.id) m) c) { offsets = set c.offsets e.id (offset_of c e.id + length m) })
      (if b then change_side e.entry.object (1 - e.entry.end) (λ old. old ++ n) d else
      record (change_side e.entry.object e.entry.end (spliced (offset_of d e.id) n) d) { offsets = set d.offsets e.id (offset_of d e.id + length n) })
  write_edited true e m n object entry = side_alike _ (1 - e.entry.end) _ _ (λ x here below bytes. ap (λ k. bytes ++ k) (object x here below).0)
  write_edited false e m n object entry =
      let held = side_alike _ _ _ _ (λ x here below bytes. let one =
      object x here below in λ i. spliced (one.1 refl i) (one.0 i) bytes) in
      let moved = offset_alike l g c d counts same _ _ _ (λ y here below. let one =
      entry refl y here below in let equal = same.offsets e.id y here below in λ i. equal i + length (one i)) in
      record { bytes = held.bytes; offsets = moved.offsets; statuses = same.statuses }

  write_alike : (f : Frame) (e : OpenFile) (m n : List ℕ) → ((x : Object) → at g.objects e.entry.object ≡ Some x → leq x.label l ≡ true
      → (m ≡ n) × (on_pipe f e ≡ false → offset_of c e.id ≡ offset_of d e.id)) → (on_pipe f e ≡ false → (y : Open) → at g.opens e.id ≡ Some y
      → leq y.label l ≡ true → m ≡ n) → AlikeIn l g (after_write f e m c) (after_write f e n d)
  unfolding after_write
  write_alike f e m n object entry = write_edited _ e m n object entry

  cut_alike : (e : OpenFile) (len : ℕ) → AlikeIn l g (after_cut e len c) (after_cut e len d)
  unfolding after_cut
  cut_alike e len = side_alike _ e.entry.end (cut_to len) _ (λ x here below bytes. refl)

  seek_alike : (e : OpenFile) (offset : ℕ) → AlikeIn l g (after_seek e offset c) (after_seek e offset d)
  unfolding after_seek
  seek_alike e offset = offset_alike l g c d counts same _ _ _ (λ y here below. refl)

  exit_alike : (pid s t : ℕ) → ((x : Process) → at g.processes pid ≡ Some x → leq x.label l ≡ true → s ≡ t) → AlikeIn l g (after_exit g pid s c) (after_exit g pid t d)
  unfolding after_exit
  exit_alike pid s t equal = go _
    where
      go : (b : Bool) → AlikeIn l g (if b then record c { statuses = set c.statuses pid s } else c) (if b then record d { statuses = set d.statuses pid t } else d)
      go true = status_alike l g c d counts same _ s t equal
      go false = same

  emptied_alike : (b : Bool) (o : ℕ) → AlikeIn l g (if b then emptied o c else c) (if b then emptied o d else d)
  unfolding emptied
  emptied_alike true o = holding_alike l g c d counts same o _ _ (λ x here below. refl)
  emptied_alike false o = same

-- ---- answers
-- what two entries write or leave is one, where the caller is low
abbrev pub Agreed : {A : Type 0} → Categories → ℕ → Frame → A → A → Type 0
Agreed l pid f a b = IsHigh l f pid ⊎ (a ≡ b)

one_where_low : {A : Type 0} (l : Categories) (pid : ℕ) (f : Frame) (a b : A) → Agreed l pid f a b → (p : Process) → living (at f.processes pid) ≡ Some p → leq p.label l ≡ true → a ≡ b
one_where_low l pid f a b (inl high) p lives below =
    let who : high.process ≡ p = cc (sym high.lives ∙ lives) in
    absurd (true≢false (sym below ∙ subst (λ q. leq q.label l ≡ false) who high.high))
one_where_low l pid f a b (inr equal) p lives below = equal

module _ (l : Categories) (pid : ℕ) (f : Frame) (c d : Content) (counts : SameCounts c d) (same : AlikeIn l f c d) where
  abbrev one : World
  one = record { frame = f; content = c }

  abbrev two : World
  two = record { frame = f; content = d }

  kept : (g : Frame) → EntriesRise f.opens g.opens → (Crosses l f g → ⊥) → AlikeIn l g (carried f g c) (carried f g d)
  kept g rise steady = carried_alike l f g c d rise steady same

  many : (g : Frame) → SameCounts (carried f g c) (carried f g d)
  many g = counts_carried f g c d counts

  plain_inside : (r : Reply) (g : Frame) → EntriesRise f.opens g.opens → Inside l pid f (plainly one (record { reply = r; frame = g })) (plainly two (record { reply = r; frame = g }))
  unfolding plainly
  plain_inside r g rise = record { inside = λ steady. kept g rise steady; replies = λ low. (refl, refl) }

  read_inside : (fd count : ℕ) (b : Option OpenFile) → behind f pid fd ≡ b → (r : Reply) (g : Frame) → EntriesRise f.opens g.opens
      → (is_answer r ≡ true → ReadKnown pid fd f r g) → Inside l pid f (read_answer one count b r g) (read_answer two count b r g)
  unfolding read_answer
  read_inside fd count (Some e) is (reply.Bytes k) g rise known =
      let facts = known refl e is in
      let piped : on_pipe f e ≡ is_pipe facts.object = ap (λ o. option_map_or is_pipe o false) facts.is_object in
      let stood : at f.opens e.id ≡ Some e.entry = behind_is f pid fd e is in
      let all_seen : leq facts.process.label l ≡ true → readable f c e ≡ readable f d e = λ below.
      same_bytes_of f e c d (λ file. same.offsets e.id e.entry stood (leq-trans e.entry.label facts.process.label l facts.sees_entry below))
      (same.bytes e.entry.object facts.object facts.is_object (leq-trans facts.object.label facts.process.label l facts.sees_object below)) in
      record {
        inside = λ steady. read_alike l g (carried f g c) (carried f g d) (many g) (kept g rise steady) f e _ _
            (λ pipe x here below. ap (λ bytes. length (take count bytes)) (same_bytes_of f e c d (λ file. absurd (true≢false (sym pipe ∙ file)))
            (same.bytes e.entry.object facts.object facts.is_object (object_was_low l f g steady e.entry.object facts.object x facts.is_object here
            below))))
            (λ file y here below. ap (λ bytes. length (take count bytes)) (all_seen (leq-trans facts.process.label y.label l (facts.entry (sym piped ∙ file) y here) below)));
        replies = λ low.
            let h : Some facts.process ≡ Some low.process = sym facts.lives ∙ low.lives in
            let who : facts.process ≡ low.process = cc in
            let equal = all_seen (subst (λ (p : Process). leq p.label l ≡ true) (sym who) low.low) in
            (ap (λ bytes. reply.Bytes (length (take count bytes))) equal, ap (take count) equal);
      }
  read_inside fd count _ is r g rise known = plain_inside r g rise

  write_inside : (fd : ℕ) (m n : List ℕ) → Agreed l pid f m n → (b : Option OpenFile) → behind f pid fd ≡ b → (r : Reply) (g : Frame)
      → EntriesRise f.opens g.opens → (is_answer r ≡ true → WriteKnown pid fd f r g) → Inside l pid f (write_answer one m b r g) (write_answer two n b r g)
  unfolding write_answer
  write_inside fd m n agree (Some e) is (reply.Number k) g rise known =
      let facts = known refl e is in
      let piped : on_pipe f e ≡ is_pipe facts.object = ap (λ o. option_map_or is_pipe o false) facts.is_object in
      let stood : at f.opens e.id ≡ Some e.entry = behind_is f pid fd e is in
      let own : (a : Categories) → leq facts.caller.label a ≡ true → leq a l ≡ true → m ≡ n =
      λ a above below. one_where_low l pid f m n agree facts.caller facts.is_caller (leq-trans facts.caller.label a l above below) in
      record {
        inside = λ steady. write_alike l g (carried f g c) (carried f g d) (many g) (kept g rise steady) f e m n
            (λ x here below.
            let takes = facts.takes x here in
            (own x.label takes.0 below, λ file. offset_carried f g c d e.id (λ stays. same.offsets e.id e.entry stood (leq-trans e.entry.label x.label l takes.1 below))))
            (λ file y here below. own y.label (facts.entry (sym piped ∙ file) y here).0 below);
        replies = λ low.
            let equal = one_where_low l pid f m n agree low.process (ap (λ t. living (at t pid)) (sym facts.processes) ∙ low.lives) low.low in
            (ap (λ bytes. reply.Number (length bytes)) equal, refl);
      }
  write_inside fd m n agree _ is r g rise known = plain_inside r g rise

  cut_inside : (len : ℕ) (b : Option OpenFile) (r : Reply) (g : Frame) → EntriesRise f.opens g.opens → Inside l pid f (cut_answer one len b r g) (cut_answer two len b r g)
  unfolding cut_answer
  cut_inside len (Some e) reply.Done g rise = record { inside = λ steady. cut_alike l g (carried f g c) (carried f g d) (many g) (kept g rise steady) e len; replies = λ low. (refl, refl) }
  cut_inside len _ r g rise = plain_inside r g rise

  seek_inside : (offset : ℕ) (b : Option OpenFile) (r : Reply) (g : Frame) → EntriesRise f.opens g.opens → Inside l pid f (seek_answer one offset b r g) (seek_answer two offset b r g)
  unfolding seek_answer
  seek_inside offset (Some e) reply.Done g rise = record { inside = λ steady. seek_alike l g (carried f g c) (carried f g d) (many g) (kept g rise steady) e offset; replies = λ low. (refl, refl) }
  seek_inside offset _ r g rise = plain_inside r g rise

  stat_inside : (r : Reply) (g : Frame) → EntriesRise f.opens g.opens → (is_answer r ≡ true → StatFacts pid f r g) → Inside l pid f (stat_answer one r g) (stat_answer two r g)
  unfolding stat_answer plainly
  stat_inside (reply.Stat o kind.File size links frozen x y) g rise known =
      let facts = known refl in
      let which : o.0 ≡ facts.number = cc (facts.is_reply) in
      record {
        inside = λ steady. kept g rise steady;
        replies = λ low.
            let h : Some facts.process ≡ Some low.process = sym facts.lives ∙ low.lives in
            let who : facts.process ≡ low.process = cc in
            let below = leq-trans facts.object.label facts.process.label l facts.sees (subst (λ (p : Process). leq p.label l ≡ true) (sym who) low.low) in
            let equal : holding_of c o.0 ≡ holding_of d o.0 = subst (λ n. holding_of c n ≡ holding_of d n) (sym which) (same.bytes facts.number facts.object facts.is_object below) in
            (ap (λ (h : Holding). reply.Stat o kind.File (length h.first) links frozen x y) equal, refl);
      }
  stat_inside r g rise known = plain_inside r g rise

  exit_inside : (s t : ℕ) → Agreed l pid f s t → (r : Reply) (g : Frame) → EntriesRise f.opens g.opens → Inside l pid f (exit_answer one pid s r g) (exit_answer two pid t r g)
  unfolding exit_answer
  exit_inside s t agree reply.Done g rise = record {
    inside = λ steady. exit_alike l g (carried f g c) (carried f g d) (many g) (kept g rise steady) pid s t (λ x here below. elim agree [
      | inl high ↦ absurd (true≢false (sym (process_was_low l f g steady pid high.process x (is_living _ high.process high.lives) here below) ∙ high.high))
      | inr equal ↦ equal
    ]);
    replies = λ low. (refl, refl);
  }
  exit_inside s t agree r g rise = plain_inside r g rise

  wait_inside : (r : Reply) (g : Frame) → EntriesRise f.opens g.opens → (is_answer r ≡ true → WaitFacts pid f r g) → Inside l pid f (wait_answer one r g) (wait_answer two r g)
  unfolding wait_answer plainly
  wait_inside (reply.Child p status) g rise known =
      let facts = known refl in
      let which : p.0 ≡ facts.child = cc (facts.is_reply) in
      record {
        inside = λ steady. kept g rise steady;
        replies = λ low.
            let below = leq-trans facts.process.label low.process.label l (facts.sees low.process low.lives) low.low in
            let equal : status_of c p.0 ≡ status_of d p.0 = subst (λ n. status_of c n ≡ status_of d n) (sym which) (same.statuses facts.child facts.process facts.is_process facts.ended below) in
            (ap (reply.Child p) equal, refl);
      }
  wait_inside r g rise known = plain_inside r g rise

  pex_inside : (b : Option OpenFile) (r : Reply) (g : Frame) → EntriesRise f.opens g.opens → Inside l pid f (pex_answer one b r g) (pex_answer two b r g)
  unfolding pex_answer
  pex_inside (Some e) r g rise =
      record {
        inside = λ steady. emptied_alike l g (carried f g c) (carried f g d) (many g) (kept g rise steady) (is_whole g e.entry.object
            && not (is_whole f e.entry.object)) e.entry.object;
        replies = λ low. (refl, refl);
      }
  pex_inside None r g rise = plain_inside r g rise

  -- ---- the same call
  answer_inside : (t : LengthChecks) (place : ℕ) (o : Op) → Inside l pid f (answer one pid o (verdict t place pid o f)) (answer two pid o (verdict t place pid o f))
  unfolding answer row
  answer_inside t place (op.ReadFd fd count) = read_inside fd count (behind f pid fd) refl _ _ (entries_rise t place pid (op.ReadFd fd count) f)
      (passed t place pid (op.ReadFd fd count) f (ReadKnown pid fd f) (read_known t pid fd count f))
  answer_inside t place (op.WriteFd fd bytes) =
      write_inside fd bytes bytes (inr refl) (behind f pid fd) refl _ _ (entries_rise t place pid (op.WriteFd fd bytes) f)
      (passed t place pid (op.WriteFd fd bytes) f (WriteKnown pid fd f) (write_known t pid fd f))
  answer_inside t place (op.CutFd fd len) = cut_inside len (behind f pid fd) _ _ (entries_rise t place pid (op.CutFd fd len) f)
  answer_inside t place (op.SeekFd fd offset) = seek_inside offset (behind f pid fd) _ _ (entries_rise t place pid (op.SeekFd fd offset) f)
  answer_inside t place (op.StatAt path) = stat_inside _ _ (entries_rise t place pid (op.StatAt path) f) (passed t place pid (op.StatAt path) f (StatFacts pid f) (stat_known pid path f))
  answer_inside t place (op.Exit status) = exit_inside status status (inr refl) _ _ (entries_rise t place pid (op.Exit status) f)
  answer_inside t place op.WaitChild = wait_inside _ _ (entries_rise t place pid op.WaitChild f) (passed t place pid op.WaitChild f (WaitFacts pid f) (wait_known pid f))
  answer_inside t place (op.Pex fd) = pex_inside (behind f pid fd) _ _ (entries_rise t place pid (op.Pex fd) f)
  answer_inside t place o = plain_inside _ _ (entries_rise t place pid o f)

  -- another one of a process that isn't low
  replaced_inside : (t : LengthChecks) (place : ℕ) (o p : Op) → IsHigh l f pid → Replaced o p → Inside l pid f (answer one pid o (verdict t place pid o f)) (answer two pid p (verdict t place pid o f))
  unfolding answer row
  replaced_inside t place _ _ high (Written {fd = fd} {a = a} {b = b}) =
      write_inside fd a b (inl high) (behind f pid fd) refl _ _ (entries_rise t place pid (op.WriteFd fd a) f)
      (passed t place pid (op.WriteFd fd a) f (WriteKnown pid fd f) (write_known t pid fd f))
  replaced_inside t place _ _ high (Exited {s = s} {t = u}) = exit_inside s u (inl high) _ _ (entries_rise t place pid (op.Exit s) f)

-- ---- steps
-- the second world's frame is the first's
reframed : (l : Categories) (v w : World) (place pid : ℕ) (o p : Op) (e : Decision) → v.frame ≡ w.frame
    → Inside l pid v.frame (answer v pid o e) (answer (record { frame = v.frame; content = w.content }) pid p e)
    → Inside l pid v.frame (answer v pid o e) (answer w pid p e)
reframed l v w place pid o p e frames h = subst (λ f. Inside l pid v.frame (answer v pid o e) (answer (record { frame = f; content = w.content }) pid p e)) frames h

after : (l : Categories) (v w : World) (place pid : ℕ) (o p : Op) → Twins o p → Alike l v w → is_one_kind (step v place pid o).reply (step w place pid p).reply
    ≡ true → Inside l pid v.frame (answer v pid o (verdict (told v pid o) place pid o v.frame)) (answer (record { frame = v.frame; content = w.content }) pid p
    (verdict (told v pid o) place pid o v.frame)) → AlikeAfter l pid v.frame (step v place pid o) (step w place pid p)
unfolding step
after l v w place pid o p twins alike kind h =
    let one = one_decision v w _ _ o p twins alike.shapes kind in
    let shape_after = shape_twins v w _ _ o p twins alike.shapes kind in
    let i =
    subst (λ e. Inside l pid v.frame (step v place pid o) (answer w pid p e)) one
    (reframed l v w place _ o p _ (shape_frames v w alike.shapes) h) in
    record { worlds = λ steady. record { shapes = shape_after.shapes; inside = i.inside steady }; replies = i.replies }

pub alike_events : (l : Categories) (v w : World) (place : ℕ) (e f : Event) → Alike l v w → AgreeAt l v.frame e f
    → is_one_kind (step_of v place e).reply (step_of w place f).reply ≡ true → AlikeAfter l e.pid v.frame (step_of v place e) (step_of w place f)
alike_events l v w place _ _ alike (Same {e = e}) kind =
    after l v w place e.pid e.op e.op (twins_itself e.op) alike kind (answer_inside l e.pid v.frame v.content w.content (shape_counts v w alike.shapes) alike.inside (told v e.pid e.op) place e.op)
alike_events l v w place _ _ alike (Other {seat = seat} {line = line} {pid = pid} {a = a} {b = b} high replaced) kind =
    after l v w place pid a b (twins_replaced a b replaced) alike kind (replaced_inside l pid v.frame v.content w.content (shape_counts v w alike.shapes)
    alike.inside (told v pid a) place a b high replaced)

pub alike_ops : (l : Categories) (v w : World) (seat line place pid : ℕ) (o p : Op) → Alike l v w
    → AgreeAt l v.frame (record { seat = seat; line = line; pid = pid; op = o }) (record { seat = seat; line = line; pid = pid; op = p })
    → is_one_kind (step v place pid o).reply (step w place pid p).reply ≡ true → AlikeAfter l pid v.frame (step v place pid o) (step w place pid p)
alike_ops l v w seat line place pid o p alike agree kind = alike_events l v w place _ _ alike agree kind
