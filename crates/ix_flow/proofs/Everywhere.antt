-- What is known of everything that is held stays known of it after an edit.
use Rattle.std.proofs.Common.{◌≡◌, ◌+◌, ◌-◌, ℕ, Bool, true, false, not, ◌&&◌, List, ◌++◌, length, take, drop, replicate, Option, Some, None, refl, is_some, if◌then◌else◌, sym, ap, arith}
use Rattle.std.{proofs.{Common.subst, lemmas.List.Elements.{All-append, All-nil, All-drop, All-replicate, All-take}}, specs.Prelude.All}
use Rattle.ix_model.specs.{declared.reply.Reply.Reply, history.{Events.Op, Step.{Given, is_whole}}, rows.Walks.{OpenFile, behind}, world.Contents.{held_at, kept, nothing_held, offset_of}}
use Rattle.ix_model.specs.world.{Contents.{on_side, resized, side, with_side, written_over}, World.{World, Frame, Content, HoldingOf, at}}
use Rattle.ix_model.proofs.{clean.Carrying.get_or-keep, sound.Lengths.set_either}
use Rattle.ix_flow.specs.Moves.{taken, put_there, cut_there, emptied_there, edited, moved}
use Rattle.ix_model.specs.history.Events as op
use Rattle.ix_model.specs.declared.reply.Reply.TheVariants as reply

-- of everything in both lists
pub record Everywhere {A : Type 0} (P : A → Type 0) (h : HoldingOf A) : Type 0 where
  pub first : All P h.first
  pub second : All P h.second

module _ {A : Type 0} (P : A → Type 0) where
  pub nowhere : Everywhere P nothing_held
  nowhere = record { first = All-nil P; second = All-nil P }

  pub on_one_side : (end : ℕ) (h : HoldingOf A) → Everywhere P h → All P (side end h)
  on_one_side end h r = go _
    where
      go : (b : Bool) → All P (if b then h.first else h.second)
      go true = r.first
      go false = r.second

  with_one_side : (end : ℕ) (now : List A) (h : HoldingOf A) → All P now → Everywhere P h → Everywhere P (with_side end now h)
  with_one_side end now h new r = go _
    where
      one : HoldingOf A
      one = record h { first = now }

      two : HoldingOf A
      two = record h { second = now }

      go : (b : Bool) → Everywhere P (if b then one else two)
      go true = record { first = new; second = r.second }
      go false = record { first = r.first; second = new }

  changed : (o n end : ℕ) (h : List A → List A) (hs : List (HoldingOf A)) → ((xs : List A) → n ≡ o → All P xs → All P (h xs)) → Everywhere P (held_at hs o)
      → Everywhere P (held_at (on_side n end h hs) o)
  changed o n end h hs keeps r = set_either (λ x. Everywhere P x) nothing_held hs n o _ (λ same.
      let there = subst (λ m. Everywhere P (held_at hs m)) same r in
      with_one_side end _ (held_at hs n) (keeps (side end (held_at hs n)) (sym same) (on_one_side _ (held_at hs n) there)) there) r

  either : (b : Bool) (x y : List (HoldingOf A)) (o : ℕ) → Everywhere P (held_at x o) → Everywhere P (held_at y o) → Everywhere P (held_at (if b then x else y) o)
  either true x y o r s = r
  either false x y o r s = s

  over : (gap : A) (from : ℕ) (new old : List A) → P gap → All P new → All P old → All P (written_over gap from new old)
  over gap from new old hole fresh was = go _
    where
      go : (b : Bool) → All P (if b then old else take from old ++ (replicate (from - length old) gap ++ (new ++ drop (from + length new) old)))
      go true = was
      go false = All-append P _ _ (All-take P from old was) (All-append P _ _ (All-replicate P _ gap hole) (All-append P _ _ fresh (All-drop P (from + length new) old was)))

  cut_all : (gap : A) (len : ℕ) (old : List A) → P gap → All P old → All P (resized gap len old)
  cut_all gap len old hole was = All-take P len _ (All-append P old _ was (All-replicate P _ gap hole))

  taken_all : (o : ℕ) (f : Frame) (b : Option OpenFile) (r : Reply) (hs : List (HoldingOf A)) → Everywhere P (held_at hs o) → Everywhere P (held_at (taken f b r hs) o)
  unfolding taken
  taken_all o f (Some e) (reply.Bytes k) hs was = either _ _ _ o (changed o _ _ _ hs (λ xs same old. All-drop P k xs old) was) was
  taken_all o f _ r hs was = was

  put_all : (o : ℕ) (gap : A) (f : Frame) (c : Content) (new : List A) (b : Option OpenFile) (r : Reply) (hs : List (HoldingOf A)) → P gap
      → ((e : OpenFile) (k : ℕ) → b ≡ Some e → r ≡ reply.Number k → e.entry.object ≡ o → All P new)
      → Everywhere P (held_at hs o) → Everywhere P (held_at (put_there gap f c new b r hs) o)
  unfolding put_there
  put_all o gap f c new (Some e) (reply.Number k) hs hole fresh was = either _ _ _ o
      (changed o _ (1 - e.entry.end) _ hs (λ xs same old. All-append P xs new old (fresh e k refl refl same)) was)
      (changed o e.entry.object e.entry.end (written_over _ _ _) hs (λ xs same old. over _ (offset_of c e.id) _ xs hole (fresh e k refl refl same) old) was)
  put_all o gap f c new _ r hs hole fresh was = was

  cut_there_all : (o : ℕ) (gap : A) (len : ℕ) (b : Option OpenFile) (r : Reply) (hs : List (HoldingOf A)) → P gap → Everywhere P (held_at hs o) → Everywhere P (held_at (cut_there gap len b r hs) o)
  unfolding cut_there
  cut_there_all o gap len (Some e) reply.Done hs hole was = changed o _ e.entry.end (resized gap len) hs (λ xs same old. cut_all _ len xs hole old) was
  cut_there_all o gap len _ r hs hole was = was

  emptied_all : (o : ℕ) (f g : Frame) (b : Option OpenFile) (hs : List (HoldingOf A)) → Everywhere P (held_at hs o) → Everywhere P (held_at (emptied_there f g b hs) o)
  unfolding emptied_there
  emptied_all o f g (Some e) hs was = either (is_whole g e.entry.object && not _) _ _ o
      (set_either (λ x. Everywhere P x) nothing_held hs e.entry.object o nothing_held (λ same. nowhere) was) was
  emptied_all o f g None hs was = was

  edited_all : (o : ℕ) (gap : A) (new : List A) (w : World) (pid : ℕ) (c : Op) (given : Given) (hs : List (HoldingOf A)) → P gap
      → ((fd : ℕ) (bytes : List ℕ) (e : OpenFile) (k : ℕ) → c ≡ op.WriteFd fd bytes → behind w.frame pid fd ≡ Some e → given.reply ≡ reply.Number k → e.entry.object ≡ o → All P new)
      → Everywhere P (held_at hs o) → Everywhere P (held_at (edited gap new w pid c given hs) o)
  unfolding edited
  edited_all o gap new w pid (op.ReadFd fd count) given hs hole fresh was = taken_all o _ _ _ hs was
  edited_all o gap new w pid (op.WriteFd fd bytes) given hs hole fresh was = put_all o _ _ _ _ _ _ hs hole
      (λ e k is answers same. fresh fd bytes e k refl is answers same) was
  edited_all o gap new w pid (op.CutFd fd len) given hs hole fresh was = cut_there_all o _ _ _ _ hs hole was
  edited_all o gap new w pid (op.Pex fd) given hs hole fresh was = emptied_all o _ _ _ hs was
  edited_all o gap new w pid c given hs hole fresh was = was

  kept_all : (o : ℕ) (f g : Frame) (hs : List (HoldingOf A)) → ((is_some (at f.objects o) && is_some (at g.objects o)) ≡ true → Everywhere P (held_at hs o)) → Everywhere P (held_at (kept f g hs) o)
  kept_all o f g hs stays = subst (λ x. Everywhere P x) (sym (get_or-keep _ _ 0 hs o))
      (go _ (ap (λ n. is_some (at f.objects n) && is_some (at g.objects n)) (omega arith)))
    where
      go : (b : Bool) → b ≡ (is_some (at f.objects o) && is_some (at g.objects o)) → Everywhere P (if b then held_at hs o else nothing_held)
      go true is = stays (sym is)
      go false is = nowhere

  -- after a whole call: what stood before and after it had it, what fills a gap has it, and so has what is written there
  pub moved_all : (o : ℕ) (gap : A) (new : List A) (w : World) (pid : ℕ) (c : Op) (given : Given) (hs : List (HoldingOf A)) → P gap
      → ((fd : ℕ) (bytes : List ℕ) (e : OpenFile) (k : ℕ) → c ≡ op.WriteFd fd bytes → behind w.frame pid fd ≡ Some e → given.reply ≡ reply.Number k → e.entry.object ≡ o → All P new)
      → ((is_some (at w.frame.objects o) && is_some (at given.world.frame.objects o)) ≡ true → Everywhere P (held_at hs o))
      → Everywhere P (held_at (moved gap new w pid c given hs) o)
  moved_all o gap new w pid c given hs hole fresh was = edited_all o _ _ w _ c _ _ hole fresh (kept_all o w.frame given.world.frame hs was)
