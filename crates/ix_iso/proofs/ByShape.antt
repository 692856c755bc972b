-- The calls that neither read nor edit what is held.
use Rattle.std.proofs.Common.{◌≡◌, ℕ, Bool, true, false, true≢false, ◌&&◌, List, is_some, if◌then◌else◌, refl, sym, ap, ◌∙◌, arith, subst, get_or}
use Rattle.ix_label.specs.Category.{Categories}
use Rattle.ix_model.{specs.{world.{World.{World, at, is_ended}, Contents.{keep, carried}}, two_runs.TwoRuns.{shape, Alike, AlikeIn}}, proofs.clean.Carrying.get_or-keep}
use Rattle.ix_model.specs.{rows.{Table.{Decision, verdict}, Telling.{told, nothing_told}}, history.{Step.{Given, plainly, answer, step}, Lowering.Crosses, Events.Op}}
use Rattle.ix_iso.{specs.Laws.{goes_by_shape, LeavesWhatIsHeld, GoesByShape}, proofs.{Counts.shape_frames, Shapes.{twins_itself, one_shape, left, right}}}
use Rattle.ix_iso.proofs.{Entries.{EntriesStay, entries_stay, entries_rise, leaves_labels}, Inside.{carried_alike, grown_at}}
use Rattle.ix_model.specs.history.Events as op

-- ---- plainly
plain_answer : (w : World) (pid : ℕ) (o : Op) (d : Decision) → goes_by_shape o ≡ true → answer w pid o d ≡ plainly w d
unfolding answer
plain_answer w pid (op.ReadFd fd count) d h = absurd (true≢false (sym h))
plain_answer w pid (op.WriteFd fd bytes) d h = absurd (true≢false (sym h))
plain_answer w pid (op.CutFd fd len) d h = absurd (true≢false (sym h))
plain_answer w pid (op.SeekFd fd offset) d h = absurd (true≢false (sym h))
plain_answer w pid (op.StatAt path) d h = absurd (true≢false (sym h))
plain_answer w pid (op.Exit status) d h = absurd (true≢false (sym h))
plain_answer w pid op.WaitChild d h = absurd (true≢false (sym h))
plain_answer w pid (op.Pex fd) d h = absurd (true≢false (sym h))
plain_answer w pid o d h = refl

plain_told : (w : World) (pid : ℕ) (o : Op) → goes_by_shape o ≡ true → told w pid o ≡ nothing_told
unfolding told
plain_told w pid (op.ReadFd fd count) h = absurd (true≢false (sym h))
plain_told w pid (op.WriteFd fd bytes) h = absurd (true≢false (sym h))
plain_told w pid (op.CutFd fd len) h = absurd (true≢false (sym h))
plain_told w pid o h = refl

plain_labels : (o : Op) → goes_by_shape o ≡ true → leaves_labels o ≡ true
plain_labels (op.ReadFd fd count) h = absurd (true≢false (sym h))
plain_labels (op.WriteFd fd bytes) h = absurd (true≢false (sym h))
plain_labels (op.SeekFd fd offset) h = absurd (true≢false (sym h))
plain_labels o h = refl

-- what such a call gives
gives : (w : World) (place pid : ℕ) (o : Op) → goes_by_shape o ≡ true → step w place pid o ≡ plainly w (verdict nothing_told place pid o w.frame)
unfolding step
gives w place pid o h = plain_answer w _ o _ h ∙ ap (λ t. plainly w (verdict t place pid o w.frame)) (plain_told w _ o h)

-- ---- what is held
passing : {A : Type 0} (d : A) (p : ℕ → Bool) (xs : List A) (n : ℕ) → p n ≡ true → get_or (keep d p 0 xs) n d ≡ get_or xs n d
passing d p xs n h = get_or-keep d p 0 xs n ∙ go _ (ap p (omega arith) ∙ h)
  where
    go : (b : Bool) → b ≡ true → (if b then get_or xs n d else d) ≡ get_or xs n d
    go true h = refl
    go false h = absurd (true≢false (sym h))

failing : {A : Type 0} (d : A) (p : ℕ → Bool) (xs : List A) (n : ℕ) → p n ≡ false → get_or (keep d p 0 xs) n d ≡ d
failing d p xs n h = get_or-keep d p 0 xs n ∙ go _ (ap p (omega arith) ∙ h)
  where
    go : (b : Bool) → b ≡ false → (if b then get_or xs n d else d) ≡ d
    go true h = absurd (true≢false h)
    go false h = refl

both_hold : (a b : Bool) → a ≡ true → b ≡ true → (a && b) ≡ true
both_hold a b h k = ap (λ x. x && b) h ∙ k

first_fails : (a b : Bool) → a ≡ false → (a && b) ≡ false
first_fails a b h = ap (λ x. x && b) h

plainly_held : (w : World) (d : Decision) → EntriesStay w.frame.opens d.frame.opens → LeavesWhatIsHeld w (plainly w d).world
unfolding plainly carried
plainly_held w d stay =
    let f = w.frame in let g = d.frame in let c = w.content in
    let object : ℕ → Bool = λ o. is_some (at f.objects o) && is_some (at g.objects o) in
    let entry : ℕ → Bool = λ e. is_some (at f.opens e) && is_some (at g.opens e) in
    let process : ℕ → Bool = λ p. is_ended (at f.processes p) && is_ended (at g.processes p) in
    record {
      bytes = λ o before after. passing _ _ _ o (both_hold _ _ before after);
      new_bytes = λ o before. failing _ _ _ o (first_fails _ _ before);
      offsets = λ e before after. passing 0 _ _ e (both_hold _ _ before after);
      labels = stay.same;
      new_entries = λ e y before after. (failing 0 _ _ e (first_fails _ _ (ap is_some before)), stay.new e y before after);
      statuses = λ p before after. passing 0 _ _ p (both_hold _ _ before after) ∙ grown_at _ _ p;
    }

module _ (o : Op) (h : goes_by_shape o ≡ true) where
  one_reply : (v w : World) (place pid : ℕ) → shape v ≡ shape w → ((step v place pid o).reply ≡ (step w place pid o).reply) × (shape (step v place pid o).world ≡ shape (step w place pid o).world)
  unfolding plainly
  one_reply v w place pid shapes =
      let decision : left v w place pid o o (twins_itself o) shapes ≡ right v w place pid o o (twins_itself o) shapes =
      (λ i. verdict ((plain_told v pid o h ∙ sym (plain_told w pid o h)) i) place pid o (shape_frames v w shapes i)) in
      let replies : (step v place pid o).reply ≡ (step w place pid o).reply = ap (λ (a : Given). a.reply) (gives v place pid o h)
      ∙ ap (λ f. (verdict nothing_told place pid o f).reply) (shape_frames v w shapes) ∙ sym (ap (λ (a : Given). a.reply) (gives w place pid o h)) in
      (replies, (one_shape v w place pid o o (twins_itself o) shapes decision).shapes)

  inside_one : (l : Categories) (v w : World) (place pid : ℕ) → Alike l v w → (Crosses l v.frame (step v place pid o).world.frame → ⊥)
      → AlikeIn l (step v place pid o).world.frame (step v place pid o).world.content (step w place pid o).world.content
  unfolding plainly
  inside_one l v w place pid same steady =
      let g = (verdict nothing_told place pid o v.frame).frame in
      let there = ap (λ a. a.world) (gives v _ _ o h) in
      let other = ap (λ a. a.world) (gives w _ _ o h)
      ∙ ap (λ f. let u : World = record {
        frame = (verdict nothing_told place pid o f).frame;
        content =
            carried f (verdict nothing_told place pid o f).frame w.content;
      } in u) (sym (shape_frames v w same.shapes)) in
      let now =
      carried_alike l _ g _ _ (entries_rise _ _ _ o _)
      (λ crossing. steady (subst (λ u. Crosses l v.frame u.frame) (sym there) crossing)) same.inside in
      subst (λ u. AlikeIn l u.frame u.content (step w place pid o).world.content) (sym there) (subst (λ u. AlikeIn l g (carried v.frame g v.content) u.content) (sym other) now)

pub by_shape : (o : Op) → goes_by_shape o ≡ true → GoesByShape o
by_shape o h = record {
  held = λ w place pid. subst (λ a. LeavesWhatIsHeld w a.world) (sym (gives w _ _ o h))
      (plainly_held w _ (entries_stay _ _ _ o _ (plain_labels o h)));
  shapes = λ v w place pid shapes. one_reply o h v w place pid shapes;
  alike = λ l v w place pid same steady. record { shapes = (one_reply o h v w place pid same.shapes).1; inside = inside_one o h l v w place pid same steady };
}
