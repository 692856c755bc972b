-- Two worlds of one shape keep one shape.
use Rattle.std.proofs.Common.{◌≡◌, ℕ, true, List, length, refl, sym, ap, ◌∙◌}
use Rattle.ix_model.{specs.{world.{World.{Frame, World}, Contents.carried}, history.{Step.step, Events.Op}, declared.reply.Reply.Reply}, proofs.words.Answered.step_frame}
use Rattle.ix_model.specs.{rows.{OnDescriptors.LengthChecks, Table.{Decision, row, verdict}, Telling.told}, two_runs.TwoRuns.{shape, is_one_kind, Replaced, Written, Exited}}
use Rattle.ix_iso.{specs.Laws.{frame_part, gives_bytes, OneShape}, proofs.{OneKind.{kind_number, kinds_equal}, Kin.verdict_kind}}
use Rattle.ix_iso.proofs.Counts.{counts_carried, kept_answer, told_answer, shape_from, shape_frames, shape_counts}
use Rattle.ix_model.specs.history.Events as op
use Rattle.ix_model.specs.declared.reply.Reply.TheVariants as reply

-- two calls whose rows are one, and of whose replies the frame decides the same part
pub record Twins (o p : Op) : Type 0 where
  pub verdicts : (t : LengthChecks) (place pid : ℕ) (f : Frame) → verdict t place pid o f ≡ verdict t place pid p f
  pub parts : (r : Reply) → frame_part o r ≡ frame_part p r
  pub reads : gives_bytes p ≡ gives_bytes o

pub twins_itself : (o : Op) → Twins o o
twins_itself o = search

pub twins_write : (fd : ℕ) (a b : List ℕ) → Twins (op.WriteFd fd a) (op.WriteFd fd b)
unfolding verdict row
twins_write fd a b = search
  where
    part : (r : Reply) → frame_part (op.WriteFd fd a) r ≡ frame_part (op.WriteFd fd b) r
    part (reply.Number n) = refl
    part r = refl

pub twins_exit : (s t : ℕ) → Twins (op.Exit s) (op.Exit t)
unfolding verdict row
twins_exit s t = search

pub twins_replaced : (o p : Op) → Replaced o p → Twins o p
twins_replaced _ _ (Written {fd = fd} {a = a} {b = b}) = twins_write fd a b
twins_replaced _ _ (Exited {s = s} {t = t}) = twins_exit s t

module _ (v w : World) (place pid : ℕ) (o p : Op) (twins : Twins o p) (shapes : shape v ≡ shape w) where
  abbrev pub left : Decision
  left = verdict (told v pid o) place pid o v.frame

  abbrev pub right : Decision
  right = verdict (told w pid p) place pid p w.frame

  -- where the replies are of one kind, one decision is made
  pub one_decision : is_one_kind (step v place pid o).reply (step w place pid p).reply ≡ true → left ≡ right
  unfolding step
  one_decision kind =
      let frames = shape_frames v w shapes in
      let other = verdict (told w pid p) place pid o v.frame in
      let same = ap (λ f. verdict (told w pid p) place pid o f) frames ∙ twins.verdicts _ place pid w.frame in
      let kinds =
      sym (told_answer v _ o _).kind ∙ kinds_equal _ _ kind ∙ (told_answer w _ p right).kind ∙ ap (λ d. kind_number d.reply) (sym same) in
      verdict_kind _ _ _ _ o _ kinds ∙ same

  pub one_shape : left ≡ right → OneShape o p (step v place pid o) (step w place pid p)
  unfolding step
  one_shape one =
      let frames = shape_frames v w shapes in
      let after = ap (λ d. d.frame) one in
      let counts = counts_carried _ _ _ _ (shape_counts v w shapes) in
      let moved : carried v.frame left.frame w.content ≡ carried w.frame right.frame w.content = λ i. carried (frames i) (after i) w.content in
      let c = kept_answer v _ o _ in
      let d = kept_answer w _ p _ in
      record {
        shapes = shape_from _ _ (step_frame v _ _ o ∙ after ∙ sym (step_frame w _ _ p)) (record {
          holdings = c.holdings ∙ counts.holdings ∙ ap (λ x. length x.holdings) moved ∙ sym d.holdings;
          offsets = c.offsets ∙ counts.offsets ∙ ap (λ x. length x.offsets) moved ∙ sym d.offsets;
          statuses = c.statuses ∙ counts.statuses ∙ ap (λ x. length x.statuses) moved ∙ sym d.statuses;
        });
        replies = (told_answer v _ o _).part ∙ twins.parts left.reply ∙ ap (λ e. frame_part p e.reply) one ∙ sym (told_answer w _ p _).part;
        bytes = λ other. (told_answer v _ o _).bytes other ∙ sym ((told_answer w _ p _).bytes (twins.reads ∙ other));
      }

pub shape_twins : (v w : World) (place pid : ℕ) (o p : Op) → Twins o p → shape v ≡ shape w → is_one_kind (step v place pid o).reply (step w place pid p).reply
    ≡ true → OneShape o p (step v place pid o) (step w place pid p)
shape_twins v w place pid o p twins shapes kind = one_shape v w place pid o p twins shapes (one_decision v w place pid o p twins shapes kind)

pub shape_same : (v w : World) (place pid : ℕ) (o : Op) → shape v ≡ shape w → is_one_kind (step v place pid o).reply (step w place pid o).reply ≡ true
    → OneShape o o (step v place pid o) (step w place pid o)
shape_same v w place pid o shapes kind = shape_twins v w _ _ o o (twins_itself o) shapes kind

pub shape_write : (v w : World) (place pid fd : ℕ) (a b : List ℕ) → shape v ≡ shape w
    → is_one_kind (step v place pid (op.WriteFd fd a)).reply (step w place pid (op.WriteFd fd b)).reply ≡ true
    → OneShape (op.WriteFd fd a) (op.WriteFd fd b) (step v place pid (op.WriteFd fd a)) (step w place pid (op.WriteFd fd b))
shape_write v w place pid fd a b shapes kind = shape_twins v w _ _ _ _ (twins_write fd a b) shapes kind

pub shape_exit : (v w : World) (place pid s t : ℕ) → shape v ≡ shape w → is_one_kind (step v place pid (op.Exit s)).reply (step w place pid (op.Exit t)).reply
    ≡ true → OneShape (op.Exit s) (op.Exit t) (step v place pid (op.Exit s)) (step w place pid (op.Exit t))
shape_exit v w place pid s t shapes kind = shape_twins v w _ _ _ _ (twins_exit s t) shapes kind
