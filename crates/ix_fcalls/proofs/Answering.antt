-- What the decision of a call comes to as a step of the world.
use Rattle.std.proofs.Common.{◌≡◌, ℕ, Bool, true, false, List, [], Option, refl, sym, ap, ◌∙◌}
use Rattle.ix_model.specs.{world.{World.{World, Content, Process}, Contents.carried}, laws.Sound.Sound, declared.reply.Reply.Reply}
use Rattle.ix_model.specs.{rows.{OnDescriptors.LengthChecks, Table.verdict, Telling.{told, nothing_told}}, history.{Step.{Given, step, answer, plainly, edited, put_front}, Events.Op}}
use Rattle.ix_model.proofs.{clean.Carrying.carried_decided, words.Lasts.lets_nothing_go}
use Rattle.ix_tables.specs.Parts.{Parts}
use Rattle.ix_fcalls.specs.{Around.{Around, frame_of, world_of}, Filed.{Answers, Leaves, is_filed, is_plain, lets_go}}
use Rattle.ix_model.specs.history.Events as op

answers : (given : Given) (w : World) (r : Reply) (bytes before after : List ℕ) → given ≡ record { world = w; reply = r; bytes = bytes }
    → after ≡ put_front bytes before → Answers given w r before after
answers given w r bytes before after is front = record {
  world = sym (ap (λ g. g.world) is);
  reply = sym (ap (λ g. g.reply) is);
  bytes = front ∙ sym (ap (λ g. put_front g.bytes before) is);
}

-- ---- what is carried
lets_stay : (c : Op) → is_filed c ≡ true → lets_go c ≡ false → lets_nothing_go c ≡ true
lets_stay (op.CloseFd fd) filed stays = cc
lets_stay _ filed stays = cc

-- a decision, as it stands in the parts
module _ (a : Around) (t u : Parts) (ps qs : List (Option Process)) (c : Op) (m : LengthChecks) (filed : is_filed c ≡ true) (sound : Sound (world_of a t ps))
    (left : Leaves (lets_go c) a t u ps qs) (stands : frame_of a u qs ≡ (verdict m a.place a.pid c (frame_of a t ps)).frame) where
  carried_over : carried (frame_of a t ps) (verdict m a.place a.pid c (frame_of a t ps)).frame (world_of a t ps).content ≡ (world_of a u qs).content
  carried_over = go _ refl left
    where
      go : (b : Bool) → lets_go c ≡ b → Leaves b a t u ps qs → carried (frame_of a t ps) (verdict m a.place a.pid c (frame_of a t ps)).frame (world_of a t ps).content ≡ (world_of a u qs).content
      go true goes is = ap (λ g. carried (frame_of a t ps) g (world_of a t ps).content) (sym stands) ∙ sym is
      go false stays kept = carried_decided _ m _ _ c (lets_stay c filed stays) sound.holdings.clean
          ∙ (λ i. record { holdings = sym kept.holdings i; offsets = sym kept.offsets i; statuses = a.statuses })

  plainly_is : (r : Reply) → plainly (world_of a t ps) (record { reply = r; frame = (verdict m a.place a.pid c (frame_of a t ps)).frame }) ≡ record { world = world_of a u qs; reply = r; bytes = [] }
  unfolding plainly
  plainly_is r = λ i. record { world = record { frame = sym stands i; content = carried_over i }; reply = r; bytes = [] }

  -- where the answer edits no content
  pub answers_plainly : (r : Reply) (buf : List ℕ)
      → step (world_of a t ps) a.place a.pid c ≡ plainly (world_of a t ps) (record { reply = r; frame = (verdict m a.place a.pid c (frame_of a t ps)).frame })
      → Answers (step (world_of a t ps) a.place a.pid c) (world_of a u qs) r buf buf
  answers_plainly r buf is = answers _ _ _ [] _ _ (is ∙ plainly_is r) refl

  pub answers_said : (r : Reply) (buf : List ℕ) → r ≡ (verdict m a.place a.pid c (frame_of a t ps)).reply
      → step (world_of a t ps) a.place a.pid c ≡ plainly (world_of a t ps) (verdict m a.place a.pid c (frame_of a t ps))
      → Answers (step (world_of a t ps) a.place a.pid c) (world_of a u qs) r buf buf
  answers_said r buf said is = answers_plainly r _ (is ∙ ap (λ s. plainly (world_of a t ps) (record { reply = s; frame = (verdict m a.place a.pid c (frame_of a t ps)).frame })) (sym said))

  -- where nothing was told
  pub answers_untold : (r : Reply) (buf : List ℕ) → r ≡ (verdict m a.place a.pid c (frame_of a t ps)).reply → m ≡ nothing_told
      → step (world_of a t ps) a.place a.pid c ≡ plainly (world_of a t ps) (verdict nothing_told a.place a.pid c (frame_of a t ps)) → Answers (step (world_of a t ps) a.place a.pid c)
      (world_of a u qs) r buf buf
  answers_untold r buf said untold is = answers_said r buf said (is ∙ ap (λ n. plainly (world_of a t ps) (verdict n a.place a.pid c (frame_of a t ps))) (sym untold))

  -- where it edits it, in the parts that stand then
  pub answers_edited : (v : Parts) (r : Reply) (bytes before after : List ℕ) (edit : Content → Content)
      → step (world_of a t ps) a.place a.pid c ≡ edited (world_of a t ps) (verdict m a.place a.pid c (frame_of a t ps)).frame r bytes edit
      → frame_of a v qs ≡ frame_of a u qs → (world_of a v qs).content ≡ edit (world_of a u qs).content → after ≡ put_front bytes before
      → Answers (step (world_of a t ps) a.place a.pid c) (world_of a v qs) r before after
  answers_edited v r bytes before after edit is same moved front = answers _ _ _ _ _ _
      (is ∙ (λ i. record { world = record { frame = sym (same ∙ stands) i; content = (ap edit carried_over ∙ sym moved) i }; reply = r; bytes = bytes }))
      front

-- ---- calls that neither look at what is held nor edit it
pub plain_filed : (c : Op) → is_plain c ≡ true → is_filed c ≡ true
plain_filed (op.ReadFd fd count) plain = refl
plain_filed (op.WriteFd fd bytes) plain = refl
plain_filed (op.CutFd fd len) plain = refl
plain_filed (op.SeekFd fd offset) plain = refl
plain_filed (op.StatAt path) plain = refl
plain_filed _ plain = plain

plain_step : (w : World) (place pid : ℕ) (c : Op) → is_plain c ≡ true → step w place pid c ≡ plainly w (verdict nothing_told place pid c w.frame)
unfolding step answer told
plain_step w place pid op.MakePipe plain = refl
plain_step w place pid _ plain = cc

pub answers_plain : (a : Around) (t u : Parts) (ps qs : List (Option Process)) (c : Op) (r : Reply) (buf : List ℕ) → is_plain c ≡ true → Sound (world_of a t ps) → Leaves (lets_go c) a t u ps qs
    → r ≡ (verdict nothing_told a.place a.pid c (frame_of a t ps)).reply → frame_of a u qs ≡ (verdict nothing_told a.place a.pid c (frame_of a t ps)).frame
    → Answers (step (world_of a t ps) a.place a.pid c) (world_of a u qs) r buf buf
answers_plain a t u ps qs c r buf plain sound left said stands = answers_said a t u ps qs c nothing_told (plain_filed c plain) sound left stands r buf said
    (plain_step _ _ _ c plain)
