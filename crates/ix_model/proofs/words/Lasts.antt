-- What stands stays.
use Rattle.std.{proofs.Common.{ℕ, zero, suc, ◌≡◌, Bool, true, false, List, [], ◌∷◌, Option, Some, is_some, refl, ap, ◌∙◌, length, length-set, if◌then◌else◌}, specs.List.list_all}
use Rattle.ix_label.specs.Category.{Categories}
use Rattle.ix_model.specs.{world.World.{Frame, Object, Process, Open, at, put, change, is_ended}, rows.Outcomes.{Outcome, Refuse, Pass}}
use Rattle.ix_model.specs.{rows.{Rows.{put_open, put_object, change_object, change_process, change_open}, Auditing.logged}, declared.{audit.AuditLine.AuditLine, reply.Reply.Reply}}
use Rattle.ix_model.specs.{rows.{OnDescriptors.LengthChecks, Table.{Decision, row, settled, verdict}}, history.Events.Op}
use Rattle.ix_model.proofs.{tables.Tables.seen_changed, words.{Keeps.{Holds, Keeps}, Rowwise.{Change, LettingGo, Forking, Ending, Words, changes_of, kept_row}}}
use Rattle.ix_model.specs.declared.reply.Reply.TheVariants as reply
use Rattle.ix_model.specs.declared.refusal.Refusal.TheVariants as refusal

-- what stands in the first table stands in the second
pub record Lasting {A : Type 0} (t u : List (Option A)) : Type 0 where
  pub stays : (n : ℕ) → is_some (at t n) ≡ true → is_some (at u n) ≡ true

-- what has ended stays so, and no pid is new
pub record Ended (t u : List (Option Process)) : Type 0 where
  pub stays : (n : ℕ) → is_ended (at t n) ≡ true → is_ended (at u n) ≡ true
  pub count : length u ≡ length t

pub record Lasts (f g : Frame) : Type 0 where
  pub objects : Lasting f.objects g.objects
  pub opens : Lasting f.opens g.opens
  pub processes : Ended f.processes g.processes

-- ---- tables
pub some_put : {A : Type 0} (u : List (Option A)) (n : ℕ) (x : A) (m : ℕ) → is_some (at u m) ≡ true → is_some (at (put u n (Some x)) m) ≡ true
some_put [] n x m h = h
some_put (y ∷ t) zero x zero h = refl
some_put (y ∷ t) zero x (suc m) h = h
some_put (y ∷ t) (suc n) x zero h = h
some_put (y ∷ t) (suc n) x (suc m) h = some_put t n x m h

pub lasting_itself : {A : Type 0} (t : List (Option A)) → Lasting t t
lasting_itself t = search

pub lasting_change : {A : Type 0} (t u : List (Option A)) (n : ℕ) (h : A → A) → Lasting t u → Lasting t (change u n h)
lasting_change t u n h r = record { stays = λ m is. seen_changed is_some h (λ x. refl) u n m ∙ r.stays m is }

pub lasting_put : {A : Type 0} (t u : List (Option A)) (n : ℕ) (x : A) → Lasting t u → Lasting t (put u n (Some x))
lasting_put t u n x r = record { stays = λ m is. some_put u n x m (r.stays m is) }

ended_change : (t u : List (Option Process)) (n : ℕ) (h : Process → Process) → ((q : Process) → (h q).ended ≡ q.ended) → Ended t u → Ended t (change u n h)
ended_change t u n h same r = record { stays = λ m is. seen_changed is_ended h same u n m ∙ r.stays m is; count = length-set u n _ ∙ r.count }

-- ---- frames, and rows
lasts_itself : (f : Frame) → Lasts f f
lasts_itself f = record { objects = lasting_itself _; opens = lasting_itself _; processes = search }

module _ (f : Frame) where
  lasts_objects : (o : ℕ) (h : Object → Object) → Keeps (Lasts f) (change_object o h)
  unfolding change_object Holds
  lasts_objects o h = record { led = λ g r. let objects = lasting_change _ _ o h r.objects in search }

  lasts_processes : (p : ℕ) (h : Process → Process) → ((q : Process) → (h q).ended ≡ q.ended) → Keeps (Lasts f) (change_process p h)
  unfolding change_process Holds
  lasts_processes p h same = record { led = λ g r. let processes = ended_change _ _ p h same r.processes in search }

  lasts_opens : (e : ℕ) (h : Open → Open) → Keeps (Lasts f) (change_open e h)
  unfolding change_open Holds
  lasts_opens e h = record { led = λ g r. let opens = lasting_change _ _ e h r.opens in search }

  lasts_put_object : (o : ℕ) (x : Object) → Keeps (Lasts f) (put_object o (Some x))
  unfolding put_object Holds
  lasts_put_object o x = record { led = λ g r. let objects = lasting_put _ _ o x r.objects in search }

  lasts_put_open : (e : ℕ) (x : Open) → Keeps (Lasts f) (put_open e (Some x))
  unfolding put_open Holds
  lasts_put_open e x = record { led = λ g r. let opens = lasting_put _ _ e x r.opens in search }

  lasts_logged : (l : AuditLine) → Keeps (Lasts f) (logged l)
  unfolding logged Holds
  lasts_logged l = record { led = λ g r. record { objects = r.objects; opens = r.opens; processes = r.processes } }

-- what lets nothing go, and makes no process
abbrev pub lets_stay : Change → Bool
lets_stay LettingGo = false
lets_stay Forking = false
lets_stay Ending = false
lets_stay _ = true

-- whether a call lets nothing go, and makes no process
abbrev pub lets_nothing_go : Op → Bool
lets_nothing_go c = list_all lets_stay (changes_of c)

lasting_words : (pid : ℕ) (f : Frame) → Words lets_stay pid (Lasts f)
lasting_words pid f = record {
  object = λ o h same. lasts_objects f o h;
  process = λ p h same. lasts_processes f p h (λ q. ap (λ r. r.ended) (same q));
  float = λ h same. lasts_processes f _ h (λ q. ap (λ r. r.ended) (same q));
  entry = λ e x low. lasts_put_open f e x;
  through = λ can e l. lasts_opens f e _;
  unclaim = λ o end. lasts_objects f o _;
  relabel = λ can o h same. lasts_objects f o h;
  claim = λ can o h same. lasts_objects f o h;
  log = λ can. lasts_logged f;
  inode = λ can g o k kind r free. lasts_put_object f o _;
  pipe = λ can g o r free. lasts_put_object f o _;
  gone_object = λ can. cc;
  gone_open = λ can. cc;
  fork = λ can. cc;
  end = λ can. cc;
  collect = λ can. cc;
}

-- ---- decisions
kept_or_not : (R : Frame → Type 0) (b : Bool) (f g : Frame) → R f → R g → R (if b then g else f)
kept_or_not R true f g rf rg = rg
kept_or_not R false f g rf rg = rf

pub settled_keeps : (R : Frame → Type 0) (f : Frame) (o : Outcome Reply) → R f → Holds o R → R (settled f o).frame
unfolding Holds
settled_keeps R f (Refuse r g) rf h = kept_or_not R _ f g rf h
settled_keeps R f (Pass a g) rf h = h

-- what a row keeps, its decision keeps
pub decided : (R : Frame → Type 0) (t : LengthChecks) (place pid : ℕ) (c : Op) (f : Frame) → R f → Holds (row t place pid c f) R → R (verdict t place pid c f).frame
unfolding verdict
decided R t place pid c f rf h = go _
  where
    unknown : Decision
    unknown = record { reply = reply.No refusal.NoProcess; frame = f }

    go : (b : Bool) → R (if b then settled f (row t place pid c f) else unknown).frame
    go true = settled_keeps R f (row t place pid c f) rf h
    go false = rf

pub lasts_decided : (t : LengthChecks) (place pid : ℕ) (c : Op) (f : Frame) → lets_nothing_go c ≡ true → Lasts f (verdict t place pid c f).frame
lasts_decided t place pid c f stays = decided (Lasts f) t place pid c f (lasts_itself f) ((kept_row lets_stay pid (Lasts f) (lasting_words pid f) t place c stays).led f (lasts_itself f))

-- a frame in which the caller's label alone has changed
pub lasts_relabelled : (pid : ℕ) (l : Categories) (f : Frame) → Lasts f (record f { processes = change f.processes pid (λ p. record p { label = l }) })
lasts_relabelled pid l f = record { objects = lasting_itself _; opens = lasting_itself _; processes = ended_change _ _ _ _ (λ q. refl) (search) }
