-- A descriptor is given up: the row, the counts, and what remains.
use Rattle.std.proofs.Common.{is_some, arith, inl, inr, ◌≡◌, ◌<◌, ◌-◌, ◌==◌, ℕ, Bool, true, false, not, List, length, Option, Some, None, refl, sym, ap}
use Rattle.std.{proofs.{Common.{◌∙◌, subst, length-set, slice_set, slice_index_or, if◌then◌else◌}, lemmas.Bool.{eqb-true, or_cases, and_parts}}, specs.Option.option_map_or}
use Rattle.ix_model.specs.world.{World.{Frame, Object, Process, at, put, change, is_ended}, Owners.owned, Contents.{carried, holds_nothing}}
use Rattle.ix_model.specs.rows.{Outcomes.{Pass, Row}, Rows.{◌>>◌, on_pass, pass, only_if, change_process, change_object, put_object, put_open}}
use Rattle.ix_model.specs.{rows.{Walks.{OpenFile, behind}, Lifetimes.{stays, has_lost, let_go, let_go_claim, let_go_open, let_go_object}}, laws.Sound.Sound}
use Rattle.ix_model.proofs.{tables.{Tables.seen_changed, Finds.in_table}, frames.Claimants.is_behind}
use Rattle.ix_tables.specs.{Parts.{Parts, owners_of, homes_of}, Views.{frame_alone, released, without_object, object_let_go}}
use Rattle.ix_fcalls.{specs.{Around.{Around, frame_of, world_of}, Counted.IsCounted, Remaining.{Remains, Leaves}}, proofs.Releasing.{owners_fewer, last_is, homes_taken}}
use Rattle.ix_fcalls.proofs.Remaining.{taken, cleared, remains_itself, remains_changed, remains_taken, left_carried}

-- ---- the parts
released_is : (b : Bool) (id : ℕ) (t : Parts) → b ≡ (slice_index_or t.owners id 0 == 1) → released b id t ≡ record t {
  opens = taken b id t.opens;
  offsets = cleared b id 0 t.offsets;
  owners = slice_set t.owners id (slice_index_or t.owners id 0 - 1);
}
released_is true id t is =
    let one = eqb-true _ 1 (sym is) in
    ap (λ n. record t { opens = put t.opens id None; offsets = slice_set t.offsets id 0; owners = slice_set t.owners id (n - 1) }) (sym one)
released_is false id t is = refl

abbrev pub goes : ℕ → Parts → Bool
goes o t = option_map_or (λ x. not (stays (frame_alone t) o x)) (at t.objects o) false

pub let_go_is : (o : ℕ) (t : Parts) → object_let_go o t ≡ record t { objects = taken (goes o t) o t.objects; holdings = cleared (goes o t) o holds_nothing t.holdings }
let_go_is o t = go _
  where
    go : (b : Bool) → (if b then without_object o t else t) ≡ record t { objects = taken b o t.objects; holdings = cleared b o holds_nothing t.holdings }
    go true = refl
    go false = refl

pub length-taken : {A : Type 0} (b : Bool) (n : ℕ) (t : List (Option A)) → length (taken b n t) ≡ length t
length-taken true n t = length-set t n None
length-taken false n t = refl

-- ---- the row
then_is : (f g h : Frame) (m n : Row (Unit {0})) → m f ≡ Pass tt g → n g ≡ Pass tt h → (◌>>◌ m n) f ≡ Pass tt h
unfolding ◌>>◌ on_pass
then_is f g h m n p q = ap (λ o. on_pass o (λ a. n)) p ∙ q

claim_step : (b : Bool) (o : ℕ) (k : Object → Object) (f : Frame) → only_if b (change_object o k) f ≡ Pass tt (record f { objects = if b then change f.objects o k else f.objects })
unfolding only_if change_object pass
claim_step true o k f = refl
claim_step false o k f = refl

open_step : (b : Bool) (id : ℕ) (f : Frame) → only_if b (put_open id None) f ≡ Pass tt (record f { opens = taken b id f.opens })
unfolding only_if put_open pass
open_step true id f = refl
open_step false id f = refl

pub object_step : (b : Bool) (o : ℕ) (f : Frame) → only_if b (put_object o None) f ≡ Pass tt (record f { objects = taken b o f.objects })
unfolding only_if put_object pass
object_step true o f = refl
object_step false o f = refl

remains_unclaimed : (b : Bool) (t : List (Option Object)) (hs : List _) (o : ℕ) (k : Object → Object) → Remains holds_nothing t t hs hs → Remains holds_nothing t (if b then change t o k else t) hs hs
remains_unclaimed true t hs o k r = remains_changed _ t t hs hs o k r
remains_unclaimed false t hs o k r = r

-- ---- the whole
module _ (a : Around) (v : Parts) (ps : List (Option Process)) (fd : ℕ) (e : OpenFile) (last : Bool) (s : Sound (world_of a v ps)) (c : IsCounted v ps)
    (is : behind (frame_of a v ps) a.pid fd ≡ Some e) (was_last : last ≡ (slice_index_or v.owners e.id 0 == 1)) where
  abbrev processes : List (Option Process)
  processes = change ps a.pid (λ q. record q { fds = put q.fds fd None })

  abbrev unclaiming : Object → Object
  unclaiming x = record x { claims = put x.claims e.entry.end None }

  abbrev lost : Bool
  lost = has_lost (frame_of a v processes) a.pid e.entry.object e.entry.end

  abbrev unclaimed : Parts
  unclaimed = record v { objects = if lost then change v.objects e.entry.object unclaiming else v.objects }

  abbrev unowned : Parts
  unowned = record unclaimed { opens = taken last e.id v.opens; offsets = cleared last e.id 0 v.offsets; owners = slice_set v.owners e.id (slice_index_or v.owners e.id 0 - 1) }

  abbrev left : Parts
  left = record unowned { objects = taken (goes e.entry.object unowned) e.entry.object unclaimed.objects; holdings = cleared (goes e.entry.object unowned) e.entry.object holds_nothing v.holdings }

  pub left_is : (t u w : Parts) → t ≡ unclaimed → u ≡ released last e.id t → w ≡ object_let_go e.entry.object u → w ≡ left
  left_is t u w one two three =
      three ∙ ap (object_let_go e.entry.object) (two ∙ ap (released _ _) one ∙ released_is _ _ _ was_last) ∙ let_go_is e.entry.object unowned

  low : e.id < length v.opens
  low = in_table _ _ _ (is_behind (frame_of a v ps) a.pid fd e is).stands

  last_owned : not (owned processes e.id) ≡ last
  last_owned =
      let b = is_behind (frame_of a v ps) a.pid fd e is in
      sym (was_last ∙ ap (λ ns. slice_index_or ns e.id 0 == 1) c.owners ∙ last_is ps _ fd _ _ b.lives b.descriptor _ low)

  row_left : let_go a.pid fd e (frame_of a v ps) ≡ Pass tt (frame_of a left processes)
  unfolding let_go let_go_claim let_go_open let_go_object change_process
  row_left =
      then_is _ _ _ _ _ refl (
      then_is _ _ _ _ _ (claim_step _ _ _ _) (
      then_is _ _ _ _ _
      (ap (λ b. only_if b (put_open e.id None) (frame_of a unclaimed processes)) last_owned ∙ open_step _ _ _) (
      object_step _ _ _)))

  counted_left : IsCounted left processes
  counted_left =
      let b = is_behind (frame_of a v ps) a.pid fd e is in
      let objects = length-taken (goes e.entry.object unowned) e.entry.object unclaimed.objects ∙ go lost in
      record {
        owners = ap (λ ns. slice_set ns e.id (slice_index_or ns e.id 0 - 1)) c.owners ∙ sym (owners_fewer ps _ fd _ _ b.lives b.descriptor _ low)
            ∙ ap (λ n. owners_of n processes) (sym (length-taken _ _ _));
        homes = c.homes ∙ sym (homes_taken _ ps _ fd) ∙ ap (λ n. homes_of n processes) (sym objects);
      }
    where
      go : (b : Bool) → length (if b then change v.objects e.entry.object unclaiming else v.objects) ≡ length v.objects
      go true = length-set v.objects e.entry.object _
      go false = refl

  leaves_left : Leaves (world_of a v ps) (world_of a left processes)
  leaves_left = record {
    objects = remains_taken _ _ _ _ _ _ _ (remains_unclaimed _ _ _ _ _ (remains_itself _ _ _ s.holdings.clean.holdings));
    opens = remains_taken 0 _ _ _ _ _ _ (remains_itself 0 _ _ s.holdings.clean.offsets);
    ended = seen_changed is_ended (λ q. record q { fds = put q.fds fd None }) (λ q. refl) ps a.pid;
    processes = length-set ps a.pid _;
    statuses = refl;
  }

-- what is said of the parts and the processes then
pub record IsGivenUp (a : Around) (v : Parts) (ps : List (Option Process)) (fd : ℕ) (e : OpenFile) (w : Parts) (qs : List (Option Process)) : Type 0 where
  pub row : let_go a.pid fd e (frame_of a v ps) ≡ Pass tt (frame_of a w qs)
  pub counted : IsCounted w qs
  pub leaves : Leaves (world_of a v ps) (world_of a w qs)
  pub content : (world_of a w qs).content ≡ carried (frame_of a v ps) (frame_of a w qs) (world_of a v ps).content

pub given_up : (a : Around) (v : Parts) (ps : List (Option Process)) (fd : ℕ) (e : OpenFile) (s : Sound (world_of a v ps)) → IsCounted v ps → behind (frame_of a v ps) a.pid fd ≡ Some e
    → (qs : List (Option Process)) → qs ≡ change ps a.pid (λ q. record q { fds = put q.fds fd None }) → (t u w : Parts) (last : Bool)
    → t ≡ record v {
      objects = if has_lost (frame_of a v qs) a.pid e.entry.object e.entry.end then
          change v.objects e.entry.object (λ x. record x { claims = put x.claims e.entry.end None }) else v.objects;
    } → last ≡ (slice_index_or t.owners e.id 0 == 1) → u ≡ released last e.id t → w ≡ object_let_go e.entry.object u → IsGivenUp a v ps fd e w qs
given_up a v ps fd e s c is qs taking t u w last one lastly two three =
    let was_last = lastly ∙ ap (λ z. slice_index_or z.owners e.id 0 == 1) one in
    let first =
    one ∙ ap (λ rs. record v {
      objects = if has_lost (frame_of a v rs) a.pid e.entry.object e.entry.end then
          change v.objects e.entry.object (λ x. record x { claims = put x.claims e.entry.end None }) else v.objects;
    }) taking in
    let whole = left_is a v ps fd e last s c is was_last t u w first two three in
    let leaves = leaves_left a v ps fd e last s c is was_last in
    let content = left_carried _ _ s.holdings.clean leaves in
    let r : IsGivenUp a v ps fd e (left a v ps fd e last s c is was_last) (processes a v ps fd e last s c is was_last) =
    record {
      row = row_left a v ps fd e last s c is was_last;
      counted = counted_left a v ps fd e last s c is was_last;
      leaves = leaves;
      content = content;
    } in
    subst (λ rs. IsGivenUp a v ps fd e w rs) (sym taking) (subst (λ z. IsGivenUp a v ps fd e z (processes a v ps fd e last s c is was_last)) (sym whole) r)

-- ---- what stands behind the descriptor
pub entry_stands : (a : Around) (v : Parts) (ps : List (Option Process)) (fd : ℕ) (e : OpenFile) → behind (frame_of a v ps) a.pid fd ≡ Some e → is_some (at v.opens e.id) ≡ true
entry_stands a v ps fd e is = ap is_some (is_behind (frame_of a v ps) a.pid fd e is).stands

pub entry_low : (a : Around) (v : Parts) (ps : List (Option Process)) (fd : ℕ) (e : OpenFile) → Sound (world_of a v ps) → behind (frame_of a v ps) a.pid fd ≡ Some e → e.entry.end < 2
entry_low a v ps fd e s is = elim (or_cases _ _
    (s.opens.end e.id e.entry (is_behind (frame_of a v ps) a.pid fd e is).stands)) [
      | inl first ↦ let zero : e.entry.end ≡ 0 = eqb-true _ 0 first in omega (arith, zero)
      | inr second ↦ let one : e.entry.end ≡ 1 = eqb-true _ 1 (and_parts _ _ second).0 in omega (arith, one)
    ]
