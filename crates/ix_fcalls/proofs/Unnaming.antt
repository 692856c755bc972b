-- What is left where a name goes, and maybe what it named.
use Rattle.std.{proofs.Common.{◌≡◌, ◌<◌, ◌==◌, ℕ, Bool, false, not, List, length, Option, is_some, slice_index_or, length-set, refl, sym, ap, ◌∙◌, subst}, specs.List.list_any}
use Rattle.ix_label.specs.Category.{Categories}
use Rattle.ix_model.specs.{laws.Sound.Sound, world.{World.{Process, Object, Holding, at, change, is_ended}, Contents.{carried, holds_nothing}}}
use Rattle.ix_model.{specs.rows.{Outcomes.Pass, Rows.{observe, affect}, Lifetimes.let_go_object, OnPaths.is_home}, proofs.frames.Floats.{Floats, process_but, floats_itself, floats_observe}}
use Rattle.ix_model.proofs.{tables.Tables.{SameBut, seen_same, length_same}, words.Keeps.Holds}
use Rattle.ix_tables.specs.{Parts.Parts, Views.object_let_go}
use Rattle.ix_fcalls.specs.{Around.{Around, frame_of, world_of}, Counted.{IsCounted, Keeps}, Remaining.{Remains, Leaves}}
use Rattle.ix_fcalls.proofs.{Counting.{counted_same, homes_at}, Releasing.any_counted, Remaining.{taken, cleared, remains_changed, remains_taken, left_carried}}
use Rattle.ix_fcalls.proofs.{GivenUp.{goes, let_go_is, length-taken, object_step}, Leading.standing_still}

-- where the count of homes is above 0 somebody is at home
pub home_is : (t : Parts) (ps : List (Option Process)) (n : ℕ) → IsCounted t ps → n < length t.objects → not (slice_index_or t.homes n 0 == 0) ≡ list_any (is_home n) ps
home_is t ps n c low = ap (λ k. not (k == 0)) (homes_at t ps c n low) ∙ sym (any_counted _ ps)

-- an object that is let go, as the row has it
pub letting_go : (a : Around) (t u : Parts) (ps : List (Option Process)) (o : ℕ) → u ≡ object_let_go o t → let_go_object o (frame_of a t ps) ≡ Pass tt (frame_of a u ps)
unfolding let_go_object
letting_go a t u ps o is = object_step _ o _ ∙ ap (λ v. Pass tt (frame_of a v ps)) (sym (is ∙ let_go_is o t))

-- the processes after a look are as before but for labels
pub processes_seen : (a : Around) (t : Parts) (ps qs : List (Option Process)) (l : Categories) → observe a.pid l (frame_of a t ps) ≡ Pass tt (frame_of a t qs) → SameBut process_but ps qs
unfolding Holds
processes_seen a t ps qs l row = (subst (λ out. Holds out (Floats (frame_of a t ps))) row ((floats_observe _ _ l).led _ (floats_itself _))).processes

pub processes_twice : (ps qs rs : List (Option Process)) → SameBut process_but ps qs → SameBut process_but qs rs → SameBut process_but ps rs
processes_twice ps qs rs r s = record { same = s.same ∙ r.same }

-- ---- counts
pub counted_left : (t u : Parts) (ps : List (Option Process)) (b : Bool) (d o : ℕ) (h : Object → Object) (hs : List Holding) → IsCounted t ps
    → u ≡ record t { objects = taken b o (change t.objects d h); holdings = hs } → IsCounted u ps
counted_left t u ps b d o h hs c is = subst (λ v. IsCounted v ps) (sym is) (counted_same t _ ps refl refl refl
    (length-taken b o _ ∙ length-set t.objects d _) c)

-- ---- what is carried over
-- where the same stands and holds the same
remains_alike : {A B : Type 0} (d : A) (t u : List (Option B)) (xs ys : List A) → ((n : ℕ) → is_some (at u n) ≡ is_some (at t n)) → ys ≡ xs
    → ((n : ℕ) → is_some (at t n) ≡ false → slice_index_or xs n d ≡ d) → Remains d t u xs ys
remains_alike {A} {B} d t u xs ys stands same clean = record {
  count = ap length same;
  stood = λ n is. sym (stands n) ∙ is;
  same = λ n is. ap (λ zs. slice_index_or zs n d) same;
  gone = λ n is. ap (λ zs. slice_index_or zs n d) same ∙ clean n (sym (stands n) ∙ is);
}

module _ (a : Around) (t u : Parts) (ps qs : List (Option Process)) (s : Sound (world_of a t ps)) (same : SameBut process_but ps qs) (d : ℕ) (l : Categories)
    (row : affect a.pid d l (frame_of a t qs) ≡ Pass tt (frame_of a u qs)) (k : Keeps t u) (opens : u.opens ≡ t.opens) (b : Bool) (o : ℕ) (h : Object
    → Object) where
  abbrev left : Parts
  left = record u { objects = taken b o (change u.objects d h); holdings = cleared b o holds_nothing u.holdings }

  leaves : Leaves (world_of a t ps) (world_of a left qs)
  leaves = record {
    objects = remains_taken _ b _ _ _ _ o (remains_changed _ _ _ _ _ d h
        (remains_alike _ _ _ _ _ (standing_still a t u qs d l row) k.holdings s.holdings.clean.holdings));
    opens = remains_alike 0 _ _ _ _ (λ n. ap (λ v. is_some (at v n)) opens) k.offsets s.holdings.clean.offsets;
    ended = λ p. seen_same _ is_ended (λ x. refl) ps qs same p;
    processes = length_same _ ps qs same;
    statuses = refl;
  }

  pub content_left : (w : Parts) → w ≡ record u { objects = taken b o (change u.objects d h); holdings = cleared b o holds_nothing u.holdings }
      → (world_of a w qs).content ≡ carried (frame_of a t ps) (frame_of a w qs) (world_of a t ps).content
  content_left w is = subst (λ v. (world_of a v qs).content ≡ carried (frame_of a t ps) (frame_of a v qs) (world_of a t ps).content) (sym is)
      (left_carried _ _ s.holdings.clean leaves)

-- an object that is let go after its name is gone
pub let_go_after : (u w : Parts) (d o : ℕ) (h : Object → Object) → w ≡ object_let_go o (record u { objects = change u.objects d h })
    → w ≡ record u {
      objects = taken (goes o (record u { objects = change u.objects d h })) o (change u.objects d h);
      holdings =
          cleared (goes o (record u { objects = change u.objects d h })) o holds_nothing u.holdings;
    }
let_go_after u w d o h is = is ∙ let_go_is o _
