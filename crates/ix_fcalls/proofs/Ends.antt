-- The two ends of a new pipe: two free entries under two free descriptors.
use Rattle.std.proofs.Common.{◌≡◌, ◌≢◌, ◌+◌, ◌<◌, ◌≤◌, ◌&&◌, ℕ, ◌⊎◌, zero, suc, option_map, if◌then◌else◌, cond, Bool, true, false, nat_lt, List, [], ◌∷◌, Some}
use Rattle.std.proofs.Common.{Option, None, length, count_by, is_some, is_none, refl, sym, ap, ◌∙◌, arith, inl, inr, length-set, slice_set}
use Rattle.std.{specs.{Option.option_map_or, List.position_or_len}, proofs.lemmas.{Bool.{and_from, lt-ltb}, List.{set-get_or, Sums.{sum_by-set, sum_by-cons}}}}
use Rattle.ix_model.specs.world.{World.{Process, Object, Open, Holding, at, put, change, living, lowest_free}, Contents.holds_nothing, Numbers.free_pipe}
use Rattle.ix_model.{specs.{declared.views.Caller.Caller, laws.Sound.Sound}, proofs.tables.{FreeNumbers.{lowest_free_is, IsFreePipe, free_pipe_is}, Tables.{at_changed, change_twice}}}
use Rattle.ix_tables.specs.{Parts.Parts, Views.vacant_pipe}
use Rattle.ix_fcalls.{specs.{Around.{Around, frame_of, world_of, process_of}, Counted.{IsCounted, IsClear, Keeps, has_free, free_beside}}, proofs.Counting.{one, counted_same}}

-- ---- the second free descriptor
-- whatever the first one names
free_alike : (fds : List (Option ℕ)) (a d e b : ℕ) → is_none (at (put fds a (Some d)) b) ≡ is_none (at (put fds a (Some e)) b)
free_alike [] a d e b = refl
free_alike (x ∷ fds) zero d e zero = refl
free_alike (x ∷ fds) zero d e (suc b) = refl
free_alike (x ∷ fds) (suc a) d e zero = refl
free_alike (x ∷ fds) (suc a) d e (suc b) = free_alike fds a d e b

beside_is : (o : Option Process) (a d b : ℕ)
    → option_map_or (λ q. nat_lt b (length q.fds) && is_none (at q.fds b)) (living (option_map {T = Process} (λ q. record q { fds = put q.fds a (Some d) }) o))
    false ≡ free_beside (living o) a d b
beside_is None a d b = refl
beside_is (Some q) a d b = go _
  where
    go : (end : Bool) → option_map_or (λ p. nat_lt b (length p.fds) && is_none (at p.fds b)) (if end then None else
        Some (record q { fds = put q.fds a (Some d) })) false ≡ free_beside (if end then None else Some q) a d b
    go true = refl
    go false = refl

beside_alike : (o : Option Process) (a d e b : ℕ) → free_beside o a d b ≡ free_beside o a e b
beside_alike None a d e b = refl
beside_alike (Some q) a d e b = (λ i. nat_lt b (length-set q.fds a (Some d) i) && free_alike q.fds a d e b i)
    ∙ ap (λ n. nat_lt b n && is_none (at (put q.fds a (Some e)) b)) (sym (length-set q.fds a _))

pub second_free : (ps qs : List (Option Process)) (pid a d b : ℕ) → free_beside (living (at ps pid)) a 0 b ≡ true
    → qs ≡ change ps pid (λ q. record q { fds = put q.fds a (Some d) }) → has_free qs pid b ≡ true
second_free ps qs pid a d b free table =
    let h : Process → Process = λ q. record q { fds = put q.fds a (Some d) } in
    ap (λ t. has_free t pid b) table ∙ ap (λ o. option_map_or (λ q. nat_lt b (length q.fds) && is_none (at q.fds b)) (living o) false) (at_changed ps pid h)
    ∙ beside_is _ a d b ∙ beside_alike _ a d 0 b ∙ free

pub beside_there : (a : Around) (c : Caller) (ps : List (Option Process)) (first second : ℕ) → living (at ps a.pid) ≡ Some (process_of a c)
    → Some second ≡ lowest_free (put c.fds first (Some 0)) → free_beside (living (at ps a.pid)) first 0 second ≡ true
beside_there a c ps first second is lowest =
    let free = lowest_free_is _ _ (sym lowest) in
    ap (λ o. free_beside o first 0 second) is ∙ and_from _ _ (lt-ltb second _ free.0) (ap is_none free.1)

-- ---- two free entries
vacancies : (t : List (Option Open)) (n : ℕ) (x : Open) → lowest_free t ≡ Some n → count_by is_none (put t n (Some x)) + 1 ≡ count_by is_none t
vacancies t n x lowest =
    let low = lowest_free_is t n lowest in
    omega (arith, sum_by-set (λ (y : Option Open). cond {A = ℕ} (is_none y) 1 0) t n (Some x) None low.0, ap (λ (y : Option Open). one (is_none y)) low.1)

first_within : (t : List (Option Open)) → 0 < count_by is_none t → position_or_len is_none t < length t
first_within [] h = absurd (omega (arith, h))
first_within (None ∷ t) h = omega arith
first_within (Some x ∷ t) h = let more = first_within t (omega (arith, h, sum_by-cons (λ (y : Option Open). cond {A = ℕ} (is_none y) 1 0) (Some x) t)) in omega (arith, more)

-- where one is free there is a lowest
pub not_none : (t : List (Option Open)) → 0 < count_by is_none t → lowest_free t ≢ None
not_none t some none =
    let is = ap (λ b. cond b (Some (position_or_len is_none t)) None) (lt-ltb _ _ (first_within t some)) in
    cc (is, none)

-- with fewer than two there is none, or none beside the lowest
pub record OneAlone (t : List (Option Open)) (x : Open) : Type 0 where
  pub first : ℕ
  pub is : lowest_free t ≡ Some first
  pub alone : lowest_free (put t first (Some x)) ≡ None

pub few_free : (t : List (Option Open)) (x : Open) → count_by is_none t < 2 → (lowest_free t ≡ None) ⊎ OneAlone t x
few_free t x few = go _ refl
  where
    second : (d : ℕ) → lowest_free t ≡ Some d → (o : Option ℕ) → lowest_free (put t d (Some x)) ≡ o → OneAlone t x
    second d is None alone = record { first = d; is = is; alone = alone }
    second d is (Some e) more = absurd (omega (arith, few, vacancies t d x is, vacancies (put t d (Some x)) e x more))

    go : (o : Option ℕ) → lowest_free t ≡ o → (lowest_free t ≡ None) ⊎ OneAlone t x
    go None is = inl is
    go (Some d) is = inr (second d is _ refl)

pub two_left : (t u : List (Option Open)) (n : ℕ) (x : Open) → 2 ≤ count_by is_none t → Some n ≡ lowest_free t → u ≡ put t n (Some x) → 0 < count_by is_none u
two_left t u n x two lowest is = rw is (omega (arith, two, vacancies t n x (sym lowest)))

-- ---- the pipe
pub vacant_is_free : (a : Around) (t : Parts) (ps : List (Option Process)) (n : ℕ) → Some n ≡ vacant_pipe t.fss t.objects → IsFreePipe (frame_of a t ps) n
unfolding free_pipe
vacant_is_free a t ps n is = free_pipe_is _ n (sym is)

pub pipe_within : (a : Around) (t u : Parts) (ps : List (Option Process)) (n : ℕ) (x : Option Object) (hs : List Holding) → Some n ≡ vacant_pipe t.fss t.objects
    → u ≡ record t { objects = put t.objects n x; holdings = hs } → n < length u.objects
pipe_within a t u ps n x hs vacant is = rw is (omega (arith, (vacant_is_free a t ps n vacant).inside, length-set t.objects n x))

pub clear_made : (t u : Parts) (n : ℕ) (x : Option Object) (hs : List Holding) → IsClear t → u ≡ record t { objects = put t.objects n x; holdings = hs } → IsClear u
clear_made t u n x hs clear is = rw is record { owners = clear.owners; offsets = clear.offsets }

pub counted_made : (t u : Parts) (ps : List (Option Process)) (n : ℕ) (x : Option Object) (hs : List Holding) → IsCounted t ps
    → u ≡ record t { objects = put t.objects n x; holdings = hs } → IsCounted u ps
counted_made t u ps n x hs c is = rw is (counted_same t _ ps refl refl refl (length-set t.objects n x) c)

-- a free number held nothing before
pub kept_made : (a : Around) (t u v : Parts) (ps : List (Option Process)) (n : ℕ) (x : Option Object) (es : List (Option Open)) (os : List ℕ)
    → Sound (world_of a t ps) → Some n ≡ vacant_pipe t.fss t.objects → u ≡ record t {
      objects = put t.objects n x;
      holdings = slice_set t.holdings n holds_nothing;
    } → v ≡ record u { opens = es; owners = os } → Keeps t v
kept_made a t u v ps n x es os s vacant made is =
    let nothing = s.holdings.clean.holdings n (ap is_some (vacant_is_free a t ps n vacant).free) in
    record {
      holdings = ap (λ w. w.holdings) is ∙ ap (λ w. w.holdings) made ∙ ap (slice_set t.holdings n) (sym nothing) ∙ set-get_or t.holdings n holds_nothing;
      offsets = ap (λ w. w.offsets) is ∙ ap (λ w. w.offsets) made;
    }

-- both descriptors at once
pub both_put : (ps qs rs : List (Option Process)) (pid a b d e : ℕ) → qs ≡ change ps pid (λ q. record q { fds = put q.fds a (Some d) })
    → rs ≡ change qs pid (λ q. record q { fds = put q.fds b (Some e) }) → rs ≡ change ps pid (λ q. record q { fds = put (put q.fds a (Some d)) b (Some e) })
both_put ps qs rs pid a b d e first second = second ∙ ap (λ t. change t pid (λ q. record q { fds = put q.fds b (Some e) })) first ∙ change_twice ps _ _ _

pub ruleset ends = (second_free, beside_there, not_none, two_left, pipe_within, clear_made, counted_made, kept_made, both_put)
