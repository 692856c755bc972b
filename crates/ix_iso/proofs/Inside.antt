-- What two contents hold alike is carried over alike.
use Rattle.std.proofs.Common.{◌≡◌, ℕ, zero, suc, Bool, true, false, List, [], ◌∷◌, ◌++◌, length, replicate, Option, Some, None, is_some, refl, sym}
use Rattle.std.proofs.{Common.{if◌then◌else◌, ap, ◌∙◌, arith, get_or, set}, lemmas.Bool.{and_parts, true_from_ne_false}}
use Rattle.ix_label.specs.{Category.{Categories, leq}, Lattice.leq-trans}
use Rattle.ix_model.specs.{world.World.{Frame, Content, Holding, Object, Process, Open, at, is_ended}, history.Lowering.Crosses, two_runs.TwoRuns.AlikeIn}
use Rattle.ix_model.{specs.world.Contents.{keep, carried, holding_of, offset_of, status_of}, proofs.{sound.Carried.there_is, clean.Carrying.get_or-keep}}
use Rattle.ix_iso.proofs.{Counts.SameCounts, Entries.EntriesRise}
use Rattle.ix_model.specs.history.Lowering as low

-- ---- what doesn't cross was low
module _ (l : Categories) (f g : Frame) (steady : Crosses l f g → ⊥) where
  pub object_was_low : (o : ℕ) (x y : Object) → at f.objects o ≡ Some x → at g.objects o ≡ Some y → leq y.label l ≡ true → leq x.label l ≡ true
  object_was_low o x y is here below = true_from_ne_false _ (λ e. steady (low.OfObject o x y is here e below))

  pub process_was_low : (p : ℕ) (x y : Process) → at f.processes p ≡ Some x → at g.processes p ≡ Some y → leq y.label l ≡ true → leq x.label l ≡ true
  process_was_low p x y is here below = true_from_ne_false _ (λ e. steady (low.OfProcess p x y is here e below))

-- ---- what is carried over, by number
zeros_at : (m n : ℕ) → ◌≡◌ {A = ℕ} (get_or (replicate m 0) n 0) 0
zeros_at zero n = refl
zeros_at (suc m) zero = refl
zeros_at (suc m) (suc n) = zeros_at m n

pub grown_at : (xs : List ℕ) (m n : ℕ) → ◌≡◌ {A = ℕ} (get_or (xs ++ replicate m 0) n 0) (get_or xs n 0)
grown_at [] m n = zeros_at m n
grown_at (x ∷ xs) m zero = refl
grown_at (x ∷ xs) m (suc n) = grown_at xs m n

kept_alike : {A : Type 0} (d : A) (p : ℕ → Bool) (xs ys : List A) (n : ℕ) → (p n ≡ true → get_or xs n d ≡ get_or ys n d) → get_or (keep d p 0 xs) n d ≡ get_or (keep d p 0 ys) n d
kept_alike d p xs ys n same = get_or-keep d p 0 xs n ∙ go _ (ap p (omega arith)) ∙ sym (get_or-keep d p 0 ys n)
  where
    go : (b : Bool) → b ≡ p n → (if b then get_or xs n d else d) ≡ (if b then get_or ys n d else d)
    go true e = same (sym e)
    go false e = refl

module _ (f g : Frame) (c d : Content) where
  pub holding_carried : (o : ℕ) → (is_some (at f.objects o) ≡ true → holding_of c o ≡ holding_of d o) → holding_of (carried f g c) o ≡ holding_of (carried f g d) o
  unfolding carried
  holding_carried o same = kept_alike _ _ _ _ o (λ stays. same (and_parts _ _ stays).0)

  pub offset_carried : (e : ℕ) → (is_some (at f.opens e) ≡ true → offset_of c e ≡ offset_of d e) → offset_of (carried f g c) e ≡ offset_of (carried f g d) e
  unfolding carried
  offset_carried e same = kept_alike 0 _ _ _ e (λ stays. same (and_parts _ _ stays).0)

  pub status_carried : (p : ℕ) → (is_ended (at f.processes p) ≡ true → status_of c p ≡ status_of d p) → status_of (carried f g c) p ≡ status_of (carried f g d) p
  unfolding carried
  status_carried p same = kept_alike 0 _ _ _ p (λ stays.
      grown_at _ _ p ∙ same (and_parts _ _ stays).0 ∙ sym (grown_at _ _ p))

ended_is : (o : Option Process) → is_ended o ≡ true → (q : Process) × (o ≡ Some q) × (q.ended ≡ true)
ended_is None h = cc
ended_is (Some q) h = (q, refl, h)

pub carried_alike : (l : Categories) (f g : Frame) (c d : Content) → EntriesRise f.opens g.opens → (Crosses l f g → ⊥) → AlikeIn l f c d → AlikeIn l g (carried f g c) (carried f g d)
carried_alike l f g c d entries steady same = record {
  bytes = λ o y here below. holding_carried f g c d o (λ stood.
      let x = there_is _ stood in
      same.bytes o x.0 x.1 (object_was_low l f g steady o x.0 y x.1 here below));
  offsets = λ e y here below. offset_carried f g c d e (λ stood.
      let x = there_is _ stood in
      same.offsets e x.0 x.1 (leq-trans _ _ l (entries.rise e x.0 y x.1 here) below));
  statuses = λ p y here ended below. status_carried f g c d p (λ stood.
      let x = ended_is _ stood in
      same.statuses p x.0 x.1 x.2 (process_was_low l f g steady p x.0 y x.1 here below));
}

-- ---- edits
pub set_alike : {A : Type 0} (d : A) (xs ys : List A) (n m : ℕ) (x y : A) → length xs ≡ length ys → (m ≡ n → x ≡ y)
    → ((m ≡ n → ⊥) → get_or xs m d ≡ get_or ys m d) → get_or (set xs n x) m d ≡ get_or (set ys n y) m d
set_alike d [] [] n m x y long here apart = refl
set_alike d [] (b ∷ ys) n m x y long here apart = absurd (omega (arith, long))
set_alike d (a ∷ xs) [] n m x y long here apart = absurd (omega (arith, long))
set_alike d (a ∷ xs) (b ∷ ys) zero zero x y long here apart = here refl
set_alike d (a ∷ xs) (b ∷ ys) zero (suc m) x y long here apart = apart (λ e. omega (arith, e))
set_alike d (a ∷ xs) (b ∷ ys) (suc n) zero x y long here apart = apart (λ e. omega (arith, e))
set_alike d (a ∷ xs) (b ∷ ys) (suc n) (suc m) x y long here apart = set_alike d xs ys n m x y (omega (arith, long)) (λ e. here (ap suc e)) (λ other. apart (λ e. other (omega (arith, e))))

module _ (l : Categories) (g : Frame) (c d : Content) (counts : SameCounts c d) (same : AlikeIn l g c d) where
  pub holding_alike : (o : ℕ) (a b : Holding) → ((x : Object) → at g.objects o ≡ Some x → leq x.label l ≡ true → a ≡ b)
      → AlikeIn l g (record c { holdings = set c.holdings o a }) (record d { holdings = set d.holdings o b })
  holding_alike o a b equal = record {
    bytes = λ n x here below. set_alike _ _ _ o n a b counts.holdings (λ e. equal x (ap (at _) (sym e) ∙ here) below) (λ other. same.bytes n x here below);
    offsets = same.offsets;
    statuses = same.statuses;
  }

  pub offset_alike : (e m n : ℕ) → ((x : Open) → at g.opens e ≡ Some x → leq x.label l ≡ true → m ≡ n)
      → AlikeIn l g (record c { offsets = set c.offsets e m }) (record d { offsets = set d.offsets e n })
  offset_alike e m n equal = record {
    bytes = same.bytes;
    offsets = λ k x here below. set_alike 0 _ _ e k m n counts.offsets (λ i. equal x (ap (at _) (sym i) ∙ here) below) (λ other. same.offsets k x here below);
    statuses = same.statuses;
  }

  pub status_alike : (p m n : ℕ) → ((x : Process) → at g.processes p ≡ Some x → leq x.label l ≡ true → m ≡ n)
      → AlikeIn l g (record c { statuses = set c.statuses p m }) (record d { statuses = set d.statuses p n })
  status_alike p m n equal = record {
    bytes = same.bytes;
    offsets = same.offsets;
    statuses = λ k x here ended below. set_alike 0 _ _ p k m n counts.statuses (λ i. equal x (ap (at _) (sym i) ∙ here) below)
        (λ other. same.statuses k x here ended below);
  }
