-- The marks of a table's vacant numbers, as its entries come, change and go.
use Rattle.std.proofs.Common.{◌≡◌, ◌<◌, ◌+◌, ℕ, zero, suc, Bool, true, false, not, List, [], ◌∷◌, length, count_by, cond, Option, Some, None, is_none, is_some}
use Rattle.std.proofs.Common.{refl, sym, ap, ◌∙◌, get_or, set, replicate}
use Rattle.std.specs.List.{slice_get, position, prefix_len}
use Rattle.std.proofs.{lemmas.List.{length-map, map-set, Quantifiers.position-Some, Sums.sum_by-cons}, Math.Seq.map-set_same}
use Rattle.ix_numbers.specs.Marks.{lowest, count, vacancies}

-- nothing stands anywhere
pub none_stands : (A : Type 0) (n : ℕ) → replicate n true ≡ vacancies {A = A} (replicate n None)
none_stands A zero = refl
none_stands A (suc n) = ap (λ (marks : List Bool). true ∷ marks) (none_stands A n)

-- the first vacant number, and how many there are
first_vacant : {A : Type 0} (es : List (Option A)) → prefix_len not (vacancies es) ≡ prefix_len (λ e. not (is_none e)) es
first_vacant [] = refl
first_vacant (e ∷ es) = ap (λ n. cond (not (is_none e)) (1 + n) 0) (first_vacant es)

pub lowest_vacant : {A : Type 0} (es : List (Option A)) → lowest (vacancies es) ≡ position is_none es
lowest_vacant es = rw (first_vacant es, length-map es is_none) refl

pub count_vacant : {A : Type 0} (es : List (Option A)) → count (vacancies es) ≡ count_by is_none es
count_vacant [] = refl
count_vacant {A = A} (e ∷ es) = sum_by-cons (λ (free : Bool). cond {A = ℕ} free 1 0) (is_none e) (vacancies es)
    ∙ ap (λ n. cond (is_none e) 1 0 + n) (count_vacant es) ∙ sym (sum_by-cons (λ (o : Option A). cond {A = ℕ} (is_none o) 1 0) e es)

is_vacant : {A : Type 0} (e : Option A) → is_none e ≡ true → e ≡ None
is_vacant None h = refl
is_vacant (Some x) h = cc

-- nothing stands at the lowest free number
pub vacant_there : {A : Type 0} (es : List (Option A)) (n : ℕ) → position is_none es ≡ Some n → (n < length es) × (get_or es n None ≡ None)
vacant_there es n h = let found = position-Some is_none es n None h in (found.0, is_vacant (get_or es n None) found.1)

-- so a number that is given out is one of the table's, and nothing stands there
pub given_vacant : {A : Type 0} (es : List (Option A)) (marks : List Bool) (n : ℕ) → marks ≡ vacancies es → Some n ≡ lowest marks → (n < length es) × (get_or es n None ≡ None)
given_vacant es marks n tied given = vacant_there es n (sym (lowest_vacant es) ∙ ap lowest (sym tied) ∙ sym given)

-- a number at which something stands is taken
pub stands_taken : {A : Type 0} (es : List (Option A)) (n : ℕ) → is_some (get_or es n None) ≡ true → slice_get (vacancies es) n ≡ Some false
stands_taken [] n h = absurd (cc h)
stands_taken (None ∷ es) zero h = absurd (cc h)
stands_taken (Some e ∷ es) zero h = refl
stands_taken (e ∷ es) (suc n) h = stands_taken es n h

-- what comes or goes at a number
pub changed : {A : Type 0} (es : List (Option A)) (marks : List Bool) (n : ℕ) (e : Option A) → marks ≡ vacancies es → set marks n (is_none e) ≡ vacancies (set es n e)
changed es marks n e tied = ap (λ (bs : List Bool). set bs n (is_none e)) tied ∙ sym (map-set is_none es n e)

-- what stands at a number and still does leaves the marks
pub kept : {A : Type 0} (es : List (Option A)) (n : ℕ) (old new : Option A) → old ≡ get_or es n old → is_none new ≡ is_none old → vacancies (set es n new) ≡ vacancies es
kept es n old new read same = map-set_same is_none es n new old (same ∙ ap is_none read)

-- an entry in the place of one
is_taken : {A : Type 0} (e : Option A) → is_some e ≡ true → is_none e ≡ false
is_taken None h = cc
is_taken (Some x) h = refl

pub refilled : {A : Type 0} (es : List (Option A)) (n : ℕ) (e : A) → is_some (get_or es n None) ≡ true → vacancies (set es n (Some e)) ≡ vacancies es
refilled es n e there = map-set_same is_none es n (Some e) None (sym (is_taken (get_or es n None) there))
