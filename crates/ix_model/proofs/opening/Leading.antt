-- Where names lead, from directory to directory.
use Rattle.std.{proofs.Common.{◌≡◌, ℕ, List, [], ◌∷◌, ◌++◌, Option, Some, None, unwrap_or, refl, ap, ◌∙◌}, specs.Option.option_and_then}
use Rattle.ix_model.specs.{world.World.Object, rows.Walks.{node, child}, opening.Opening.directory_of}

-- the object to which names lead from an object on
abbrev pub lead : List (Option Object) → ℕ → List (List ℕ) → Option ℕ
lead t n [] = Some n
lead t n (name ∷ names) = option_and_then (λ m. lead t m names) (child (node t n) name)

directory_next : (t : List (Option Object)) (n : ℕ) (x name : List ℕ) (names : List (List ℕ))
    → directory_of t n (x ∷ (names ++ name ∷ [])) ≡ directory_of t (unwrap_or (child (node t n) x) n) (names ++ name ∷ [])
directory_next t n x name [] = refl
directory_next t n x name (y ∷ names) = refl

-- the directory of a path is where all its names but the last lead
pub directory_is : (t : List (Option Object)) (n d : ℕ) (names : List (List ℕ)) (name : List ℕ) → lead t n names ≡ Some d → directory_of t n (names ++ name ∷ []) ≡ d
directory_is t n d [] name h = cc
directory_is t n d (x ∷ names) name h = directory_next t n x name names ∙ go (child (node t n) x) h (λ m k. directory_is t m d names name k)
  where
    go : (c : Option ℕ) → option_and_then (λ m. lead t m names) c ≡ Some d → ((m : ℕ) → lead t m names ≡ Some d → directory_of t m (names ++ name ∷ []) ≡ d)
        → directory_of t (unwrap_or c n) (names ++ name ∷ []) ≡ d
    go None h next = cc
    go (Some m) h next = next m h

-- one name further
pub lead_on : (t : List (Option Object)) (n d o : ℕ) (names : List (List ℕ)) (name : List ℕ) → lead t n names ≡ Some d → child (node t d) name ≡ Some o → lead t n (names ++ name ∷ []) ≡ Some o
lead_on t n d o [] name h k =
    let same : n ≡ d = cc in
    ap (option_and_then (λ m. Some m)) (ap (λ m. child (node t m) name) same ∙ k)
lead_on t n d o (x ∷ names) name h k = go (child (node t n) x) h (λ m j. lead_on t m d o names _ j k)
  where
    go : (c : Option ℕ) → option_and_then (λ m. lead t m names) c ≡ Some d → ((m : ℕ) → lead t m names ≡ Some d → lead t m (names ++ name ∷ []) ≡ Some o)
        → option_and_then (λ m. lead t m (names ++ name ∷ [])) c ≡ Some o
    go None h next = cc
    go (Some m) h next = next m h

-- where each child stays, names lead where they led
pub lead_kept : (t u : List (Option Object)) → ((n m : ℕ) (name : List ℕ) → child (node t n) name ≡ Some m → child (node u n) name ≡ Some m)
    → (n d : ℕ) (names : List (List ℕ)) → lead t n names ≡ Some d → lead u n names ≡ Some d
lead_kept t u kept n d [] h = h
lead_kept t u kept n d (x ∷ names) h = go _ refl h (λ m k. lead_kept t u kept m d names k)
  where
    go : (c : Option ℕ) → child (node t n) x ≡ c → option_and_then (λ m. lead t m names) c ≡ Some d
        → ((m : ℕ) → lead t m names ≡ Some d → lead u m names ≡ Some d) → option_and_then (λ m. lead u m names) (child (node u n) x) ≡ Some d
    go None is h next = cc
    go (Some m) is h next = ap (option_and_then (λ j. lead u j names)) (kept n m x is) ∙ next m h
