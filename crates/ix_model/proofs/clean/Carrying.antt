-- Where nothing goes, a clean content is carried over whole.
use Rattle.std.proofs.Common.{ℕ, zero, suc, ◌+◌, ◌-◌, ◌<◌, ◌≡◌, ◌&&◌, Bool, true, false, List, [], ◌∷◌, length, Option, is_some, refl, ap, sym, ◌∙◌, arith, get_or, if◌then◌else◌, append-nil}
use Rattle.std.proofs.lemmas.List.{same_lists, get_or_default}
use Rattle.ix_model.specs.world.{World.{Frame, Content, World, Process, Holding, at, is_ended}, Contents.{keep, grown, carried}}
use Rattle.ix_model.specs.{laws.Clean.IsClean, rows.{OnDescriptors.LengthChecks, Table.verdict}, history.Events.Op}
use Rattle.ix_model.proofs.words.Lasts.{Lasting, Ended, Lasts, lets_nothing_go, lasts_decided}

pub length-keep : {A : Type 0} (d : A) (p : ℕ → Bool) (k : ℕ) (xs : List A) → length (keep d p k xs) ≡ length xs
unfolding keep
length-keep d p k [] = refl
length-keep d p k (x ∷ xs) = ap suc (length-keep d p _ xs)

pub get_or-keep : {A : Type 0} (d : A) (p : ℕ → Bool) (k : ℕ) (xs : List A) (n : ℕ) → get_or (keep d p k xs) n d ≡ (if p (k + n) then get_or xs n d else d)
unfolding keep
get_or-keep d p k [] n = both _
  where
    both : (b : Bool) → d ≡ (if b then d else d)
    both true = refl
    both false = refl
get_or-keep d p k (x ∷ xs) zero = ap (λ m. if p m then x else d) (omega arith)
get_or-keep d p k (x ∷ xs) (suc n) = get_or-keep d p _ xs n ∙ ap (λ m. if p m then get_or xs n d else d) (omega arith)

-- a list that has the default wherever the test fails is kept whole
keep_all : {A : Type 0} (d : A) (p : ℕ → Bool) (xs : List A) → ((n : ℕ) → (if p n then get_or xs n d else d) ≡ get_or xs n d) → keep d p 0 xs ≡ xs
keep_all d p xs same = same_lists _ _ (length-keep d p 0 xs) (λ k e h.
    let within : k < length xs = omega (arith, length-keep d p 0 xs) in
    get_or_default _ k e d h ∙ get_or-keep d p 0 xs k ∙ ap (λ m. if p m then get_or xs k d else d) (omega arith) ∙ same k ∙ get_or_default xs k d e within)

keep_lasting : {A B : Type 0} (d : A) (t u : List (Option B)) (xs : List A) → Lasting t u → ((n : ℕ) → is_some (at t n) ≡ false → get_or xs n d ≡ d)
    → keep d (λ n. is_some (at t n) && is_some (at u n)) 0 xs ≡ xs
keep_lasting d t u xs lasting clean = keep_all d _ xs (λ n. go n _ refl)
  where
    go : (n : ℕ) (a : Bool) → is_some (at t n) ≡ a → (if a && is_some (at u n) then get_or xs n d else d) ≡ get_or xs n d
    go n false h = sym (clean n h)
    go n true h = rw lasting.stays refl

grown_same : (n : ℕ) (xs : List ℕ) → length xs ≡ n → grown n xs ≡ xs
grown_same n xs h = let e : n - length xs ≡ 0 = omega (arith, h) in rw e (append-nil xs)

keep_ended : (t u : List (Option Process)) (xs : List ℕ) → Ended t u → ((n : ℕ) → is_ended (at t n) ≡ false → get_or xs n 0 ≡ 0) → length xs ≡ length t
    → keep 0 (λ n. is_ended (at t n) && is_ended (at u n)) 0 (grown (length u) xs) ≡ xs
keep_ended t u xs ended clean long = ap (keep 0 (λ n. is_ended (at t n) && is_ended (at u n)) 0) (grown_same _ xs (long ∙ sym ended.count))
    ∙ keep_all 0 _ xs (λ n. go n _ refl)
  where
    go : (n : ℕ) (a : Bool) → is_ended (at t n) ≡ a → (if a && is_ended (at u n) then get_or xs n 0 else 0) ≡ get_or xs n 0
    go n false h = sym (clean n h)
    go n true h = rw ended.stays refl

contents : {h1 h2 : List Holding} {p1 p2 s1 s2 : List ℕ} → h1 ≡ h2 → p1 ≡ p2 → s1 ≡ s2
    → ◌≡◌ {A = Content} (record { holdings = h1; offsets = p1; statuses = s1 }) (record { holdings = h2; offsets = p2; statuses = s2 })
contents h p s = λ i. record { holdings = h i; offsets = p i; statuses = s i }

pub carried_same : (w : World) (g : Frame) → Lasts w.frame g → IsClean w → carried w.frame g w.content ≡ w.content
unfolding carried
carried_same w g lasts clean =
    let f = w.frame in let c = w.content in
    let h =
    keep_lasting _ _ _ _ lasts.objects clean.holdings in
    let p = keep_lasting 0 _ _ _ lasts.opens clean.offsets in
    let s =
    keep_ended _ _ _ lasts.processes clean.statuses clean.count in
    contents h p s

pub carried_decided : (w : World) (t : LengthChecks) (place pid : ℕ) (c : Op) → lets_nothing_go c ≡ true → IsClean w → carried w.frame (verdict t place pid c w.frame).frame w.content ≡ w.content
carried_decided w t place pid c stays clean = carried_same w _ (lasts_decided t place pid c w.frame stays) clean
