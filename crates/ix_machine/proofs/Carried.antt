-- What is carried over where the processes alone move.
use Rattle.std.proofs.Common.{◌≡◌, ◌<◌, ◌≤◌, ◌+◌, ◌-◌, ◌&&◌, ◌++◌, ℕ, zero, suc, Bool, true, false, List, [], ◌∷◌, length, replicate, Option, Some, None, refl}
use Rattle.std.proofs.Common.{sym, ap, ◌∙◌, arith, inl, inr, get_or, set, if◌then◌else◌, length-append, length-set}
use Rattle.std.proofs.lemmas.{Bool.Decides.eqb_tells, List.{same_lists, get_or_default, get_or-set_other, get_or_append_left, length-replicate}}
use Rattle.ix_model.specs.{world.{World.{World, Process, at, put, is_ended}, Contents.{keep, grown, carried}}, laws.Clean.IsClean}
use Rattle.ix_model.proofs.{clean.Carrying.{length-keep, get_or-keep}, frames.Floats.floats_itself, sound.Carried.carried_floats}
use Rattle.ix_model.proofs.tables.Finds.{in_table, put_none}

-- ---- lists of statuses
zeros : (m k : ℕ) → ◌≡◌ {A = ℕ} (get_or (replicate m 0) k 0) 0
zeros zero k = refl
zeros (suc m) zero = refl
zeros (suc m) (suc k) = zeros m k

get_or-zeros : (xs : List ℕ) (m k : ℕ) → get_or (xs ++ replicate m 0) k 0 ≡ get_or xs k 0
get_or-zeros [] m k = zeros m k
get_or-zeros (x ∷ xs) m zero = refl
get_or-zeros (x ∷ xs) m (suc k) = get_or-zeros xs m k

zero_set : (xs : List ℕ) (n : ℕ) → get_or (set xs n 0) n 0 ≡ 0
zero_set [] n = refl
zero_set (x ∷ xs) zero = refl
zero_set (x ∷ xs) (suc n) = zero_set xs n

-- the statuses that are carried over
pub statuses_are : (t u : List (Option Process)) (xs ys : List ℕ) → length xs ≤ length u → length ys ≡ length u
    → ((n : ℕ) → (if is_ended (at t n) && is_ended (at u n) then get_or xs n 0 else 0) ≡ get_or ys n 0)
    → keep 0 (λ n. is_ended (at t n) && is_ended (at u n)) 0 (grown (length u) xs) ≡ ys
statuses_are t u xs ys short long same =
    let p : ℕ → Bool = λ n. is_ended (at t n) && is_ended (at u n) in
    let wide : length (grown (length u) xs) ≡ length ys = length-append xs _ ∙ omega (arith, long, short, length-replicate {A = ℕ} (length u - length xs) 0) in
    same_lists _ _ (length-keep 0 p 0 _ ∙ wide) (λ k e h.
    let within : k < length ys = omega (arith, length-keep 0 p 0 (grown (length u) xs), wide, h) in
    get_or_default _ k e 0 h ∙ get_or-keep 0 p 0 (grown (length u) xs) k ∙ ap (λ m. if p m then get_or (grown (length u) xs) k 0 else 0) (omega arith)
    ∙ ap (λ x. if p k then x else 0) (get_or-zeros xs (length u - length xs) k) ∙ same k ∙ get_or_default ys k 0 e within)

-- ---- contents
-- the processes alone move
pub carried_processes : (w : World) (u : List (Option Process)) (ys : List ℕ) → IsClean w → length w.frame.processes ≤ length u → length ys ≡ length u
    → ((n : ℕ) → (if is_ended (at w.frame.processes n) && is_ended (at u n) then get_or w.content.statuses n 0 else 0) ≡ get_or ys n 0)
    → carried w.frame (record w.frame { processes = u }) w.content ≡ record w.content { statuses = ys }
unfolding carried
carried_processes w u ys clean grows long same =
    let whole : carried w.frame w.frame w.content ≡ w.content = carried_floats w w.frame (floats_itself w.frame) clean in
    let short : length w.content.statuses ≤ length u = omega (arith, clean.count, grows) in
    λ i. record { holdings = (whole i).holdings; offsets = (whole i).offsets; statuses = statuses_are w.frame.processes u w.content.statuses ys short long same i }

-- whoever has ended has ended still
pub as_was : (w : World) (u : List (Option Process)) (n : ℕ) → IsClean w → is_ended (at u n) ≡ is_ended (at w.frame.processes n)
    → (if is_ended (at w.frame.processes n) && is_ended (at u n) then get_or w.content.statuses n 0 else 0) ≡ get_or w.content.statuses n 0
as_was w u n clean same = go (is_ended (at w.frame.processes n)) refl
  where
    go : (b : Bool) → is_ended (at w.frame.processes n) ≡ b → (if b && is_ended (at u n) then get_or w.content.statuses n 0 else 0) ≡ get_or w.content.statuses n 0
    go false h = sym (clean.statuses n h)
    go true h = rw (same ∙ h) refl

-- a process more
pub carried_more : (w : World) (q : Process) → IsClean w → carried w.frame (record w.frame { processes = w.frame.processes ++ Some q ∷ [] }) w.content
    ≡ record w.content { statuses = w.content.statuses ++ 0 ∷ [] }
carried_more w q clean =
    let ps : List (Option Process) = w.frame.processes in
    let more : List (Option Process) = ps ++ Some q ∷ [] in
    let one : length more ≡ length ps + 1 = length-append ps _ in
    carried_processes w more (w.content.statuses ++ 0 ∷ []) clean (omega (arith, one)) (length-append w.content.statuses _ ∙ omega (arith, one, clean.count))
    (λ n. go n (is_ended (at ps n)) refl ∙ sym (get_or-zeros w.content.statuses 1 n))
  where
    stands : (n : ℕ) (o : Option Process) → at w.frame.processes n ≡ o → is_ended o ≡ true → n < length w.frame.processes
    stands n None is h = cc
    stands n (Some p) is h = in_table w.frame.processes n p is

    go : (n : ℕ) (b : Bool) → is_ended (at w.frame.processes n) ≡ b → (if b && is_ended (at (w.frame.processes ++ Some q ∷ []) n) then
        get_or w.content.statuses n 0 else 0) ≡ get_or w.content.statuses n 0
    go n false h = sym (clean.statuses n h)
    go n true h = let still : is_ended (at (w.frame.processes ++ Some q ∷ []) n) ≡ true =
        ap is_ended (get_or_append_left w.frame.processes (Some q ∷ []) None n (stands n (at w.frame.processes n) refl h)) ∙ h in rw still refl

-- a process whose record goes, where the others end or live on as they did
pub carried_without : (w : World) (t : List (Option Process)) (c : ℕ) → IsClean w → length t ≡ length w.frame.processes
    → ((n : ℕ) → is_ended (at t n) ≡ is_ended (at w.frame.processes n)) → carried w.frame (record w.frame { processes = put t c None }) w.content
    ≡ record w.content { statuses = set w.content.statuses c 0 }
carried_without w t c clean long same =
    let wide : length (put t c None) ≡ length w.frame.processes = length-set t c None ∙ long in
    carried_processes w (put t c None) (set w.content.statuses c 0) clean (omega (arith, wide)) (length-set w.content.statuses c 0 ∙ omega (arith, wide, clean.count)) (λ n. elim (eqb_tells n c) [
      | inl here ↦ gone n (is_ended (at w.frame.processes n)) (ap is_ended (ap (at (put t c None)) here.1 ∙ put_none t c))
          ∙ sym (ap (λ m. get_or (set w.content.statuses c 0) m 0) here.1 ∙ zero_set w.content.statuses c)
      | inr other ↦ as_was w (put t c None) n clean (ap is_ended (get_or-set_other t c n None None other.1) ∙ same n) ∙ sym (get_or-set_other w.content.statuses c n 0 0 other.1)
    ])
  where
    gone : (n : ℕ) (a : Bool) → is_ended (at (put t c None) n) ≡ false → (if a && is_ended (at (put t c None) n) then get_or w.content.statuses n 0 else 0) ≡ 0
    gone n true h = rw h refl
    gone n false h = refl
