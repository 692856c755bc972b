-- Blocks added and given back one by one.
use Rattle.std.proofs.{Common.{◌≡◌, ℕ, ◌+◌, ◌-◌, ◌*◌, ◌<◌, List, [], ◌++◌, length, take, set, get_or, replicate, ap, ◌∙◌, arith, append_assoc, length-take}, lemmas.List.get_or-set_same}
use Rattle.std.proofs.lemmas.List.{set-set, take-take, replicate-append-replicate}
use Rattle.ix_blocks.specs.Wholes.{Wholes, whole_of, blocks_added, blocks_dropped}

-- zeros behind zeros
zeros_twice : (ws : List (List ℕ)) (f n m k : ℕ) → f < length ws → n + m ≡ k
    → set (set ws f (get_or ws f [] ++ replicate n 0)) f (get_or (set ws f (get_or ws f [] ++ replicate n 0)) f [] ++ replicate m 0) ≡ set ws f (get_or ws f [] ++ replicate k 0)
zeros_twice ws f n m k low all =
    let w = get_or ws f [] in
    let a = w ++ replicate n 0 in
    ap (λ t. set (set ws f a) f (t ++ replicate m 0)) (get_or-set_same ws f a [] low) ∙ set-set ws f a _
    ∙ ap (set ws f) (append_assoc w (replicate n 0) (replicate m 0) ∙ ap (λ t. w ++ t) (replicate-append-replicate n m 0 ∙ ap (λ i. replicate i 0) all))

-- a part of a part of the front
fewer_twice : (ws : List (List ℕ)) (f n m k : ℕ) → f < length ws → n + m ≡ k → set (set ws f (take (length (get_or ws f []) - n) (get_or ws f []))) f
    (take (length (get_or (set ws f (take (length (get_or ws f []) - n) (get_or ws f []))) f []) - m) (get_or (set ws f (take (length (get_or ws f []) - n) (get_or ws f []))) f []))
    ≡ set ws f (take (length (get_or ws f []) - k) (get_or ws f []))
fewer_twice ws f n m k low all =
    let w = get_or ws f [] in
    let a = take (length w - n) w in
    ap (λ t. set (set ws f a) f (take (length t - m) t)) (get_or-set_same ws f a [] low) ∙ set-set ws f a (take _ a)
    ∙ ap (set ws f) (ap (λ i. take i a) (omega (arith, length-take (length w - n) w, all)) ∙ take-take (length w - k) (length w - n) w (omega (arith, all)))

pub added_more : (n f : ℕ) (s : Wholes) → f < length s.wholes → blocks_added 1 f (blocks_added n f s) ≡ blocks_added (n + 1) f s
added_more n f s low =
    ap (λ ws. record { wholes = ws; free = s.free - n - 1 }) (zeros_twice s.wholes f (512 * n) 512 (512 * (n + 1)) low (omega arith))
    ∙ ap (λ i. record { wholes = set s.wholes f (whole_of f s ++ replicate (512 * (n + 1)) 0); free = i }) (omega arith)

pub dropped_more : (n f : ℕ) (s : Wholes) → f < length s.wholes → blocks_dropped 1 f (blocks_dropped n f s) ≡ blocks_dropped (n + 1) f s
dropped_more n f s low =
    ap (λ ws. record { wholes = ws; free = s.free + n + 1 }) (fewer_twice s.wholes f (512 * n) 512 (512 * (n + 1)) low (omega arith))
    ∙ ap (λ i. record { wholes = set s.wholes f (take (length (whole_of f s) - 512 * (n + 1)) (whole_of f s)); free = i }) (omega arith)
