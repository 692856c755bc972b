-- What writes and cuts leave, step by step.
use Rattle.std.proofs.Common.{◌≡◌, ℕ, ◌+◌, ◌-◌, ◌<◌, ◌≤◌, Bool, true, false, Ok, Err, if◌then◌else◌, List, [], ◌++◌, length, take, drop, replicate, refl, sym, ap, ◌∙◌, arith, append_assoc}
use Rattle.std.proofs.{Common.{append-nil, length-append, inl, inr}, Math.Seq.take-append-add, lemmas.{Bool.{cases_lt, lt-leb, Decides.nat_tests}, List.{get_or-set_same, set-set}}}
use Rattle.std.proofs.lemmas.List.{take_all, drop_all, take-append-le, take-replicate, length-replicate}
use Rattle.ix_model.specs.{rows.Telling.{blocks_for, length_then}, world.Contents.{grown, spliced}}
use Rattle.ix_blocks.specs.Files.{Files, used, bytes_of, with_bytes, laid_over, has_room}

-- a file of other bytes twice
twice_bytes : (f : ℕ) (v : Files) (xs ys : List ℕ) → with_bytes f ys (with_bytes f xs v) ≡ with_bytes f ys v
twice_bytes f v xs ys = ap (λ xss. record { files = xss; blocks = v.blocks }) (set-set v.files f xs ys)

bytes-with_bytes : (f : ℕ) (v : Files) (xs : List ℕ) → f < length v.files → bytes_of f (with_bytes f xs v) ≡ xs
bytes-with_bytes f v xs low = get_or-set_same v.files f xs [] low

-- bytes that are long enough already
grown_none : (n : ℕ) (xs : List ℕ) → n ≤ length xs → grown n xs ≡ xs
grown_none n xs h = ap (λ k. xs ++ replicate k 0) (let e : n - length xs ≡ 0 = omega (arith, h) in e) ∙ append-nil xs

-- there is room where so many blocks are free
pub room_some : (f len free : ℕ) (v : Files) → free + used v.files ≡ v.blocks → blocks_for len - blocks_for (length (bytes_of f v)) ≤ free → has_room f len v ≡ true
room_some f len free v is h = grind (arith, nat_tests)

-- the front of bytes with zeros behind them, and what is past the zeros
front-grown : (place n : ℕ) (xs : List ℕ) → place ≤ n → take place (grown n xs) ≡ take place xs ++ replicate (place - length xs) 0
front-grown place n xs less =
    let zs : List ℕ = replicate (n - length xs) 0 in
    elim (cases_lt (length xs) place) [
      | inl short ↦
          (ap (λ i. take i (xs ++ zs)) (sym (omega (arith, short))) ∙ take-append-add xs zs (place - length xs)
          ∙ ap (λ t. xs ++ t) (take-replicate {X = ℕ} (place - length xs) (n - length xs) 0 (omega (arith, less)))
          ∙ ap (λ t. t ++ replicate (place - length xs) 0) (sym (take_all place xs (omega (arith, short)))))
      | inr long ↦
          (let none : 0 ≡ place - length xs = omega (arith, long) in
          take-append-le place xs zs long ∙ sym (append-nil (take _ xs)) ∙ ap (λ i. take place xs ++ replicate i 0) none)
    ]

past-grown : (n : ℕ) (xs : List ℕ) → drop n (grown n xs) ≡ drop n xs
past-grown n xs = elim (cases_lt (length xs) n) [
  | inl short ↦
      drop_all n (grown n xs) (omega (arith, short, length-append xs (replicate (n - length xs) 0), length-replicate {A = ℕ} (n - length xs) 0))
      ∙ sym (drop_all n xs (omega (arith, short)))
  | inr long ↦ ap (drop n) (grown_none n xs long)
]

-- a write is laid over the file that was grown to its end
laid-grown : (place : ℕ) (new old : List ℕ) → 0 < length new → laid_over place new (grown (place + length new) old) ≡ spliced place new old
laid-grown place new old some =
    let gap = replicate (place - length old) 0 in
    let behind = drop (place + length new) old in
    ap (λ t. t ++ (new ++ drop (place + length new) (grown (place + length new) old))) (front-grown place (place + length new) old (omega arith))
    ∙ ap (λ t. (take place old ++ gap) ++ (new ++ t)) (past-grown (place + length new) old) ∙ append_assoc (take _ _) gap (new ++ behind)
    ∙ ap (λ b. if b then old else take place old ++ (gap ++ (new ++ behind))) (sym (lt-leb _ 0 some))

-- the answer is Ok where a test passes alone
pub ok_only : {A E : Type 0} (b : Bool) (x y : A) (e : E) → Ok x ≡ (if b then Ok y else Err e) → b ≡ true
ok_only true x y e is = refl
ok_only false x y e is = cc

room_then : (f place n : ℕ) (v : Files) → has_room f (place + n) v ≡ true → has_room f (length_then place n (length (bytes_of f v))) v ≡ true
room_then f place n v room = grind (arith, nat_tests)

pub written : (f place : ℕ) (new : List ℕ) (v u t : Files) → f < length v.files → 0 < length new → has_room f (place + length new) v ≡ true
    → u ≡ (if has_room f (place + length new) v then with_bytes f (grown (place + length new) (bytes_of f v)) v else v) → t ≡ with_bytes f (laid_over place new (bytes_of f u)) u
    → t ≡ (if has_room f (length_then place (length new) (length (bytes_of f v))) v then with_bytes f (spliced place new (bytes_of f v)) v else v)
written f place new v u t low some room is_u is_t =
    let xs = grown (place + length new) (bytes_of f v) in
    rw (room_then) (is_t ∙ ap (λ x. with_bytes f (laid_over place new (bytes_of f x)) x) (is_u ∙ ap (λ b. if b then with_bytes f xs v else v) room)
    ∙ twice_bytes f v xs _ ∙ ap (λ ys. with_bytes f ys v) (ap (laid_over place new) (bytes-with_bytes f v xs low) ∙ laid-grown _ _ _ some))
