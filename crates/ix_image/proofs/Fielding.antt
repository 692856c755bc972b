-- Fields: what is read is what was written, and what was written is read.
use Rattle.std.{proofs.Common.{◌≡◌, ℕ, suc, ◌^◌, ◌<◌, ◌≤◌, Bool, true, false, cond, ltb, List, [], ◌∷◌, ◌++◌, length, take, drop, Result, Ok, Err, sym}, specs.Int.{w32, from_be_bytes}}
use Rattle.std.proofs.Common.{refl, ap, subst, ◌∙◌, append_assoc, arith, inl, inr}
use Rattle.std.proofs.lemmas.{Bool.{cases_lt, ltb-false, le-ltb, leb-true, le-leb}, Nat.{be_bytes_4, from_be_bytes-to_be_bytes_4}}
use Rattle.std.proofs.lemmas.List.{take_at, drop_at, take-append-drop, length-append, length-take, get_or-drop, get_or-take, get_or_past, get_or_append_left}
use Rattle.ix_image.specs.{declared.fault.Fault.Fault, Image.{four, name_bytes}, Labelled.{label_bytes, label_in}, Laws.AreBytes}
use Rattle.ix_image.proofs.Labelling.{bytes_back, label_back, is_label_in, length-label_bytes}
use Rattle.ix_label.specs.Category.{Categories, IsLabel, leq}
use Rattle.ix_image.specs.Reading.{Read, ◌>>=◌, ends, bytes_at, word_at, number_at, small_at, text_at, name_at, label_at, label_below_at}

-- ---- bytes
pub bytes-drop : (n : ℕ) (bytes : List ℕ) → AreBytes bytes → AreBytes (drop n bytes)
bytes-drop n bytes h i = rw get_or-drop (h _)

pub bytes-take : (n : ℕ) (bytes : List ℕ) → AreBytes bytes → AreBytes (take n bytes)
bytes-take n bytes h i =
    elim (cases_lt i n) [
      | inl lt ↦ rw (get_or-take) (h i)
      | inr le ↦ rw (get_or_past (take n bytes) i 0 (omega (arith, length-take n bytes))) (omega arith)
    ]

pub bytes-rest : (b : ℕ) (bytes : List ℕ) → AreBytes (b ∷ bytes) → AreBytes bytes
bytes-rest b bytes h i = h (suc i)

-- ---- steps
-- the value of a step that did not fail
pub bind_ok : {A B : Type 0} (r : Result A Fault) (f : A → Result B Fault) (y : B) → (r >>= f) ≡ Ok y → (x : A) × (r ≡ Ok x) × (f x ≡ Ok y)
bind_ok (Ok x) f y e = (x, refl, e)
bind_ok (Err d) f y e = absurd cc

-- a test that did not fail
pub guard_ok : {A : Type 0} (b : Bool) (d : Fault) (x y : A) → cond b (Ok x) (Err d) ≡ Ok y → (b ≡ true) × (x ≡ y)
guard_ok true d x y e = (refl, cc)
guard_ok false d x y e = absurd cc

abbrev done : {A : Type 0} → A → Result A Fault
done x = Ok x

pub ok_is : {A : Type 0} (x y : A) → done x ≡ done y → x ≡ y
ok_is x y e = cc

-- what was taken from the front
pub record Took (bytes text rest : List ℕ) : Type 0 where
  pub parts : bytes ≡ text ++ rest
  pub are_bytes : AreBytes rest

-- what was taken for one answer was taken for an equal one
pub taken : {A : Type 0} (bytes : List ℕ) (p q : A × List ℕ) (write : A → List ℕ) (may : A → Type 0) → done p ≡ done q → Took bytes (write p.0) p.1 × may p.0
    → Took bytes (write q.0) q.1 × may q.0
taken {A} bytes p q write may e h = subst (λ x. Took bytes (write x.0) x.1 × may x.0) (ok_is p q e) h

pub took_both : {a x b y c : List ℕ} → Took a x b → Took b y c → Took a (x ++ y) c
took_both {a} {x} {b} {y} {c} p q = record { parts = p.parts ∙ ap (λ t. x ++ t) q.parts ∙ sym (append_assoc x y c); are_bytes = q.are_bytes }

-- A reader and a writer are of one field: what is read was written, and what may be written is read.
pub record OneField {A : Type 0} (read : List ℕ → Read A) (write : A → List ℕ) (may : A → Type 0) : Type 0 where
  pub takes : (bytes : List ℕ) (x : A) (rest : List ℕ) → AreBytes bytes → read bytes ≡ Ok (x, rest) → Took bytes (write x) rest × may x
  pub again : (x : A) (rest : List ℕ) → may x → read (write x ++ rest) ≡ Ok (x, rest)

-- a step of a reader that didn't fail: what it took, and how it goes on
pub record Stepped {A B : Type 0} (bytes : List ℕ) (write : A → List ℕ) (may : A → Type 0) (f : A × List ℕ → Result B Fault) (y : B) : Type 0 where
  pub value : A
  pub rest : List ℕ
  pub took : Took bytes (write value) rest
  pub allowed : may value
  pub next : f (value, rest) ≡ Ok y

pub stepped : {A B : Type 0} {read : List ℕ → Read A} {write : A → List ℕ} {may : A → Type 0} → OneField read write may → (bytes : List ℕ) (f : A × List ℕ → Result B Fault) (y : B)
    → AreBytes bytes → (read bytes >>= f) ≡ Ok y → Stepped bytes write may f y
stepped {A} {B} {read} {write} {may} one bytes f y are e =
    let a = bind_ok _ f y e in
    let t = one.takes bytes a.0.0 a.0.1 are a.1 in
    record { value = a.0.0; rest = a.0.1; took = t.0; allowed = t.1; next = a.2 }

pub bytes-front : (x rest : List ℕ) → AreBytes (x ++ rest) → AreBytes x
bytes-front x rest h i =
    elim (cases_lt i _) [
      | inl lt ↦ rw (← (get_or_append_left x rest 0 i lt)) (h i)
      | inr le ↦ rw (get_or_past) (omega arith)
    ]

-- what was taken is bytes
pub took-bytes : (bytes text rest : List ℕ) → AreBytes bytes → Took bytes text rest → AreBytes text
took-bytes bytes text rest are t = bytes-front _ _ (subst AreBytes t.parts are)

-- ---- so many bytes
pub bytes_field : (n : ℕ) → OneField (bytes_at n) (λ x. x) (λ x. length x ≡ n)
unfolding bytes_at
bytes_field n = record { takes = takes; again = again }
  where
    takes : (bytes : List ℕ) (x : List ℕ) (rest : List ℕ) → AreBytes bytes → bytes_at n bytes ≡ Ok (x, rest) → Took bytes x rest × (length x ≡ n)
    takes bytes x rest are e = go _ refl e
      where
        go : (b : Bool) → ltb (length bytes) n ≡ b → cond {A = Result (List ℕ × List ℕ) Fault} b (Err (ends 1)) (Ok (take n bytes, drop n bytes)) ≡ Ok (x, rest) → Took bytes x rest × (length x ≡ n)
        go true short e = absurd cc
        go false short e =
            let long = ltb-false _ _ short in
            let whole : Took bytes (take n bytes) (drop n bytes) = record { parts = sym (take-append-drop n bytes); are_bytes = bytes-drop n _ are } in
            let fits : length (take n bytes) ≡ n = omega (arith, length-take n bytes) in
            taken _ (take n _, drop n bytes) (x, rest) (λ x. x) (λ x. length x ≡ n) e (whole, fits)

    again : (x : List ℕ) (rest : List ℕ) → length x ≡ n → bytes_at n (x ++ rest) ≡ Ok (x, rest)
    again x rest is =
        let long : ltb (length (x ++ rest)) n ≡ false = le-ltb _ _ (omega (arith, length-append x rest, is)) in
        rw (long, take_at, drop_at) refl

-- ---- numbers
pub word_field : OneField word_at four (λ n. n < 2 ^ 32)
unfolding word_at
word_field = record { takes = takes; again = again }
  where
    takes : (bytes : List ℕ) (n : ℕ) (rest : List ℕ) → AreBytes bytes → word_at bytes ≡ Ok (n, rest) → Took bytes (four n) rest × (n < 2 ^ 32)
    takes bytes n rest are e =
        let s = stepped (bytes_field 4) _ _ _ are e in
        let front = took-bytes _ _ _ are s.took in
        let below : from_be_bytes w32 s.value < 2 ^ 32 = omega (arith, front 0, front 1, front 2, front 3) in
        taken _ (from_be_bytes w32 s.value, s.rest) (n, rest) four (λ x. x < 2 ^ 32) s.next (subst (λ x. Took bytes x s.rest) (sym (be_bytes_4 s.value _ s.allowed front refl)) s.took, below)

    again : (n : ℕ) (rest : List ℕ) → n < 2 ^ 32 → word_at (four n ++ rest) ≡ Ok (n, rest)
    again n rest low = rw ((bytes_field 4).again (four n) rest refl, from_be_bytes-to_be_bytes_4) refl

-- numbers that pass a test, which none from 2^32 on does
pub number_field : (test : ℕ → Bool) → ((n : ℕ) → test n ≡ true → n < 2 ^ 32) → OneField (number_at test) four (λ n. test n ≡ true)
unfolding number_at
number_field test low = record { takes = takes; again = again }
  where
    takes : (bytes : List ℕ) (n : ℕ) (rest : List ℕ) → AreBytes bytes → number_at test bytes ≡ Ok (n, rest) → Took bytes (four n) rest × (test n ≡ true)
    takes bytes n rest are e =
        let s = stepped word_field _ _ _ are e in
        let g = guard_ok _ _ _ _ s.next in
        subst (λ p. Took bytes (four p.0) p.1 × (test p.0 ≡ true)) g.1 (s.took, g.0)

    again : (n : ℕ) (rest : List ℕ) → test n ≡ true → number_at test (four n ++ rest) ≡ Ok (n, rest)
    again n rest is = rw (word_field.again, is) refl

-- a number of one byte
pub small_field : (most : ℕ) → OneField (small_at most) (λ n. n ∷ []) (λ n. n ≤ most)
unfolding small_at
small_field most = record { takes = takes; again = again }
  where
    takes : (bytes : List ℕ) (n : ℕ) (rest : List ℕ) → AreBytes bytes → small_at most bytes ≡ Ok (n, rest) → Took bytes (n ∷ []) rest × (n ≤ most)
    takes [] n rest are e = absurd cc
    takes (b ∷ bytes) n rest are e =
        let g = guard_ok _ _ _ _ e in
        subst (λ p. Took (b ∷ bytes) (p.0 ∷ []) p.1 × (p.0 ≤ most)) g.1 (record { parts = refl; are_bytes = bytes-rest b _ are }, leb-true _ _ g.0)

    again : (n : ℕ) (rest : List ℕ) → n ≤ most → small_at most ((n ∷ []) ++ rest) ≡ Ok (n, rest)
    again n rest low = rw (le-leb) refl

-- ---- names
-- a name that passes a test, which none of 256 bytes does
pub name_field : (test : List ℕ → Bool) → ((x : List ℕ) → test x ≡ true → length x < 256) → OneField (name_at test) name_bytes (λ x. test x ≡ true)
unfolding text_at name_at
name_field test few = record { takes = takes; again = again }
  where
    text_takes : (bytes x rest : List ℕ) → AreBytes bytes → text_at bytes ≡ Ok (x, rest) → Took bytes (name_bytes x) rest
    text_takes [] x rest are e = absurd cc
    text_takes (len ∷ bytes) x rest are e =
        let t = (bytes_field _).takes bytes x rest (bytes-rest _ _ are) e in
        record { parts = ap (λ b. len ∷ b) t.0.parts ∙ ap (λ n. n ∷ (x ++ rest)) (sym t.1); are_bytes = t.0.are_bytes }

    text_again : (x rest : List ℕ) → text_at (name_bytes x ++ rest) ≡ Ok (x, rest)
    text_again x rest = (bytes_field _).again x rest refl

    takes : (bytes : List ℕ) (x : List ℕ) (rest : List ℕ) → AreBytes bytes → name_at test bytes ≡ Ok (x, rest) → Took bytes (name_bytes x) rest × (test x ≡ true)
    takes bytes x rest are e =
        let a = bind_ok _ _ _ e in
        let g = guard_ok _ _ _ _ a.2 in
        subst (λ p. Took bytes (name_bytes p.0) p.1 × (test p.0 ≡ true)) g.1 (text_takes _ _ _ are a.1, g.0)

    again : (x : List ℕ) (rest : List ℕ) → test x ≡ true → name_at test (name_bytes x ++ rest) ≡ Ok (x, rest)
    again x rest is = rw (text_again, is) refl

-- ---- labels
pub label_field : OneField label_at label_bytes IsLabel
unfolding label_at
label_field = record { takes = takes; again = again }
  where
    takes : (bytes : List ℕ) (s : Categories) (rest : List ℕ) → AreBytes bytes → label_at bytes ≡ Ok (s, rest) → Took bytes (label_bytes s) rest × IsLabel s
    takes bytes s rest are e =
        let t = stepped (bytes_field 64) _ _ _ are e in
        taken _ (label_in t.value, t.rest) (
          s,
          rest,
        ) label_bytes IsLabel t.next (
          subst (λ x. Took bytes x t.rest) (sym (bytes_back _ t.allowed (took-bytes _ _ _ are t.took))) t.took,
          is_label_in _ t.allowed,
        )

    again : (s : Categories) (rest : List ℕ) → IsLabel s → label_at (label_bytes s ++ rest) ≡ Ok (s, rest)
    again s rest is = rw ((bytes_field 64).again (label_bytes s) rest (length-label_bytes s), label_back) refl

-- a label below a ceiling
pub label_below_field : (ceiling : Categories) → OneField (label_below_at ceiling) label_bytes (λ s. IsLabel s × (leq s ceiling ≡ true))
unfolding label_below_at
label_below_field ceiling = record { takes = takes; again = again }
  where
    takes : (bytes : List ℕ) (s : Categories) (rest : List ℕ) → AreBytes bytes → label_below_at ceiling bytes ≡ Ok (s, rest) → Took bytes (label_bytes s) rest × (IsLabel s × (leq s ceiling ≡ true))
    takes bytes s rest are e =
        let t = stepped label_field _ _ _ are e in
        let g = guard_ok _ _ _ _ t.next in
        subst (λ p. Took bytes (label_bytes p.0) p.1 × (IsLabel p.0 × (leq p.0 ceiling ≡ true))) g.1 (t.took, (t.allowed, g.0))

    again : (s : Categories) (rest : List ℕ) → (IsLabel s × (leq s ceiling ≡ true)) → label_below_at ceiling (label_bytes s ++ rest) ≡ Ok (s, rest)
    again s rest is = rw (label_field.again s rest is.0, is.1) refl
