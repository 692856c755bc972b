-- The longest front of a text that passes a test.
use Rattle.std.proofs.Common.{◌≡◌, ℕ, suc, zero, ◌-◌, ◌<◌, ◌≤◌, Bool, true, false, cond, List, [], ◌++◌, length, take, Option, Some, None, is_some, refl, arith, ap, sym, ◌∙◌}
use Rattle.std.proofs.Common.{subst, append-nil, append_assoc}
use Rattle.std.proofs.Math.Arith.{le_of_le-suc-ne}
use Rattle.ix_asking.specs.serving.{Messages.{is_front_of, longest_front, longest_up_to}, Requests.{Begins, IsLongest}}
use Rattle.ix_asking.proofs.Words.{front-ends}

-- where the longest of those at hand doesn't pass, it is among the shorter ones
pub shorter : (test : List ℕ → Bool) (text : List ℕ) (n : ℕ) → 0 < n → test (take n text) ≡ false → longest_up_to (n - 1) test text ≡ longest_up_to n test text
shorter test text zero h e = absurd (omega arith)
shorter test text (suc n) h e = let same : suc n - 1 ≡ n = omega arith in rw (same, e) refl

-- ---- it is the longest
within_step : (n m : ℕ) (v : Bool) → m ≤ n → cond v (suc n) m ≤ suc n
within_step n m false h = omega (arith, h)
within_step n m true h = omega arith

pub longest-within : (test : List ℕ → Bool) (text : List ℕ) (n : ℕ) → longest_up_to n test text ≤ n
longest-within test text zero = omega arith
longest-within test text (suc n) = within_step n (longest_up_to n test text) (test (take (suc n) text)) (longest-within test text n)

passes_step : (test : List ℕ → Bool) (text : List ℕ) (n m : ℕ) (v : Bool) → test (take (suc n) text) ≡ v → test (take m text) ≡ true
    → test (take (cond v (suc n) m) text) ≡ true
passes_step test text n m false e h = h
passes_step test text n m true e h = e

passes : (test : List ℕ → Bool) (text : List ℕ) (n : ℕ) → test [] ≡ true → test (take (longest_up_to n test text) text) ≡ true
passes test text zero h = h
passes test text (suc n) h = passes_step test text n (longest_up_to n test text) (test (take (suc n) text)) refl (passes test text n h)

longest_step : (test : List ℕ → Bool) (text : List ℕ) (n m k : ℕ) (v : Bool) → test (take (suc n) text) ≡ v → k ≤ suc n → test (take k text) ≡ true
    → (k ≤ n → k ≤ m) → k ≤ cond v (suc n) m
longest_step test text n m k true e h is more = h
longest_step test text n m k false e h is more =
    omega (arith, more (le_of_le-suc-ne h (λ same. let wrong : true ≡ false = sym is ∙ ap (λ j. test (take j text)) same ∙ e in cc)))

longest : (test : List ℕ → Bool) (text : List ℕ) (n k : ℕ) → k ≤ n → test (take k text) ≡ true → k ≤ longest_up_to n test text
longest test text zero k h is = h
longest test text (suc n) k h is =
    longest_step test text n (longest_up_to n test text) k (test (take (suc n) text)) refl h is (λ below. longest test text n k below is)

-- where the test tells whether some request begins with a text, it is the longest front with which one does
pub longest-is : (IsRequest : List ℕ → Type 0) (test : List ℕ → Bool) (message : List ℕ)
    → ((text : List ℕ) → test text ≡ true → Begins IsRequest text) → ((text : List ℕ) → Begins IsRequest text → test text ≡ true)
    → test [] ≡ true → IsLongest IsRequest message (longest_front test message)
longest-is IsRequest test message begins passing none = record {
  fits = longest-within test message (length message);
  begins = begins _ (passes test message (length message) none);
  longest = λ k h b. longest test message (length message) k h (passing (take k message) b);
}

-- what is read of a message, where something is and where nothing is
pub by_found : {A : Type 0} (P : Option A → Type 0) (found : Option A) → ((x : A) → found ≡ Some x → P (Some x)) → (found ≡ None → P None) → P found
by_found P None some none = none refl
by_found P (Some x) some none = some x refl

pub some_found : {A : Type 0} (found : Option A) → is_some found ≡ true → (x : A) × (found ≡ Some x)
some_found None h = cc
some_found (Some x) h = (x, refl)

-- a front of the word begins what the word begins, and a request begins itself
pub word-begins : (IsRequest : List ℕ → Type 0) (word end text : List ℕ) → IsRequest (word ++ end) → is_front_of word text ≡ true → Begins IsRequest text
word-begins IsRequest word end text is front =
    let ends = front-ends word text front in
    (ends.0 ++ end, subst IsRequest (ap (λ t. t ++ end) (sym ends.1) ∙ append_assoc text ends.0 end) is)

pub request-begins : (IsRequest : List ℕ → Type 0) (text : List ℕ) → IsRequest text → Begins IsRequest text
request-begins IsRequest text is = ([], subst IsRequest (sym (append-nil text)) is)
