-- The rules that words break by themselves, place by place.
use Rattle.std.proofs.Common.{◌≡◌, ℕ, ◌<◌, nat_le, nat_lt, Bool, true, false, ◌||◌, ◌&&◌, not, cond, List, [], ◌∷◌, ◌++◌, length, map, take, drop, get_or, zero, suc, ◌+◌}
use Rattle.std.proofs.Common.{◌≤◌, Option, Some, None, option_map, min, codes, if◌then◌else◌, inl, inr, refl, sym, ap, ◌∙◌, arith}
use Rattle.std.{specs.{List.list_any, Option.{IsSome, is_none, option_map_or}}, proofs.lemmas.{Bool.{ltb-false, le-leb}, Option.none-some, List.{at_drop_more, at_drop_all}}}
use Rattle.ix_model.specs.{opening.Valid.is_within, world.Naming.same_bytes}
use Rattle.ix_text.{proofs.Tests.bool_cases, specs.Names.{is_script_name, name_of}}
use Rattle.ix_script.specs.{texts.Words.{is_numeral, value, number_of, fd_of, keep_of}, declared.fail.Rule.Rule}
use Rattle.ix_script.specs.{texts.{Payloads.{◌>>=◌, payload_of}, Cutting.word_at}, reader.{Placing.{kind_in, least, Stands, Stand}, Readers.IsFault}}
use Rattle.ix_script.specs.lines.{Kinds.{Kind, Place, is_number_of_fd, place_rules, first_broken, places_fault}, Forms.{places_from, tail_places}}
use Rattle.ix_label.specs.declared.form.Form as spelled
use Rattle.ix_script.specs.lines.Kinds as kind
use Rattle.ix_script.specs.declared.form.Kind as made
use Rattle.ix_script.specs.declared.form.Kind.TheVariants as has
use Rattle.ix_script.specs.declared.line.FdWord.TheVariants as fd
use Rattle.ix_script.specs.declared.line.KeepWord.TheVariants as keep

abbrev Rules : Type 0
Rules = List (ℕ × (Kind → List ℕ → Bool))

-- the numbers of the rules rise
abbrev Rise : ℕ → Rules → Type 0
Rise n [] = Unit
Rise n (r ∷ rules) = (n < r.0) × Rise r.0 rules

abbrev pub lesser : Option ℕ → Option ℕ → Option ℕ
lesser None b = b
lesser (Some m) None = Some m
lesser (Some m) (Some n) = Some (min m n)

abbrev breaks : ℕ × (Kind → List ℕ → Bool) → List Place → Bool
breaks r places = list_any (λ p. r.1 p.0 p.1) places

broken_above : (n : ℕ) (rules : Rules) (places : List Place) (m : ℕ) → Rise n rules → first_broken rules places ≡ Some m → n < m
unfolding first_broken
broken_above n [] places m rise h = cc
broken_above n (r ∷ rules) places m rise h =
    elim (breaks r places) as (λ b. cond b (Some r.0) (first_broken rules places) ≡ Some m → n < m) [
      | true ↦ λ k. let e : r.0 ≡ m = cc in let low = rise.0 in omega arith
      | false ↦ λ k. let low = rise.0 in let more = broken_above _ rules _ m rise.1 k in omega arith
    ] h

keep_first : (m : ℕ) (o : Option ℕ) → ((k : ℕ) → o ≡ Some k → m < k) → lesser (Some m) o ≡ Some m
keep_first m None above = refl
keep_first m (Some k) above = let low = above k refl in ap (λ n. Some n) (omega arith)

keep_second : (m : ℕ) (o : Option ℕ) → ((k : ℕ) → o ≡ Some k → m < k) → lesser o (Some m) ≡ Some m
keep_second m None above = refl
keep_second m (Some k) above = let low = above k refl in ap (λ n. Some n) (omega arith)

or_false : (b : Bool) → (b || false) ≡ b
or_false true = refl
or_false false = refl

pick : (m : ℕ) (a b : Bool) (x y z : Option ℕ) → ((k : ℕ) → x ≡ Some k → m < k) → ((k : ℕ) → y ≡ Some k → m < k) → z ≡ lesser x y
    → cond (a || b) (Some m) z ≡ lesser (cond a (Some m) x) (cond b (Some m) y)
pick m true true x y z hx hy e = ap (λ n. Some n) (omega arith)
pick m true false x y z hx hy e = sym (keep_first m y hy)
pick m false true x y z hx hy e = sym (keep_second m x hx)
pick m false false x y z hx hy e = e

least_broken : (n : ℕ) (rules : Rules) (p : Place) (places : List Place) → Rise n rules → first_broken rules (p ∷ places) ≡ lesser (first_broken rules (p ∷ [])) (first_broken rules places)
unfolding first_broken
least_broken n [] p places rise = refl
least_broken n (r ∷ rules) p places rise = rw (or_false) (pick _ (r.1 p.0 p.1) (breaks r places) (first_broken rules (p ∷ [])) (first_broken rules places) _
    (λ k h. broken_above _ _ (p ∷ []) k rise.1 h) (λ k h. broken_above _ _ places k rise.1 h) (least_broken _ rules p _ rise.1))

rules_rise : Rise 0 place_rules
rules_rise = (omega arith, (omega arith, (omega arith, (omega arith, (omega arith, (omega arith, (omega arith, (omega arith, (omega arith, tt)))))))))

pub least_fault : (p : Place) (places : List Place) → places_fault (p ∷ places) ≡ lesser (places_fault (p ∷ [])) (places_fault places)
unfolding places_fault
least_fault p places = least_broken 0 _ p _ rules_rise

pub none_broken : places_fault [] ≡ None
unfolding places_fault first_broken
none_broken = refl

-- ---- places in a row
pub lesser_none : (a : Option ℕ) → lesser a None ≡ a
lesser_none None = refl
lesser_none (Some m) = refl

pub regroup : (a b c : Option ℕ) → lesser a (lesser b c) ≡ lesser (lesser a b) c
regroup None b c = refl
regroup (Some m) None c = refl
regroup (Some m) (Some n) None = refl
regroup (Some m) (Some n) (Some k) = ap (λ x. Some x) (omega arith)

pub faults_append : (ps qs : List Place) → places_fault (ps ++ qs) ≡ lesser (places_fault ps) (places_fault qs)
faults_append [] qs = rw none_broken refl
faults_append (p ∷ ps) qs =
    least_fault p _ ∙ ap (lesser (places_fault (p ∷ []))) (faults_append ps qs) ∙ regroup (places_fault (p ∷ [])) (places_fault ps) (places_fault qs)
    ∙ ap (λ o. lesser o (places_fault qs)) (sym (least_fault p ps))

neither : (a b : Option ℕ) → lesser a b ≡ None → (a ≡ None) × (b ≡ None)
neither None b h = (refl, h)
neither (Some m) None h = cc
neither (Some m) (Some n) h = cc

-- ---- words that break no rule mean what may stand there
holds : (n : ℕ) (b : Bool) → cond {A = Option ℕ} (not b || false) (Some n) None ≡ None → b ≡ true
holds n true h = refl
holds n false h = cc

is_there : {A : Type 0} (n : ℕ) (o : Option A) → cond {A = Option ℕ} (is_none o || false) (Some n) None ≡ None → IsSome o
is_there n None h = absurd (none-some n (sym h))
is_there n (Some x) h = refl

pub some_where : {A : Type 0} (b : Bool) (x : A) → b ≡ true → IsSome (cond b (Some x) None)
some_where b x h = rw h refl

both_kept : {A : Type 0} (m n : ℕ) (a b : Bool) (x : A) → cond {A = Option ℕ} (not a || false) (Some m)
    (cond {A = Option ℕ} (not b || false) (Some n) None) ≡ None → IsSome (cond (a && b) (Some x) None)
both_kept m n true true x h = refl
both_kept m n true false x h = absurd (none-some n (sym h))
both_kept m n false b x h = absurd (none-some m (sym h))

pub where_some : {A : Type 0} (b : Bool) (x : A) → IsSome (cond b (Some x) None) → b ≡ true
where_some true x h = refl
where_some false x h = cc

name_stands : (word : List ℕ) → is_script_name word ≡ true → IsSome (name_of word)
unfolding name_of
name_stands word h = some_where _ _ h

number_stands : (low high : ℕ) (word : List ℕ) → cond {A = Option ℕ} (not (is_numeral word) || false) (Some 12)
    (cond {A = Option ℕ} (not (is_within low high (value word)) || false) (Some 13) None) ≡ None → IsSome (number_of low high word)
unfolding number_of
number_stands low high word h = both_kept 12 13 _ _ _ h

some_mapped : {A B : Type 0} (f : A → B) (o : Option A) → IsSome o → IsSome (option_map f o)
some_mapped f None h = h
some_mapped f (Some x) h = refl

fd_parts : (d s : Bool) (numbers : Option ℕ) (word : List ℕ) → cond {A = Option ℕ} ((not d && not s) || false) (Some 11)
    (cond {A = Option ℕ} ((d && not (is_numeral word)) || false) (Some 12)
    (cond {A = Option ℕ} ((d && not (is_within 0 255 (value word))) || false) (Some 13) None)) ≡ None
    → is_script_name word ≡ s → IsSome (cond d (option_map (λ n. fd.Number n) (number_of 0 255 word)) (option_map (λ name. fd.Named name) (name_of word)))
fd_parts true s numbers word h e = some_mapped _ _ (number_stands 0 _ _ h)
fd_parts false true numbers word h e = some_mapped _ _ (name_stands _ e)
fd_parts false false numbers word h e = absurd (none-some 11 (sym h))

keep_parts : (a n : Bool) (word : List ℕ) → cond {A = Option ℕ}
    ((not (a || n) && not (is_number_of_fd word) && not (is_script_name word)) || false) (Some 11)
    (cond {A = Option ℕ} ((is_number_of_fd word && not (is_numeral word)) || false) (Some 12)
    (cond {A = Option ℕ} ((is_number_of_fd word && not (is_within 0 255 (value word))) || false) (Some 13) None)) ≡ None
    → IsSome (cond a (Some keep.All) (cond n (Some keep.Nothing) (option_map (λ one. keep.One one) (fd_of word))))
unfolding fd_of
keep_parts true n word h = refl
keep_parts false true word h = refl
keep_parts false false word h = some_mapped _ _ (fd_parts _ _ None _ h refl)

few : (n most : ℕ) → cond {A = Option ℕ} (nat_lt most n || false) (Some 19) None ≡ None → nat_le n most ≡ true
few n most h = elim (bool_cases (nat_lt most n)) [
  | inl t ↦ let bad : cond {A = Option ℕ} (true || false) (Some 19) None ≡ None = rw t at h in absurd (none-some 19 (sym bad))
  | inr f ↦ le-leb n most (ltb-false most n f)
]

payload_parts : (most : ℕ) (o : Option (List ℕ)) → cond {A = Option ℕ} (is_none o || false) (Some 18)
    (cond {A = Option ℕ} (option_map_or (λ bytes. nat_lt most (length bytes)) o false || false) (Some 19) None) ≡ None
    → IsSome (o >>= λ bytes. if nat_le (length bytes) most then Some bytes else None)
payload_parts most None h = absurd (none-some 18 (sym h))
payload_parts most (Some bytes) h = some_where _ _ (few _ _ h)

stands : (k : Kind) (word : List ℕ) → places_fault ((k, word) ∷ []) ≡ None → Stands k word
unfolding places_fault first_broken fd_of keep_of
stands kind.Own word h = name_stands _ (holds 11 _ h)
stands kind.Proc word h = name_stands _ (holds 11 _ h)
stands kind.NewProc word h = name_stands _ (holds 11 _ h)
stands kind.NewFd word h = name_stands _ (holds 11 _ h)
stands (kind.Number low high) word h = number_stands _ _ _ h
stands (kind.Bound of_what) word h = number_stands _ _ _ h
stands (kind.Label labels) word h = is_there 14 _ h
stands kind.Privs word h = is_there 15 _ h
stands kind.AnyPath word h = is_there 16 _ h
stands kind.MadePath word h = is_there 16 _ h
stands kind.Mode word h = is_there 17 _ h
stands kind.State word h = is_there 17 _ h
stands kind.Limited word h = is_there 17 _ h
stands (kind.Payload most) word h = payload_parts most (payload_of word) h
stands kind.Fd word h = fd_parts _ _ None _ h refl
stands kind.Keep word h = keep_parts (same_bytes word (codes "all")) (same_bytes word (codes "none")) word h

pub stand : (places : List Place) → places_fault places ≡ None → Stand places
stand [] h = tt
stand (p ∷ places) h =
    let n = neither _ _ (sym (least_fault p _) ∙ h) in
    (stands _ _ n.0, stand _ n.1)

-- those at the first places are known to break none
pub known_first : (ks : List Kind) (i n : ℕ) (words : List (List ℕ)) → places_fault (places_from i (take n ks) words) ≡ None
    → places_fault (places_from i ks words) ≡ places_fault (places_from (i + n) (drop n ks) words)
known_first ks i zero words h = ap (λ j. places_fault (places_from j ks words)) (omega arith)
known_first [] i (suc n) words h = refl
known_first (k ∷ ks) i (suc n) words h =
    let p : Place = (k, word_at words i) in
    let apart = neither _ _ (sym (least_fault p _) ∙ h) in
    least_fault p _ ∙ ap (λ o. lesser o (places_fault (places_from (suc i) ks words))) apart.0 ∙ known_first ks _ n _ apart.1
    ∙ ap (λ j. places_fault (places_from j (drop n ks) words)) (omega arith)

-- ---- along a table
abbrev number : Option Rule → Option ℕ
number broken = option_map (λ r. r.0) broken

told_least : (a b : Option Rule) → lesser (number a) (number b) ≡ number (least a b)
told_least None b = refl
told_least (Some m) None = refl
told_least (Some m) (Some n) = refl

-- the table's next kind
pub along : (labels : spelled.Form) (words : List (List ℕ)) (from i : ℕ) (kinds : List made.Kind) (broken more : Option Rule) → i < length kinds
    → IsFault more ((kind_in labels words (get_or kinds i has.Own), word_at words (from + i)) ∷ [])
    → lesser (number broken) (places_fault (places_from (from + i) (map (kind_in labels words) (drop i kinds)) words))
    ≡ lesser (number (least broken more)) (places_fault (places_from (from + (i + 1)) (map (kind_in labels words) (drop (i + 1) kinds)) words))
along labels words from i kinds broken more low h =
    let at : Place = (kind_in labels words (get_or kinds i has.Own), word_at words (from + i)) in
    let later = map (kind_in labels words) (drop _ kinds) in
    let next : suc (from + i) ≡ from + (i + 1) = omega arith in
    at_drop_more (λ ks. lesser (number broken) (places_fault (places_from (from + i) (map (kind_in labels words) ks) words))) kinds i has.Own low
    ∙ ap (λ n. lesser (number broken) (places_fault (at ∷ places_from n later words))) next
    ∙ ap (lesser (number broken)) (least_fault at _ ∙ ap (λ o. lesser o (places_fault (places_from (from + (i + 1)) later words))) h)
    ∙ regroup (number broken) (number more) (places_fault (places_from (from + (i + 1)) later words)) ∙ ap
    (λ o. lesser o (places_fault (places_from (from + (i + 1)) later words))) (told_least broken more)

-- its end
pub along_all : (labels : spelled.Form) (words : List (List ℕ)) (from i : ℕ) (kinds : List made.Kind) (broken : Option Rule) → length kinds ≤ i
    → lesser (number broken) (places_fault (places_from (from + i) (map (kind_in labels words) (drop i kinds)) words)) ≡ number broken
along_all labels words from i kinds broken high =
    at_drop_all (λ ks. lesser (number broken) (places_fault (places_from (from + i) (map (kind_in labels words) ks) words))) kinds i high ∙ ap
    (lesser (number broken)) none_broken ∙ lesser_none _

-- a form's own words, and the names after `as`
pub both_faults : (a b : Option Rule) (ps qs : List Place) → IsFault a ps → IsFault b qs → IsFault (least a b) (ps ++ qs)
both_faults a b ps qs h k = faults_append ps qs ∙ (λ i. lesser (h i) (k i)) ∙ told_least a b

pub tail_there : (kinds : List Kind) (n : ℕ) (words : List (List ℕ)) → nat_le (length words) n ≡ false → tail_places kinds n words ≡ places_from (n + 1) kinds words
tail_there [] n words h = refl
tail_there (k ∷ kinds) n words h = rw h refl

pub no_tail : (kinds : List Kind) (n : ℕ) (words : List (List ℕ)) → nat_le (length words) n ≡ true → tail_places kinds n words ≡ []
no_tail [] n words h = refl
no_tail (k ∷ kinds) n words h = rw h refl

pub none_left : {A : Type 0} (o : Option A) → ((x : A) → o ≡ Some x → ⊥) → o ≡ None
none_left None h = refl
none_left (Some x) h = absurd (h x refl)
