-- Lanes that are told by all that they ask for are lanes of a plan.
use Rattle.std.proofs.Common.{◌≡◌, ℕ, ◌<◌, nat_lt, true, List, [], ◌∷◌, ◌++◌, replicate, Option, Some, None, refl, sym, ap, ◌∙◌, subst, arith}
use Rattle.std.{proofs.{Common.{slice_get, append_assoc, append-nil, length-append}, lemmas.{List.{get_or-replicate, length-replicate}, Option.slice_get-get_or}}, specs.List.list_all}
use Rattle.ix_judging.specs.{Plan.Lawful, Lanes.{Calls, IsGood, asked_first, calls_from, calls_in, calls_of}, Asking.{IsHistory, IsScript, Script, opened, plan_of}}

module _ {W E A T : Type 0} (s : Script W E A T) (count : ℕ) (is : IsScript s count) where
  -- ---- what it asks for, one answer after the other
  -- a lane that asks for nothing stays so
  stays_all : (k : ℕ) (more answers : List A) → (s.asked k answers).next ≡ None → s.asked k (answers ++ more) ≡ s.asked k answers
  stays_all k [] answers none = ap (s.asked k) (append-nil answers)
  stays_all k (a ∷ more) answers none =
      let one = (is.lanes k).stays answers a none in
      let none' = ap (λ c. c.next) one ∙ none in
      ap (s.asked k) (sym (append_assoc answers (a ∷ []) more)) ∙ stays_all k more _ none' ∙ one

  abbrev behind : List E → Calls E → Calls E
  behind es c = record { entries = es ++ c.entries; next = c.next }

  asked_more : (k : ℕ) (more answers : List A)
      → s.asked k (answers ++ more) ≡ behind (s.asked k answers).entries (calls_from (plan_of s) k answers more)
  asked_more k [] answers =
      ap (s.asked k) (append-nil answers)
      ∙ ap (λ (es : List E). record { entries = es; next = (s.asked k answers).next }) (sym (append-nil (s.asked k answers).entries))
  asked_more k (a ∷ more) answers = go (asked_more k more (answers ++ a ∷ [])) (s.asked k answers).next refl
    where
      go : s.asked k ((answers ++ a ∷ []) ++ more)
          ≡ behind (s.asked k (answers ++ a ∷ [])).entries (calls_from (plan_of s) k (answers ++ a ∷ []) more)
          → (o : Option E) → (s.asked k answers).next ≡ o
          → s.asked k (answers ++ a ∷ more)
          ≡ behind (s.asked k answers).entries (asked_first o (calls_from (plan_of s) k (answers ++ a ∷ []) more))
      go rest None none = stays_all k (a ∷ more) answers none ∙ (λ i. record { entries = sym (append-nil (s.asked k answers).entries) i; next = none i })
      go rest (Some e) next =
          ap (s.asked k) (sym (append_assoc answers (a ∷ []) more)) ∙ rest
          ∙ ap (λ (es : List E). behind es (calls_from (plan_of s) k (answers ++ a ∷ []) more)) ((is.lanes k).makes answers a e next)
          ∙ ap (λ (es : List E). record { entries = es; next = (calls_from (plan_of s) k (answers ++ a ∷ []) more).next })
          (append_assoc (s.asked k answers).entries (e ∷ []) (calls_from (plan_of s) k (answers ++ a ∷ []) more).entries)

  -- from the beginning
  asked_all : (k : ℕ) (answers : List A) → s.asked k answers ≡ calls_from (plan_of s) k [] answers
  asked_all k answers = asked_more k _ [] ∙ ap (λ es. behind es (calls_from (plan_of s) k [] answers)) (is.lanes k).starts

  -- ---- the laws of plans
  pub lawful : Lawful (plan_of s) count
  lawful = record {
    seats = λ k answers e next. (is.lanes k).seats answers e next;
    rises = λ k answers a e f first next. (is.lanes k).rises answers a e f first next;
    ends = λ k answers a e next.
        let few = (is.lanes k).few answers e next in
        let longer = length-append answers (a ∷ []) in
        omega (arith, few, longer);
    names = is.names;
    equal = is.equal;
    alike = is.alike;
  }

  -- ---- good histories
  abbrev none_yet : List A
  none_yet = []

  abbrev first_lanes : List (List A)
  first_lanes = replicate count []

  first_lane : (k : ℕ) → k < count → slice_get first_lanes k ≡ Some none_yet
  first_lane k within =
      slice_get-get_or first_lanes k none_yet (rw length-replicate within) ∙ ap (λ x. Some x) (get_or-replicate count k none_yet none_yet within)

  pub calls-asked : (k : ℕ) (answers : List A) → k < count → calls_of (plan_of s) first_lanes k answers ≡ s.asked k answers
  calls-asked k answers within = ap (λ o. calls_in (plan_of s) k o answers) (first_lane k within) ∙ sym (asked_all k _)

  pub history_good : (w : W) (events : List E) → IsHistory s count w events → IsGood (plan_of s) (opened s count w) events
  history_good w events h = record {
    lanes = record {
      seats = subst (λ n. list_all (λ e. nat_lt (s.seat e) n) events ≡ true) (sym (length-replicate count none_yet)) h.seats;
      calls = λ k within.
          let below = subst (λ n. k < n) (length-replicate count none_yet) within in
          calls-asked k _ below ∙ h.calls k below;
    };
    order = h.order;
  }

  pub good_history : (w : W) (events : List E) → IsGood (plan_of s) (opened s count w) events → IsHistory s count w events
  good_history w events g = record {
    seats = subst (λ n. list_all (λ e. nat_lt (s.seat e) n) events ≡ true) (length-replicate count none_yet) g.lanes.seats;
    calls = λ k below.
        let within = subst (λ n. k < n) (sym (length-replicate count none_yet)) below in
        sym (calls-asked k _ below) ∙ g.lanes.calls k within;
    order = g.order;
  }
