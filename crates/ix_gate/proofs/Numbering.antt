-- A new table obeys the rule, and so it does where a number is made for a seat.
use Rattle.std.proofs.Common.{◌≡◌, ◌≢◌, ℕ, zero, suc, ◌+◌, ◌%◌, ◌<◌, ◌≤◌, List, [], ◌∷◌, ◌++◌, length, get_or, set, Option, Some, refl, ap, sym, ◌∙◌, subst}
use Rattle.std.proofs.Common.{⊎_elim, inl, inr, arith}
use mathlib.Core.Option.{Option as Home, none, some, some-injective}
use lib.ListN.{get_elem?}
use Rattle.atomic_table.specs.Table.{Me, step, keeps, Allows, Splits, opening}
use Rattle.ix_gate.specs.{declared.view.{View.View, Role.{Role, TheVariants.{Nobody, Next, Made, Numbered}}, Stage.TheVariants.Idle}, View.{fresh, first_view}}
use Rattle.ix_gate.specs.{Rule.{most_turns, most_seats, Book, MayMake, HasTicket, Fits}, Steps.MakesNumber}
use Rattle.ix_gate.proofs.{Entries.contains-nil, Counts.{put, put_here, put_else, put_holds, total_turns-same, mod_fits}}
use Rattle.ix_gate.proofs.Views.{at_end, each_set, queued_set, queued_more, kept_set, kept_more, refits, fits_still, ruled, Rule}

-- the book of a new table
abbrev first_book : {E : Type 0} → Book E
first_book = record { next = 0; served = 0; made = 0; published = []; queue = λ _. 0; owner = λ _. 0; turns = λ _. 0; maker = 0 }

-- what makes no number is not touched where another place does
makes_other : (made made' maker maker' i : ℕ) (r : Role) → i ≢ maker → MayMake made maker i r → MayMake made' maker' i r
makes_other made made' maker maker' i Nobody ne k = tt
makes_other made made' maker maker' i (Next x) ne k = absurd (ne k.0)
makes_other made made' maker maker' i (Made x) ne k = absurd (ne k.0)
makes_other made made' maker maker' i (Numbered x) ne k = tt

module _ {M B E : Type 0} (base_of : M → B) (history_of : M → List E) (seat : E → ℕ) (base : B) (seats : ℕ) where
  opening_each : (homes : List (Home (Option M))) (i : ℕ) (v : View B E) → get_elem? (first_view seats base ∷ []) i ≡ some v → Fits seat base seats first_book homes i v
  opening_each homes zero v e = subst (Fits seat base seats first_book homes 0) (some-injective (first_view seats base) v e) record {
    based = inr refl;
    sized = inr refl;
    seen = ([], refl);
    told = ([], refl);
    number = λ n o. absurd o;
    ended = λ n es o. absurd (contains-nil (n, es) o);
    agrees = (λ n o. absurd o, λ n es o. absurd (contains-nil (n, es) o));
    makes = (refl, refl);
    stands = tt;
    look_found = omega arith;
    drew = λ l. absurd (omega arith);
  }
  opening_each homes (suc i) v e = absurd (cc e)

  pub opening_obeys : (m : M) → history_of m ≡ [] → base_of m ≡ base → seats ≤ most_seats → Rule base_of history_of seat base seats (opening (0 ∷ 0 ∷ 0 ∷ []) (Some m ∷ []) (first_view seats base))
  opening_obeys m empty based few = record {
    book = first_book;
    words = refl;
    ordered = omega arith;
    counted = refl;
    few_turns = λ _. omega arith;
    few_seats = (omega arith, few);
    short = omega arith;
    unmade = λ _ _. refl;
    kept = inl (m, refl, empty, based);
    queued = λ t a b. absurd (omega arith);
    each = opening_each (some (Some m) ∷ []);
  }

  -- the book after the view at place id made the next number
  abbrev with_number : Book E → ℕ → Book E
  with_number g id = record g { made = suc g.made; owner = put g.owner g.made id; turns = put g.turns g.made 0 }

  pub number_allowed : (slots id : ℕ) (me : Me (Option M) (View B E)) (k : ℕ) → me.0.role ≡ Next k → me.0.stage ≡ Idle → k < seats
      → Allows (Rule base_of history_of seat base seats) slots id me 2 (λ x. (x + 1) % 18446744073709551616) (MakesNumber (step slots 2 1 0 none) me)
  number_allowed slots id me k is idle room s r len at small =
      let g : Book E = r.book in
      let v : View B E = me.0 in
      let f = r.each id v at in
      let makes = subst (MayMake g.made g.maker id) is f.makes in
      let here : k ≡ g.made = makes.1 in
      let e : get_or s.words 2 0 ≡ g.made = ap (λ (ws : List ℕ). get_or ws 2 0) r.words in
      let w : View B E = fresh v.seats v.base (Made k) in
      let h : Book E = with_number g id in
      let few = r.few_seats in (
        w,
        keeps,
        tt,
        record {
          book = h;
          words = ap (λ (ws : List ℕ). set ws 2 ((get_or ws 2 0 + 1) % 18446744073709551616)) r.words ∙ ap (λ (x : ℕ). g.next ∷ g.served ∷ x ∷ []) (mod_fits (g.made + 1) (omega arith) ∙ omega arith);
          ordered = r.ordered;
          counted = let a = total_turns-same (put g.turns g.made 0) g.turns g.made (λ x l. put_else g.turns g.made 0 x (λ y. omega arith)) in
              let b = put_here g.turns g.made 0 in let c = r.counted in omega arith;
          few_turns = put_holds (λ x. x ≤ most_turns) g.turns g.made 0 (omega arith) r.few_turns;
          few_seats = (omega arith, few.1);
          short = r.short;
          unmade = λ x l. r.unmade x (omega arith);
          kept = kept_set base_of history_of base g.published s.homes s.views id v w at (λ p x. cc (sym idle ∙ x)) r.kept;
          queued = queued_set g.queue g.served g.next s.views id v w at (λ t o. absurd (subst (HasTicket g.served t) idle o)) r.queued;
          each = each_set (Fits seat base seats h s.homes) s.views id w
              record {
                based = f.based;
                sized = f.sized;
                seen = (g.published, refl);
                told = (g.published, refl);
                number = λ x o. let same : g.made ≡ x = sym here ∙ o in (
                  subst (λ (z : ℕ). put g.owner g.made id z ≡ id) same (put_here g.owner g.made id),
                  omega arith,
                  subst (λ (z : ℕ). put g.turns g.made 0 z ≡ 0) same (put_here g.turns g.made 0),
                  r.unmade x (omega arith),
                );
                ended = λ x es o. absurd (contains-nil (x, es) o);
                agrees = (λ x o. refl, λ x es o. absurd (contains-nil (x, es) o));
                makes = (makes.0, omega arith);
                stands = tt;
                look_found = omega arith;
                drew = λ l. absurd (omega arith);
              }
              (λ j d other there. let q = r.each j d there in
              fits_still seat base seats g s.homes s.homes j g.queue (put g.owner g.made id) (put g.turns g.made 0) g.next (suc g.made) g.maker d q
              (λ x o. let u = q.number x o in let made = u.1 in
              (put_else g.owner g.made id x (λ y. omega arith) ∙ u.0, omega arith, put_else g.turns g.made 0 x (λ y. omega arith) ∙ u.2, u.3))
              (λ x es o. let u = q.ended x es o in let made = u.1 in (put_else g.owner g.made id x (λ y. omega arith) ∙ u.0, omega arith, u.2, u.3))
              (makes_other g.made (suc g.made) g.maker g.maker j d.role (λ y. other (y ∙ sym makes.0)) q.makes) q.stands);
        },
        λ x same. let y : k ≡ x = cc (sym is ∙ same) in (e ∙ (sym here ∙ y), ap (λ (z : ℕ). (fresh v.seats v.base (Made z), me.1)) y),
      )

  pub hand_on_allowed : (id k known : ℕ) (b : Option B) → Splits (Rule base_of history_of seat base seats) id (fresh known b (Made k)) (fresh known b (Numbered k)) (fresh known b (Next (k + 1)))
  hand_on_allowed id k known b s r at =
      let g : Book E = r.book in
      let v : View B E = fresh known b (Made k) in
      let own : View B E = fresh known b (Numbered k) in
      let right : View B E = fresh known b (Next (k + 1)) in
      let f = r.each id v at in
      let makes = f.makes in
      let place : ℕ = length (set s.views id own) in
      let h : Book E = record g { maker = place } in
      let moved = refits {M = M} seat base seats g s.homes s.homes id in
      ruled base_of history_of seat base seats s r g.owner place s.homes (set s.views id own ++ right ∷ [])
      (kept_more base_of history_of base g.published s.homes (set s.views id own) right (kept_set base_of history_of base g.published s.homes s.views id v own at (λ p x. cc x) r.kept))
      (queued_more g.queue g.served g.next (set s.views id own) right (queued_set g.queue g.served g.next s.views id v own at (λ t o. o) r.queued))
      (λ j d there. ⊎_elim
      (each_set (Fits seat base seats h s.homes) s.views id own
      (moved id g.queue g.owner g.turns g.next g.made place v (Numbered k) Idle 0 0 0 0 0 0 f f.number f.ended f.agrees tt tt f.look_found f.drew)
      (λ i e other t. let q = r.each i e t in
      fits_still seat base seats g s.homes s.homes i g.queue g.owner g.turns g.next g.made place e q q.number q.ended
      (makes_other g.made g.made g.maker place i e.role (λ y. other (y ∙ sym makes.0)) q.makes) q.stands)
      j d)
      (λ (t : (j ≡ place) × (right ≡ d)). subst (λ (z : ℕ × View B E). Fits seat base seats h s.homes z.0 z.1) (λ i. (sym t.0 i, t.1 i))
      (moved place g.queue g.owner g.turns g.next g.made place v (Next (k + 1)) Idle 0 0 0 0 0 0 f (λ x o. absurd o) (λ x es o. absurd (contains-nil (x, es) o))
      (λ x o. absurd o, f.agrees.1) (refl, let m = makes.1 in omega arith) tt f.look_found f.drew))
      (at_end (set s.views id own) right d j there))
