-- What a seat has seen goes to another: a note is cut off and taken in, a seat is joined into another, and a look shows what was told.
use Rattle.std.proofs.Common.{◌≡◌, ◌≢◌, ℕ, ◌<◌, ◌⊎◌, List, [], ◌∷◌, ◌++◌, length, set, Option, None, Some, refl, ap, sym, ◌∙◌, subst, ⊎_elim, inl, inr, arith}
use Rattle.std.proofs.Common.{eqb, cond, ne_eqb, eq-eqb}
use Rattle.std.{specs.Prelude.Contains, proofs.lemmas.List.Elements.Contains-append_cases}
use mathlib.Core.Option.{Option as Home, some}
use mathlib.Core.List.{IsPrefix}
use lib.ListN.{get_elem?}
use Rattle.atomic_table.{specs.Table.{State, Splits, Joins}, proofs.Lists.set_else}
use Rattle.ix_gate.specs.{declared.view.{View.View, Role.{Role, TheVariants.{Nobody, Numbered}}, Stage.TheVariants.Idle}, History.entries_of}
use Rattle.ix_gate.specs.{View.{HasNumber, number_of, fresh, spent_view, note, with_note, with_seat}, Rule.{Book, HasTicket, Fits}}
use Rattle.ix_gate.proofs.{Prefixes.by_length, Entries.{contains-nil, contains-cons, entries_of-longer}}
use Rattle.ix_gate.proofs.Views.{at_end, each_set, queued_set, queued_more, kept_set, kept_more, fits_still, ruled, Rule}

module _ {M B E : Type 0} (base_of : M → B) (history_of : M → List E) (seat : E → ℕ) (base : B) (seats : ℕ) where
  -- a view without a number, a ticket or a turn
  blank_fits : (g : Book E) (homes : List (Home (Option M))) (i known : ℕ) (b : Option B) (seen : List E) → (b ≡ None) ⊎ (b ≡ Some base) → (b ≡ None) ⊎ (known ≡ seats)
      → IsPrefix seen g.published → Fits seat base seats g homes i record (fresh known b Nobody) { seen = seen }
  blank_fits g homes i known b seen based sized begins = record {
    based = based;
    sized = sized;
    seen = begins;
    told = (g.published, refl);
    number = λ n o. absurd o;
    ended = λ n es o. absurd (contains-nil (n, es) o);
    agrees = (λ n o. absurd o, λ n es o. absurd (contains-nil (n, es) o));
    makes = tt;
    stands = tt;
    look_found = omega arith;
    drew = λ l. absurd (omega arith);
  }

  pub note_allowed : (id : ℕ) (v : View B E) → v.stage ≡ Idle → Splits (Rule base_of history_of seat base seats) id v v (note v)
  note_allowed id v idle s r at =
      let g : Book E = r.book in
      let f = r.each id v at in
      ruled base_of history_of seat base seats s r g.owner g.maker s.homes (set s.views id v ++ note v ∷ [])
      (kept_more base_of history_of base g.published s.homes (set s.views id v) (note v)
      (kept_set base_of history_of base g.published s.homes s.views id v v at (λ h x. cc (sym idle ∙ x)) r.kept))
      (queued_more g.queue g.served g.next (set s.views id v) (note v) (queued_set g.queue g.served g.next s.views id v v at (λ t o. o) r.queued))
      (λ j d there. ⊎_elim
      (each_set (Fits seat base seats g s.homes) s.views id v f (λ i e _ t. r.each i e t) j d)
      (λ (t : (j ≡ length (set s.views id v)) × (note v ≡ d)). subst (Fits seat base seats g s.homes j) t.1 (blank_fits g s.homes j v.seats v.base v.seen f.based f.sized f.seen))
      (at_end (set s.views id v) (note v) d j there))

  spent_fits : (g : Book E) (homes : List (Home (Option M))) (i : ℕ) → Fits seat base seats g homes i spent_view
  spent_fits g homes i = blank_fits g homes i 0 None [] (inl refl) (inl refl) (g.published, refl)

  -- a book that differs from that of the state at most in who has a number, where one idle view has become u and another was spent
  joined : (s : State (Option M) (View B E)) (r : Rule base_of history_of seat base seats s) (owner : ℕ → ℕ) (id other : ℕ) (v u w : View B E)
      → get_elem? s.views id ≡ some v → get_elem? (set s.views id u) other ≡ some w
      → v.stage ≡ Idle → w.stage ≡ Idle → Fits seat base seats (record (r.book) { owner = owner }) s.homes id u
      → ((i : ℕ) (e : View B E) → i ≢ other → Fits seat base seats r.book s.homes i e → Fits seat base seats (record (r.book) { owner = owner }) s.homes i e)
      → ¬ (other ≡ id) → Rule base_of history_of seat base seats record { words = s.words; homes = s.homes; views = set (set s.views id u) other spent_view }
  joined s r owner id other v u w at there idle rests mine others apart =
      let g : Book E = r.book in
      let h : Book E = record g { owner = owner } in
      ruled base_of history_of seat base seats s r owner g.maker s.homes (set (set s.views id u) other spent_view)
      (kept_set base_of history_of base g.published s.homes (set s.views id u) other w spent_view there (λ p x. cc (sym rests ∙ x))
      (kept_set base_of history_of base g.published s.homes s.views id v u at (λ p x. cc (sym idle ∙ x)) r.kept))
      (queued_set g.queue g.served g.next (set s.views id u) other w spent_view there (λ t o. absurd (subst (HasTicket g.served t) rests o))
      (queued_set g.queue g.served g.next s.views id v u at (λ t o. absurd (subst (HasTicket g.served t) idle o)) r.queued))
      (each_set (Fits seat base seats h s.homes) (set s.views id u) other spent_view (spent_fits h s.homes other)
      (λ j d away t. each_set (λ i e. i ≢ other → Fits seat base seats h s.homes i e) s.views id u (λ _. mine) (λ i e _ t away. others i e away (r.each i e t)) j d t away))

  pub take_note_allowed : (id : ℕ) (v : View B E) (other : ℕ) (w : View B E) → v.stage ≡ Idle → w.stage ≡ Idle → Joins (Rule base_of history_of seat base seats) id v other w (with_note v w) spent_view
  take_note_allowed id v other w idle rests s r at apart there =
      let g : Book E = r.book in
      let p : List E = g.published in
      let u : View B E = with_note v w in
      let f = r.each id v at in
      let q = r.each other w (sym (set_else s.views id other u apart) ∙ there) in
      joined s r g.owner id other v u w at there idle rests record {
        based = f.based;
        sized = f.sized;
        seen = by_length v.seen w.seen (λ l _. IsPrefix l p) (λ _. q.seen) (λ _. f.seen);
        told = by_length v.seen w.seen (λ _ l. IsPrefix l p) (λ _. f.seen) (λ _. q.seen);
        number = f.number;
        ended = f.ended;
        agrees = (
          λ n o. entries_of-longer seat n v.own v.seen w.seen p f.seen q.seen (f.number n o).3 (inl (f.agrees.0 n o)),
          λ n es o. entries_of-longer seat n es v.seen w.seen p f.seen q.seen (f.ended n es o).2 (inl (f.agrees.1 n es o)),
        );
        makes = f.makes;
        stands = f.stands;
        look_found = f.look_found;
        drew = f.drew;
      } (λ i e _ z. z) apart

  -- the seat at id has the numbers that the seat at other had
  abbrev takes_over : (ℕ → ℕ) → ℕ → ℕ → ℕ → ℕ
  takes_over owner id other n = cond (eqb (owner n) other) id (owner n)

  takes_over-other : (owner : ℕ → ℕ) (id other n : ℕ) → owner n ≡ other → takes_over owner id other n ≡ id
  takes_over-other owner id other n e = ap (λ b. cond b id (owner n)) (eq-eqb (owner n) other e)

  takes_over-else : (owner : ℕ → ℕ) (id other i n : ℕ) → owner n ≡ i → i ≢ other → takes_over owner id other n ≡ i
  takes_over-else owner id other i n e away = ap (λ b. cond b id (owner n)) (ne_eqb (owner n) other (λ x. away (sym e ∙ x))) ∙ e

  pub end_allowed : (id : ℕ) (v : View B E) (other : ℕ) (w : View B E) (m : ℕ) → v.stage ≡ Idle → w.stage ≡ Idle → w.role ≡ Numbered m
      → Joins (Rule base_of history_of seat base seats) id v other w (with_seat v w) spent_view
  end_allowed id v other w m idle rests named s r at apart there =
      let g : Book E = r.book in
      let p : List E = g.published in
      let u : View B E = with_seat v w in
      let owner : ℕ → ℕ = takes_over g.owner id other in
      let f = r.each id v at in
      let q = r.each other w (sym (set_else s.views id other u apart) ∙ there) in
      let its : HasNumber w.role m = subst (λ (z : Role). HasNumber z m) (sym named) refl in
      let theirs = q.number m its in
      let away : id ≢ other = λ e. apart (sym e) in
      let not_mine : (k : ℕ) → g.owner k ≡ other → ¬ HasNumber v.role k = λ k e o. apart (sym e ∙ (f.number k o).0) in
      let Ended : ℕ → List E → Type 0 = λ k es. (owner k ≡ id) × (k < g.made) × (entries_of seat k p ≡ es) × ¬ HasNumber v.role k × (entries_of seat k u.seen ≡ es) in
      let ended : (k : ℕ) (es : List E) → Contains u.ended (k, es) → Ended k es = λ k es o. ⊎_elim
      (λ (a : Contains v.ended (k, es)). let t = f.ended k es a in
      (takes_over-else g.owner id other id k t.0 away, t.1, t.2, t.3, entries_of-longer seat k es v.seen w.seen p f.seen q.seen t.2 (inl (f.agrees.1 k es a))))
      (λ (a : Contains ((number_of w.role, w.own) ∷ w.ended) (k, es)). ⊎_elim
      (λ (b : (number_of w.role, w.own) ≡ (k, es)).
      let kn : m ≡ k = sym (ap number_of named) ∙ ap (λ (x : ℕ × List E). x.0) b in
      let en : w.own ≡ es = ap (λ (x : ℕ × List E). x.1) b in
      subst (λ (x : ℕ × List E). Ended x.0 x.1) (λ i. (kn i, en i))
      (takes_over-other g.owner id other m theirs.0, theirs.1, theirs.3, not_mine m theirs.0, entries_of-longer seat m w.own v.seen w.seen p f.seen q.seen theirs.3 (inr (q.agrees.0 m its))))
      (λ (b : Contains w.ended (k, es)). let t = q.ended k es b in
      (takes_over-other g.owner id other k t.0, t.1, t.2, not_mine k t.0, entries_of-longer seat k es v.seen w.seen p f.seen q.seen t.2 (inr (q.agrees.1 k es b))))
      (contains-cons (number_of w.role, w.own) w.ended (k, es) a))
      (Contains-append_cases v.ended ((number_of w.role, w.own) ∷ w.ended) (k, es) o) in
      joined s r owner id other v u w at there idle rests record {
        based = f.based;
        sized = f.sized;
        seen = by_length v.seen w.seen (λ l _. IsPrefix l p) (λ _. q.seen) (λ _. f.seen);
        told = by_length v.seen w.seen (λ _ l. IsPrefix l p) (λ _. f.seen) (λ _. q.seen);
        number = λ k o. let t = f.number k o in (takes_over-else g.owner id other id k t.0 away, t.1, t.2, t.3);
        ended = λ k es o. let t = ended k es o in (t.0, t.1, t.2, t.3);
        agrees = (
          λ n o. entries_of-longer seat n v.own v.seen w.seen p f.seen q.seen (f.number n o).3 (inl (f.agrees.0 n o)),
          λ n es o. (ended n es o).4,
        );
        makes = f.makes;
        stands = f.stands;
        look_found = f.look_found;
        drew = f.drew;
      }
      (λ i e far z. fits_still seat base seats g s.homes s.homes i g.queue owner g.turns g.next g.made g.maker e z
      (λ k o. let t = z.number k o in (takes_over-else g.owner id other i k t.0 far, t.1, t.2, t.3))
      (λ k es o. let t = z.ended k es o in (takes_over-else g.owner id other i k t.0 far, t.1, t.2, t.3)) z.makes z.stands)
      apart
