-- A draw of the number that was found served keeps the rule, whether it succeeds or not.
use Rattle.std.proofs.Common.{◌≡◌, ◌≢◌, ℕ, ◌+◌, ◌<◌, List, [], ◌∷◌, get_or, set, Option, Some, refl, ap, sym, ◌∙◌, subst, inl, inr, arith, eqb}
use mathlib.Core.Option.{Option as Home, none, some}
use prog.Atomic.{either}
use lib.ListN.{get_elem?}
use Rattle.atomic_table.{specs.Table.{State, Me, step, keeps, takes, Allows}, proofs.Lists.{set_here, exchanged}}
use Rattle.ix_gate.specs.{declared.view.{View.View, Role.{TheVariants.Numbered}, Stage.TheVariants.{Idle, Holds}}, Steps.TriesDraw}
use Rattle.ix_gate.specs.{View.{with_ticket, with_look, with_miss}, Rule.{most_turns, Book, Stands, IsKept}}
use Rattle.ix_gate.proofs.{Counts.{put, put_here}, Views.{at_lt, seats_known, fits_at, unmoved, MaySet, Rule}, Looking.{away_stands, takes_from_home}}
use Rattle.ix_gate.proofs.{Drawing.{drawn, draw_fits}, Alone.alone_served}

module _ {M B E : Type 0} (base_of : M → B) (history_of : M → List E) (seat : E → ℕ) (base : B) (seats : ℕ) where
  try_hit : (s : State (Option M) (View B E)) (r : Rule base_of history_of seat base seats s) (slots id : ℕ) (me : Me (Option M) (View B E)) (n old : ℕ)
      → me.0.stage ≡ Idle → me.0.role ≡ Numbered n → me.0.turns < most_turns → me.0.look_found ≡ old
      → get_elem? s.views id ≡ some me.0 → get_or s.words 0 0 ≡ old → IsKept base_of history_of base r.book.published s.homes s.views
      → MaySet base_of history_of seat base seats s id me 0 (old + 1) (TriesDraw base_of history_of seat (step slots 0 old (old + 1) none) me)
  try_hit s r slots id me n old idle is room known at hit (inr (i, u, h, away, there, holds)) =
      let g : Book E = r.book in
      let e : get_or s.words 0 0 ≡ g.next = ap (λ (ws : List ℕ). get_or ws 0 0) r.words in
      let k = subst (Stands g.queue g.served g.next g.published s.homes i u.role) holds (r.each i u there).stands in
      let low = (r.each id me.0 at).look_found in
      absurd (omega (arith, k.1))
  try_hit s r slots id me n old idle is room known at hit (inl (m, home, has, based)) =
      let g : Book E = r.book in
      let v : View B E = me.0 in
      let found : ℕ = get_or s.words 0 0 in
      let e : found ≡ g.next = ap (λ (ws : List ℕ). get_or ws 0 0) r.words in
      let f = r.each id v at in
      let now : g.served ≡ g.next = omega arith in
      let w : View B E = with_look (with_ticket v found) found (Holds (history_of m)) in
      let homes : List (Home (Option M)) = set s.homes 0 none in
      let bare : homes ≡ none ∷ [] = ap (λ (hs : List (Home (Option M))). set hs 0 none) home in (
        w,
        takes 0 (Some m),
        ap (λ (hs : List (Home (Option M))). get_elem? hs 0) home,
        drawn base_of history_of seat base seats s r id n (old + 1) v w homes at idle is room (omega arith) (sym now)
            (inr (id, w, history_of m, bare, set_here s.views id w (at_lt s.views id v at), refl))
            (λ j d k. away_stands g.queue g.served g.next g.published s.homes m j d.role d.stage home k)
            (draw_fits seat base seats g s.homes homes id n v (Holds (history_of m)) found (v.looks + 1) found is (omega arith) (e ∙ sym now) f
            (ap (put g.queue g.next id) now ∙ put_here g.queue g.next id, omega arith, (n, is), has, bare)),
        (
          λ _. takes_from_home base_of history_of seat base seats g s.homes id me m found (with_look (with_ticket v found) found) f (sym has) based
              (omega (arith, r.short, e, now)),
          λ miss. absurd (miss hit),
        ),
      )

  try_miss : (s : State (Option M) (View B E)) (r : Rule base_of history_of seat base seats s) (slots id : ℕ) (me : Me (Option M) (View B E)) (n old new : ℕ)
      → me.0.stage ≡ Idle → me.0.role ≡ Numbered n
      → get_elem? s.views id ≡ some me.0 → get_or s.words 0 0 ≢ old
      → MaySet base_of history_of seat base seats s id me 0 (get_or s.words 0 0) (TriesDraw base_of history_of seat (step slots 0 old new none) me)
  try_miss s r slots id me n old new idle is at miss =
      let g : Book E = r.book in
      let v : View B E = me.0 in
      let found : ℕ = get_or s.words 0 0 in
      let e : found ≡ g.next = ap (λ (ws : List ℕ). get_or ws 0 0) r.words in
      let f = r.each id v at in (
        with_miss v found,
        keeps,
        tt,
        unmoved base_of history_of seat base seats s r 0 id me.1 v (with_miss v found) at (λ h x. cc (sym idle ∙ x)) (λ t o. o)
            (fits_at seat base seats g s.homes s.homes id v v.stage v.looks v.look_found (v.misses + 1) found f f.stands f.look_found f.drew),
        (
          λ hit. absurd (miss hit),
          λ _. (
            refl,
            omega arith,
            λ one b based. let a =
                alone_served base_of history_of seat base seats s r id n v at idle is (seats_known v.base v.seats seats b f.sized based ∙ one) in e ∙ a.1,
          ),
        ),
      )

  pub try_draw_allowed : (slots id : ℕ) (me : Me (Option M) (View B E)) (n old : ℕ) → me.0.stage ≡ Idle → me.0.role ≡ Numbered n → me.0.turns < most_turns → me.0.look_found ≡ old
      → Allows (Rule base_of history_of seat base seats) slots id me 0 (λ x. either (eqb x old) (old + 1) x) (TriesDraw base_of history_of seat (step slots 0 old (old + 1) none) me)
  try_draw_allowed slots id me n old idle is room known s r len at small =
      exchanged (get_or s.words 0 0) old (old + 1) (λ x. MaySet base_of history_of seat base seats s id me 0 x
      (TriesDraw base_of history_of seat (step slots 0 old (old + 1) none) me))
      (λ hit. try_hit s r slots id me n old idle is room known at hit r.kept)
      (λ miss. try_miss s r slots id me n old (old + 1) idle is at miss)
