-- What is found of two runs is where they part, and which places are shown.
use Rattle.std.proofs.Common.{◌≡◌, ◌⊎◌, ◌≤◌, ◌<◌, ◌+◌, ◌-◌, ℕ, zero, suc, Bool, true, false, true≢false, not, ◌&&◌, List, [], ◌∷◌, length, take, Option, Some, None, IfSome, if◌then◌else◌}
use Rattle.std.proofs.{Common.{refl, sym, ap, ◌∙◌, subst, arith, inl, inr, ⊎_elim, slice_get}, lemmas.Bool.{and_from, and_parts, cases_lt, Decides.{Decides-and, Decides-not}}}
use Rattle.std.{proofs.lemmas.Option.slice_get_within, specs.Bool.Decides}
use Rattle.ix_label.specs.Category.{Categories}
use Rattle.ix_model.specs.{history.{Events.Event, Step.{run, step_of}}, two_runs.TwoRuns.{Agree, AgreeAt, IsLow, Low, is_one_kind}, world.World.World}
use Rattle.ix_iso.specs.Laws.{NoneCrosses}
use Rattle.ix_twin.specs.{Parting.{AreShown, IsLeastPart, IsShown, OneHasPlace, PartAt, Rise, parting, shown_from}, PartingLaws.RunsAreParted, Tests.{both_agree, crosses, is_low}}
use Rattle.ix_twin.proofs.{Crossing.crosses_decides, SameCalls.{low_decides, agree_decides}}

module _ (l : Categories) where
  -- ---- one entry
  -- the first entries of both agree
  abbrev pub FirstAgree : World → World → ℕ → Event → Event → Type 0
  FirstAgree v w place e d = AgreeAt l v.frame e d × is_one_kind (step_of v place e).reply (step_of w place d).reply ≡ true

  pub agree_here : (v w : World) (place : ℕ) (e d : Event) → both_agree l v w place e d ≡ true → FirstAgree v w place e d
  agree_here v w place e d h = let both = and_parts _ _ h in ((agree_decides l _ e d).0 both.0, both.1)

  pub here_agrees : (v w : World) (place : ℕ) (e d : Event) → FirstAgree v w place e d → both_agree l v w place e d ≡ true
  here_agrees v w place e d h = and_from _ _ ((agree_decides l _ e d).1 h.0) h.1

  -- ---- where they part
  -- the same as at first, from a place on
  abbrev PartFrom : World → World → ℕ → List Event → List Event → ℕ → Type 0
  PartFrom v w place events others k = (1 ≤ k) × (OneHasPlace k events others ⊎ (Agree l v w place (take k events) (take k others) → ⊥))

  abbrev LeastFrom : World → World → ℕ → List Event → List Event → Option ℕ → Type 0
  LeastFrom v w place events others None = (k : ℕ) → PartFrom v w place events others k → ⊥
  LeastFrom v w place events others (Some n) = (k : ℕ) × (n + 1 ≡ place + k) × PartFrom v w place events others k × ((m : ℕ) → PartFrom v w place events others m → k ≤ m)

  module _ (v w : World) (place : ℕ) (e d : Event) (es os : List Event) where
    abbrev x : World
    x = (step_of v place e).world

    abbrev y : World
    y = (step_of w place d).world

    -- entries further on
    up : (k : ℕ) → PartFrom x y (suc place) es os k → PartFrom v w place (e ∷ es) (d ∷ os) (suc k)
    up k h = (
      omega arith,
      ⊎_elim
          (λ one. inl (⊎_elim (λ p. inl (omega (arith, p.0), omega (arith, p.1)))
          (λ p. inr (omega (arith, p.0), omega (arith, p.1))) one))
          (λ not. inr (λ agree. not agree.2)) h.1,
    )

    down : FirstAgree v w place e d → (m : ℕ) → PartFrom v w place (e ∷ es) (d ∷ os) (suc (suc m)) → PartFrom x y (suc place) es os (suc m)
    down first m h = (
      omega arith,
      ⊎_elim
          (λ one. inl (⊎_elim (λ p. inl (omega (arith, p.0), omega (arith, p.1)))
          (λ p. inr (omega (arith, p.0), omega (arith, p.1))) one))
          (λ not. inr (λ agree. not (first.0, first.1, agree))) h.1,
    )

    none_at_one : FirstAgree v w place e d → PartFrom v w place (e ∷ es) (d ∷ os) 1 → ⊥
    none_at_one first h = ⊎_elim
        (λ one. ⊎_elim (λ p. absurd (omega (arith, p.1))) (λ p. absurd (omega (arith, p.1))) one)
        (λ not. not (first.0, first.1, tt)) h.1

    none_on : FirstAgree v w place e d → LeastFrom x y (suc place) es os None → (m : ℕ) → PartFrom v w place (e ∷ es) (d ∷ os) m → ⊥
    none_on first h zero part = omega (arith, part.0)
    none_on first h (suc zero) part = none_at_one first part
    none_on first h (suc (suc m)) part = h (suc m) (down first m part)

    least_on : FirstAgree v w place e d → (n : Option ℕ) → LeastFrom x y (suc place) es os n → LeastFrom v w place (e ∷ es) (d ∷ os) n
    least_on first None h = none_on first h
    least_on first (Some n) h = (suc h.0, omega (arith, h.1), up _ h.2, least)
      where
        least : (m : ℕ) → PartFrom v w place (e ∷ es) (d ∷ os) m → suc h.0 ≤ m
        least zero part = absurd (omega (arith, part.0))
        least (suc zero) part = absurd (none_at_one first part)
        least (suc (suc m)) part = omega (arith, h.3 (suc m) (down first m part))

    least_here : both_agree l v w place e d ≡ false → LeastFrom v w place (e ∷ es) (d ∷ os) (Some place)
    least_here differ = (
      1,
      omega arith,
      (omega arith, inr (λ agree. true≢false (sym (here_agrees v w _ e d (agree.0, agree.1)) ∙ differ))),
      λ m part. part.0,
    )

  nothing : (v w : World) (place k : ℕ) → Agree l v w place (take k []) (take k [])
  nothing v w place zero = tt
  nothing v w place (suc k) = tt

  none_parts : (v w : World) (place k : ℕ) → PartFrom v w place [] [] k → ⊥
  none_parts v w place k part = ⊎_elim
      (λ one. ⊎_elim (λ p. omega (arith, p.0, p.1)) (λ p. omega (arith, p.0, p.1)) one)
      (λ not. not (nothing v w _ k)) part.1

  least_from : (v w : World) (place : ℕ) (events others : List Event) → LeastFrom v w place events others (parting l v w place events others)
  unfolding parting
  least_from v w place [] [] = none_parts v w _
  least_from v w place [] (d ∷ others) = (1, omega arith, (omega arith, inl (inr (omega arith, omega arith))), λ m part. part.0)
  least_from v w place (e ∷ events) [] = (1, omega arith, (omega arith, inl (inl (omega arith, omega arith))), λ m part. part.0)
  least_from v w place (e ∷ events) (d ∷ others) =
      go (both_agree l v w place e d) refl (least_from (step_of v place e).world (step_of w place d).world (suc place) events others)
    where
      rest : Option ℕ
      rest = parting l (step_of v place e).world (step_of w place d).world (suc place) events others

      go : (b : Bool) → both_agree l v w place e d ≡ b → LeastFrom (step_of v place e).world (step_of w place d).world (suc place) events others rest
          → LeastFrom v w place (e ∷ events) (d ∷ others) (if b then rest else Some place)
      go true is later = least_on v w place e d events others (agree_here v w _ e d is) rest later
      go false is later = least_here v w place e d events others is

  pub least : (v w : World) (events others : List Event) → IsLeastPart l v w events others (parting l v w 1 events others)
  least v w events others = go _ (least_from v w 1 _ _)
    where
      go : (n : Option ℕ) → LeastFrom v w 1 events others n → IsLeastPart l v w events others n
      go None h = h
      go (Some n) h =
          let same : h.0 ≡ n = omega (arith, h.1) in
          (subst (PartAt l v w events others) same h.2, λ m part. omega (arith, h.3 m part, same))

  -- ---- before they part
  pub agree_before : (v w : World) (place : ℕ) (events others : List Event) (k : ℕ) → IfSome (parting l v w place events others) (λ n. place + k < n) → k < length events
      → Agree l v w place (take (suc k) events) (take (suc k) others)
  unfolding parting
  agree_before v w place [] others k before within = absurd (omega (arith, within))
  agree_before v w place (e ∷ events) [] k before within = absurd (omega (arith, before))
  agree_before v w place (e ∷ events) (d ∷ others) k before within =
      go (both_agree l v w place e d) refl (agree_before (step_of v place e).world (step_of w place d).world (suc place) events others) k within before
    where
      rest : Option ℕ
      rest = parting l (step_of v place e).world (step_of w place d).world (suc place) events others

      Later : Type 0
      Later = (k : ℕ) → IfSome rest (λ n. suc place + k < n) → k < length events → Agree l (step_of v place e).world (step_of w place d).world (suc place) (take (suc k) events) (take (suc k) others)

      go : (b : Bool) → both_agree l v w place e d ≡ b → Later → (k : ℕ) → k < suc (length events) → IfSome (if b then rest else Some place) (λ n. place + k < n)
          → Agree l v w place (e ∷ take k events) (d ∷ take k others)
      go false is on k within before = absurd (omega (arith, before))
      go true is on zero within before = let first = agree_here v w _ e d is in (first.0, first.1, tt)
      go true is on (suc k) within before =
          let first = agree_here v w _ e d is in
          (first.0, first.1, on k (subst (λ m. IfSome rest (λ n. m < n)) (omega arith) before) (omega (arith, within)))

  -- a front of what agrees agrees
  agree_front : (v w : World) (place : ℕ) (events others : List Event) (n m : ℕ) → n ≤ m → Agree l v w place (take m events) (take m others) → Agree l v w place (take n events) (take n others)
  agree_front v w place events others zero m low agree = tt
  agree_front v w place [] [] (suc n) m low agree = tt
  agree_front v w place [] (d ∷ others) (suc n) zero low agree = absurd (omega (arith, low))
  agree_front v w place [] (d ∷ others) (suc n) (suc m) low agree = absurd agree
  agree_front v w place (e ∷ events) [] (suc n) zero low agree = absurd (omega (arith, low))
  agree_front v w place (e ∷ events) [] (suc n) (suc m) low agree = absurd agree
  agree_front v w place (e ∷ events) (d ∷ others) (suc n) zero low agree = absurd (omega (arith, low))
  agree_front v w place (e ∷ events) (d ∷ others) (suc n) (suc m) low agree =
      (agree.0, agree.1, agree_front (step_of v place e).world (step_of w place d).world (suc place) events others n m (omega (arith, low)) agree.2)

  -- what agrees is of one length
  agree_length : (v w : World) (place : ℕ) (events others : List Event) (n : ℕ) → n ≤ length events → Agree l v w place (take n events) (take n others) → n ≤ length others
  agree_length v w place events others zero within agree = omega arith
  agree_length v w place [] others (suc n) within agree = absurd (omega (arith, within))
  agree_length v w place (e ∷ events) [] (suc n) within agree = absurd agree
  agree_length v w place (e ∷ events) (d ∷ others) (suc n) within agree =
      omega (arith, agree_length (step_of v place e).world (step_of w place d).world (suc place) events others n (omega (arith, within)) agree.2)

  -- ---- the places that are shown
  -- the k-th entry from a place on is shown: it agrees with the other's, as all before it, is low, and nothing crossed before
  record ShownAt (clear : Bool) (v w : World) (place : ℕ) (events others : List Event) (p : ℕ) : Type 0 where
    k : ℕ
    at : p ≡ place + k
    agreed : Agree l v w place (take (suc k) events) (take (suc k) others)
    entry : Event
    there : slice_get events k ≡ Some entry
    low : Low l (run v place (take k events)) (place + k) entry
    first : clear ≡ true
    none : NoneCrosses l v place (take k events)

  record Ares (clear : Bool) (v w : World) (place : ℕ) (events others : List Event) (places : List ℕ) : Type 0 where
    rise : Rise place places
    shown : (i p : ℕ) → slice_get places i ≡ Some p → ShownAt clear v w place events others p
    all : (p : ℕ) → ShownAt clear v w place events others p → (i : ℕ) × (slice_get places i ≡ Some p)

  rise_weaker : (least : ℕ) (places : List ℕ) → Rise (suc least) places → Rise least places
  rise_weaker least [] h = tt
  rise_weaker least (p ∷ places) h = (omega (arith, h.0), h.1)

  module _ (clear : Bool) (v w : World) (place : ℕ) (e d : Event) (es os : List Event) where
    abbrev x2 : World
    x2 = (step_of v place e).world

    abbrev y2 : World
    y2 = (step_of w place d).world

    abbrev clear_on : Bool
    clear_on = clear && not (crosses l v.frame x2.frame)

    -- one further on
    on_shown : FirstAgree v w place e d → (p : ℕ) → ShownAt clear_on x2 y2 (suc place) es os p → ShownAt clear v w place (e ∷ es) (d ∷ os) p
    on_shown first p h =
        let both = and_parts clear _ h.first in
        let later : suc place + h.k ≡ place + suc h.k = omega arith in
        record {
          k = suc h.k;
          at = h.at ∙ later;
          agreed = (first.0, first.1, h.agreed);
          entry = h.entry;
          there = h.there;
          low = subst (λ m. Low l (run x2 (suc place) (take h.k es)) m h.entry) later h.low;
          first = both.0;
          none = ((Decides-not _ (crosses_decides l _ _)).0 both.1, h.none);
        }

    -- one is the first, or further on
    shown_on : (p : ℕ) → (h : ShownAt clear v w place (e ∷ es) (d ∷ os) p)
        → (FirstAgree v w place e d) × (((p ≡ place) × (clear ≡ true) × IsLow l x2.frame e.pid) ⊎ ShownAt clear_on x2 y2 (suc place) es os p)
    shown_on p h = go _ h.at h.agreed h.there h.low h.none
      where
        go : (k : ℕ) → p ≡ place + k → Agree l v w place (take (suc k) (e ∷ es)) (take (suc k) (d ∷ os)) → slice_get (e ∷ es) k ≡ Some h.entry
            → Low l (run v place (take k (e ∷ es))) (place + k) h.entry → NoneCrosses l v place (take k (e ∷ es))
            → (FirstAgree v w place e d) × (((p ≡ place) × (clear ≡ true) × IsLow l x2.frame e.pid) ⊎ ShownAt clear_on x2 y2 (suc place) es os p)
        go zero at agreed there low none =
            let here : place + 0 ≡ place = omega arith in
            let one : h.entry ≡ e = cc in
            let is = subst (λ m. Low l v m e) here (subst (λ f. Low l v (place + 0) f) one low) in
            ((agreed.0, agreed.1), inl (at ∙ here, h.first, is))
        go (suc k) at agreed there low none =
            let later : place + suc k ≡ suc place + k = omega arith in (
              (agreed.0, agreed.1),
              inr (record {
                k = k;
                at = at ∙ later;
                agreed = agreed.2;
                entry = h.entry;
                there = there;
                low = subst (λ m. Low l (run x2 (suc place) (take k es)) m h.entry) later low;
                first = and_from clear _ h.first ((Decides-not _ (crosses_decides l _ _)).1 none.0);
                none = none.1;
              }),
            )

    here_shown : FirstAgree v w place e d → clear ≡ true → IsLow l x2.frame e.pid → ShownAt clear v w place (e ∷ es) (d ∷ os) place
    here_shown first none low =
        let here : place ≡ place + 0 = omega arith in
        record {
          k = 0;
          at = here;
          agreed = (first.0, first.1, tt);
          entry = e;
          there = refl;
          low = subst (λ m. Low l v m e) here low;
          first = none;
          none = tt;
        }

    abbrev Rest : List ℕ → Type 0
    Rest later = Ares clear_on x2 y2 (suc place) es os later

    -- where the two agree, and the first is shown or isn't
    with_first : FirstAgree v w place e d → clear ≡ true → IsLow l x2.frame e.pid → (later : List ℕ) → Rest later → Ares clear v w place (e ∷ es) (d ∷ os) (place ∷ later)
    with_first first none low later h = record {
      rise = (omega arith, h.rise);
      shown = shown;
      all = λ p s. ⊎_elim (λ (q : (p ≡ place) × (clear ≡ true) × IsLow l x2.frame e.pid). (0, ap Some (sym q.0))) (λ q. let i = h.all p q in (suc i.0, i.1)) (shown_on p s).1;
    }
      where
        shown : (i p : ℕ) → slice_get (place ∷ later) i ≡ Some p → ShownAt clear v w place (e ∷ es) (d ∷ os) p
        shown zero p at = let same : place ≡ p = cc in subst (ShownAt clear v w place _ _) same (here_shown first none low)
        shown (suc i) p at = on_shown first p (h.shown i p at)

    without_first : FirstAgree v w place e d → ((clear ≡ true) × IsLow l x2.frame e.pid → ⊥) → (later : List ℕ) → Rest later → Ares clear v w place (e ∷ es) (d ∷ os) later
    without_first first not later h = record {
      rise = rise_weaker _ _ h.rise;
      shown = λ i p at. on_shown first p (h.shown i p at);
      all = λ p s. ⊎_elim (λ q. absurd (not (q.1, q.2))) (λ q. h.all p q) (shown_on p s).1;
    }

    apart : (FirstAgree v w place e d → ⊥) → Ares clear v w place (e ∷ es) (d ∷ os) []
    apart not = record { rise = tt; shown = λ i p at. cc; all = λ p s. absurd (not (shown_on p s).0) }

  none_shown : (clear : Bool) (v w : World) (place : ℕ) (others : List Event) → Ares clear v w place [] others []
  none_shown clear v w place others = record { rise = tt; shown = λ i p at. cc; all = λ p s. cc }

  none_other : (clear : Bool) (v w : World) (place : ℕ) (e : Event) (events : List Event) → Ares clear v w place (e ∷ events) [] []
  none_other clear v w place e events = record { rise = tt; shown = λ i p at. cc; all = λ p s. absurd s.agreed }

  ares : (clear : Bool) (v w : World) (place : ℕ) (events others : List Event) → Ares clear v w place events others (shown_from l clear v w place events others)
  unfolding shown_from
  ares clear v w place [] others = none_shown _ v w _ _
  ares clear v w place (e ∷ events) [] = none_other _ v w _ e _
  ares clear v w place (e ∷ events) (d ∷ others) =
      go (both_agree l v w place e d) refl (ares (clear && not _) (step_of v place e).world (step_of w place d).world (suc place) events others)
    where
      clear2 : Bool
      clear2 = clear && not (crosses l v.frame (step_of v place e).world.frame)

      later : List ℕ
      later = shown_from l clear2 (step_of v place e).world (step_of w place d).world (suc place) events others

      both : Decides (clear && is_low l (step_of v place e).world.frame e.pid) ((clear ≡ true) × IsLow l (step_of v place e).world.frame e.pid)
      both = Decides-and clear _ (λ h. h, λ h. h) (low_decides l _ _)

      front : (b : Bool) → (clear && is_low l (step_of v place e).world.frame e.pid) ≡ b → FirstAgree v w place e d
          → Ares clear2 (step_of v place e).world (step_of w place d).world (suc place) events others later
          → Ares clear v w place (e ∷ events) (d ∷ others) (if b then place ∷ later else later)
      front true is first rest = let h = both.0 is in with_first clear v w _ e d events others first h.0 h.1 later rest
      front false is first rest = without_first clear v w place e d events others first (λ h. true≢false (sym (both.1 h) ∙ is)) later rest

      go : (b : Bool) → both_agree l v w place e d ≡ b → Ares clear2 (step_of v place e).world (step_of w place d).world (suc place) events others later
          → Ares clear v w place (e ∷ events) (d ∷ others) (if b then (if clear && is_low l (step_of v place e).world.frame e.pid then place ∷ later else later) else [])
      go true is rest = front _ refl (agree_here v w _ e d is) rest
      go false is rest = apart clear v w place e d events others (λ first. true≢false (sym (here_agrees v w _ e d first) ∙ is))

  -- ---- from the first place on
  module _ (v w : World) (events others : List Event) where
    abbrev n : Option ℕ
    n = parting l v w 1 events others

    -- what agrees up to a place comes before the one at which they part
    comes_before : (k : ℕ) → k < length events → Agree l v w 1 (take (suc k) events) (take (suc k) others) → IfSome n (λ m. suc k < m)
    comes_before k within agree = go n (least v w _ _)
      where
        other : suc k ≤ length others
        other = agree_length v w 1 _ _ _ (omega (arith, within)) agree

        not_part : (m : ℕ) → m ≤ suc k → PartAt l v w events others m → ⊥
        not_part m high part = ⊎_elim
            (λ one. ⊎_elim (λ q. omega (arith, q.1, other, high))
            (λ q. omega (arith, q.1, within, high)) one)
            (λ not. not (agree_front v w 1 _ _ m _ high agree)) part.1

        go : (o : Option ℕ) → IsLeastPart l v w events others o → IfSome o (λ m. suc k < m)
        go None h = tt
        go (Some m) h = ⊎_elim (λ low. low) (λ high. absurd (not_part m high h.0)) (cases_lt _ m)

    found : (p : ℕ) → ShownAt true v w 1 events others p → IsShown l v events n p
    found p h =
        let at = h.at ∙ omega arith in
        let back : h.k ≡ p - 1 = omega (arith, at) in
        record {
          from = omega (arith, at);
          before = subst (λ q. IfSome n (λ m. q < m)) (sym at) (comes_before _ (slice_get_within events h.k h.entry h.there) h.agreed);
          entry = h.entry;
          there = subst (λ k. slice_get events k ≡ Some h.entry) back h.there;
          low = subst (λ k. Low l (run v 1 (take k events)) p h.entry) back (subst (λ q. Low l (run v 1 (take h.k events)) q h.entry) (omega (arith, at)) h.low);
          clear = subst (λ k. NoneCrosses l v 1 (take k events)) back h.none;
        }

    finds : (p : ℕ) → IsShown l v events n p → ShownAt true v w 1 events others p
    finds p h =
        let k = p - 1 in
        let at : p ≡ 1 + k = omega (arith, h.from) in
        record {
          k = k;
          at = at;
          agreed = agree_before v w 1 _ _ k (subst (λ q. IfSome n (λ m. q < m)) at h.before) (slice_get_within events k h.entry h.there);
          entry = h.entry;
          there = h.there;
          low = subst (λ q. Low l (run v 1 (take k events)) q h.entry) at h.low;
          first = refl;
          none = h.clear;
        }

    pub shown : AreShown l v events n (shown_from l true v w 1 events others)
    shown =
        let all = ares _ v w 1 _ _ in
        record { rise = all.rise; shown = λ i p at. found p (all.shown i p at); all = λ p h. all.all p (finds p h) }

pub runs_are_parted : RunsAreParted
runs_are_parted l v w events others = record { least = least l v w _ others; shown = shown l v w events others }
