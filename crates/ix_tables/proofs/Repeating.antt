-- A byte written so many times behind the last one of a file.
use Rattle.std.proofs.Common.{◌≡◌, ◌+◌, ◌-◌, ◌<◌, ◌≤◌, ◌==◌, ℕ, Bool, true, false, not, max, nat_lt, nat_le, ◌&&◌, List, [], ◌∷◌, ◌++◌, length, take, drop, sym}
use Rattle.std.proofs.Common.{replicate, slice_set, slice_index_or, if◌then◌else◌, refl, ap, ◌∙◌, subst, arith, inl, inr, append-nil, append_assoc}
use Rattle.std.proofs.{lemmas.Bool.{cases_lt, Decides.{nat_tests, eqb_tells}}, Math.ListN.drop_of_length-le}
use Rattle.std.proofs.lemmas.List.{set-set, set_past, set-get_or, get_or-set_same, get_or_past, take_all, replicate-append-replicate, length-replicate}
use Rattle.std.proofs.lemmas.List.{length-append}
use Rattle.ix_model.{specs.world.World.Holding, specs.world.Contents.{holds_nothing, with_side, spliced}, proofs.tables.Blocks.blocks_skip}
use Rattle.ix_model.specs.rows.Telling.{blocks_for, blocks_on, blocks_beside, fs_of_object, lies_on, length_then}
use Rattle.ix_tables.specs.{Parts.Parts, Views.{frame_alone, content_alone, has_room}}

-- bytes that stand right behind the others
pub spliced_behind : (place : ℕ) (new old : List ℕ) → length old ≡ place → spliced place new old ≡ old ++ new
spliced_behind place [] old here = sym (append-nil old)
spliced_behind place (b ∷ new) old here =
    let some : nat_le (length (b ∷ new)) 0 ≡ false = grind (arith, nat_tests) in
    let gap : place - length old ≡ 0 = omega (arith, here) in
    ap (λ c. if c then old else (take place old ++ (replicate (place - length old) 0 ++ ((b ∷ new) ++ drop (place + length (b ∷ new)) old)))) some
    ∙ ap (λ xs. xs ++ (replicate (place - length old) 0 ++ ((b ∷ new) ++ drop (place + length (b ∷ new)) old))) (take_all place old (omega (arith, here)))
    ∙ ap (λ k. old ++ (replicate k 0 ++ ((b ∷ new) ++ drop (place + length (b ∷ new)) old))) gap
    ∙ ap (λ xs. old ++ ((b ∷ new) ++ xs)) (drop_of_length-le old (omega (arith, here)))
    ∙ ap (λ xs. old ++ xs) (append-nil (b ∷ new))

-- a length that ends at the same place or before
then_low : (place count old : ℕ) → old ≤ place → length_then place count old ≤ place + count
then_low place count old low = elim (eqb_tells count 0) [
  | inl e ↦ omega (arith, low, ap (λ c. if c then old else max old (place + count)) e.0)
  | inr e ↦ omega (arith, low, ap (λ c. if c then old else max old (place + count)) e.0)
]

fewer_blocks : (most count : ℕ) → count ≤ most → blocks_for count ≤ blocks_for most
fewer_blocks most count low = omega (arith, low)

-- there is room for fewer bytes, whatever the file itself holds
pub room_for_fewer : (t : Parts) (n most count : ℕ) → count ≤ most → has_room n most t ≡ true → has_room n count t ≡ true
room_for_fewer t n most count low room =
    let blocks : ℕ = blocks_on (frame_alone t) (fs_of_object (frame_alone t) n) in
    let beside : ℕ = blocks_beside (frame_alone t) (content_alone t) n in
    let known : not (nat_lt blocks (beside + blocks_for most)) ≡ true = room in
    let enough : not (nat_lt blocks (beside + blocks_for count)) ≡ true = grind (arith, nat_tests, known, fewer_blocks most count low) in
    enough

pub room_stays : (t : Parts) (n : ℕ) (x : Holding) (count : ℕ) → has_room n count (record t { holdings = slice_set t.holdings n x }) ≡ has_room n count t
room_stays t n x count =
    let fs = fs_of_object (frame_alone t) n in
    let p : ℕ → Bool = λ m. not (m == n) && lies_on (frame_alone t) fs m in
    let itself : p n ≡ false = elim (eqb_tells n n) [
      | inl e ↦ ap (λ c. not c && lies_on (frame_alone t) fs n) e.0
      | inr e ↦ absurd (e.1 refl)
    ] in
    let here : 0 + n ≡ n = omega arith in
    ap (λ k. not (nat_lt (blocks_on (frame_alone t) fs) (k + blocks_for count))) (blocks_skip p 0 t.holdings n x (ap p here ∙ itself))

module _ (t : Parts) (n byte : ℕ) where
  abbrev pub held : Holding
  held = slice_index_or t.holdings n holds_nothing

  -- the file with the byte so many times behind its last
  abbrev pub behind : ℕ → Parts
  behind k = record t { holdings = slice_set t.holdings n (with_side 0 (held.first ++ replicate k byte) held) }

  pub begun : t ≡ behind 0
  begun =
      let same : with_side 0 (held.first ++ replicate 0 byte) held ≡ held = ap (λ bs. with_side 0 bs held) (append-nil held.first) in
      λ i. record t { holdings = sym (ap (slice_set t.holdings n) same ∙ set-get_or t.holdings n holds_nothing) i }

  module _ (k : ℕ) where
    there_inside : n < length t.holdings → slice_index_or (behind k).holdings n holds_nothing ≡ with_side 0 (held.first ++ replicate k byte) held
    there_inside low = get_or-set_same t.holdings n (with_side 0 (held.first ++ replicate k byte) held) holds_nothing low

    unchanged : length t.holdings ≤ n → slice_set t.holdings n (with_side 0 (held.first ++ replicate k byte) held) ≡ t.holdings
    unchanged past = set_past t.holdings n (with_side 0 (held.first ++ replicate k byte) held) past

    there_past : length t.holdings ≤ n → slice_index_or (behind k).holdings n holds_nothing ≡ holds_nothing
    there_past past = ap (λ (hs : List Holding). slice_index_or hs n holds_nothing) (unchanged past) ∙ get_or_past t.holdings n holds_nothing past

    long : (len : ℕ) → len ≡ length held.first → length (slice_index_or (behind k).holdings n holds_nothing).first ≤ len + k
    long len is = elim (cases_lt n (length t.holdings)) [
      | inl low ↦ omega (arith, ap (λ (h : Holding). length h.first) (there_inside low), length-append held.first (replicate k byte), length-replicate k byte, is)
      | inr past ↦ omega (arith, ap (λ (h : Holding). length h.first) (there_past past))
    ]

    -- a write of some more keeps within the same bounds
    pub ends_before : (len times part : ℕ) → len ≡ length held.first → k + part ≤ times
        → length_then (len + k) part (length (slice_index_or (behind k).holdings n holds_nothing).first) ≤ len + times
    ends_before len times part is low = omega (arith, low, then_low (len + k) part (length (slice_index_or (behind k).holdings n holds_nothing).first) (long len is))

    pub room_goes_on : (len from times part : ℕ) (new : List ℕ) (u : Parts) → len ≡ length held.first → from ≡ k → new ≡ replicate part byte → k + part ≤ times
        → u ≡ behind k → has_room n (length held.first + times) t ≡ true
        → has_room n (length_then (len + from) (length new) (length (slice_index_or u.holdings n holds_nothing).first)) u ≡ true
    room_goes_on len from times part new u is same what low before room =
        let old = length (slice_index_or (behind k).holdings n holds_nothing).first in
        let many : length new ≡ part = ap (λ (bs : List ℕ). length bs) what ∙ length-replicate part byte in
        let ends : length_then (len + from) (length new) old ≤ length held.first + times =
        omega (arith, low, is, same, many, then_low (len + from) (length new) old (omega (arith, same, long len is))) in
        subst (λ (w : Parts). has_room n (length_then (len + from) (length new) (length (slice_index_or w.holdings n holds_nothing).first)) w ≡ true) (sym before)
        (room_stays t n (with_side 0 (held.first ++ replicate k byte) held) (length_then (len + from) (length new) old)
        ∙ room_for_fewer t n (length held.first + times) (length_then (len + from) (length new) old) ends room)

    -- the bytes of one write more
    goes_on_there : (len part : ℕ) (new : List ℕ) (u v : Parts) → len ≡ length held.first → new ≡ replicate part byte → u ≡ behind k
        → v ≡ record u { holdings = slice_set u.holdings n (with_side 0 (spliced (len + k) new (slice_index_or u.holdings n holds_nothing).first) (slice_index_or u.holdings n holds_nothing)) }
        → v ≡ behind (k + part)
    goes_on_there len part new u v is what before after =
        let same : slice_set (behind k).holdings n (with_side 0 (spliced (len + k) new (slice_index_or (behind k).holdings n holds_nothing).first) (slice_index_or (behind k).holdings n holds_nothing))
        ≡ slice_set t.holdings n (with_side 0 (held.first ++ replicate (k + part) byte) held) = elim (cases_lt n (length t.holdings)) [ inl low ↦ inside low | inr past ↦ outside past ] in
        after
        ∙ ap (λ (w : Parts). let r : Parts =
        record w {
          holdings = slice_set w.holdings n (with_side 0 (spliced (len + k) new (slice_index_or w.holdings n holds_nothing).first)
              (slice_index_or w.holdings n holds_nothing));
        } in
        r) before
        ∙ (λ i. record t { holdings = same i })
      where
        inside : n < length t.holdings
            → slice_set (behind k).holdings n (with_side 0 (spliced (len + k) new (slice_index_or (behind k).holdings n holds_nothing).first)
            (slice_index_or (behind k).holdings n holds_nothing))
            ≡ slice_set t.holdings n (with_side 0 (held.first ++ replicate (k + part) byte) held)
        inside low =
            let old = held.first ++ replicate k byte in
            let ends : length old ≡ len + k = omega (arith, length-append held.first (replicate k byte), length-replicate k byte, is) in
            let bytes : spliced (len + k) new old ≡ held.first ++ replicate (k + part) byte = spliced_behind (len + k) new old ends ∙ ap (λ bs. old ++ bs) what
            ∙ append_assoc held.first (replicate k byte) (replicate part byte) ∙ ap (λ bs. held.first ++ bs) (replicate-append-replicate k part byte) in
            ap (λ (h : Holding). slice_set (behind k).holdings n (with_side 0 (spliced (len + k) new h.first) h)) (there_inside low)
            ∙ set-set t.holdings n (with_side 0 old held) (with_side 0 (spliced (len + k) new old) (with_side 0 old held))
            ∙ ap (λ bs. slice_set t.holdings n (with_side 0 bs held)) bytes

        outside : length t.holdings ≤ n
            → slice_set (behind k).holdings n (with_side 0 (spliced (len + k) new (slice_index_or (behind k).holdings n holds_nothing).first)
            (slice_index_or (behind k).holdings n holds_nothing))
            ≡ slice_set t.holdings n (with_side 0 (held.first ++ replicate (k + part) byte) held)
        outside past =
            let h : Holding = with_side 0 (spliced (len + k) new (slice_index_or (behind k).holdings n holds_nothing).first) (slice_index_or (behind k).holdings n holds_nothing) in
            ap (λ (hs : List Holding). slice_set hs n h) (unchanged past) ∙ set_past t.holdings n h past
            ∙ sym (set_past t.holdings n (with_side 0 (held.first ++ replicate (k + part) byte) held) past)

    pub goes_on : (len from part : ℕ) (new : List ℕ) (u v : Parts) → len ≡ length held.first → from ≡ k → new ≡ replicate part byte → u ≡ behind k
        → v ≡ record u { holdings = slice_set u.holdings n (with_side 0 (spliced (len + from) new (slice_index_or u.holdings n holds_nothing).first) (slice_index_or u.holdings n holds_nothing)) }
        → v ≡ behind (k + part)
    goes_on len from part new u v is same what before after =
        goes_on_there len part new u v is what before
        (after ∙ (λ i. record u {
          holdings =
              slice_set u.holdings n (with_side 0 (spliced (len + same i) new (slice_index_or u.holdings n holds_nothing).first)
              (slice_index_or u.holdings n holds_nothing));
        }))

-- ---- the bytes of a file that holds nothing yet
module _ (t : Parts) (n : ℕ) (said : List ℕ) where
  abbrev pub with_said : Parts
  with_said = record t { holdings = slice_set t.holdings n (record { first = said; second = [] }) }

  said_there : n < length t.holdings → slice_index_or with_said.holdings n holds_nothing ≡ record { first = said; second = [] }
  said_there low = get_or-set_same t.holdings n (record { first = said; second = [] }) holds_nothing low

  said_past : length t.holdings ≤ n → with_said.holdings ≡ t.holdings
  said_past past = set_past t.holdings n (record { first = said; second = [] }) past

  -- no more is there than was said
  pub said_short : length (slice_index_or with_said.holdings n holds_nothing).first ≤ length said
  said_short = elim (cases_lt n (length t.holdings)) [
    | inl low ↦ omega (arith, ap (λ (h : Holding). length h.first) (said_there low))
    | inr past ↦ omega (
      arith,
      ap (λ (hs : List Holding). length (slice_index_or hs n holds_nothing).first) (said_past past),
      ap (λ (h : Holding). length h.first) (get_or_past t.holdings n holds_nothing past),
    )
  ]

  -- a file whose all bytes have room has room for the byte so many times behind what was said
  pub room_filled_up : (times byte : ℕ) (bytes : List ℕ) (u : Parts) → said ++ replicate times byte ≡ bytes → u ≡ with_said
      → has_room n (length bytes) t ≡ true → has_room n (length (slice_index_or u.holdings n holds_nothing).first + times) u ≡ true
  room_filled_up times byte bytes u all first room =
      let said_first : ℕ = length (slice_index_or with_said.holdings n holds_nothing).first in
      let within : said_first + times ≤ length bytes =
      omega (arith, said_short, ap (λ (bs : List ℕ). length bs) all, length-append said (replicate times byte), length-replicate times byte) in
      subst (λ (w : Parts). has_room n (length (slice_index_or w.holdings n holds_nothing).first + times) w ≡ true) (sym first)
      (room_stays t n (record { first = said; second = [] }) (said_first + times) ∙ room_for_fewer t n (length bytes) (said_first + times) within room)

  -- and then a byte so many times
  pub filled_up : (times byte : ℕ) (bytes : List ℕ) (u v : Parts) → said ++ replicate times byte ≡ bytes → u ≡ with_said → v ≡ behind u n byte times
      → v ≡ record t { holdings = slice_set t.holdings n (record { first = bytes; second = [] }) }
  filled_up times byte bytes u v all first after =
      let same : (behind with_said n byte times).holdings ≡ slice_set t.holdings n (record { first = bytes; second = [] }) =
      elim (cases_lt n (length t.holdings)) [ inl low ↦ inside low | inr past ↦ outside past ] in
      after ∙ ap (λ (w : Parts). behind w n byte times) first ∙ (λ i. record t { holdings = same i })
    where
      inside : n < length t.holdings → (behind with_said n byte times).holdings ≡ slice_set t.holdings n (record { first = bytes; second = [] })
      inside low =
          ap (λ (h : Holding). slice_set with_said.holdings n (with_side 0 (h.first ++ replicate times byte) h)) (said_there low)
          ∙ set-set t.holdings n (record { first = said; second = [] }) (record { first = said ++ replicate times byte; second = [] })
          ∙ ap (λ bs. slice_set t.holdings n (record { first = bs; second = [] })) all

      outside : length t.holdings ≤ n → (behind with_said n byte times).holdings ≡ slice_set t.holdings n (record { first = bytes; second = [] })
      outside past =
          let h : Holding = slice_index_or with_said.holdings n holds_nothing in
          let more : Holding = with_side 0 (h.first ++ replicate times byte) h in
          ap (λ (hs : List Holding). slice_set hs n more) (said_past past) ∙ set_past t.holdings n more past
          ∙ sym (set_past t.holdings n (record { first = bytes; second = [] }) past)
