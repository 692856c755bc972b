use Rattle.std.{proofs.{Common.{◌≡◌, ℕ, ◌≤◌, ◌<◌, Option, Some, None, refl, sym, ◌∙◌, arith, ap}, lemmas.List.take_rest}, specs.Option.{IsSome, MatchOption}}
use Rattle.ix_script.{specs.texts.Spellings.payload_text, proofs.back.{Shorter.known_times, Shortest.times_alone}}
use Rattle.ix_script.proofs.writing.byte_of_times.Goals as goal

pub slice_bounds-value-count : goal.slice_bounds-value-count
slice_bounds-value-count c = (known_times _ (sym c.if-not-begins_with_digit.ensures) c.requires).long

pub unwrap-count-requires : goal.unwrap-count-requires
unwrap-count-requires c =
    let k = known_times _ (sym c.if-not-begins_with_digit.ensures) c.requires in
    told _ _ k.few c.value.ensures
  where
    told : (found : Option ℕ) (n : ℕ) → n ≤ 1048576 → MatchOption found (4294967295 < n) (λ m. m ≡ n) → IsSome found
    told None n few h = absurd (omega arith)
    told (Some m) n few h = refl

pub overflow_sub-word : goal.overflow_sub-word
overflow_sub-word c = omega (arith, (known_times c.args.word.now (sym c.if-not-begins_with_digit.ensures) c.requires).long)

pub returns : goal.returns
returns c =
    let k = known_times _ (sym c.if-not-begins_with_digit.ensures) c.requires in
    let n = rw c.unwrap-count.ensures at c.value.ensures in
    let shortest = times_alone _ _ _ k.len (omega (arith, n, c.if-word-count-2.false)) (omega (arith, n, c.if-word-count.false)) in
    rw (c.two_digits.ensures, take_rest, k.two) (omega (arith, k.long), ap payload_text k.bytes ∙ shortest ∙ k.text)
