use Rattle.std.proofs.Common.{◌≡◌, ◌/◌, ◌≤◌, [], length, unwrap_or, arith, sym, ap, ◌∙◌}
use Rattle.ix_script.specs.texts.Payloads.{pairs_of}
use Rattle.ix_script.proofs.texts.Decoding.{begin, pairs_twice, chunk_count, chunk_pair, chunk_digits, by_digits, more, all_there}
use Rattle.ix_script.proofs.payload.decode_pairs.Goals as goal

pub bytes-init : goal.bytes-init
bytes-init c =
    let count : c.min-count.result ≡ length (unwrap_or (pairs_of c.args.text.now) []) =
    omega (
      arith,
      c.min-count.ensures,
      ap length c.as_chunks.ensures.front,
      chunk_count (length c.args.text.now / 2) c.args.text.now,
      pairs_twice c.args.text.now c.requires.spelled,
      c.requires.room,
    ) in
    let d = begin _ _ _ c.requires.spelled count in
    record { twice = d.twice; some = d.some; front = d.front; len = d.len }

pub digit_value-requires : goal.digit_value-requires
digit_value-requires c =
    let h = c.bytes.invariant in
    rw c.as_chunks.ensures.front (chunk_digits c.args.text.now (length c.args.text.now / 2) c.bytes.i (omega (arith, h.twice, c.bytes-test.true)) (omega (arith, h.twice, c.bytes-test.true)) h.some).0

pub digit_value-requires-in-bytes : goal.digit_value-requires-in-bytes
digit_value-requires-in-bytes c =
    let h = c.bytes.invariant in
    rw c.as_chunks.ensures.front (chunk_digits c.args.text.now (length c.args.text.now / 2) c.bytes.i (omega (arith, h.twice, c.bytes-test.true)) (omega (arith, h.twice, c.bytes-test.true)) h.some).1

pub bytes-preserved : goal.bytes-preserved
bytes-preserved c =
    let h = c.bytes.invariant in
    let high = rw c.as_chunks.ensures.front at c.digit_value.ensures.value in
    let low = rw c.as_chunks.ensures.front at c.digit_value-in-bytes.ensures.value in
    let byte = sym (chunk_pair c.args.text.now (length _ / 2) c.bytes.i (omega (arith, h.twice, c.bytes-test.true))) ∙ by_digits _ _ _ _ high low in
    let room : c.min-count.result ≤ length c.args.buf.now = omega (arith, c.min-count.ensures) in
    let d = more _ _ _ _ _ _ c.bytes-test.true room byte (record { twice = h.twice; some = h.some; front = h.front; len = h.len }) in
    record { twice = d.twice; some = d.some; front = d.front; len = d.len }

pub returns-clause-front : goal.returns-clause-front
returns-clause-front c =
    let h = c.bytes.invariant in
    all_there _ _ c.bytes.i c.min-count.result (length c.args.buf.now) c.requires.spelled (omega (arith, c.bytes-test.false)) (omega (arith, c.bytes.auto.i-end))
    (record { twice = h.twice; some = h.some; front = h.front; len = h.len })
