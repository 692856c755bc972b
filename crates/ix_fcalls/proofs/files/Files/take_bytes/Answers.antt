use Rattle.std.proofs.Common.{◌≡◌, ◌≤◌, ◌++◌, ◌∙◌, ap, ℕ, List, arith, length, take, drop, min, slice_index_or, length-take}
use Rattle.ix_tables.specs.Parts.{Parts}
use Rattle.ix_model.specs.world.Contents.{holds_nothing, side}
use Rattle.ix_fcalls.proofs.Fronts.{read_front}
use Rattle.ix_fcalls.proofs.files.Files.take_bytes.Goals as goal

pub returns-clause-bytes : goal.returns-clause-bytes
returns-clause-bytes c =
    let bs : List ℕ = side c.args.end (slice_index_or c.args.self.now.holdings c.args.object holds_nothing) in
    let low : c.args.count ≤ length c.args.buf.now = omega (arith, c.told-buf, c.requires.few) in
    let fills : length (take c.args.count c.args.buf.now) ≡ c.args.count = omega (arith, length-take c.args.count c.args.buf.now, low) in
    let count : c.take.result ≡ min c.args.count (length bs) =
    c.take.ensures.count ∙ ap (λ (v : Parts). min (length (take c.args.count c.args.buf.now))
    (length (side c.args.end (slice_index_or v.holdings c.args.object holds_nothing)))) c.self.view_is ∙ ap (λ n. min n (length bs)) fills in
    read_front bs _ _ _ _ low count (c.take.ensures.out ∙ ap (λ (v : Parts). take c.take.result (side c.args.end (slice_index_or v.holdings c.args.object holds_nothing))
    ++ drop c.take.result (take c.args.count c.args.buf.now)) c.self.view_is)
