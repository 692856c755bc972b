use Rattle.std.proofs.Common.{Err, sym, ap, ◌∙◌, arith}
use Rattle.ix_image.{specs.{Image.first_bytes, Reading.breaks}, proofs.Counting.{start_is, same_differs, same_further, rest_whole}}
use Rattle.ix_image.proofs.fields.start_at.Goals as goal

pub returns-then-bytes-i : goal.returns-then-bytes-i
returns-then-bytes-i c =
    start_is c.args.bytes.now c.if-bytes.false ∙ sym c.loop-i.invariant
    ∙ same_differs first_bytes c.args.bytes.now c.loop-i.i (omega arith) (omega arith) c.if-bytes-i.true
    ∙ ap (λ f. Err f) (sym (c.here.ensures ∙ ap (breaks 2) (rest_whole c.args.bytes.now c.loop-i.i)))

pub loop-i-preserved : goal.loop-i-preserved
loop-i-preserved c = same_further first_bytes c.args.bytes.now _ (omega arith) (omega arith) c.if-bytes-i.false ∙ c.loop-i.invariant
