use Rattle.ix_script.proofs.reader.Indexing.{place_indexed}
use Rattle.ix_script.proofs.index.Given.add.Goals as goal

pub returns : goal.returns
returns c = λ items are.
    rw (c.in-Some-Some.is-0, c.in-Some-Some.is-1, ← c.as_bytes.ensures.bytes, ← c.place_of-place.ensures.lane, ← c.place_of-place.ensures.name)
    (place_indexed c.place_of-place.result _ c.args.self.now.index c.insert.new.self _ c.in_ok-insert.ensures.updates are.0, are.1)
