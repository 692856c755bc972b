use Rattle.std.proofs.Common.{arith, ap, ◌∙◌}
use Rattle.ix_model.{specs.world.Texts.names_in, proofs.texts.Joining.grows}
use Rattle.ix_model.proofs.path_buf.PathBuf.push.Goals as goal

pub put_name-len-requires-clause-room : goal.put_name-len-requires-clause-room
put_name-len-requires-clause-room c =
    (grows _ c.args.name.bytes.now _ c.self.inside.count c.self.invariant.text c.as_bytes.ensures.name c.as_bytes.ensures.bytes c.self.invariant.counted
    (omega (arith, c.if-self-ge-PATH_MAX.false))).fits

pub invariant_of-self : goal.invariant_of-self
invariant_of-self c =
    let g = grows _ c.args.name.bytes.now _ c.self.inside.count c.self.invariant.text c.as_bytes.ensures.name c.as_bytes.ensures.bytes c.self.invariant.counted
    (omega (arith, c.if-self-ge-PATH_MAX.false)) in
    record { fits = c.put_name-len.ensures.fits; text = rw c.put_name-len.ensures.written g.is; counted = rw c.put_name-len.ensures.written g.counted }

pub returns-clause-pushed : goal.returns-clause-pushed
returns-clause-pushed c =
    let g = grows _ c.args.name.bytes.now _ c.self.inside.count c.self.invariant.text c.as_bytes.ensures.name c.as_bytes.ensures.bytes c.self.invariant.counted
    (omega (arith, c.if-self-ge-PATH_MAX.false)) in
    let names = ap names_in c.put_name-len.ensures.written ∙ g.names in
    rw (← c.self.view_is) (λ i. record { absolute = c.self.inside.absolute; names = names i })
