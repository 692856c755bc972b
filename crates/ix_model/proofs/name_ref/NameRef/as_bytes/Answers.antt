use Rattle.ix_model.{specs.world.NameRefs.name_of, proofs.texts.Joining.named}
use Rattle.ix_model.proofs.name_ref.NameRef.as_bytes.Goals as goal

pub returns-clause-few : goal.returns-clause-few
returns-clause-few c = (named (name_of c.args.self.now) c.args.self.now.named).few
