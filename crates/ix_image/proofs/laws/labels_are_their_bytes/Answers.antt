use Rattle.ix_image.proofs.Labelling.{label_back, bytes_back}
use Rattle.ix_image.proofs.laws.labels_are_their_bytes.Goals as goal

pub returns : goal.returns
returns c = record { same = record { label = label_back; bytes = bytes_back } }
