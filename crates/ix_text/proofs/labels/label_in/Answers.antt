use Rattle.std.proofs.Common.{sym}
use Rattle.ix_label.proofs.Fitting.{fits-within, within-fits, within-label}
use Rattle.ix_text.proofs.AllLabels.{label_found, label_missing}
use Rattle.ix_text.proofs.labels.label_in.Goals as goal

pub returns-in-Ok : goal.returns-in-Ok
returns-in-Ok c =
    let form = c.args.form in
    sym (label_found form c.args.word.now c.in-Ok.label (fits-within form _ c.is_label.ensures c.in-Ok.ensures.fits) (sym c.in-Ok.ensures.ok)
    (λ s small e. let one = c.read.ensures.spelled s (within-label form s small) (within-fits form s small) (sym e) in let two = c.in-Ok.is in cc))

pub returns-in-Err : goal.returns-in-Err
returns-in-Err c =
    let form = c.args.form in
    sym (label_missing form c.args.word.now (λ s small e. let one = c.read.ensures.spelled s (within-label form s small) (within-fits form s small) (sym e) in let two = c.in-Err.is in cc))
