use Rattle.ix_label.proofs.Walk.{left-falls}
use Rattle.ix_text.proofs.Items.{none_told, more_told, all_told, stays_twice, stays_whole}
use Rattle.ix_text.proofs.labels.push_runs.Goals as goal

pub runs-init : goal.runs-init
runs-init g c = record { stays = stays_whole c.args.out.now.items; told = none_told c.args.label.now c.args.out.now.items }

pub runs-smaller : goal.runs-smaller
runs-smaller g c = left-falls _ _ _ _ c.in-Some.ensures.run.0 c.in-Some.ensures.run.1

pub runs-preserved : goal.runs-preserved
runs-preserved g c = record {
  stays = stays_twice c.args.out.now.items c.runs.out.items c.push_item.new.out.items c.runs.invariant.stays c.push_item.ensures.stays;
  told = more_told _ _ _ _ _ _ _ c.runs.invariant.told c.in-Some.ensures.run.0 c.in-Some.ensures.run.1 c.in_ok-push_item.ensures.text;
}

pub returns-clause-text : goal.returns-clause-text
returns-clause-text g c = all_told _ _ _ _ c.runs.invariant.told c.in_default.ensures.run
