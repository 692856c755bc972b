use Rattle.std.proofs.Common.{sym, ap, ◌∙◌, arith, option_map}
use Rattle.ix_name.proofs.Found.{missed, hit_within, hit_some, hit_named}
use Rattle.ix_name.proofs.names.Names.find.Goals as goal

pub returns-in_err-index : goal.returns-in_err-index
returns-in_err-index c =
    ap (option_map _) c.from_residual.ensures
    ∙ sym (missed _ _ _ _ _ c.self.invariant _ c.self.view_is _ c.args.dir.0 c.args.name.now.bytes.now _ c.bucket_of-bucket.ensures.bucket c.deref.ensures.value c.in_err-index.ensures)

pub index-requires : goal.index-requires
index-requires c = omega (
  arith,
  hit_within _ _ _ _ _ c.self.invariant _ c.self.view_is _ c.args.dir.0 c.args.name.now.bytes.now _
      c.bucket_of-bucket.ensures.bucket c.deref.ensures.value c.in_ok-index.index c.in_ok-index.ensures,
  c.self.inside.entries.ok,
)

pub returns-in_err-entry : goal.returns-in_err-entry
returns-in_err-entry c =
    absurd (hit_some _ _ _ _ _ c.self.invariant _ c.self.view_is _ c.args.dir.0 c.args.name.now.bytes.now _ c.bucket_of-bucket.ensures.bucket
    c.deref.ensures.value c.in_ok-index.index c.in_ok-index.ensures c.index.result.now c.index.ensures c.in_err-entry.was)

pub returns : goal.returns
returns c = sym (hit_named _ _ _ _ _ c.self.invariant _ c.self.view_is _ c.args.dir.0 c.args.name.now.bytes.now _ c.bucket_of-bucket.ensures.bucket
    c.deref.ensures.value c.in_ok-index.index c.in_ok-index.ensures c.index.result.now c.in_ok-entry.entry c.index.ensures c.in_ok-entry.was)
