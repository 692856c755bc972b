use Rattle.std.proofs.Common.{◌≡◌, ◌++◌, length, take, drop, ap, ◌∙◌, arith, length-take}
use Rattle.ix_blocks.{specs.Files.bytes_of, proofs.Showing.{file_held, bytes_long, whole_long, held_by, front_of_bytes}}
use Rattle.ix_blocks.proofs.blocks.Blocks.read.Goals as goal

pub get-requires-clause-file : goal.get-requires-clause-file
get-requires-clause-file c = file_held c.self.inside _ c.self.view_is c.self.invariant _ c.requires

pub get-requires-clause-held : goal.get-requires-clause-held
get-requires-clause-held c = held_by c.self.inside _ c.self.view_is c.self.invariant _ c.requires _ _ c.len-len.ensures c.blocks_for-held.ensures

pub get-requires-clause-within : goal.get-requires-clause-within
get-requires-clause-within c = omega (
  arith,
  length-take c.min-count.result c.args.out.now,
  c.min-count.ensures,
  c.if-at-len.false,
  c.len-len.ensures,
  bytes_long c.self.inside c.args.self.now c.self.view_is c.self.invariant c.args.file c.requires,
  whole_long c.self.inside c.args.self.now c.self.view_is c.self.invariant c.args.file c.requires,
)

pub returns-clause-out : goal.returns-clause-out
returns-clause-out c =
    let count : length (take c.min-count.result c.args.out.now) ≡ c.min-count.result = omega (arith, length-take c.min-count.result c.args.out.now, c.min-count.ensures) in
    ap (λ xs. xs ++ drop c.min-count.result c.args.out.now)
    (c.get.ensures ∙ front_of_bytes c.self.inside c.args.self.now c.self.view_is c.self.invariant c.args.file c.requires c.args.at
    (length (take c.min-count.result c.args.out.now)) (omega (arith, count, c.min-count.ensures, c.if-at-len.false, c.len-len.ensures))
    ∙ ap (λ n. take n (drop c.args.at (bytes_of c.args.file c.args.self.now))) count)
