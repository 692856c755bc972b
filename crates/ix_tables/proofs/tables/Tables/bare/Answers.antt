use Rattle.std.proofs.Common.{◌≡◌, ◌+◌, ◌≤◌, ℕ, List, length, map, ap, sym, ◌∙◌, arith}
use Rattle.ix_model.{specs.{opening.Valid.all_differ, world.Numbers.first_pipe, declared.config.FsSpec.FsSpec}, proofs.opening.Validity.valid_parts}
use Rattle.ix_inode.specs.Nodes.{Nodes, are_within, opened}
use Rattle.ix_tables.specs.{Joined.joined, Opening.{roots_named, homes_at_first}}
use Rattle.ix_tables.proofs.OpeningBare.{bare_names, bare_opens, bare_homes, bare_view}
use Rattle.ix_tables.proofs.OpeningJoined.{fss_within, some_inode, bare_joined, first_is, joined_as}
use Rattle.ix_open.specs.Table.{none_open}
use Rattle.ix_tables.proofs.tables.Tables.bare.Goals.{In_ok-homes_of}
use Rattle.ix_tables.proofs.tables.Tables.bare.Goals as goal

pub count_inodes-first_pipe-requires : goal.count_inodes-first_pipe-requires
count_inodes-first_pipe-requires c = ap are_within c.as_slice-fss.ensures ∙ fss_within c.args.config.now.fss (valid_parts c.args.config.now c.requires).fss

pub overflow_add-objects : goal.overflow_add-objects
overflow_add-objects c = omega (arith, c.count_inodes-first_pipe.ensures.few, (valid_parts c.args.config.now c.requires).limits.pipes)

pub new-requires : goal.new-requires
new-requires c = ap are_within c.as_slice-fss.ensures ∙ fss_within c.args.config.now.fss (valid_parts c.args.config.now c.requires).fss

pub name_roots-requires-clause-within : goal.name_roots-requires-clause-within
name_roots-requires-clause-within c = ap are_within c.as_slice-fss.ensures ∙ fss_within c.args.config.now.fss (valid_parts c.args.config.now c.requires).fss

pub name_roots-requires-clause-differ : goal.name_roots-requires-clause-differ
name_roots-requires-clause-differ c = ap (λ (fss : List FsSpec). all_differ (map (λ s. s.name) fss)) c.as_slice-fss.ensures ∙ (valid_parts c.args.config.now c.requires).fss.differ

pub name_roots-requires-clause-some : goal.name_roots-requires-clause-some
name_roots-requires-clause-some c = omega (arith, ap length c.as_slice-fss.ensures, (valid_parts c.args.config.now c.requires).fss.some)

pub name_roots-requires-clause-entries : goal.name_roots-requires-clause-entries
name_roots-requires-clause-entries c = omega (arith, ap length c.as_slice-fss.ensures, (valid_parts c.args.config.now c.requires).fss.few, (valid_parts c.args.config.now c.requires).limits.names)

pub name_roots-requires-clause-inodes : goal.name_roots-requires-clause-inodes
name_roots-requires-clause-inodes c =
    let v = valid_parts c.args.config.now c.requires in
    omega (arith, c.count_inodes-first_pipe.ensures.inodes, ap first_pipe c.as_slice-fss.ensures, some_inode c.args.config.now.fss v.fss.each v.fss.some)

pub overflow_cast-len : goal.overflow_cast-len
overflow_cast-len c =
    let v = valid_parts c.args.config.now c.requires in
    omega (arith, c.len.ensures, v.procs.few, v.limits.procs)

pub homes_of-requires : goal.homes_of-requires
homes_of-requires c =
    let v = valid_parts c.args.config.now c.requires in
    omega (arith, c.count_inodes-first_pipe.ensures.inodes, ap first_pipe c.as_slice-fss.ensures, some_inode c.args.config.now.fss v.fss.each v.fss.some)

made : (c : In_ok-homes_of) → (c.in_ok-new.field-0 ≡ opened c.args.config.now.fss) × ((c.in_ok-name_roots.field-0 ≡ bare_names c.args.config.now)
    × ((c.in_ok-new-3.field-0 ≡ bare_opens c.args.config.now) × (c.in_ok-homes_of.field-0.items ≡ bare_homes c.args.config.now)))
made c =
    let fss = c.as_slice-fss.ensures in
    let first = c.count_inodes-first_pipe.ensures.inodes ∙ ap first_pipe fss in
    let limits = c.args.config.now.limits in (
      c.in_ok-new.ensures ∙ ap opened fss,
      (
        c.in_ok-name_roots.ensures ∙ (λ i. roots_named limits.names (first i) (fss i)),
        (c.in_ok-new-3.ensures ∙ ap (λ (n : ℕ). none_open limits.opens (n + limits.pipes)) first, c.in_ok-homes_of.ensures ∙ (λ i. homes_at_first (first i + limits.pipes) (c.len.ensures i))),
      ),
    )

pub invariant_of-result : goal.invariant_of-result
invariant_of-result c =
    let m = made c in
    let first = c.count_inodes-first_pipe.ensures.inodes ∙ ap first_pipe c.as_slice-fss.ensures in
    let few : first_pipe c.args.config.now.fss ≤ 1048576 = omega (arith, first, c.count_inodes-first_pipe.ensures.few) in (
      joined_as c.args.config.now _ _ _ _ _ m.0 m.1.0 c.in_ok-new-2.ensures m.1.1.0 m.1.1.1 (bare_joined c.args.config.now c.requires few),
      first ∙ first_is c.args.config.now c.requires ∙ ap (λ (ns : Nodes). length ns.nodes) (sym m.0),
    )

pub returns : goal.returns
returns c =
    let m = made c in
    let v = valid_parts c.args.config.now c.requires in
    (λ i. joined c.args.config.now.limits (m.0 i) (m.1.0 i) (c.in_ok-new-2.ensures i) (m.1.1.0 i) (m.1.1.1 i))
    ∙ bare_view c.args.config.now v.fss.each (some_inode c.args.config.now.fss v.fss.each v.fss.some)
