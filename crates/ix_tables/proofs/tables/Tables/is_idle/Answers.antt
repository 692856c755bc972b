use Rattle.std.proofs.Common.{◌≡◌, ◌∙◌, ◌&&◌, nat_eq, true, not, Bool, ap, sym}
use Rattle.ix_model.specs.{world.World.held, declared.reply.Kind.Kind}
use Rattle.ix_tables.{specs.Parts.Parts, proofs.Unmaking.{goes, only_files, some_links, idle_is, none_idle}}
use Rattle.ix_tables.proofs.tables.Tables.is_idle.Goals as goal

pub returns-then-inode-eq0 : goal.returns-then-inode-eq0
returns-then-inode-eq0 c =
    let none : nat_eq c.in-Some.inode.links 0 ≡ true = ap (λ k. nat_eq k 0) c.if-inode-eq0.true in
    let opened = ap (λ (v : Parts). held v.opens c.args.n 0) c.self.view_is in
    sym (idle_is _ _ _ _ _ _ _ c.self.invariant.0 c.self.view_is c.args.n c.in-Some.inode c.requires c.in-Some.ensures.told
    ∙ ap (λ (k : Kind). goes k c.in-Some.inode.links (held c.args.self.now.opens c.args.n 0)) c.in-File.is
    ∙ ap (λ (b : Bool). b && not (held c.args.self.now.opens c.args.n 0)) none ∙ ap not (sym (c.held.ensures ∙ opened)))

pub returns-else-inode-eq0 : goal.returns-else-inode-eq0
returns-else-inode-eq0 c =
    let some = some_links c.in-Some.inode.links c.if-inode-eq0.false in
    some ∙ sym (idle_is _ _ _ _ _ _ _ c.self.invariant.0 c.self.view_is c.args.n c.in-Some.inode c.requires c.in-Some.ensures.told
    ∙ ap (λ (k : Kind). goes k c.in-Some.inode.links (held c.args.self.now.opens c.args.n 0)) c.in-File.is
    ∙ ap (λ (b : Bool). b && not (held c.args.self.now.opens c.args.n 0)) some)

pub returns-in_default : goal.returns-in_default
returns-in_default c =
    sym (idle_is _ _ _ _ _ _ _ c.self.invariant.0 c.self.view_is c.args.n c.in-Some.inode c.requires c.in-Some.ensures.told
    ∙ only_files c.in-Some.inode.kind c.in-Some.inode.links (held c.args.self.now.opens c.args.n 0) c.in_default.not-File)

pub returns-in-None : goal.returns-in-None
returns-in-None c = sym (none_idle _ _ _ _ _ _ _ c.self.invariant.0 c.self.view_is c.args.n c.requires c.in-None.ensures.told)
