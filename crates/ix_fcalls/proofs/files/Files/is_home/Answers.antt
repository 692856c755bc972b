use Rattle.std.proofs.Common.{◌∙◌, ◌==◌, ℕ, List, not, length, slice_index_or, ap, arith}
use Rattle.ix_tables.specs.Parts.{Parts}
use Rattle.ix_fcalls.proofs.{Counting.homes_long, Unnaming.home_is}
use Rattle.ix_fcalls.proofs.files.Files.is_home.Goals as goal

pub is_home-requires : goal.is_home-requires
is_home-requires g c = omega (arith, c.requires.within, ap (λ (v : Parts). length v.homes) c.self.view_is, homes_long _ _ c.requires.counted)

pub returns : goal.returns
returns g c =
    let homes = ap (λ (v : Parts). v.homes) c.self.view_is in
    c.is_home.ensures ∙ ap (λ (hs : List ℕ). not (slice_index_or hs c.args.n 0 == 0)) homes ∙ home_is _ _ _ c.requires.counted c.requires.within
