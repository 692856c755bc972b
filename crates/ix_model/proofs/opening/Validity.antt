-- What a valid config's parts say.
use Rattle.std.{proofs.{Common.{◌≡◌, ◌<◌, ◌≤◌, true, List, [], length, map}, lemmas.Bool.{and_parts, leb-true}}, specs.List.list_all}
use Rattle.ix_label.specs.Category.{leq}
use Rattle.ix_model.specs.opening.Valid.{all_differ, fs_fits, fss_fit, limits_fit, procs_fit, objects_fit, is_valid}
use Rattle.ix_model.specs.declared.config.{Config.Config, FsSpec.FsSpec, Limits.Limits, ProcSpec.ProcSpec}

pub record FssFit (fss : List FsSpec) : Type 0 where
  pub some : 0 < length fss
  pub few : length fss ≤ 16
  pub each : list_all fs_fits fss ≡ true
  pub differ : all_differ (map (λ s. s.name) fss) ≡ true

pub record LimitsFit (l : Limits) : Type 0 where
  pub procs : l.procs ≤ 1024
  pub pipes : l.pipes ≤ 1024
  pub names : 16 ≤ l.names

pub record ProcsFit (l : Limits) (procs : List ProcSpec) : Type 0 where
  pub few : length procs ≤ l.procs
  pub low : list_all (λ p. leq p.label p.ceiling) procs ≡ true

pub record Valid (c : Config) : Type 0 where
  pub fss : FssFit c.fss
  pub limits : LimitsFit c.limits
  pub procs : ProcsFit c.limits c.procs
  pub objects : objects_fit c.fss c.limits [] c.objects ≡ true

fss_parts : (fss : List FsSpec) → fss_fit fss ≡ true → FssFit fss
unfolding fss_fit
fss_parts fss fit =
    let p1 = and_parts _ (all_differ (map (λ s. s.name) fss)) fit in
    let p2 = and_parts _ _ p1.0 in
    let p3 = and_parts _ _ p2.0 in
    record { some = leb-true 1 _ p3.0; few = leb-true _ 16 p3.1; each = p2.1; differ = p1.1 }

limits_parts : (l : Limits) → limits_fit l ≡ true → LimitsFit l
unfolding limits_fit
limits_parts l fit =
    let p1 = and_parts _ _ fit in
    let p2 = and_parts _ _ p1.0 in
    let p3 = and_parts _ _ p2.0 in
    let p4 = and_parts _ _ p3.0 in
    let procs = and_parts _ _ p4.0 in
    let names = and_parts _ _ p2.1 in
    record { procs = leb-true l.procs 1024 procs.1; pipes = leb-true l.pipes 1024 p3.1; names = leb-true 16 l.names names.0 }

procs_parts : (l : Limits) (procs : List ProcSpec) → procs_fit l procs ≡ true → ProcsFit l procs
unfolding procs_fit
procs_parts l procs fit =
    let p = and_parts _ (list_all (λ q. leq q.label q.ceiling) procs) fit in
    record { few = leb-true _ l.procs p.0; low = p.1 }

pub valid_parts : (c : Config) → is_valid c ≡ true → Valid c
unfolding is_valid
valid_parts c valid =
    let p1 = and_parts _ _ valid in
    let p2 = and_parts _ _ p1.0 in
    let p3 = and_parts _ _ p2.0 in
    let p4 = and_parts _ _ p3.0 in
    record { fss = fss_parts _ p4.0; limits = limits_parts _ p4.1; procs = procs_parts _ _ p3.1; objects = p2.1 }
