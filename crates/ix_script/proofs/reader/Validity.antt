-- The parts of a valid config.
use Rattle.std.{proofs.{Common.{◌≡◌, ◌≤◌, true, ◌&&◌, List, [], length, map, refl}, lemmas.Bool.le-leb}, specs.List.list_all}
use Rattle.ix_model.specs.{opening.Valid.{is_within, all_differ, fs_fits, fss_fit, limits_fit, procs_fit, objects_fit, is_valid}, declared.config.FsSpec.FsSpec}
use Rattle.ix_script.specs.{lines.Before.{fss_of, limits_of, procs_of, objects_of}, scripts.{Need.need, Scripts.config_of}, declared.line.Line.Line}
use Rattle.ix_text.proofs.Tests.{both}

pub record Parts (lines : List Line) : Type 0 where
  pub fss : fss_fit (fss_of lines) ≡ true
  pub limits : limits_fit (limits_of lines) ≡ true
  pub procs : procs_fit (limits_of lines) (procs_of lines) ≡ true
  pub objects : objects_fit (fss_of lines) (limits_of lines) [] (objects_of lines) ≡ true

pub parts_of : (lines : List Line) → is_valid (config_of lines) ≡ true → Parts lines
unfolding is_valid config_of
parts_of lines h =
    let a = both _ _ h in
    let b = both _ _ a.0 in
    let c = both _ _ b.0 in
    let d = both _ _ c.0 in
    record { fss = d.0; limits = d.1; procs = c.1; objects = b.1 }

pub valid_by : (lines : List Line) → Parts lines → need lines ≤ 870400000 → is_valid (config_of lines) ≡ true
unfolding is_valid config_of
valid_by lines p few = rw (p.fss, p.limits, p.procs, p.objects, le-leb) refl

pub each_fits : (fss : List FsSpec) → fss_fit fss ≡ true → list_all fs_fits fss ≡ true
unfolding fss_fit
each_fits fss h = (both _ _ (both (is_within 1 16 (length fss) && list_all fs_fits fss) (all_differ (map (λ s. s.name) fss)) h).0).1

pub fits_of : (lines : List Line) → is_valid (config_of lines) ≡ true → list_all fs_fits (fss_of lines) ≡ true
fits_of lines h = each_fits _ (parts_of _ h).fss
