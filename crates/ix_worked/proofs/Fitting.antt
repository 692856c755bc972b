-- Which configs are valid, computed.
use Rattle.std.proofs.Common.{◌≡◌, true, false, refl}
use Rattle.ix_model.specs.opening.Valid.{is_valid}
use Rattle.ix_worked.specs.{Configs.{AllValid, file_systems_that_fit, file_systems_that_do_not, limits_that_fit, limits_that_do_not, processes_that_fit}, ToldUp.{notebook, drawer, bureau}}
use Rattle.ix_worked.{specs.Configs.{processes_that_do_not, objects_that_fit, objects_that_do_not}, proofs.{Computing.fitting, Labels.labels}}
use Rattle.ix_worked.specs.{Scripts.{three, three_and_five}, floating.{Untouched.untouched, Floating.reading_up, FileCeiling.low_files}}
use Rattle.ix_worked.specs.{floating.{TwoLevels.two_levels, LooksAnew.held_low, FrozenFile.a_frozen_file}, pipes.FullPipe.one_process}
use Rattle.ix_worked.specs.{floating.HighDirectory.a_high_directory, files.{SharedEntry.one_file, FewBlocks.two_blocks, Trees.two_file_systems}}
use Rattle.ix_worked.specs.{privileges.{Downgrading.one_line, ReadingTheLog.two_lines, Executing.programs, Login.office}, short.OnProcesses.{family, house}}
use Rattle.ix_worked.specs.{processes.{Inheriting.letters, Waiting.a_secret, SharedOffset.{one_shared, below_seven}}, short.OnDescriptors.{desk, long_desk}}
use Rattle.ix_worked.specs.short.{OnPaths.{shelves, furnished, full, tight, full_with_a_root, crowded, poor, attic}, OnEntries.shared_desk}
use Rattle.ix_worked.specs.short.OnLabels.{levels, no_lines, officers, heights, low_house, pair, chest, two_steps, program, stiff_house, towers}

pub file_systems_fit : AllValid true file_systems_that_fit
unfolding fitting
file_systems_fit = refl

pub file_systems_do_not : AllValid false file_systems_that_do_not
unfolding fitting
file_systems_do_not = refl

pub limits_fit : AllValid true limits_that_fit
unfolding fitting
limits_fit = refl

pub limits_do_not : AllValid false limits_that_do_not
unfolding fitting
limits_do_not = refl

pub processes_fit : AllValid true processes_that_fit
unfolding fitting
processes_fit = simp labels refl

pub processes_do_not : AllValid false processes_that_do_not
unfolding fitting
processes_do_not = simp labels refl

pub objects_fit : AllValid true objects_that_fit
unfolding fitting
objects_fit = simp labels refl

pub objects_do_not : AllValid false objects_that_do_not
unfolding fitting
objects_do_not = simp labels refl

-- ---- the configs of the sessions
pub untouched_fits : is_valid untouched ≡ true
unfolding fitting
untouched_fits = refl

pub up_to_three_fits : is_valid (reading_up three) ≡ true
unfolding fitting
up_to_three_fits = simp labels refl

pub up_to_both_fits : is_valid (reading_up three_and_five) ≡ true
unfolding fitting
up_to_both_fits = simp labels refl

pub low_files_fits : is_valid low_files ≡ true
unfolding fitting
low_files_fits = simp labels refl

pub two_levels_fits : is_valid two_levels ≡ true
unfolding fitting
two_levels_fits = simp labels refl

pub held_low_fits : is_valid held_low ≡ true
unfolding fitting
held_low_fits = simp labels refl

pub a_frozen_file_fits : is_valid a_frozen_file ≡ true
unfolding fitting
a_frozen_file_fits = simp labels refl

pub one_line_fits : is_valid one_line ≡ true
unfolding fitting
one_line_fits = simp labels refl

pub two_lines_fits : is_valid two_lines ≡ true
unfolding fitting
two_lines_fits = simp labels refl

pub programs_fits : is_valid programs ≡ true
unfolding fitting
programs_fits = simp labels refl

pub one_file_fits : is_valid one_file ≡ true
unfolding fitting
one_file_fits = simp labels refl

pub two_blocks_fits : is_valid two_blocks ≡ true
unfolding fitting
two_blocks_fits = simp labels refl

pub letters_fits : is_valid letters ≡ true
unfolding fitting
letters_fits = simp labels refl

pub a_secret_fits : is_valid a_secret ≡ true
unfolding fitting
a_secret_fits = simp labels refl

pub one_shared_fits : is_valid one_shared ≡ true
unfolding fitting
one_shared_fits = simp labels refl

pub below_seven_fits : is_valid below_seven ≡ true
unfolding fitting
below_seven_fits = simp labels refl

pub two_file_systems_fits : is_valid two_file_systems ≡ true
unfolding fitting
two_file_systems_fits = simp labels refl

pub a_high_directory_fits : is_valid a_high_directory ≡ true
unfolding fitting
a_high_directory_fits = simp labels refl

pub one_process_fits : is_valid one_process ≡ true
unfolding fitting
one_process_fits = simp labels refl

pub office_fits : is_valid office ≡ true
unfolding fitting
office_fits = simp labels refl

-- ---- those of the short histories
pub family_fits : is_valid family ≡ true
unfolding fitting
family_fits = simp labels refl

pub house_fits : is_valid house ≡ true
unfolding fitting
house_fits = simp labels refl

pub desk_fits : is_valid desk ≡ true
unfolding fitting
desk_fits = simp labels refl

pub long_desk_fits : is_valid long_desk ≡ true
unfolding fitting
long_desk_fits = simp labels refl

pub shelves_fits : is_valid shelves ≡ true
unfolding fitting
shelves_fits = simp labels refl

pub furnished_fits : is_valid furnished ≡ true
unfolding fitting
furnished_fits = simp labels refl

pub full_fits : is_valid full ≡ true
unfolding fitting
full_fits = simp labels refl

pub tight_fits : is_valid tight ≡ true
unfolding fitting
tight_fits = simp labels refl

pub full_with_a_root_fits : is_valid full_with_a_root ≡ true
unfolding fitting
full_with_a_root_fits = simp labels refl

pub crowded_fits : is_valid crowded ≡ true
unfolding fitting
crowded_fits = simp labels refl

pub poor_fits : is_valid poor ≡ true
unfolding fitting
poor_fits = simp labels refl

pub attic_fits : is_valid attic ≡ true
unfolding fitting
attic_fits = simp labels refl

pub levels_fits : is_valid levels ≡ true
unfolding fitting
levels_fits = simp labels refl

pub no_lines_fits : is_valid no_lines ≡ true
unfolding fitting
no_lines_fits = simp labels refl

pub officers_fits : is_valid officers ≡ true
unfolding fitting
officers_fits = simp labels refl

pub heights_fits : is_valid heights ≡ true
unfolding fitting
heights_fits = simp labels refl

pub low_house_fits : is_valid low_house ≡ true
unfolding fitting
low_house_fits = simp labels refl

pub pair_fits : is_valid pair ≡ true
unfolding fitting
pair_fits = simp labels refl

pub chest_fits : is_valid chest ≡ true
unfolding fitting
chest_fits = simp labels refl

pub two_steps_fits : is_valid two_steps ≡ true
unfolding fitting
two_steps_fits = simp labels refl

pub program_fits : is_valid program ≡ true
unfolding fitting
program_fits = simp labels refl

pub stiff_house_fits : is_valid stiff_house ≡ true
unfolding fitting
stiff_house_fits = simp labels refl

pub towers_fits : is_valid towers ≡ true
unfolding fitting
towers_fits = simp labels refl

pub shared_desk_fits : is_valid shared_desk ≡ true
unfolding fitting
shared_desk_fits = simp labels refl

pub notebook_fits : is_valid notebook ≡ true
unfolding fitting
notebook_fits = simp labels refl

pub drawer_fits : is_valid drawer ≡ true
unfolding fitting
drawer_fits = simp labels refl

pub bureau_fits : is_valid bureau ≡ true
unfolding fitting
bureau_fits = simp labels refl
