-- What the reader keeps of the lines before.
use Rattle.std.specs.Prelude.{◌≡◌, ℕ, ◌+◌, ◌^◌, ◌<◌, ◌≤◌, ◌==◌, nat_lt, Bool, true, ◌&&◌, List, [], ◌∷◌, ◌++◌, length, take, drop, codes, slice_index, if◌then◌else◌}
use Rattle.std.specs.List.{list_any, list_all, slice_index_or}
use Rattle.std.proofs.Common.{option_map}
use Rattle.ix_model.specs.rows.Telling.{blocks_for}
use Rattle.ix_model.specs.world.Naming.{same_bytes}
use Rattle.ix_text.specs.Bytes.{is_empty}
use Rattle.ix_text.specs.Names.{is_script_name}
use Rattle.ix_model.specs.opening.Valid.{fs_of, is_valid, lying_on, blocks_taken}
use Rattle.ix_model.specs.declared.config.FsSpec.{FsSpec}
use Rattle.ix_model.specs.declared.config.ObjSpec.{ObjSpec}
use Rattle.ix_script.specs.lines.Before.{default_fs, fss_told, fss_of, limits_of, whats_told, proc_names, objects_of, group, has_policy, in_body}
use Rattle.ix_script.specs.lines.Before.{lane_now, phase_lanes, lanes_of, fds_given, procs_given, commands}
use Rattle.ix_script.specs.scripts.Packed.{IsNext}
use Rattle.ix_script.specs.scripts.Scripts.{config_of}
use Rattle.ix_label.specs.declared.form.Form.{Form}
use Rattle.ix_script.specs.declared.line.Line.{Line}
use Rattle.ix_script.specs.declared.body.Body.{Body}
use Rattle.ix_script.specs.declared.draft.Draft.{Draft}
use Rattle.ix_script.specs.declared.header.Header.{Header}
use Rattle.ix_script.specs.declared.header.Taken.{Taken}
use Rattle.ix_script.specs.declared.index.Names.{Names}
use Rattle.ix_script.specs.declared.index.Tree.{Tree}
use Rattle.ix_script.specs.reader.Indexed.{AreIndexed, AreNames, AreSites}

-- file systems, limits, processes, objects with what they take, and the policy
pub record HeaderTold (h : Header) (lines : List Line) : Type 0 where
  pub told : h.told ≡ length (fss_told lines)
  pub fss : h.fss ≡ fss_of lines
  pub few : length h.fss ≤ 16
  pub limits : h.limits ≡ limits_of lines
  pub whats : h.whats ≡ whats_told lines
  pub procs : AreNames h.procs (proc_names lines)
  pub proc_count : h.procs.count ≡ length (proc_names lines)
  pub made : AreSites h.made.index (objects_of lines)
  pub objects : h.made.count ≡ length (objects_of lines)
  pub counts : (k : ℕ) → k < 16 → slice_index h.taken.counts k ≡ length (lying_on (fss_of lines) k (objects_of lines))
  pub blocks : (k : ℕ) → k < 16 → slice_index h.taken.blocks k ≡ blocks_taken (fss_of lines) k (objects_of lines)
  pub latest : (g : ℕ) → list_any (λ b. nat_lt g (group b)) lines ≡ nat_lt g h.latest
  pub policy : h.policy ≡ has_policy lines

-- the lanes of the phase so far
abbrev pub phase_lanes_in : Body → List (List ℕ)
phase_lanes_in b = take b.in_order b.lanes ++ b.others

-- the phase has the first of the script's lanes in their order, and this is the name of the next
abbrev pub is_next : Body → List ℕ → Bool
is_next b name = is_empty b.others && nat_lt b.in_order (length b.lanes) && same_bytes name (slice_index_or b.lanes b.in_order [])

-- phases, lanes and commands
pub record BodyTold (b : Body) (lines : List Line) : Type 0 where
  pub started : b.started ≡ in_body lines
  pub lane : option_map (λ s. s.now) b.lane ≡ lane_now lines
  pub within : b.in_order ≤ length b.lanes
  pub phase_lanes : phase_lanes_in b ≡ phase_lanes lines
  pub lanes : b.lanes ≡ lanes_of lines
  pub named : list_all is_script_name b.lanes ≡ true
  pub fds : AreIndexed b.fds (fds_given lines)
  pub procs : AreIndexed b.procs (procs_given lines)
  pub commands : b.commands ≡ commands lines

-- ---- changes
-- an object that is so long more, on the file system where it lies
pub record TakenOne (fss : List FsSpec) (names : List (List ℕ)) (len : ℕ) (old new : Taken) : Type 0 where
  pub counts : slice_index old.counts (fs_of fss names) + 1 < 2 ^ 64 → (j : ℕ) → slice_index new.counts j ≡ (if j == fs_of fss names then
      slice_index old.counts (fs_of fss names) + 1 else slice_index old.counts j)
  pub blocks : slice_index old.blocks (fs_of fss names) + blocks_for len < 2 ^ 64 → (j : ℕ) → slice_index new.blocks j ≡ (if j == fs_of fss names then
      slice_index old.blocks (fs_of fss names) + blocks_for len else slice_index old.blocks j)

-- the object that a line tells more, if it tells one
abbrev pub Takes : List FsSpec → List ObjSpec → Taken → Taken → Type 0
Takes fss [] old new = new ≡ old
Takes fss (o ∷ os) old new = TakenOne fss o.path.names (length o.bytes) old new

-- objects more, in the index and in their number
pub record MakesMore (more : List ObjSpec) (old new : Tree) : Type 0 where
  pub sites : (objects : List ObjSpec) → AreSites old.index objects → AreSites new.index (objects ++ more)
  pub count : new.count ≡ old.count + length more

-- names more, in the index and in their number
pub record NamesMore (more : List (List ℕ)) (old new : Names) : Type 0 where
  pub names : (names : List (List ℕ)) → AreNames old names → AreNames new (names ++ more)
  pub count : new.count ≡ old.count + length more

-- a file system more in place of the one that is there where none is told; that one goes by the form of the first line
abbrev pub fss_after : Bool → ℕ → List FsSpec → Form → List FsSpec → List FsSpec
fss_after first told fss form [] = if first then default_fs form ∷ [] else fss
fss_after first told fss form (fs ∷ more) = if told == 0 then fs ∷ [] else fss ++ fs ∷ []

-- all that is kept
pub record DraftTold (d : Draft) : Type 0 where
  pub header : HeaderTold d.header d.lines.said
  pub body : BodyTold d.body d.lines.said

-- a line of that text may be added: it comes next, what the draft tells is right, what its lines say of a machine is valid, and they can be counted
pub record CanGrow (d : Draft) (text : List ℕ) : Type 0 where
  pub next : IsNext d.lines text
  pub told : DraftTold d
  pub valid : is_valid (config_of d.lines.said) ≡ true
  pub few : length d.lines.said + 1 < 2 ^ 32

-- the text is the line of the next lane
pub record IsNextLane (d : Draft) (text : List ℕ) : Type 0 where
  pub started : d.body.started ≡ true
  pub begins : take 5 text ≡ codes "lane "
  pub next : is_next d.body (drop 5 text) ≡ true
  pub few : d.body.in_order + 1 < 2 ^ 64
