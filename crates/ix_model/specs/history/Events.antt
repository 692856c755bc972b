-- Calls as they stand in a history, and its entries.
use Rattle.std.specs.Prelude.{ℕ, List}
use Rattle.ix_label.specs.Category.{Categories}
use Rattle.ix_model.specs.world.Naming.{PathOf}
use Rattle.ix_model.specs.declared.call.Mode.{Mode}
use Rattle.ix_model.specs.declared.call.Keep.{Keep}
use Rattle.ix_model.specs.declared.privs.PrivSet.{PrivSet}

-- a call, with the bytes that it writes
pub data Op : Type 0 where
  CreateAt : PathOf → Op
  OpenAt : PathOf → Mode → Op
  ReadFd : ℕ → ℕ → Op
  WriteFd : ℕ → List ℕ → Op
  CutFd : ℕ → ℕ → Op
  SeekFd : ℕ → ℕ → Op
  DupFd : ℕ → Op
  CloseFd : ℕ → Op
  MakePipe : Op
  MakeDir : PathOf → Op
  LinkAt : PathOf → PathOf → Op
  UnlinkAt : PathOf → Op
  RemoveDir : PathOf → Op
  ChangeDir : PathOf → Op
  StatAt : PathOf → Op
  ListAt : PathOf → ℕ → Op
  Fork : Keep → Op
  Exec : PathOf → Op
  Exit : ℕ → Op
  WaitChild : Op
  LabelOf : PathOf → Op
  SelfLabel : Op
  SetLabel : PathOf → Categories → Op
  SetSelf : Categories → Op
  Freeze : PathOf → Op
  FreezeSelf : Op
  Thaw : PathOf → Op
  ThawSelf : Op
  SetPriv : PathOf → PrivSet → PrivSet → Op
  DropLic : PrivSet → Op
  GrantLic : ℕ → PrivSet → Op
  SetCeiling : ℕ → Categories → Op
  Pex : ℕ → Op
  Unpex : ℕ → Op
  ReadLog : ℕ → Op

-- an entry of a history: the seat that made it, the line that it comes from, the calling process, and its call
pub record Event : Type 0 where
  pub seat : ℕ
  pub line : ℕ
  pub pid : ℕ
  pub op : Op
