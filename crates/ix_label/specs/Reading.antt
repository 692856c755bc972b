-- What the reading of a text finds at a place, which is counted in bytes from 0.
use Rattle.std.specs.Prelude.{◌≡◌, ℕ, ◌+◌, ◌<◌, ◌≤◌, ◌==◌, nat_le, true, false, List, [], ◌++◌, length, reverse, take, drop, slice_get, Option, None, Some, Result, Ok, Err, if◌then◌else◌}
use Rattle.std.specs.Fmt.{decimal}
use Rattle.std.specs.Str.Parse.{digits_value}
use Rattle.ix_label.specs.declared.form.Form.{Form}
use Rattle.ix_label.specs.Forms.{greatest, IsWithin}
use Rattle.ix_label.specs.declared.fault.LabelFault.{LabelFault}
use Rattle.ix_label.specs.declared.fault.LabelFault.TheVariants.{BadNumber, NotAscending, NotLongest}
use Rattle.ix_label.specs.declared.read.Number.{Number}
use Rattle.ix_label.specs.declared.read.Item.{Item}
use Rattle.ix_label.specs.Spelling.{item, items, runs, comma}
use Rattle.ix_label.specs.Category.{Categories, bottom}
use Rattle.ix_label.specs.Faults.{at_comma, at_digit, last_number, number_back, number_fault, first_fault}

-- the bytes before a place, the nearest first
unfoldable pub back_from : List ℕ → ℕ → List ℕ
back_from text at = reverse (take at text)

-- the first fault from a place on
unfoldable pub fault_from : Form → List ℕ → ℕ → Option LabelFault
fault_from form text at = first_fault form (back_from text at) (drop at text)

-- the number is what the digits write, and no greater than the form's greatest
pub record IsValueOf (form : Form) (digits : List ℕ) (value : ℕ) : Type 0 where
  pub is : value ≡ digits_value 10 digits
  pub small : value ≤ greatest form

-- a number of the form is written at the place, and ends at the other
pub record IsNumberAt (form : Form) (text : List ℕ) (at value end : ℕ) : Type 0 where
  pub small : value ≤ greatest form
  pub within : end ≤ length text
  pub written : drop at text ≡ decimal value ++ drop end text
  pub ended : at_digit (drop end text) ≡ false

-- the number that is due at a place, or its fault, whatever stands before it
abbrev pub NumberRead : Form → List ℕ → ℕ → Result Number LabelFault → Type 0
NumberRead form text at (Ok n) = IsNumberAt form text at n.value n.end
NumberRead form text at (Err f) = (back : List ℕ) → length back ≡ at → number_fault form back (drop at text) ≡ Some f

-- at the place an item begins: the first, or one after a comma and that number
abbrev pub AfterLast : List ℕ → Option ℕ → Type 0
AfterLast back None = back ≡ []
AfterLast back (Some last) = (at_comma back ≡ true) × (last_number back ≡ last)

pub record BeginsItem (text : List ℕ) (at : ℕ) (last : Option ℕ) : Type 0 where
  pub within : at ≤ length text
  pub after : AfterLast (back_from text at) last

-- the number is neither below the last nor next to it
abbrev pub IsAbove : Option ℕ → ℕ → Type 0
IsAbove None first = Unit {0}
IsAbove (Some last) first = last + 1 < first

-- the fault of the first number of an item after the last number
unfoldable pub order_fault : Option ℕ → ℕ → ℕ → Option LabelFault
order_fault None first at = None
order_fault (Some last) first at = if nat_le first last then Some (NotAscending at) else if first == last + 1 then Some (NotLongest at) else None

-- the first fault from the end of an item on, by the byte that stands there
abbrev pub fault_after_item : Form → List ℕ → ℕ → Option ℕ → Option LabelFault
fault_after_item form text end None = None
fault_after_item form text end (Some b) = if b == comma then fault_from form text (end + 1) else Some (BadNumber end)

-- an item is written at the place, above the last number, and ends at the other
pub record IsItemAt (form : Form) (text : List ℕ) (at : ℕ) (last : Option ℕ) (first most end : ℕ) : Type 0 where
  pub order : first ≤ most
  pub small : most ≤ greatest form
  pub above : IsAbove last first
  pub within : end ≤ length text
  pub written : drop at text ≡ item (first, most) ++ drop end text
  pub number : number_back (back_from text end) ≡ most
  pub passed : fault_from form text at ≡ fault_after_item form text end (slice_get text end)

-- the item that begins at a place, or the text's first fault from there on
abbrev pub ItemRead : Form → List ℕ → ℕ → Option ℕ → Result Item LabelFault → Type 0
ItemRead form text at last (Ok i) = IsItemAt form text at last i.first i.last i.end
ItemRead form text at last (Err f) = fault_from form text at ≡ Some f

-- the text is the items of the label's runs, of which there is one at least, and has no fault
pub record IsRead (form : Form) (text : List ℕ) (s : Categories) : Type 0 where
  pub within : IsWithin form s
  pub some : s ≡ bottom → ⊥
  pub written : text ≡ items (runs s)
  pub faultless : fault_from form text 0 ≡ None

-- the label of a text of items, or the text's first fault
abbrev pub ItemsRead : Form → List ℕ → Result Categories LabelFault → Type 0
ItemsRead form text (Ok s) = IsRead form text s
ItemsRead form text (Err f) = fault_from form text 0 ≡ Some f
