-- The first fault of a text that spells no label in a form. A place of the text is given by `back`, the bytes
-- that stand before it, the nearest first, and `ahead`, those that follow; it is counted by the
-- length of `back`. Where no earlier place has a fault, the bytes round a place tell what is due
-- there, and so whether it has one.
use Rattle.std.specs.Prelude.{ℕ, ◌+◌, ◌==◌, nat_eq, nat_lt, nat_le, Bool, true, false, not, ◌&&◌, ◌||◌, List, [], ◌∷◌, length, slice_index, reverse, drop, Option, None, Some, if◌then◌else◌, codes}
use Rattle.std.specs.List.{prefix_len, take_while}
use Rattle.std.specs.Char.{is_ascii_digit}
use Rattle.std.specs.Cmp.Lexicographic.{pointwise}
use Rattle.std.specs.Option.{option_or}
use Rattle.std.specs.Str.Parse.{digits_value}
use Rattle.ix_label.specs.declared.form.Form.{Form}
use Rattle.ix_label.specs.Forms.{greatest, whole_run}
use Rattle.ix_label.specs.declared.fault.LabelFault.{LabelFault}
use Rattle.ix_label.specs.declared.fault.LabelFault.TheVariants.{Empty, BadNumber, OutOfRange, NotAscending, NotLongest}
use Rattle.ix_label.specs.Spelling.{dash, comma}

-- whether the bytes are that text
abbrev pub is_text : List ℕ → List ℕ → Bool
is_text bytes wanted = pointwise nat_eq bytes wanted

-- the digits that stand at the place, and those that end there, the last first
abbrev pub digits : List ℕ → List ℕ
digits bytes = take_while is_ascii_digit bytes

-- the bytes after those digits
abbrev pub after_digits : List ℕ → List ℕ
after_digits bytes = drop (prefix_len is_ascii_digit bytes) bytes

-- the number that begins at the place, and the one that ends there
unfoldable pub number_ahead : List ℕ → ℕ
number_ahead ahead = digits_value 10 (digits ahead)

unfoldable pub number_back : List ℕ → ℕ
number_back back = digits_value 10 (reverse (digits back))

-- whether the nearest byte is a digit, a dash or a comma
unfoldable pub at_digit : List ℕ → Bool
at_digit [] = false
at_digit (b ∷ bytes) = is_ascii_digit b

unfoldable pub at_dash : List ℕ → Bool
at_dash [] = false
at_dash (b ∷ bytes) = b == dash

unfoldable pub at_comma : List ℕ → Bool
at_comma [] = false
at_comma (b ∷ bytes) = b == comma

-- a number is due at the start, and after a comma and a dash
unfoldable pub is_due : List ℕ → Bool
is_due [] = true
is_due (b ∷ back) = b == comma || b == dash

-- the last number before the place, where a comma or a dash stands between
unfoldable pub last_number : List ℕ → ℕ
last_number [] = 0
last_number (b ∷ back) = number_back back

-- digits that are no number: none, or more than one that begin with 0
unfoldable pub is_bad : List ℕ → Bool
is_bad ds = length ds == 0 || (nat_lt 1 (length ds) && slice_index ds 0 == 48)

-- the number is the second of a range or the first of a later item, and not above the last before it
unfoldable pub is_not_ascending : List ℕ → List ℕ → Bool
is_not_ascending back ahead = (at_dash back || at_comma back) && nat_le (number_ahead ahead) (last_number back)

-- the number is the first of a later item and the last before it plus one, or all is the form's whole run
unfoldable pub is_not_longest : Form → List ℕ → List ℕ → Bool
is_not_longest form back ahead =
    (at_comma back && number_ahead ahead == last_number back + 1)
    || (length back == 0 && is_text ahead (whole_run form))

-- the fault of the number that is due here
unfoldable pub number_fault : Form → List ℕ → List ℕ → Option LabelFault
number_fault form back ahead =
    if is_bad (digits ahead) then Some (BadNumber (length back))
    else if nat_lt (greatest form) (number_ahead ahead) then Some (OutOfRange (length back))
    else if is_not_ascending back ahead then Some (NotAscending (length back))
    else if is_not_longest form back ahead then Some (NotLongest (length back))
    else None

-- after a number stand the end, a comma or, if it is not the second of a range, a dash
unfoldable pub may_follow : List ℕ → List ℕ → Bool
may_follow back [] = true
may_follow back (b ∷ ahead) = b == comma || (b == dash && not (at_dash (after_digits back)))

-- the fault of what stands after a number that ends here
unfoldable pub follower_fault : List ℕ → List ℕ → Option LabelFault
follower_fault back ahead = if may_follow back ahead then None else Some (BadNumber (length back))

-- the fault at one place
unfoldable pub fault_here : Form → List ℕ → List ℕ → Option LabelFault
fault_here form back ahead =
    if is_due back then number_fault form back ahead
    else if at_digit back && not (at_digit ahead) then follower_fault back ahead
    else None

-- the first fault from a place on, to the end of the text
unfoldable pub first_fault : Form → List ℕ → List ℕ → Option LabelFault
first_fault form back [] = fault_here form back []
first_fault form back (b ∷ ahead) = option_or (fault_here form back (b ∷ ahead)) (first_fault form (b ∷ back) ahead)

-- the fault of a text; `-` and `*` have none
unfoldable pub fault_of : Form → List ℕ → Option LabelFault
fault_of form [] = Some Empty
fault_of form (b ∷ text) =
    if is_text (b ∷ text) (codes "-") || is_text (b ∷ text) (codes "*") then None
    else first_fault form [] (b ∷ text)
