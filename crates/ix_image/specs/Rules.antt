-- What is said of an image that breaks a rule.
use Rattle.std.specs.Prelude.{ℕ, ◌==◌, List, codes, if◌then◌else◌}

-- by the rule's number; a number past the ninth is taken for it
unfoldable pub rule_text : ℕ → List ℕ
rule_text rule =
    if rule == 1 then codes "a byte is missing"
    else if rule == 2 then codes "the first bytes are not IXIMAGE1"
    else if rule == 3 then codes "a number is out of range"
    else if rule == 4 then codes "a name is not well formed"
    else if rule == 5 then codes "an object is out of order"
    else if rule == 6 then codes "a label is not below its ceiling"
    else if rule == 7 then codes "a byte is left over"
    else if rule == 8 then codes "the names do not fit"
    else codes "the image is too long"
