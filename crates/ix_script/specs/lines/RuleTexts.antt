-- What is said to a script that breaks a rule.
use Rattle.std.specs.Prelude.{ℕ, ◌==◌, nat_lt, List, if◌then◌else◌, codes}

-- the rules of the words of a line, and those before them
unfoldable pub first_rule_text : ℕ → List ℕ
first_rule_text rule =
    if rule == 1 then codes "the script is too long"
    else if rule == 2 then codes "a line is too long"
    else if rule == 3 then codes "a byte is not printable"
    else if rule == 4 then codes "a word is empty"
    else if rule == 5 then codes "a quote is not closed"
    else if rule == 6 then codes "the first line is not ix 1 or ix 2"
    else if rule == 7 then codes "the command is unknown"
    else if rule == 8 then codes "a header line stands after a phase"
    else if rule == 9 then codes "a line stands outside a lane"
    else codes "there is no policy"

-- the rules that a word can break
unfoldable pub word_rule_text : ℕ → List ℕ
word_rule_text rule =
    if rule == 10 then codes "the number of words is wrong"
    else if rule == 11 then codes "a name is not well formed"
    else if rule == 12 then codes "a number is not well formed"
    else if rule == 13 then codes "a number is out of range"
    else if rule == 14 then codes "a label is not well formed"
    else if rule == 15 then codes "a privilege set is not well formed"
    else if rule == 16 then codes "a path is not well formed"
    else if rule == 17 then codes "a mode or state is unknown"
    else if rule == 18 then codes "a payload is not well formed"
    else codes "a payload is too long"

-- the rules on a line among others
unfoldable pub last_rule_text : ℕ → List ℕ
last_rule_text rule =
    if rule == 20 then codes "a name is given twice"
    else if rule == 21 then codes "a name is unknown"
    else if rule == 22 then codes "a label is not below its ceiling"
    else if rule == 23 then codes "a path does not fit the tree"
    else if rule == 24 then codes "there is no room"
    else if rule == 25 then codes "a header line is out of order"
    else if rule == 26 then codes "there are too many"
    else if rule == 27 then codes "the policy is refused"
    else codes "there is no policy"

-- the text of a rule
unfoldable pub rule_text : ℕ → List ℕ
rule_text rule = if nat_lt rule 10 then first_rule_text rule else if nat_lt rule 20 then word_rule_text rule else last_rule_text rule
