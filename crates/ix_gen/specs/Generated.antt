-- The text of the generator.
use Rattle.std.specs.Prelude.{ℕ, ◌%◌, ◌==◌, List, ◌++◌, codes, if◌then◌else◌}
use Rattle.std.specs.List.{flat_map, range_with_len}

-- what every text begins with: three processes, two files, and one lane that opens a file for each process
unfoldable pub beginning : List ℕ
beginning =
    codes "ix 1\n"
    ++ codes "limit log 0\n"
    ++ codes "proc a - 0-7 - -\n"
    ++ codes "proc b 3 * - -\n"
    ++ codes "proc c - - - -\n"
    ++ codes "file /x - free - - 64*00\n"
    ++ codes "file /y 5 free - - 64*00\n"
    ++ codes "phase\n"
    ++ codes "lane g\n"
    ++ codes "open a /x rw\n"
    ++ codes "open b /y r\n"
    ++ codes "open c /y r\n"

-- the line of the k-th command after that, by what is left of k where it is divided by 6
unfoldable pub line_at : ℕ → List ℕ
line_at k =
    if k % 6 == 1 then codes "seek a 0 0\n"
    else if k % 6 == 2 then codes "write a 0 8*41\n"
    else if k % 6 == 3 then codes "seek b 0 0\n"
    else if k % 6 == 4 then codes "read b 0 16\n"
    else if k % 6 == 5 then codes "read a 0 4\n"
    else codes "read c 0 8\n"

-- the text of n commands: the beginning, and then line k for k from 1 to n
unfoldable pub generated : ℕ → List ℕ
generated n = beginning ++ flat_map line_at (range_with_len 1 n)
