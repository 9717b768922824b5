-- Worked examples of 02 (iii): lines, and pages. A line is shown without its line feed.
use Rattle.std.specs.Prelude.{ℕ, List, [], ◌∷◌}
use Prim.Native.String.{String}
use Rattle.std.proofs.Math.Option.{Option, none, some}
use Rattle.page.specs.Examples.Ascii.{bytes_of}

-- an id, its name or none, and its line
pub record LineRow : Type 0 where
  pub id : ℕ
  pub name : Option (List ℕ)
  pub shows : String

abbrev line_row : ℕ → Option (List ℕ) → String → LineRow
line_row id name shows = record { id = id; name = name; shows = shows }

abbrev text : String → Option (List ℕ)
text s = some (bytes_of s)

abbrev pub line_rows : List LineRow
line_rows =
    -- the smallest id, more digits, the largest id
    line_row 0 (text "A") "         0 A                                "
    ∷ line_row 9 (text "crane") "         9 crane                            "
    ∷ line_row 10 (text "north wall") "        10 north wall                       "
    ∷ line_row 4294967294 (text "quay") "4294967294 quay                             "
    -- no name; the empty name; a name of 32 hyphens
    ∷ line_row 7 none "         7 -------------------------------- "
    ∷ line_row 8 (text "") "         8                                  "
    ∷ line_row 1000000000 (text "--------------------------------") "1000000000 -------------------------------- "
    -- names of 31, 32 and 33 bytes
    ∷ line_row 31 (text "abcdefghijklmnopqrstuvwxyz01234") "        31 abcdefghijklmnopqrstuvwxyz01234  "
    ∷ line_row 32 (text "abcdefghijklmnopqrstuvwxyz012345") "        32 abcdefghijklmnopqrstuvwxyz012345 "
    ∷ line_row 33 (text "abcdefghijklmnopqrstuvwxyz0123456") "        33 abcdefghijklmnopqrstuvwxyz012345+"
    -- bytes 31, 32, 126, 127, 128 and 255, and a line feed
    ∷ line_row 5 (some (31 ∷ 32 ∷ 126 ∷ 127 ∷ 128 ∷ 255 ∷ 10 ∷ []))
    "         5 . ~....                          "
    ∷ []

-- the names of the ids from 0 on, and the page's lines
pub record PageRow : Type 0 where
  pub names : List (Option (List ℕ))
  pub shows : List String

abbrev page_row : List (Option (List ℕ)) → List String → PageRow
page_row names shows = record { names = names; shows = shows }

abbrev pub page_rows : List PageRow
page_rows =
    -- no id; A under 0 and B under 3, and the ids between them
    page_row [] []
    ∷ page_row (text "A" ∷ none ∷ none ∷ text "B" ∷ [])
    ("         0 A                                "
    ∷ "         1 -------------------------------- "
    ∷ "         2 -------------------------------- "
    ∷ "         3 B                                "
    ∷ [])
    ∷ []
