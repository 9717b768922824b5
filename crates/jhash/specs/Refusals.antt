-- The numbers of the refusals, by the names that C has. 01 and 02 fix those up to 23, and 24 is added.
use Rattle.std.specs.Prelude.{ℕ}
use Rattle.jhash.specs.declared.refusals.Refusal.{Refusal}
use Rattle.jhash.specs.declared.refusals.Refusal.TheVariants.{TooShort, Unfit, NoRoom, Inconsistent, WrongLetters}
use Rattle.jhash.specs.declared.refusals.Refusal.TheVariants.{WrongByteOrder, TableLeaves, BackLeaves, NameTooLong}
use Rattle.jhash.specs.declared.refusals.Refusal.TheVariants.{BrokenBundle, NoSuchImage, PageTooLong, ZeroByte}
use Rattle.jhash.specs.declared.refusals.Refusal.TheVariants.{RoundUnfit, AnswersTooFew, Repeated, NotCanonical}
use Rattle.jhash.specs.declared.refusals.Refusal.TheVariants.{NoEntries, TooFewBytes, LeftOverBytes, SheetTooLarge}
use Rattle.jhash.specs.declared.refusals.Refusal.TheVariants.{NoSuchDate, NotBeforeEnd, IndexFull}

-- fewer than 2,072 bytes
abbrev pub too_short : ℕ
too_short = 1

-- the writer does not fit the buffer, or mode or repeats is neither 0 nor 1
abbrev pub unfit : ℕ
unfit = 2

-- the image would exceed the buffer or 4,294,967,295 bytes
abbrev pub no_room : ℕ
no_room = 3

-- the buffer's entries are not the writer's, or the image that close would write is too large
abbrev pub inconsistent : ℕ
inconsistent = 4

-- the image does not begin with the letters CQDB
abbrev pub wrong_letters : ℕ
wrong_letters = 5

-- the word at 12 is wrong
abbrev pub wrong_byte_order : ℕ
wrong_byte_order = 6

-- a table with an offset above 0 leaves the image
abbrev pub table_leaves : ℕ
table_leaves = 7

-- a back array with an offset above 0 leaves the image
abbrev pub back_leaves : ℕ
back_leaves = 8

-- the name has 4,294,967,295 bytes or more
abbrev pub name_too_long : ℕ
name_too_long = 9

-- the images of a bundle do not lie back to back, or the new one is unfit
abbrev pub broken_bundle : ℕ
broken_bundle = 10

-- the bundle ends at or before the position
abbrev pub no_such_image : ℕ
no_such_image = 11

-- the page has more bytes than the output
abbrev pub page_too_long : ℕ
page_too_long = 12

-- the name has a zero byte
abbrev pub zero_byte : ℕ
zero_byte = 13

-- ends that fall or pass the names, or more than 512 names or ids
abbrev pub round_unfit : ℕ
round_unfit = 14

-- fewer answer places than names or ids
abbrev pub answers_too_few : ℕ
answers_too_few = 15

-- repeats are off, and an earlier entry has this name
abbrev pub repeated : ℕ
repeated = 16

-- the bytes are not the image that some list of puts closes to
abbrev pub not_canonical : ℕ
not_canonical = 17

-- the image has no entry
abbrev pub no_entries : ℕ
no_entries = 18

-- the sheet ends before its third section does
abbrev pub too_few_bytes : ℕ
too_few_bytes = 19

-- bytes follow the third section of the sheet
abbrev pub left_over_bytes : ℕ
left_over_bytes = 20

-- a list of the sheet has more than 65,535 ids, or the buffer is too short
abbrev pub sheet_too_large : ℕ
sheet_too_large = 21

-- a date does not exist or is out of bounds
abbrev pub no_such_date : ℕ
no_such_date = 22

-- a window does not start before its end
abbrev pub not_before_end : ℕ
not_before_end = 23

-- every slot of the index is taken
abbrev pub index_full : ℕ
index_full = 24

-- the number of a refusal
abbrev pub number_of : Refusal → ℕ
number_of TooShort = too_short
number_of Unfit = unfit
number_of NoRoom = no_room
number_of Inconsistent = inconsistent
number_of WrongLetters = wrong_letters
number_of WrongByteOrder = wrong_byte_order
number_of TableLeaves = table_leaves
number_of BackLeaves = back_leaves
number_of NameTooLong = name_too_long
number_of BrokenBundle = broken_bundle
number_of NoSuchImage = no_such_image
number_of PageTooLong = page_too_long
number_of ZeroByte = zero_byte
number_of RoundUnfit = round_unfit
number_of AnswersTooFew = answers_too_few
number_of Repeated = repeated
number_of NotCanonical = not_canonical
number_of NoEntries = no_entries
number_of TooFewBytes = too_few_bytes
number_of LeftOverBytes = left_over_bytes
number_of SheetTooLarge = sheet_too_large
number_of NoSuchDate = no_such_date
number_of NotBeforeEnd = not_before_end
number_of IndexFull = index_full
