-- The numbers of documents 01 and 02 that have a meaning of their own.
use Rattle.std.specs.Prelude.{ℕ}

-- "64 rows, 0 to 63"
abbrev pub row_count : ℕ
row_count = 64

-- the highest command in use
abbrev pub last : ℕ
last = 37

-- the one that takes back
abbrev pub undo : ℕ
undo = 33

-- "the last 64 such commands are remembered"
abbrev pub history_depth : ℕ
history_depth = 64

-- ---- kinds
-- "each empty (kind 0, its numbers +0), a point (1) or a direction (2)"
abbrev pub empty_kind : ℕ
empty_kind = 0

abbrev pub point_kind : ℕ
point_kind = 1

abbrev pub direction_kind : ℕ
direction_kind = 2

-- "25 to 28 answer row 0, kind 3"; "29 to 31 row 0, kind 4"
abbrev pub number_kind : ℕ
number_kind = 3

abbrev pub whole_kind : ℕ
whole_kind = 4

-- "commands 26 and 27 answer kind 5 in place of 3 when the last root was exact"
abbrev pub exact_kind : ℕ
exact_kind = 5

-- "A row may be a plane (kind 6)"
abbrev pub plane_kind : ℕ
plane_kind = 6

-- ---- refusals ("Refused, and by whose doing"); 0 stands for none
-- "1, not 45 bytes before a line feed, or a field ill formed"
abbrev pub ill_formed : ℕ
ill_formed = 1

-- "2, command above 32"; "From here on refusal 2 begins above the highest command in use"
abbrev pub unknown_command : ℕ
unknown_command = 2

-- "3, a used row above 63, or t = 63 in 24"
abbrev pub row_outside : ℕ
row_outside = 3

-- "4, a source empty, or no direction in 22 to 24"
abbrev pub unfit_source : ℕ
unfit_source = 4

-- "5, a used value not finite, or in 10 not 0 ≤ u ≤ v, or in 23 u outside 0.25 to 4"
abbrev pub value_outside : ℕ
value_outside = 5

-- "6, a point or number result not finite"
abbrev pub result_infinite : ℕ
result_infinite = 6

-- "7, in 2 .. no direction; in 11 and 12 with b a point, 1/(b·b) not finite; in 28 a `length_squared` of zero"
abbrev pub direction_missing : ℕ
direction_missing = 7

-- "8, in 23, `refract`'s k below zero"
abbrev pub all_reflected : ℕ
all_reflected = 8

-- "9, fewer than 43 bytes lent for an answer line": whatever the calling program lends is too short
abbrev pub lent_too_short : ℕ
lent_too_short = 9

-- "Command 33 with nothing remembered is refused by 11"
abbrev pub history_empty : ℕ
history_empty = 11

-- "a computed n·b of zero by 12"
abbrev pub line_parallel : ℕ
line_parallel = 12
