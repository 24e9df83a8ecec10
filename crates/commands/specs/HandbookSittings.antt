-- A sitting for each refusal that specs/Handbook lists, in its order: the last command of each gets that refusal. Values are bits.
use Rattle.std.specs.Prelude.{ℕ, List, [], ◌∷◌, ◌++◌}
use Rattle.commands.specs.declared.command.Command.{Command}
use Rattle.commands.specs.Sittings.{command}

-- the largest f32 and the same below zero; 1 and 2; 2^-80 and the same below zero; a NaN
abbrev big : ℕ
big = 0x7f7fffff

abbrev minus_big : ℕ
minus_big = 0xff7fffff

abbrev one : ℕ
one = 0x3f800000

abbrev two : ℕ
two = 0x40000000

abbrev tiny : ℕ
tiny = 0x17800000

abbrev minus_tiny : ℕ
minus_tiny = 0x97800000

abbrev not_number : ℕ
not_number = 0x7fc00000

-- row 0: a long point; 1: the opposite one; 2: the direction of row 0; 3: three zeros; 4: the plane through row 3 with row 2 as its normal; 5: a short point,
-- whose square vanishes; 6: its direction, along the plane
abbrev filled : List Command
filled =
    command 1 0 0 0 big big big
    ∷ command 1 1 0 0 minus_big minus_big minus_big
    ∷ command 2 2 0 0 0 0 0
    ∷ command 1 3 0 0 0 0 0
    ∷ command 34 4 3 2 0 0 0
    ∷ command 1 5 0 0 tiny minus_tiny 0
    ∷ command 2 6 5 0 0 0 0
    ∷ []

-- command n on a fresh sheet: with 64 for each row, u among them, and with row 0 for each, which is empty
abbrev outside : ℕ → List Command
outside n = command n 64 64 64 64 0 0 ∷ []

abbrev on_fresh : ℕ → List Command
on_fresh n = command n 0 0 0 0 0 0 ∷ []

-- command n on rows a and b of those above, into row 9; on a direction, with a NaN for each value
abbrev on : ℕ → ℕ → ℕ → ℕ → ℕ → ℕ → List Command
on n a b u v w = filled ++ (command n 9 a b u v w ∷ [])

abbrev without_numbers : ℕ → List Command
without_numbers n = on n 2 2 not_number not_number not_number

-- on the long point and row b, with large values; with three zeros as row b, and with the short point
abbrev too_long : ℕ → ℕ → List Command
too_long n b = on n 0 b big big big

abbrev by_zeros : ℕ → List Command
by_zeros n = on n 0 3 0 0 0

abbrev by_short : ℕ → List Command
by_short n = on n 0 5 0 0 0

-- a line for each command
unfoldable pub sittings : List (List Command)
sittings =
    outside 0
    ∷ outside 1 ∷ without_numbers 1
    ∷ outside 2 ∷ on_fresh 2 ∷ on 2 3 0 0 0 0
    ∷ outside 3 ∷ on_fresh 3 ∷ too_long 3 0
    ∷ outside 4 ∷ on_fresh 4 ∷ too_long 4 1
    ∷ outside 5 ∷ on_fresh 5 ∷ too_long 5 1
    ∷ outside 6 ∷ on_fresh 6
    ∷ outside 7 ∷ on_fresh 7
    ∷ outside 8 ∷ on_fresh 8 ∷ without_numbers 8 ∷ too_long 8 0
    ∷ outside 9 ∷ on_fresh 9 ∷ without_numbers 9 ∷ too_long 9 0
    -- three zeros, made as long as 1
    ∷ outside 10 ∷ on_fresh 10 ∷ without_numbers 10 ∷ on 10 3 0 one one 0
    ∷ outside 11 ∷ on_fresh 11 ∷ by_short 11 ∷ too_long 11 0
    ∷ outside 12 ∷ on_fresh 12 ∷ by_short 12 ∷ too_long 12 0
    ∷ outside 13 ∷ on_fresh 13 ∷ without_numbers 13 ∷ too_long 13 1
    ∷ outside 14 ∷ on_fresh 14 ∷ without_numbers 14 ∷ too_long 14 1
    ∷ outside 15 ∷ on_fresh 15 ∷ too_long 15 0
    ∷ outside 16 ∷ on_fresh 16
    ∷ outside 17 ∷ on_fresh 17
    ∷ outside 18 ∷ on_fresh 18
    ∷ outside 19 ∷ on_fresh 19 ∷ by_zeros 19
    ∷ outside 20 ∷ on_fresh 20 ∷ by_zeros 20
    ∷ outside 21 ∷ on_fresh 21
    ∷ outside 22 ∷ on_fresh 22
    -- directions at right angles to each other
    ∷ outside 23 ∷ on_fresh 23 ∷ without_numbers 23 ∷ on 23 2 6 two 0 0
    ∷ outside 24 ∷ on_fresh 24
    ∷ outside 25 ∷ on_fresh 25 ∷ too_long 25 0
    ∷ outside 26 ∷ on_fresh 26 ∷ too_long 26 0
    ∷ outside 27 ∷ on_fresh 27 ∷ too_long 27 1
    ∷ outside 28 ∷ on_fresh 28 ∷ by_short 28 ∷ too_long 28 0
    ∷ outside 29 ∷ on_fresh 29
    ∷ outside 30 ∷ on_fresh 30
    ∷ outside 31 ∷ on_fresh 31
    ∷ outside 32 ∷ on_fresh 32
    ∷ on_fresh 33
    -- the long point times the normal
    ∷ outside 34 ∷ on_fresh 34 ∷ too_long 34 2
    ∷ outside 35 ∷ on_fresh 35 ∷ too_long 35 4
    -- from three zeros along the plane, and from the long point against it
    ∷ outside 36 ∷ on_fresh 36 ∷ on 36 3 6 4 0 0 ∷ on 36 0 2 4 0 0
    ∷ outside 37 ∷ on_fresh 37
    ∷ outside 38
    ∷ []
