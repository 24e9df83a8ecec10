-- All marked corners of document 01 in one computed check: those of scalars and of vectors, and those of the sheet with its listing, run on the reference
-- model; and corners of document 02's a (command 33), c (exact roots), d (planes) and f (directions). Values are bits.
use Rattle.std.specs.Prelude.{◌≡◌, List, [], ◌∷◌, ◌++◌, ℕ, replicate, drop}
use Rattle.scalar.specs.Corners.{Corners as ScalarCorners}
use Rattle.vector.specs.Corners.{Corners as VectorCorners}
use Rattle.commands.specs.declared.command.Command.{Command}
use Rattle.commands.specs.Answers.{refused}
use Rattle.commands.specs.Sittings.{command, answer, aimed, point_into, back, last_of, answers_to}
use Rattle.commands.specs.PlaneCorners.{PlaneCorners}
use Rattle.commands.specs.DirectionCorners.{DirectionCorners}

-- document 01's listing
abbrev listing : List Command
listing = command 1 0 0 0 1077936128 1082130432 0 ∷ command 26 0 0 0 0 0 0 ∷ command 2 1 0 0 0 0 0 ∷ []

-- the directions (1, 0, 0) in row 1 and (0, 1, 0) in row 3, and 23 on them
abbrev refracted : ℕ → List Command
refracted u = aimed 0x3f800000 0 0 ++ (command 1 2 0 0 0 0x3f800000 0 ∷ command 2 3 2 0 0 0 0 ∷ command 23 4 1 3 u 0 0 ∷ [])

-- (0, 0, 1) in row 0 and its direction in row 1, a point in row 3, and the pair of 24 in rows 2 and 3
abbrev paired : List Command
paired = aimed 0 0 0x3f800000 ++ (point_into 3 0x40000000 ∷ command 24 2 1 0 0 0 0 ∷ [])

pub record Corners : Type 0 where
  -- the marked corners of scalars and of vectors
  pub scalars : ScalarCorners
  pub vectors : VectorCorners
  -- those of planes, and of directions
  pub planes : PlaneCorners
  pub directions : DirectionCorners
  -- "(the point (3, 4, 0), its length, its direction) prints"; "In document 01's listing the second answer becomes kind 5"
  pub listed :
      answers_to listing
      ≡ answer 0 0 1 1077936128 1082130432 0 ∷ answer 0 0 5 1084227584 0 0 ∷ answer 0 1 2 1058642330 1061997773 0 ∷ []
  -- "Fresh: all empty", and "4, a source empty"; "0: t, kind 0, zeros", and then the row is empty
  pub all_empty : answers_to (command 32 0 0 0 0 0 0 ∷ command 32 0 63 0 0 0 0 ∷ []) ≡ refused 4 ∷ refused 4 ∷ []
  pub emptied : last_of (answers_to (listing ++ (command 0 1 0 0 0 0 0 ∷ []))) ≡ answer 0 1 0 0 0 0
  pub empty_again : last_of (answers_to (listing ++ (command 0 1 0 0 0 0 0 ∷ command 32 0 1 0 0 0 0 ∷ []))) ≡ refused 4
  -- "Command 2 on (2^-63, 0, 0) gives (1, 0, 0)"
  pub short : last_of (answers_to (aimed 0x20000000 0 0)) ≡ answer 0 1 2 0x3f800000 0 0
  -- "24 on (0, 0, 1): (1, -0, -0) and (-0, 1, -0)": row t, and row t+1 by 32
  pub pair : last_of (answers_to (aimed 0 0 0x3f800000 ++ (command 24 2 1 0 0 0 0 ∷ []))) ≡ answer 0 2 2 0x3f800000 0x80000000 0x80000000
  pub pair_second :
      last_of (answers_to (aimed 0 0 0x3f800000 ++ (command 24 2 1 0 0 0 0 ∷ command 32 0 3 0 0 0 0 ∷ []))) ≡ answer 0 3 2 0x80000000 0x3f800000 0x80000000
  -- "23 with (1, 0, 0) and (0, 1, 0): u = 1 gives (1, 0, 0); u = 2 refusal 8."
  pub along : last_of (answers_to (refracted 0x3f800000)) ≡ answer 0 4 2 0x3f800000 0 0
  pub reflected : last_of (answers_to (refracted 0x40000000)) ≡ refused 8
  -- "In 23, u = 4 and 0.25 don't get 5, their outer neighbours do."
  pub four_taken : last_of (answers_to (refracted 0x40800000)) ≡ refused 8
  pub above_four : last_of (answers_to (refracted 0x40800001)) ≡ refused 5
  pub quarter_taken : (last_of (answers_to (refracted 0x3e800000))).refusal ≡ 0
  pub below_quarter : last_of (answers_to (refracted 0x3e7fffff)) ≡ refused 5
  -- document 02, a: "From here on refusal 2 begins above the highest command in use"
  pub above_last : answers_to (command 38 0 0 0 0 0 0 ∷ []) ≡ refused 2 ∷ []
  -- "Command 33 with nothing remembered is refused by 11", whatever its fields
  pub nothing_yet : answers_to (command 33 0 0 0 0 0 0 ∷ back ∷ []) ≡ refused 11 ∷ refused 11 ∷ []
  -- "the answer shows that command's row t as it is now": empty, or what a mistyped target had overwritten
  pub point_back : last_of (answers_to (point_into 5 0x3f800000 ∷ back ∷ [])) ≡ answer 0 5 0 0 0 0
  pub lost_back : last_of (answers_to (point_into 0 0x3f800000 ∷ point_into 0 0x40000000 ∷ back ∷ [])) ≡ answer 0 0 1 0x3f800000 0 0
  pub emptied_back : last_of (answers_to (point_into 0 0x3f800000 ∷ command 0 0 0 0 0 0 0 ∷ back ∷ [])) ≡ answer 0 0 1 0x3f800000 0 0
  -- 0 on an empty row is remembered too
  pub empty_back : answers_to (command 0 7 0 0 0 0 0 ∷ back ∷ back ∷ []) ≡ answer 0 7 0 0 0 0 ∷ answer 0 7 0 0 0 0 ∷ refused 11 ∷ []
  -- 24: row t is shown, and row t+1 is as it was, a point or empty
  pub pair_back : drop 4 (answers_to (paired ++ (back ∷ command 32 0 3 0 0 0 0 ∷ []))) ≡ answer 0 2 0 0 0 0 ∷ answer 0 3 1 0x40000000 0 0 ∷ []
  pub pair_empty : drop 3 (answers_to (aimed 0 0 0x3f800000 ++ (command 24 2 1 0 0 0 0 ∷ back ∷ command 32 0 3 0 0 0 0 ∷ []))) ≡ answer 0 2 0 0 0 0 ∷ refused 4 ∷ []
  -- "Refused steps and measures are not remembered": a sum with an empty source and a length, and 33 takes back the point before them
  pub others_kept :
      drop 1 (answers_to (point_into 3 0x3f800000 ∷ command 3 3 3 9 0 0 0 ∷ command 26 0 3 0 0 0 0 ∷ back ∷ []))
      ≡ refused 4 ∷ answer 0 0 5 0x3f800000 0 0 ∷ answer 0 3 0 0 0 0 ∷ []
  -- "nothing can be redone": a second 33 takes back the command before, a third finds nothing
  pub one_by_one :
      drop 2 (answers_to (point_into 0 0x3f800000 ∷ point_into 1 0x40000000 ∷ back ∷ back ∷ back ∷ []))
      ≡ answer 0 1 0 0 0 0 ∷ answer 0 0 0 0 0 0 ∷ refused 11 ∷ []
  -- "the last 64 such commands are remembered": of 65 points into row 0 the first stays
  pub first_stays :
      drop 128 (answers_to (point_into 0 0x40000000 ∷ (replicate 64 (point_into 0 0x3f800000) ++ replicate 65 back)))
      ≡ answer 0 0 1 0x40000000 0 0 ∷ refused 11 ∷ []
  -- document 02, c: 26 and 27 "answer kind 5 in place of 3 when the last root was exact". From (0, 3, 6) to (2, 0, 0) it is 7, whole; (1, 1, 0) is not
  pub whole_triangle : last_of (answers_to (command 1 0 0 0 0 0x40400000 0x40c00000 ∷ point_into 1 0x40000000 ∷ command 27 0 0 1 0 0 0 ∷ [])) ≡ answer 0 0 5 0x40e00000 0 0
  pub not_whole : last_of (answers_to (command 1 0 0 0 0x3f800000 0x3f800000 0 ∷ command 26 0 0 0 0 0 0 ∷ [])) ≡ answer 0 0 3 0x3fb504f3 0 0
  -- a length of zero, also of zeros below zero, and a distance of zero
  pub zero_length : last_of (answers_to (command 1 0 0 0 0x80000000 0x80000000 0x80000000 ∷ command 26 0 0 0 0 0 0 ∷ [])) ≡ answer 0 0 5 0 0 0
  pub no_distance : last_of (answers_to (point_into 0 0x40400000 ∷ command 27 0 0 0 0 0 0 ∷ [])) ≡ answer 0 0 5 0 0 0
  -- "The mark is about the root alone; the sum of squares before it may have been rounded": (2^-75, 0, 0), whose square vanishes, and (4096, 1, 0)
  pub vanished : last_of (answers_to (point_into 0 0x1a000000 ∷ command 26 0 0 0 0 0 0 ∷ [])) ≡ answer 0 0 5 0 0 0
  pub sum_rounded : last_of (answers_to (command 1 0 0 0 0x45800000 0x3f800000 0 ∷ command 26 0 0 0 0 0 0 ∷ [])) ≡ answer 0 0 5 0x45800000 0 0
  -- a length that is not finite is refused as before; 25 and 28 answer kind 3, here of a dot product of 25 and an angle of 0
  pub overflowed : last_of (answers_to (point_into 0 0x5f800000 ∷ command 26 0 0 0 0 0 0 ∷ [])) ≡ refused 6
  pub dot_plain : last_of (answers_to (listing ++ (command 25 0 0 0 0 0 0 ∷ []))) ≡ answer 0 0 3 0x41c80000 0 0
  pub angle_plain : last_of (answers_to (listing ++ (command 28 0 0 0 0 0 0 ∷ []))) ≡ answer 0 0 3 0 0 0
