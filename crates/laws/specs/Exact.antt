-- The exact value of a float (document 01, "Scalars": "A finite f32 is n times 2^-149 with n whole: its exact value"),
-- for any format f: its smallest positive value is 2 ^ -low f, and low binary32 is 149.
use Rattle.std.specs.Prelude.{ℕ, ◌*◌, ◌/◌, ◌^◌, Bool, false, cond, ℤ, pos, neg_ℤ, Float}
use Rattle.std.specs.Float.{nan, inf, fin, Format}
use Rattle.std.specs.Float.Ieee.{low, up, down}

-- The sign bit. A NaN's is not shown by the language, and counts as clear.
unfoldable pub negative : Float → Bool
negative nan = false
negative (inf s) = s
negative (fin s m e) = s

-- The size of n; 0 for what is not finite.
unfoldable pub size_in : Format → Float → ℕ
size_in f nan = 0
size_in f (inf s) = 0
size_in f (fin s m e) = m * up e * 2 ^ low f / down e

-- A whole number by its sign and size.
abbrev pub signed : Bool → ℕ → ℤ
signed s n = cond s (neg_ℤ (pos n)) (pos n)

-- n itself.
abbrev pub exact : Format → Float → ℤ
exact f x = signed (negative x) (size_in f x)
