-- The root (document 01, "Scalars": "the rounded root, by comparing whole squares. Root of -0 is -0, of infinity infinity;
-- below zero or NaN gives NaN").
use Rattle.std.specs.Prelude.{ℕ, ◌+◌, ◌*◌, ◌^◌, Bool, false, cond, eqb, Float}
use Rattle.std.specs.Float.{nan, inf, fin, binary32}
use Rattle.std.specs.Float.Ieee.{round}
use Rattle.laws.specs.Exact.{size_in}
use Rattle.laws.specs.WholeRoot.{whole_root}

-- Twice the root of n, below 4 ^ 214: exactly where n is a square, else the odd number that lies on the same side of each
-- even one as twice the root does, which is all that rounding looks at.
abbrev pub twice_root : ℕ → ℕ
twice_root n = let r = whole_root 214 n in r + r + cond (eqb (r * r) n) 0 1

-- a root's sign: plus
abbrev pub root_sign : Bool
root_sign = false

-- n of the smallest values are n * 2 ^ -149, and their root is that of n * 2 ^ 149, in smallest values too.
unfoldable pub root_units : ℕ → Float
root_units n = round binary32 root_sign (twice_root (n * 2 ^ 149)) (2 ^ 150)

unfoldable pub root : Float → Float
root nan = nan
root (inf s) = cond s nan (inf s)
root (fin s m e) = cond (eqb m 0) (fin s m e) (cond s nan (root_units (size_in binary32 (fin s m e))))
