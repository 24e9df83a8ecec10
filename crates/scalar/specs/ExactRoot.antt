-- Whether a root is exact (document 02, c: "whether its answer squared equals its argument exactly").
use Rattle.std.specs.Prelude.{ℕ, ◌*◌, ◌^◌, Bool, true, false, cond, eqb, Float}
use Rattle.std.specs.Float.{nan, inf, fin, binary32}
use Rattle.laws.specs.Exact.{size_in}
use Rattle.scalar.specs.declared.root.MarkedRoot.{MarkedRoot}
use Rattle.scalar.specs.Root.{root}

-- r squared equals n of the smallest values exactly, in whole numbers: these are n * 2 ^ -149, and the square of s * 2 ^ -149 is s * s * 2 ^ -298.
abbrev pub square_is : Float → ℕ → Bool
square_is r n = eqb (size_in binary32 r * size_in binary32 r) (n * 2 ^ 149)

-- "Either zero has an exact root; infinity, NaN and anything below zero have none."
unfoldable pub exact_root : Float → Bool
exact_root nan = false
exact_root (inf s) = false
exact_root (fin s m e) = let x = fin s m e in cond (eqb m 0) true (cond s false (square_is (root x) (size_in binary32 x)))

-- the root and its mark
unfoldable pub root_and_exactness : Float → MarkedRoot
root_and_exactness x = record { root = root x; exact = exact_root x }
