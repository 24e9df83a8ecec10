-- The approximate arc cosine (document 01, "Scalars": "`acos_approx` run[s] the operations of src/f32/math.rs in its order; decimal
-- constants mean the nearest f32, π is bits 0x40490FDB").
use Rattle.std.specs.Prelude.{ℕ, Bool, cond, Float}
use Rattle.std.specs.Float.{binary32}
use Rattle.std.specs.Float.Ieee.{of_bits, neg, add, sub, mul, lt, le}
use Rattle.scalar.specs.Sign.{abs, one}
use Rattle.scalar.specs.Euclid.{zer}
use Rattle.scalar.specs.Root.{root}

abbrev pub bits : ℕ → Float
bits b = of_bits binary32 b

-- the polynomial of degree 7: -0.001_262_491_1, 0.006_670_09, -0.017_088_126, 0.030_891_88, -0.050_174_303, 0.088_978_99, -0.214_598_8, 1.570_796_3
abbrev pub poly : Float → Float
poly x =
    let p1 = add binary32 (mul binary32 (neg (bits 0x3aa57a2c)) x) (bits 0x3bda90c5) in
    let p2 = sub binary32 (mul binary32 p1 x) (bits 0x3c8bfc66) in
    let p3 = add binary32 (mul binary32 p2 x) (bits 0x3cfd10f8) in
    let p4 = sub binary32 (mul binary32 p3 x) (bits 0x3d4d8392) in
    let p5 = add binary32 (mul binary32 p4 x) (bits 0x3db63a9e) in
    let p6 = sub binary32 (mul binary32 p5 x) (bits 0x3e5bbfca) in
    add binary32 (mul binary32 p6 x) (bits 0x3fc90fda)

-- if omx < 0.0 { omx = 0.0; }
abbrev pub clamped : Float → Float
clamped d = cond (lt d zer) zer d

-- result *= root; if nonnegative { result } else { PI - result }
abbrev pub acos_at : Bool → Float → Float → Float
acos_at nonnegative x r = let y = mul binary32 (poly x) r in cond nonnegative y (sub binary32 (bits 0x40490fdb) y)

-- v >= 0.0, x = abs(v), the root of 1.0 - x
unfoldable pub acos_approx : Float → Float
acos_approx v = acos_at (le zer v) (abs v) (root (clamped (sub binary32 one (abs v))))
